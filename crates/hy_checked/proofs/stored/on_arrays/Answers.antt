use Rattle.hy_checked.proofs.Lifting.{reply_as}
use Rattle.hy_checked.proofs.stored.on_arrays.Goals as goal

pub returns-in-NewArray : goal.returns-in-NewArray
returns-in-NewArray c =
    reply_as c.args.object.now c.args.fun.now c.args.store.now c.new_array.new.self c.new_array.result c.args.instr _ c.in-NewArray.is c.new_array.ensures

pub returns-in-FreeArray : goal.returns-in-FreeArray
returns-in-FreeArray c =
    reply_as c.args.object.now c.args.fun.now c.args.store.now c.free_array.new.self c.free_array.result c.args.instr _ c.in-FreeArray.is
    c.free_array.ensures

pub returns-in-Count : goal.returns-in-Count
returns-in-Count c = reply_as c.args.object.now c.args.fun.now c.args.store.now c.count.new.self c.count.result c.args.instr _ c.in-Count.is c.count.ensures

pub returns-in-Grow : goal.returns-in-Grow
returns-in-Grow c = reply_as c.args.object.now c.args.fun.now c.args.store.now c.grow.new.self c.grow.result c.args.instr _ c.in-Grow.is c.grow.ensures

pub returns-in-Push : goal.returns-in-Push
returns-in-Push c = reply_as c.args.object.now c.args.fun.now c.args.store.now c.push.new.self c.push.result c.args.instr _ c.in-Push.is c.push.ensures

pub returns-in-Pop : goal.returns-in-Pop
returns-in-Pop c = reply_as c.args.object.now c.args.fun.now c.args.store.now c.pop.new.self c.pop.result c.args.instr _ c.in-Pop.is c.pop.ensures

pub returns-in-Swap : goal.returns-in-Swap
returns-in-Swap c = reply_as c.args.object.now c.args.fun.now c.args.store.now c.swap.new.self c.swap.result c.args.instr _ c.in-Swap.is c.swap.ensures

pub returns-in-Lend : goal.returns-in-Lend
returns-in-Lend c = reply_as c.args.object.now c.args.fun.now c.args.store.now c.lend.new.self c.lend.result c.args.instr _ c.in-Lend.is c.lend.ensures

pub returns-in-Elem : goal.returns-in-Elem
returns-in-Elem c =
    reply_as c.args.object.now c.args.fun.now c.args.store.now c.lend_element.new.self c.lend_element.result c.args.instr _ c.in-Elem.is
    c.lend_element.ensures
