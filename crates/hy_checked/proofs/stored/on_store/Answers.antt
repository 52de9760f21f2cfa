use Rattle.std.proofs.Common.{rules, SFits, w64}
use Rattle.std.proofs.lemmas.Int.{to_z-of_z}
use Rattle.hy_object.specs.Words.{const}
use Rattle.hy_store.specs.Executes.{InPlace, StoreExecutes}
use Rattle.hy_checked.proofs.Lifting.{reply_as}
use Rattle.hy_checked.proofs.stored.on_store.Goals as goal

pub returns-in-Const : goal.returns-in-Const
returns-in-Const c =
    let fits : SFits w64 c.in-Const.value = search rules in
    let so : StoreExecutes InPlace c.args.fun.now c.args.store.now c.constant.new.self c.constant.result
    (λ s. const s c.in-Const.to c.in-Const.value) =
    rw (to_z-of_z w64 c.in-Const.value fits) at c.constant.ensures in
    reply_as c.args.object.now c.args.fun.now c.args.store.now c.constant.new.self c.constant.result c.args.instr _ c.in-Const.is so

pub returns-in-Copy : goal.returns-in-Copy
returns-in-Copy c = reply_as c.args.object.now c.args.fun.now c.args.store.now c.copy.new.self c.copy.result c.args.instr _ c.in-Copy.is c.copy.ensures

pub returns-in-Move : goal.returns-in-Move
returns-in-Move c =
    reply_as c.args.object.now c.args.fun.now c.args.store.now c.move_cells.new.self c.move_cells.result c.args.instr _ c.in-Move.is c.move_cells.ensures

pub returns-in-Neg : goal.returns-in-Neg
returns-in-Neg c = reply_as c.args.object.now c.args.fun.now c.args.store.now c.negate.new.self c.negate.result c.args.instr _ c.in-Neg.is c.negate.ensures

pub returns-in-Eq : goal.returns-in-Eq
returns-in-Eq c = reply_as c.args.object.now c.args.fun.now c.args.store.now c.compare.new.self c.compare.result c.args.instr _ c.in-Eq.is c.compare.ensures

pub returns-in-Lt : goal.returns-in-Lt
returns-in-Lt c =
    reply_as c.args.object.now c.args.fun.now c.args.store.now c.compare-in-Lt.new.self c.compare-in-Lt.result c.args.instr _ c.in-Lt.is
    c.compare-in-Lt.ensures

pub returns-in-Le : goal.returns-in-Le
returns-in-Le c =
    reply_as c.args.object.now c.args.fun.now c.args.store.now c.compare-in-Le.new.self c.compare-in-Le.result c.args.instr _ c.in-Le.is
    c.compare-in-Le.ensures

pub returns-in-Not : goal.returns-in-Not
returns-in-Not c = reply_as c.args.object.now c.args.fun.now c.args.store.now c.invert.new.self c.invert.result c.args.instr _ c.in-Not.is c.invert.ensures

pub returns-in-Check : goal.returns-in-Check
returns-in-Check c = reply_as c.args.object.now c.args.fun.now c.args.store.now c.args.store.now c.demand.result c.args.instr _ c.in-Check.is c.demand.ensures

pub returns-in-Add : goal.returns-in-Add
returns-in-Add c =
    reply_as c.args.object.now c.args.fun.now c.args.store.now c.calculate.new.self c.calculate.result c.args.instr _ c.in-Add.is c.calculate.ensures

pub returns-in-Sub : goal.returns-in-Sub
returns-in-Sub c =
    reply_as c.args.object.now c.args.fun.now c.args.store.now c.calculate-in-Sub.new.self c.calculate-in-Sub.result c.args.instr _ c.in-Sub.is
    c.calculate-in-Sub.ensures

pub returns-in-Mul : goal.returns-in-Mul
returns-in-Mul c =
    reply_as c.args.object.now c.args.fun.now c.args.store.now c.calculate-in-Mul.new.self c.calculate-in-Mul.result c.args.instr _ c.in-Mul.is
    c.calculate-in-Mul.ensures

pub returns-in-Div : goal.returns-in-Div
returns-in-Div c =
    reply_as c.args.object.now c.args.fun.now c.args.store.now c.calculate-in-Div.new.self c.calculate-in-Div.result c.args.instr _ c.in-Div.is
    c.calculate-in-Div.ensures

pub returns-in-Rem : goal.returns-in-Rem
returns-in-Rem c =
    reply_as c.args.object.now c.args.fun.now c.args.store.now c.calculate-in-Rem.new.self c.calculate-in-Rem.result c.args.instr _ c.in-Rem.is
    c.calculate-in-Rem.ensures
