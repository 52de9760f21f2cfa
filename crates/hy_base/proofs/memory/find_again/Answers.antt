use Rattle.std.proofs.Common.{refl, false}
use Rattle.std.proofs.lemmas.Map.Text.{hash_set_updates_text}
use Rattle.indexmap.specs.IndexSet.{contains_text}
use Rattle.hy_base.proofs.Names.{told_at, told_other}
use Rattle.hy_base.proofs.memory.find_again.Goals as goal

pub returns-clause-found : goal.returns-clause-found
returns-clause-found c =
    let n = c.args.name.now in
    told_at n n false (contains_text c.args.lost.now n) refl _
    (hash_set_updates_text n c.args.lost.now c.swap_remove.new.self _ c.swap_remove.ensures.updates n)

pub returns-clause-others : goal.returns-clause-others
returns-clause-others c = λ n differs.
    told_other c.args.name.now n false (contains_text c.args.lost.now n) differs _
    (hash_set_updates_text c.args.name.now c.args.lost.now c.swap_remove.new.self _ c.swap_remove.ensures.updates n)
