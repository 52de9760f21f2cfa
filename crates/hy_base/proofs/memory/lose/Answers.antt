use Rattle.std.proofs.Common.{sym, subst, ◌≢◌, List, ℕ, true}
use Rattle.std.proofs.lemmas.Map.Text.{hash_set_updates_text}
use Rattle.indexmap.specs.IndexSet.{contains_text}
use Rattle.hy_base.proofs.Names.{told_at, told_other}
use Rattle.hy_base.proofs.memory.lose.Goals as goal

pub returns-clause-lost : goal.returns-clause-lost
returns-clause-lost c =
    let n = c.args.name.now in
    told_at _ n true (contains_text c.args.lost.now n) c.in_ok-key.ensures.ok _
    (hash_set_updates_text _ c.args.lost.now c.insert.new.self _ c.in_ok-insert.ensures.updates n)

pub returns-clause-others : goal.returns-clause-others
returns-clause-others c = λ n differs.
    told_other _ n true (contains_text c.args.lost.now n) (subst (λ (key : List ℕ). n ≢ key) (sym c.in_ok-key.ensures.ok) differs) _
    (hash_set_updates_text _ c.args.lost.now c.insert.new.self _ c.in_ok-insert.ensures.updates n)
