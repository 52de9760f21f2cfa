use Rattle.std.proofs.Common.{◌==◌, nat_eq, sym, ap, subst, ◌∙◌}
use Rattle.std.specs.Cmp.{unsigned_Decides}
use Rattle.std.specs.Map.{lookup}
use Rattle.hy_tree.specs.Denotes.{callable_of}
use Rattle.hy_tree.specs.declared.declaration.Callable.{Callable}
use Rattle.hy_signatures.specs.CallablesShown.{row_at, HasTypes}
use Rattle.hy_signatures.specs.Shown.{source_shown}
use Rattle.hy_signatures.proofs.CallableTables.{types_put}
use Rattle.hy_signatures.proofs.Keys.{looked_up}
use Rattle.hy_signatures.proofs.callables.Callables.put.Goals as goal

pub returns-clause-types : goal.returns-clause-types
returns-clause-types c had node row at =
    let source = source_shown c.args.source.now in
    let has = subst (λ (callable : Callable). HasTypes c.with_types.new.types source (callable_of callable) c.in_ok-row.row)
    (sym c.in_ok-row.ensures.callable)
    c.in_ok-row.ensures.types in
    types_put c.args.types.now c.with_types.new.types source c.in_ok-row.row (node == c.args.c.now.node) (row_at c.args.self.now node) row
    c.in_ok-row.ensures.stays has (had node row)
    (sym (looked_up nat_eq unsigned_Decides c.args.c.now.node c.in_ok-row.row node c.args.self.now.rows.entries)
    ∙ ap (lookup (λ other. node == other)) (sym c.in_ok-insert.ensures.entries) ∙ at)
