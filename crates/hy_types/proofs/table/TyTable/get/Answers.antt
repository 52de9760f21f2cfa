use Rattle.std.proofs.Common.{reverse, subst, ap, ◌∙◌}
use Rattle.hy_types.specs.Types.{Table}
use Rattle.hy_types.specs.Rows.{AreRows}
use Rattle.hy_types.proofs.Reading.{type_at, mentions, read_at, one_number}
use Rattle.hy_types.proofs.table.TyTable.get.Goals as goal

pub returns-clause-equal : goal.returns-clause-equal
returns-clause-equal c =
    let good = subst (λ (t : Table). AreRows (reverse t.types)) c.self.view_is c.self.invariant.rows in
    type_at c.args.self.now good c.args.id c.index-as_slice-id.result
    (read_at c.args.self.now.types c.as_slice.result.now c.args.id.at c.index-as_slice-id.result (c.as_slice.ensures.keys
    ∙ ap (λ (t : Table). t.types) c.self.view_is) c.requires c.index-as_slice-id.is)

pub returns-clause-before : goal.returns-clause-before
returns-clause-before c =
    let good = subst (λ (t : Table). AreRows (reverse t.types)) c.self.view_is c.self.invariant.rows in
    mentions c.args.self.now good c.args.id c.index-as_slice-id.result
    (read_at c.args.self.now.types c.as_slice.result.now c.args.id.at c.index-as_slice-id.result (c.as_slice.ensures.keys
    ∙ ap (λ (t : Table). t.types) c.self.view_is) c.requires c.index-as_slice-id.is)

pub returns-clause-once : goal.returns-clause-once
returns-clause-once c = λ other l e.
    let good = subst (λ (t : Table). AreRows (reverse t.types)) c.self.view_is c.self.invariant.rows in
    one_number c.args.self.now good other c.args.id l c.requires e
