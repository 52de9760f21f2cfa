use Rattle.std.proofs.Common.{◌≡◌, is_some, sym, ap, ◌∙◌, cond, Some}
use Rattle.std.specs.Map.{lookup}
use Rattle.std.specs.Str.{bytes_eq}
use Rattle.hy_scope.proofs.Keys.{looked_up}
use Rattle.hy_tree.specs.Denotes.{callable_of}
use Rattle.hy_tree.specs.Names.{own_name}
use Rattle.hy_signatures.specs.MembersShown.{row_named}
use Rattle.hy_signatures.specs.Shown.{source_shown}
use Rattle.hy_signatures.proofs.MemberTables.{name_present, name_absent}
use Rattle.hy_signatures.proofs.members.ByName.add.Goals as goal

pub returns-then-contains_key-clause-members : goal.returns-then-contains_key-clause-members
returns-then-contains_key-clause-members c wanted before member same is are =
    let full : c.as_slice.result.now ≡ own_name (callable_of c.args.c.now) = c.as_slice.ensures.value ∙ c.in_ok-name.ensures in
    name_present c.args.types.now (source_shown c.args.source.now) wanted before c.args.self.now member (callable_of c.args.c.now) is same
    (ap (λ n. is_some (row_named c.args.self.now n)) (sym full) ∙ sym c.contains_key.ensures ∙ c.if-contains_key.true) are

pub returns-clause-members : goal.returns-clause-members
returns-clause-members c wanted before member same is are =
    let full : c.as_slice.result.now ≡ own_name (callable_of c.args.c.now) = c.as_slice.ensures.value ∙ c.in_ok-name.ensures in
    name_absent c.args.types.now c.with_types.new.types (source_shown c.args.source.now) wanted before c.args.self.now
    (record { rows = c.insert.new.self }) member (callable_of c.args.c.now) c.in_ok-row.row is same
    (ap (λ n. is_some (row_named c.args.self.now n)) (sym full) ∙ sym c.contains_key.ensures ∙ c.if-contains_key.false)
    (λ name. ap (lookup (λ key. bytes_eq name key.items)) c.in_ok-insert.ensures.entries
    ∙ looked_up (λ key. key.items) c.in_ok-name.name c.in_ok-row.row name c.args.self.now.rows.entries
    ∙ ap (λ n. cond (bytes_eq name n) (Some c.in_ok-row.row) (row_named c.args.self.now name)) c.in_ok-name.ensures)
    (ap callable_of c.in_ok-row.ensures.callable) c.in_ok-row.ensures.types c.in_ok-row.ensures.stays are
