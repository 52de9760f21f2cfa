use Rattle.std.proofs.Common.{◌≡◌, None, Option, replicate, ap, sym, subst, ◌∙◌}
use Rattle.hy_base.specs.First.{Refusal, IsFirst}
use Rattle.hy_tree.specs.Denotes.{program_of}
use Rattle.hy_tree.specs.Findings.{Breaks, findings, nodes, stood}
use Rattle.hy_tree.specs.declared.meant.Meant.TheVariants as meant
use Rattle.hy_scope.specs.Noted.{Noted, after}
use Rattle.hy_scope.specs.Shown.{noted}
use Rattle.hy_scope.proofs.Firsts.{is_first, meant_after}
use Rattle.hy_scope.proofs.resolved_names.resolve.Goals as goal

pub returns-in-Some : goal.returns-in-Some
returns-in-Some c =
    let tree = program_of c.args.tree.now in
    let start : noted c.in_ok-notes.notes ≡ record { first = None; meant = replicate (nodes tree) meant.Nothing } = c.in_ok-notes.ensures
    ∙ ap (λ count. record { first = None; meant = replicate count meant.Nothing }) c.count.ensures in
    let end = c.in_ok-walk_program.ensures ∙ ap (after (findings tree)) start in
    subst (IsFirst (Breaks tree)) (sym (sym c.in-Some.is ∙ (λ i. (end i).first))) (is_first (findings tree) (replicate (nodes tree) meant.Nothing))

pub returns-in-None : goal.returns-in-None
returns-in-None c =
    let tree = program_of c.args.tree.now in
    let start : noted c.in_ok-notes.notes ≡ record { first = None; meant = replicate (nodes tree) meant.Nothing } = c.in_ok-notes.ensures
    ∙ ap (λ count. record { first = None; meant = replicate count meant.Nothing }) c.count.ensures in
    let end = c.in_ok-walk_program.ensures ∙ ap (after (findings tree)) start in (
      subst (IsFirst (Breaks tree)) (sym (sym c.in-None.is ∙ (λ i. (end i).first))) (is_first (findings tree) (replicate (nodes tree) meant.Nothing)),
      (λ i. (end i).meant) ∙ meant_after (findings tree) (record { first = None; meant = replicate (nodes tree) meant.Nothing }),
    )
