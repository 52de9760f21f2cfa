use Rattle.std.proofs.Common.{codes, ap, ◌∙◌}
use Rattle.hy_tree.specs.FileNames.{with_integers}
use Rattle.hy_tree.specs.Names.{Names, no_names}
use Rattle.hy_tree.specs.declared.meant.Meant.TheVariants as meaning
use Rattle.hy_tree.specs.declared.predeclared.TheConstants.{BOOL}
use Rattle.hy_scope.specs.Shown.{names_of}
use Rattle.hy_scope.proofs.Keys.{named_behind}
use Rattle.hy_scope.proofs.file.predeclared_types.Goals as goal

pub returns : goal.returns
returns c =
    named_behind (names_of c.predeclare_integers.new.table) (names_of c.predeclare.new.table) (with_integers no_names) c.as_slice.result.now (codes "Bool")
    (meaning.Built BOOL) c.in_ok-predeclare.ensures c.as_slice.ensures
    (c.in_ok-predeclare_integers.ensures ∙ ap (λ (names : Names). with_integers names) c.new-table.ensures)
