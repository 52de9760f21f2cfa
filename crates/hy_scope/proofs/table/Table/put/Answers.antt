use Rattle.std.proofs.Common.{◌∙◌, ap, cond, Some}
use Rattle.std.specs.Map.{lookup}
use Rattle.std.specs.Str.{bytes_eq}
use Rattle.hy_scope.proofs.Keys.{looked_up}
use Rattle.hy_scope.specs.Shown.{names_of}
use Rattle.hy_scope.proofs.table.Table.put.Goals as goal

pub returns-clause-names : goal.returns-clause-names
returns-clause-names c = λ i name. (ap (lookup (λ key. bytes_eq name key.items)) c.in_ok-old.ensures.entries
    ∙ looked_up (λ key. key.items) c.in_ok-copy.copy c.args.meant name c.args.self.now.names.entries
    ∙ ap (λ n. cond (bytes_eq name n) (Some c.args.meant) (names_of c.args.self.now name)) c.in_ok-copy.ensures.items) i
