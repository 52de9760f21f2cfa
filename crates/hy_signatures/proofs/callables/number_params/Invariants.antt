use Rattle.hy_tree.specs.Denotes.{type_of}
use Rattle.hy_tree.specs.declared.declaration.Param.{Param}
use Rattle.hy_signatures.specs.Declarations.{written_type}
use Rattle.hy_signatures.specs.Shown.{source_shown}
use Rattle.hy_signatures.proofs.Numbering.{Numbering}
use Rattle.hy_signatures.proofs.callables.number_params.Given as goal

abbrev pub invariant-loop-p : goal.invariant-loop-p
invariant-loop-p l =
    Numbering (λ (p : Param). written_type (source_shown l.source) (type_of p.written)) l.params l.fn.types l.types l.ids.items l.p-index
