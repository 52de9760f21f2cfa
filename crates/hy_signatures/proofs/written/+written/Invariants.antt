use Rattle.hy_tree.specs.Denotes.{type_of}
use Rattle.hy_signatures.specs.Declarations.{written_type}
use Rattle.hy_signatures.specs.Shown.{source_shown}
use Rattle.hy_signatures.proofs.Numbering.{Numbering}
use Rattle.hy_signatures.proofs.written.+written.Given as goal

abbrev pub invariant-number_all-loop-part : goal.invariant-number_all-loop-part
invariant-number_all-loop-part l =
    Numbering (λ x. written_type (source_shown l.source) (type_of x)) l.parts l.fn.types l.types l.ids.items l.part-index
