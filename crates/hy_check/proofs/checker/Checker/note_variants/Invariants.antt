use Rattle.hy_tree.specs.Denotes.{variant_of}
use Rattle.hy_tree.specs.Tree as T
use Rattle.hy_signatures.specs.Declarations.{result_type}
use Rattle.hy_signatures.specs.Numbered.{IsNumber}
use Rattle.hy_check.specs.Facts.{variant_facts}
use Rattle.hy_check.specs.KnownShown.{known_of}
use Rattle.hy_check.proofs.NotedTypes.{IsNotingEach}
use Rattle.hy_check.proofs.checker.Checker.note_variants.Given as goal

abbrev pub invariant-loop-v : goal.invariant-loop-v
invariant-loop-v l = (c : T.Callable) → IsNumber l.fn.self.types (result_type (known_of l.fn.self).around.source c.result) l.id
    → IsNotingEach variant_of (λ source v. variant_facts source c v) l.variants l.fn.self l.self l.v-index
