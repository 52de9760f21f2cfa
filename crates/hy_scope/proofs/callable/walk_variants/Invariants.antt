use Rattle.std.proofs.Common.{◌≡◌, map}
use Rattle.hy_tree.specs.Denotes.{variant_of}
use Rattle.hy_tree.specs.Findings.{find_variants}
use Rattle.hy_tree.specs.Names.{no_names}
use Rattle.hy_scope.specs.Shown.{around_of, blocks_of, names_of, noted}
use Rattle.hy_base.proofs.Walks.{HasWalked}
use Rattle.hy_scope.specs.Noted.{note}
use Rattle.hy_scope.proofs.callable.walk_variants.Given as goal

abbrev pub invariant-loop-v : goal.invariant-loop-v
invariant-loop-v l = record {
  walked : HasWalked note (λ s xs. find_variants (around_of l.around) (blocks_of l.fn.blocks) s (map variant_of xs)) no_names l.variants (noted l.fn.notes)
      l.v-index (names_of l.words) (noted l.notes);
  same : blocks_of l.blocks ≡ blocks_of l.fn.blocks;
}
