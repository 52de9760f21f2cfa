use Rattle.std.proofs.Common.{List, ap, ◌∙◌}
use Rattle.hy_tree.specs.Denotes.{variant_of}
use Rattle.hy_tree.specs.Findings.{find_variant}
use Rattle.hy_tree.specs.Names.{no_names}
use Rattle.hy_scope.specs.Noted.{note, after}
use Rattle.hy_scope.specs.Shown.{around_of, blocks_of, names_of, noted}
use Rattle.hy_scope.proofs.Lists.{variants_walk}
use Rattle.hy_base.proofs.Walks.{walked_to}
use Rattle.hy_scope.proofs.callable.walk_variants.Goals as goal

pub loop-v-preserved : goal.loop-v-preserved
loop-v-preserved c = record {
  walked = walked_to note (variants_walk (around_of c.args.around.now) (blocks_of c.args.blocks.now)) no_names c.args.variants.now (noted c.args.notes.now)
      c.loop-v.v-index (names_of c.loop-v.words) (names_of c.walk_variant.new.words) (noted c.loop-v.notes) (noted c.walk_variant.new.notes) c.v-item.result
      c.v-item.is c.loop-v-test.true c.loop-v.invariant.walked
      (c.in_ok-walk_variant.ensures.notes ∙ ap (λ blocks. after (find_variant (around_of c.args.around.now) blocks (names_of c.loop-v.words)
      (variant_of c.v-item.result)) (noted c.loop-v.notes)) c.loop-v.invariant.same) c.in_ok-walk_variant.ensures.words;
  same = c.in_ok-walk_variant.ensures.blocks ∙ c.loop-v.invariant.same;
}
