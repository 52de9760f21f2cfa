use Rattle.std.specs.Prelude.{[]}
use Rattle.hy_conv.proofs.Paths.{told_block, silent_block_path, later_block_path, is_later_block}
use Rattle.hy_conv.proofs.laws.yields_are_on_paths.Goals as goal

pub returns : goal.returns
returns c body = record {
  silent = λ e. (silent_block_path body e, told_block body [] e);
  later = λ token. (later_block_path token body, λ x. is_later_block token body x.0 x.1 x.2 x.3);
}
