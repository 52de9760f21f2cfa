use Rattle.std.proofs.Common.{◌≡◌, ◌<◌, ◌^◌, length, IsSomeAnd, sym, subst}
use Rattle.hy_blocks.specs.Blocks.{cells_of}
use Rattle.hy_blocks.proofs.Listed.{at, known, live_and}
use Rattle.hy_blocks.proofs.region.Region.words.Goals as goal

pub words-requires : goal.words-requires
words-requires c = known _ c.self.inside.taken _ c.self.view_is c.args.name (λ cells. Unit {0}) c.requires

pub returns : goal.returns
returns c = live_and (cells_of c.args.self.now c.args.name) (λ cells. (c.words.result ≡ length cells) × (length cells < 2 ^ 32)) (λ cells.
    c.words.result ≡ length cells) (λ cells is. is.0)
    (subst (λ b. IsSomeAnd b (λ cells. (c.words.result ≡ length cells) × (length cells < 2 ^ 32)))
    (sym (at _ c.self.inside.taken _ c.self.view_is c.args.name (λ cells. Unit {0}) c.requires)) c.words.ensures)
