use Rattle.std.proofs.Common.{◌+◌, ◌≤◌, length, subst}
use Rattle.hy_blocks.specs.Blocks.{IsMoved}
use Rattle.hy_blocks.specs.Tables.{look, all}
use Rattle.hy_blocks.proofs.Listed.{below_in, known}
use Rattle.hy_blocks.proofs.Moving.{listed}
use Rattle.hy_blocks.proofs.region.Region.move_words.Goals as goal

pub move_words-requires : goal.move_words-requires
move_words-requires c = record {
  to = known _ c.self.inside.taken _ c.self.view_is c.args.to (λ cells. c.args.to_at + c.args.words ≤ length cells) c.requires.to;
  from = known _ c.self.inside.taken _ c.self.view_is c.args.from (λ cells. c.args.from_at + c.args.words ≤ length cells) c.requires.from;
  apart = c.requires.apart;
}

pub returns : goal.returns
returns c = subst (λ was. IsMoved was (all (look c.move_words.new.self) c.self.inside.taken) c.args.to c.args.to_at c.args.from c.args.from_at
    c.args.words) c.self.view_is
    (listed (look c.self.inside.table) (look c.move_words.new.self) c.self.inside.taken c.args.to c.args.to_at c.args.from c.args.from_at c.args.words
    (below_in _ c.self.inside.taken _ c.self.view_is c.args.to (λ cells. c.args.to_at + c.args.words ≤ length cells) c.requires.to)
    (below_in _ c.self.inside.taken _ c.self.view_is c.args.from (λ cells. c.args.from_at + c.args.words ≤ length cells) c.requires.from)
    c.move_words.ensures)
