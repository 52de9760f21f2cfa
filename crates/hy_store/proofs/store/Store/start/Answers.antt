use Rattle.std.proofs.Common.{◌∙◌, List, Some, refl, ap, add-one, rules}
use Rattle.hy_store.specs.Memory.{live, with_block}
use Rattle.hy_store.specs.Cells.{Cell}
use Rattle.hy_store.proofs.Wholes.{row_length}
use Rattle.hy_store.proofs.Started.{started, started_seen}
use Rattle.hy_store.proofs.store.Store.start.Goals as goal

pub returns-clause-starts : goal.returns-clause-starts
returns-clause-starts c = record {
  row = c.cells.result.now;
  first = c.in_ok-slots.slots.items;
  mid = live c.take.new.self;
  is = c.cells.ensures;
  size = row_length (live c.args.self.now.blocks) c.args.reach.range c.cells.result.now c.cells.ensures;
  slots = c.in_ok-slots.ensures;
  takes = λ b. c.in_ok-take.ensures.taken b
      ∙ ap (λ (cs : List Cell). with_block (live c.args.self.now.blocks) c.args.self.now.counts.blocks (Some cs) b) c.in_ok-cells.ensures;
  unsets = c.unset.ensures;
  keeps = c.in_ok-take-2.ensures.taken;
  opened = refl;
  frame = refl;
  counts = simp add-one;
}

pub returns-clause-represented : goal.returns-clause-represented
returns-clause-represented c = λ fun g s represents number left. (
  started c.args.self.now _ fun c.args.callee.now c.args.slot c.args.reach.range c.args.role (returns-clause-starts c) c.requires.cells c.requires.owned
      (search rules) c.requires.lent g s represents,
  started_seen c.args.self.now _ fun c.args.callee.now c.args.slot c.args.reach.range c.args.role (returns-clause-starts c) c.requires.cells
      c.requires.owned (search rules) c.requires.lent g s represents number left,
)
