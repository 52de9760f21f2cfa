use Rattle.std.proofs.Common.{subst}
use Rattle.hy_store.specs.Memory.{live}
use Rattle.hy_store.specs.Represents.{Stores}
use Rattle.hy_store.proofs.Wholes.{row_length}
use Rattle.hy_store.proofs.store.Store.transfer.Goals as goal

pub returns : goal.returns
returns c = record {
  row = c.in_ok-row.row.items;
  mid = c.put.new.self;
  is = c.in_ok-row.ensures;
  size = row_length (live c.args.self.now.blocks) c.args.from.range c.in_ok-row.row.items c.in_ok-row.ensures;
  puts = subst (λ row. Stores c.args.self.now c.put.new.self c.args.to.range row) c.as_slice.ensures.value c.put.ensures;
  unsets = c.unset.ensures;
}
