use Rattle.std.proofs.Common.{◌-◌, ◌++◌, length, replicate, rules, subst, SFits, w64}
use Rattle.std.proofs.lemmas.Int.{to_z-of_z}
use Rattle.hy_store.specs.Allots.{Allots}
use Rattle.hy_store.specs.Cells.{Unset}
use Rattle.hy_store.specs.Memory.{IsRow, live}
use Rattle.hy_store.proofs.store.Store.regrow.Goals as goal

pub returns-clause-regrows : goal.returns-clause-regrows
returns-clause-regrows c =
    let row = c.cells.result.now in
    let fits : SFits w64 c.args.array.count = search rules in
    let taken : Allots c.args.self.now c.allot.new.self c.args.array.cells.range c.in_ok-cells.cells.items c.args.array.count =
    rw (to_z-of_z w64 c.args.array.count fits) at c.in_ok-allot.ensures in
    let allots = subst (λ cells. Allots c.args.self.now c.allot.new.self c.args.array.cells.range cells c.args.array.count) c.in_ok-cells.ensures taken in
    record {
      row = row;
      mid = c.allot.new.self;
      is = subst (λ r. IsRow (live c.args.self.now.blocks) r row) c.whole-all.ensures.range c.cells.ensures;
      allots = subst (λ n. Allots c.args.self.now c.allot.new.self c.args.array.cells.range (row ++ replicate (n - length row) Unset) c.args.array.count)
          c.in-Ok.ensures.1 allots;
      frees = c.in_ok-free_block.ensures;
    }
