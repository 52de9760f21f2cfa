use Rattle.std.proofs.Common.{◌∷◌, [], subst, rules, SFits, w64}
use Rattle.std.proofs.lemmas.Int.{to_z-of_z}
use Rattle.hy_store.specs.Cells.{Name, Word}
use Rattle.hy_store.specs.Represents.{Stores}
use Rattle.hy_store.proofs.store.Store.allot.Goals as goal

pub returns : goal.returns
returns c =
    let fits : SFits w64 c.args.count = search rules in
    let stores : Stores c.take_block.new.self c.put.new.self c.args.header.range (Name c.in_ok-name.name ∷ Word c.args.count ∷ []) =
    rw (to_z-of_z w64 c.args.count fits) at c.put.ensures in
    record {
      mid = c.take_block.new.self;
      takes = c.in_ok-name.ensures.takes;
      stores = subst (λ name. Stores c.take_block.new.self c.put.new.self c.args.header.range (Name name ∷ Word c.args.count ∷ []))
          c.in_ok-name.ensures.name stores;
    }
