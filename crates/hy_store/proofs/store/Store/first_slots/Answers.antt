use Rattle.std.proofs.Common.{◌≡◌, ◌++◌, ◌∷◌, [], rules}
use Rattle.hy_store.specs.Frames.{kept}
use Rattle.hy_store.specs.Represents.{first_slot}
use Rattle.hy_store.proofs.Rows.{pushed_get}
use Rattle.hy_store.proofs.store.Store.first_slots.Goals as goal

pub loop-k-preserved : goal.loop-k-preserved
loop-k-preserved c =
    let was = c.loop-k.invariant in
    let is : c.push.new.self.items ≡ c.loop-k.row.items ++ c.first_slot.result ∷ [] = search rules in
    record {
      size = rw is (search rules);
      each = pushed_get c.loop-k.row.items c.push.new.self.items c.first_slot.result
          (first_slot (kept c.args.self.now.frames c.args.self.now.frame) c.args.slot c.args.callee.now.accesses) c.loop-k.k is was.size was.each
          c.first_slot.ensures;
    }
