use Rattle.std.proofs.Common.{refl}
use Rattle.hy_store.proofs.Waking.{woken_seen}
use Rattle.hy_store.proofs.store.Store.wake.Goals as goal

pub returns : goal.returns
returns c = λ g s t represents is fun. woken_seen c.args.self.now _ c.args.fun.now c.args.next.now c.args.slot c.args.frame
    (record { emptied = c.set_slot.ensures; blocks = refl; opened = refl; counts = refl; frame = refl }) c.requires.slot g s represents t is fun
