use Rattle.std.proofs.Common.{refl}
use Rattle.hy_store.proofs.Settling.{settled}
use Rattle.hy_store.proofs.store.Store.settle.Goals as goal

-- src/store.rt:71:5
pub returns : goal.returns
returns c g fun s represents =
    settled g c.args.self.now _ fun s (record { opened = refl; frames = refl; frame = refl; counts = refl }) c.bring.ensures represents
