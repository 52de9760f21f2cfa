use Rattle.hy_store.proofs.Emptied.{goes_on}
use Rattle.hy_store.proofs.store.Store.go_back.Goals as goal

pub returns : goal.returns
returns c = λ fun next. goes_on c.args.self.now c.free_frame.new.self c.free_frame.ensures c.args.frame fun next
