use Rattle.std.proofs.Common.{inl, inr, rules}
use Rattle.hy_base.proofs.Names.{lost_none}
use Rattle.hy_base.proofs.memory.MemFilesFiles.load.Goals as goal
use Rattle.hy_base.proofs.memory.MemFilesFiles.load.Goals.{then-next_fails-via-then-next_fails, then-next_fails-via-else-next_fails+then-contains}

pub returns-then-next_fails-clause-cause : goal.returns-then-next_fails-clause-cause
returns-then-next_fails-clause-cause c = λ failed. elim c.then-next_fails.branch [
  | then-next_fails-via-then-next_fails w ↦
      inr (w.if-next_fails.ensures.due (search rules))
  | then-next_fails-via-else-next_fails+then-contains w ↦ inl (lost_none _ _ w.if-contains.ensures)
]
