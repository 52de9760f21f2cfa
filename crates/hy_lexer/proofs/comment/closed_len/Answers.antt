use Rattle.std.proofs.Common.{arith, ap, length}
use Rattle.hy_lexer.proofs.Comments.{step_opens, step_closes, step_other, open_at_end, closed_here, shorter_here}
use Rattle.hy_lexer.proofs.comment.closed_len.Goals as goal

pub loop-level-preserved-in-Opens : goal.loop-level-preserved-in-Opens
loop-level-preserved-in-Opens c = record {
  leads = step_opens c.args.inner.now c.loop-level.rest.now c.in-Opens.behind.now c.loop-level.level c.loop-level.invariant.leads (omega arith)
      c.in-Opens.ensures;
  bound = omega (arith, ap length c.in-Opens.ensures, c.loop-level.invariant.bound);
}

pub loop-level-preserved-in-Closes : goal.loop-level-preserved-in-Closes
loop-level-preserved-in-Closes c = record {
  leads = step_closes c.args.inner.now c.loop-level.rest.now c.in-Closes.behind.now c.loop-level.level c.loop-level.invariant.leads (omega arith)
      c.in-Closes.ensures;
  bound = omega (arith, ap length c.in-Closes.ensures, c.loop-level.invariant.bound);
}

pub loop-level-preserved : goal.loop-level-preserved
loop-level-preserved c = record {
  leads = step_other c.args.inner.now c.loop-level.rest.now c.in-Other.behind.now c.in-Other.ensures.0 c.loop-level.level c.loop-level.invariant.leads
      (omega arith) c.in-Other.ensures.1 c.in-Other.ensures.2;
  bound = omega (arith, ap length c.in-Other.ensures.1, c.loop-level.invariant.bound);
}

pub returns-in-End : goal.returns-in-End
returns-in-End c = open_at_end c.args.inner.now c.loop-level.rest.now c.loop-level.level c.loop-level.invariant.leads (omega arith) c.in-End.ensures

pub overflow_sub-result : goal.overflow_sub-result
overflow_sub-result c = shorter_here c.args.inner.now c.loop-level.rest.now c.loop-level.level c.loop-level.invariant.leads

pub returns : goal.returns
returns c = closed_here c.args.inner.now c.loop-level.rest.now c.loop-level.level c.loop-level.invariant.leads (omega arith)
