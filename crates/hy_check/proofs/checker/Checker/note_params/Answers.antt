use Rattle.hy_tree.specs.Denotes.{param_of}
use Rattle.hy_tree.specs.Tree as T
use Rattle.hy_check.specs.Facts.{param_facts}
use Rattle.hy_check.proofs.NotedTypes.{each_start, each_more, each_end}
use Rattle.hy_check.proofs.checker.Checker.note_params.Goals as goal

pub loop-p-init : goal.loop-p-init
loop-p-init c = each_start param_of param_facts c.args.params.now c.args.self.now c.requires

pub loop-p-preserved : goal.loop-p-preserved
loop-p-preserved c =
    each_more param_of param_facts
    c.args.params.now c.args.self.now c.loop-p.self c.note_param.new.self c.loop-p.p-index c.p-item.result c.p-item.is c.loop-p-test.true
    c.loop-p.invariant c.in_ok-note_param.ensures.right c.in_ok-note_param.ensures.learns

pub returns-clause-learns : goal.returns-clause-learns
returns-clause-learns c =
    each_end param_of param_facts c.args.params.now c.args.self.now c.loop-p.self c.loop-p.p-index c.loop-p-test.false c.loop-p.invariant
