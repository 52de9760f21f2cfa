use Rattle.std.proofs.Common.{sym, ap, ◌∙◌}
use Rattle.hy_machine.specs.Machine.{all_set}
use Rattle.hy_machine.proofs.Windows.{moves}
use Rattle.hy_machine.proofs.frame.move_words.Goals as goal

pub returns-clause-takes : goal.returns-clause-takes
returns-clause-takes c =
    λ object. moves object c.args.to c.args.from c.args.words c.args.frame.now _ _ (sym c.in_ok-reach.ensures) (sym c.in_ok-reach-2.ensures)
    (sym c.if-overlap.ensures)
    (ap all_set (sym c.window.ensures) ∙ sym c.if-not-are_set.ensures) c.copy_window.ensures c.unset_window.ensures
