use Rattle.std.proofs.Common.{◌∙◌, ap, sym, rules, SFits, w64}
use Rattle.std.proofs.lemmas.Int.{to_z-of_z}
use Rattle.hy_object.specs.Controls.{jump_unless, jump_where}
use Rattle.hy_object.specs.Words.{is_zero}
use Rattle.hy_checked.proofs.Known.{represents_fun}
use Rattle.hy_checked.proofs.Turning.{next_goes_on}
use Rattle.hy_checked.proofs.machine.Machine.jump_unless.Goals as goal

pub returns : goal.returns
returns c =
    let fits : SFits w64 c.in_ok-n.n = search rules in
    next_goes_on c.args.object.now c.args.self.now (λ s. jump_unless s c.args.word c.args.target) (λ s st.
    c.in_ok-n.ensures st.ghosts s (represents_fun c.args.object.now c.args.self.now s c.args.fun.now st c.requires.fun_is)
    (λ n. jump_where s (is_zero n) c.args.target)
    ∙ ap (λ b. jump_where s b c.args.target) (ap is_zero (sym (to_z-of_z w64 c.in_ok-n.n fits)) ∙ c.is_zero.ensures ∙ c.if-is_zero.false))
