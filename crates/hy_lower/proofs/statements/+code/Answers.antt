use Rattle.std.proofs.Common.{◌++◌, sym, ap, ◌∙◌}
use Rattle.hy_core.specs.Denotes.{stmt_of, stmts_of}
use Rattle.hy_core.specs.Plain.{Stmt, If, While}
use Rattle.hy_core.proofs.Equations.{if_is, while_is}
use Rattle.hy_lower.specs.Code.{code_of}
use Rattle.hy_lower.specs.Denotes.{frame}
use Rattle.hy_lower.proofs.Parts.{choice_made, loop_made}
use Rattle.hy_lower.proofs.statements.+code.Goals as goal

pub code_of-returns-in_ok-code_all-in-If-2 : goal.code_of-returns-in_ok-code_all-in-If-2
code_of-returns-in_ok-code_all-in-If-2 t c =
    let on = c.in-If.on in
    let yes' = c.as_slice-yes.result.now in
    let no' = c.as_slice-no.result.now in
    let made = λ (s : Stmt). c.args.code.now ++ code_of (frame c.args.body.now) c.args.pc c.args.targets.after c.args.targets.again s in
    choice_made (frame c.args.body.now) c.args.pc c.args.targets.after c.args.targets.again on c.args.code.now c.unless.new.code c.code_all.new.code
    c.jump.new.code c.code_all-in-If.new.code c.in_ok-parts-in-If.parts (stmts_of yes') (stmts_of no') c.in_ok-parts-in-If.ensures
    c.in_ok-unless-in-If.ensures c.in_ok-code_all-in-If.ensures c.in_ok-jump-in-If.ensures c.in_ok-code_all-in-If-2.ensures
    ∙ ap (λ y. made (If on (stmts_of y) (stmts_of no'))) c.as_slice-yes.ensures
    ∙ ap (λ n. made (If on (stmts_of c.in-If.yes) (stmts_of n))) c.as_slice-no.ensures
    ∙ ap made (sym (if_is on c.in-If.yes c.in-If.no))
    ∙ ap (λ s. made (stmt_of s)) (sym c.in-If.is)

pub code_of-returns-in_ok-back_if-in-While : goal.code_of-returns-in_ok-back_if-in-While
code_of-returns-in_ok-back_if-in-While t c =
    let on = c.in-While.on in
    let head = c.as_slice-head.result.now in
    let pass = c.as_slice-pass.result.now in
    let made = λ (s : Stmt). c.args.code.now ++ code_of (frame c.args.body.now) c.args.pc c.args.targets.after c.args.targets.again s in
    loop_made (frame c.args.body.now) c.args.pc c.args.targets.after c.args.targets.again on c.args.code.now c.jump-in-While.new.code
    c.code_all-in-While.new.code c.code_all-in-While-2.new.code c.back_if.new.code c.in_ok-parts-in-While.parts (stmts_of head) (stmts_of pass)
    c.in_ok-parts-in-While.ensures c.in_ok-jump-in-While.ensures c.in_ok-code_all-in-While.ensures c.in_ok-code_all-in-While-2.ensures
    c.in_ok-back_if-in-While.ensures
    ∙ ap (λ h. made (While (stmts_of h) on (stmts_of pass))) c.as_slice-head.ensures
    ∙ ap (λ p. made (While (stmts_of c.in-While.head) on (stmts_of p))) c.as_slice-pass.ensures
    ∙ ap made (sym (while_is c.in-While.head on c.in-While.pass))
    ∙ ap (λ s. made (stmt_of s)) (sym c.in-While.is)
