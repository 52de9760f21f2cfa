use Rattle.std.proofs.Common.{sym, ap, ◌∙◌}
use Rattle.hy_tree.specs.declared.declaration.Label.TheVariants as label
use Rattle.hy_lexer.specs.declared.token.TokenKind.TheVariants as k
use Rattle.hy_grammar.specs.Machine.{walk}
use Rattle.hy_grammar.specs.Stack.{ParamFirst}
use Rattle.hy_parser.proofs.Follows.{passed, still, named_but, unnamed_but}
use Rattle.hy_parser.proofs.ParameterSteps.{same_label, second_names, colon_wanted}
use Rattle.hy_phrases.proofs.Walks.{fits, taken, wanted, missed, from_there}
use Rattle.hy_parser.proofs.parameters.read_second_name.Goals as goal

pub returns-in-Some-clause-reads : goal.returns-in-Some-clause-reads
returns-in-Some-clause-reads c = λ levels total x le. taken total (same_label x c.args.first) c.in-Some.ensures.token (fits levels _ le)

pub returns-in_err-name-clause-reads : goal.returns-in_err-name-clause-reads
returns-in_err-name-clause-reads c = λ levels. passed levels _ _ _ _ _ _ c.from_residual.ensures.1 (λ total x le.
    let lacking = c.in_default.ensures.token in
    from_there _ _ _ (ap (walk total (ParamFirst x c.args.first)) (sym lacking.1))
    (unnamed_but total (second_names x c.args.first) _ _ (still k.Colon _ _ lacking.0 lacking.1) c.in_err-name.ensures.token))

pub returns-in_err-want-clause-reads : goal.returns-in_err-want-clause-reads
returns-in_err-want-clause-reads c = λ levels. passed levels _ _ _ _ _ _ c.from_residual-in_err-want.ensures.1 (λ total x le.
    let lacking = c.in_default.ensures.token in
    let first = c.args.first in
    from_there _ _ _ (ap (walk total (ParamFirst x first)) (sym lacking.1)
    ∙ named_but total (second_names x first) c.in_ok-name.ensures.token (fits levels _ le))
    (missed total (colon_wanted x first.span.from (label.Text first.text) c.in_ok-name.name) c.in_err-want.ensures.token))

pub returns-clause-reads : goal.returns-clause-reads
returns-clause-reads c = λ levels total x le.
    let lacking = c.in_default.ensures.token in
    let first = c.args.first in
    ap (walk total (ParamFirst x first)) (sym lacking.1) ∙ named_but total (second_names x first) c.in_ok-name.ensures.token (fits levels _ le)
    ∙ wanted total (colon_wanted x first.span.from (label.Text first.text) c.in_ok-name.name) c.in_ok-want.ensures.token (fits levels _ le)
