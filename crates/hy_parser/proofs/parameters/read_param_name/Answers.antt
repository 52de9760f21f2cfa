use Rattle.std.proofs.Common.{sym, ap, ◌∙◌}
use Rattle.hy_lexer.specs.declared.token.TokenKind.TheVariants as k
use Rattle.hy_grammar.specs.Machine.{walk}
use Rattle.hy_grammar.specs.Stack.{ParamWanted, ParamFirst, ParamUnlabelled, ParamColon}
use Rattle.hy_parser.proofs.Follows.{passed, follows, still, named_but, unnamed_but}
use Rattle.hy_parser.proofs.ParameterSteps.{unlabelled, param_names}
use Rattle.hy_phrases.proofs.Walks.{fits, taken, from_there}
use Rattle.hy_parser.proofs.parameters.read_param_name.Goals as goal

pub returns-in-Some-clause-reads : goal.returns-in-Some-clause-reads
returns-in-Some-clause-reads c = λ levels.
    follows levels levels (λ r. r) ParamWanted (λ x. x) (λ head. ParamUnlabelled head c.in-Some.word.from) (λ r head. ParamColon head r.0 r.1 r.2) _ _ _ _
    (λ total x le. taken total (unlabelled x) c.in-Some.ensures.token (fits levels _ le)) (λ x le. le) (c.read_unlabelled.ensures.reads levels)

pub returns-in_err-first-clause-reads : goal.returns-in_err-first-clause-reads
returns-in_err-first-clause-reads c = λ levels. passed levels _ _ _ _ _ _ c.from_residual.ensures.1 (λ total x le.
    let lacking = c.in_default.ensures.token in
    from_there _ _ _ (ap (walk total (ParamWanted x)) (sym lacking.1))
    (unnamed_but total (param_names x) _ _ (still k.Underscore _ _ lacking.0 lacking.1) c.in_err-first.ensures.token))

pub returns-clause-reads : goal.returns-clause-reads
returns-clause-reads c = λ levels.
    let lacking = c.in_default.ensures.token in
    follows levels levels (λ r. r) ParamWanted (λ x. x) (λ head. ParamFirst head c.in_ok-first.first) (λ r head. ParamColon head r.0 r.1 r.2) _ _ _ _
    (λ total x le. ap (walk total (ParamWanted x)) (sym lacking.1) ∙ named_but total (param_names x) c.in_ok-first.ensures.token (fits levels _ le))
    (λ x le. le) (c.read_second_name.ensures.reads levels)
