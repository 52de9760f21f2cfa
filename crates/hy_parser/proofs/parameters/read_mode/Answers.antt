use Rattle.std.proofs.Common.{sym, ap, ◌∙◌}
use Rattle.hy_grammar.specs.DeclSteps.{mode_in}
use Rattle.hy_grammar.specs.Machine.{walk}
use Rattle.hy_parser.specs.Separated.{ahead}
use Rattle.hy_grammar.specs.Stack.{ParamColon, TypeWanted, ForParam}
use Rattle.hy_parser.proofs.ParameterSteps.{moded, unmoded}
use Rattle.hy_phrases.proofs.Walks.{over}
use Rattle.hy_parser.proofs.parameters.read_mode.Goals as goal

pub returns-in-Some-clause-reads : goal.returns-in-Some-clause-reads
returns-in-Some-clause-reads c = λ total head from label name is le.
    let t = c.in-Some.ensures.token in
    over total (ParamColon head from label name) (TypeWanted (ForParam head from label name c.in-Some.mode)) t.token _ _ t.front
    (λ place. moded head from label name c.in-Some.mode t.token place (ap (λ sort. mode_in sort t.token.kind) is ∙ t.is)) le

pub returns-in-None-clause-reads : goal.returns-in-None-clause-reads
returns-in-None-clause-reads c = λ total head from label name is le.
    let lacking = c.in-None.ensures.token in
    unmoded total head from label name c.args.tokens.now.rest.now (ap (λ sort. ahead (mode_in sort) c.args.tokens.now.rest.now) is ∙ lacking.0)
    ∙ ap (walk total (TypeWanted (ForParam head from label name _))) (sym lacking.1)
