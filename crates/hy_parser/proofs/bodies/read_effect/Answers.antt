use Rattle.std.proofs.Common.{sym, ap, ◌∙◌}
use Rattle.hy_parser.specs.Headings.{sort_of, headed}
use Rattle.hy_grammar.specs.Machine.{walk}
use Rattle.hy_grammar.specs.DeclSteps.{with_effect}
use Rattle.hy_grammar.specs.Stack.{ParamsRead, EffectRead}
use Rattle.hy_parser.proofs.BodySteps.{effect_taken, no_effect}
use Rattle.hy_phrases.proofs.Walks.{over}
use Rattle.hy_parser.proofs.bodies.read_effect.Goals as goal

pub returns-in-Some-clause-reads : goal.returns-in-Some-clause-reads
returns-in-Some-clause-reads c = λ total x other le.
    let head = headed (sort_of c.args.sort) c.args.heading x in
    let mode = c.in-Some.mode in
    let t = c.in-Some.ensures.token in
    over total (ParamsRead head c.args.heading.end) (EffectRead (with_effect head mode) t.token.span.to) t.token _ _ t.front
    (λ place. effect_taken head c.args.heading.end mode t.token place other t.is) le
    ∙ ap (λ span. walk total (EffectRead (with_effect head mode) span.to) c.take_mode.new.tokens.rest.now) t.stands

pub returns-in-None-clause-reads : goal.returns-in-None-clause-reads
returns-in-None-clause-reads c = λ total x other le.
    let head = headed (sort_of c.args.sort) c.args.heading x in
    let lacking = c.in-None.ensures.token in
    no_effect total head c.args.heading.end c.args.tokens.now.rest.now other lacking.0 ∙ ap (walk total (EffectRead head c.args.heading.end)) (sym lacking.1)
