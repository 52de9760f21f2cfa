use Rattle.std.proofs.Common.{sym, ap, ◌∙◌, arith}
use Rattle.hy_parser.specs.Headings.{sort_of, Below, headed}
use Rattle.hy_grammar.specs.Machine.{walk}
use Rattle.hy_grammar.specs.Stack.{EffectRead, ResultRead, TypeWanted, ForResult}
use Rattle.hy_parser.proofs.BodySteps.{arrow, no_arrow}
use Rattle.hy_parser.proofs.Follows.{follows}
use Rattle.hy_phrases.proofs.Walks.{fits, taken}
use Rattle.hy_parser.proofs.bodies.read_arrow.Goals as goal

pub returns-in-Some : goal.returns-in-Some
returns-in-Some c = record {
  reads =
      let head = λ (x : Below (sort_of c.args.sort)). headed (sort_of c.args.sort) c.args.heading x in
      follows c.args.levels c.args.levels (λ h. h) (λ x. EffectRead (head x) c.args.heading.end) (λ x. x) (λ x. TypeWanted (ForResult (head x)))
      (λ h x. ResultRead (headed (sort_of c.args.sort) h x) h.end) _ _ _ _
      (λ total x le. taken total (arrow (head x) c.args.heading.end) c.in-Some.ensures.token (fits c.args.levels _ le)) (λ x le. le)
      c.read_result.ensures.reads;
  within = omega arith;
}

pub returns-in-None : goal.returns-in-None
returns-in-None c = record {
  reads = λ total x le.
      let head = headed (sort_of c.args.sort) c.args.heading x in
      let lacking = c.in-None.ensures.token in
      no_arrow total head c.args.heading.end c.args.tokens.now.rest.now lacking.0 ∙ ap (walk total (ResultRead head c.args.heading.end)) (sym lacking.1);
  within = omega arith;
}
