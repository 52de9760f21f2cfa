use Rattle.std.proofs.Common.{sym, ap, ◌∙◌, arith}
use Rattle.hy_parser.specs.Headings.{sort_of, Below, headed}
use Rattle.hy_grammar.specs.Machine.{walk}
use Rattle.hy_grammar.specs.Stack.{FunctionName, GenericWanted, ParamsWanted}
use Rattle.hy_parser.proofs.Follows.{follows}
use Rattle.hy_parser.proofs.HeadingSteps.{no_generics, requirement_name, less_of_function, not_requirement}
use Rattle.hy_phrases.proofs.Walks.{fits, over}
use Rattle.hy_parser.proofs.generics.read_generics.Goals as goal

pub returns-in-Requirement-clause-reads : goal.returns-in-Requirement-clause-reads
returns-in-Requirement-clause-reads c =
    λ levels total x le. requirement_name total (headed (sort_of c.args.sort) c.args.heading x) c.args.tokens.now.rest.now (ap sort_of c.in-Requirement.is)

pub returns-in-Some : goal.returns-in-Some
returns-in-Some c = record {
  reads = λ levels.
      let t = c.in-Some.ensures.token in
      let head = λ (x : Below (sort_of c.args.sort)). headed (sort_of c.args.sort) c.args.heading x in
      follows levels levels (λ h. h) (λ x. FunctionName (head x)) (λ x. x) (λ x. GenericWanted (head x))
      (λ h x. ParamsWanted (headed (sort_of c.args.sort) h x)) _ _ _ _
      (λ total x le. over total (FunctionName (head x)) (GenericWanted (head x)) t.token _ _ t.front
      (λ place. less_of_function (head x) (not_requirement c.args.sort c.in_default.not-Requirement) t.token place t.is) (fits levels _ le))
      (λ x le. le) (c.read_type_params.ensures.reads levels);
  within = omega arith;
}

pub returns-in-None : goal.returns-in-None
returns-in-None c = record {
  reads = λ levels total x le.
      let lacking = c.in-None.ensures.token in
      no_generics total (headed (sort_of c.args.sort) c.args.heading x) c.args.tokens.now.rest.now lacking.0
      ∙ ap (walk total (ParamsWanted (headed (sort_of c.args.sort) c.args.heading x))) (sym lacking.1);
  within = omega arith;
}
