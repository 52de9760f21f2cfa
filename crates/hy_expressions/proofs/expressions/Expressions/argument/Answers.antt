use Rattle.std.proofs.Common.{[], ◌∷◌, ◌++◌, ◌∙◌, arith}
use Rattle.hy_tree.specs.Denotes.{expr_of, arg_of}
use Rattle.hy_tree.specs.Tree as T
use Rattle.hy_expressions.specs.ReadsExpressions.{ArgumentSpot}
use Rattle.hy_grammar.specs.Stack.{ForArgument, State, ArgumentWanted, ArgumentsRead}
use Rattle.hy_phrases.proofs.Walks.{from_there, passes}
use Rattle.hy_expressions.proofs.StepWalks.{argument_read}
use Rattle.hy_expressions.proofs.expressions.Expressions.argument.Goals as goal

abbrev need : ArgumentSpot → State
need x = ArgumentWanted x.callee x.args x.spot

abbrev have : T.Arg → ArgumentSpot → State
have a x = ArgumentsRead x.callee (x.args ++ a ∷ []) x.spot

pub returns-in_err-label-clause-reads : goal.returns-in_err-label-clause-reads
returns-in_err-label-clause-reads g c = passes c.args.levels arg_of need have _ _ c.from_residual.result _ c.from_residual.ensures.1
    (λ total x h. c.in_err-label.ensures.reads c.args.levels total x h)

pub returns-in_err-value-clause-reads : goal.returns-in_err-value-clause-reads
returns-in_err-value-clause-reads g c = passes c.args.levels arg_of need have _ _ c.from_residual-in_err-value.result _ c.from_residual-in_err-value.ensures.1
    (λ total x h. from_there _ _ _ (c.in_ok-label.ensures.reads c.args.levels total x h)
    (c.in_err-value.ensures.reads total (ForArgument x.callee x.args c.in_ok-label.label x.spot) (omega (arith, h))))

pub returns-clause-reads : goal.returns-clause-reads
returns-clause-reads g c = λ total x h.
    c.in_ok-label.ensures.reads c.args.levels total x h
    ∙ c.in_ok-value.ensures.reads total (ForArgument x.callee x.args c.in_ok-label.label x.spot) (omega (arith, h))
    ∙ argument_read total x.callee x.args c.in_ok-label.label x.spot (expr_of c.in_ok-value.value) _
