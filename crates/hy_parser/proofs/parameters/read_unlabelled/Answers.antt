use Rattle.std.proofs.Common.{◌∙◌}
use Rattle.hy_tree.specs.declared.declaration.Label.TheVariants as label
use Rattle.hy_parser.proofs.Follows.{passed}
use Rattle.hy_parser.proofs.ParameterSteps.{unlabelled_wants, colon_wanted}
use Rattle.hy_phrases.proofs.Walks.{fits, named, unnamed, wanted, missed, from_there}
use Rattle.hy_parser.proofs.parameters.read_unlabelled.Goals as goal

pub returns-in_err-name-clause-reads : goal.returns-in_err-name-clause-reads
returns-in_err-name-clause-reads c =
    λ levels. passed levels _ _ _ _ _ _ c.from_residual.ensures.1
    (λ total x le. unnamed total (unlabelled_wants x c.args.from) _ _ c.in_err-name.ensures.token)

pub returns-in_err-want-clause-reads : goal.returns-in_err-want-clause-reads
returns-in_err-want-clause-reads c = λ levels. passed levels _ _ _ _ _ _ c.from_residual-in_err-want.ensures.1 (λ total x le.
    from_there _ _ _ (named total (unlabelled_wants x c.args.from) c.in_ok-name.ensures.token (fits levels _ le))
    (missed total (colon_wanted x c.args.from label.Nothing c.in_ok-name.name) c.in_err-want.ensures.token))

pub returns-clause-reads : goal.returns-clause-reads
returns-clause-reads c = λ levels total x le.
    named total (unlabelled_wants x c.args.from) c.in_ok-name.ensures.token (fits levels _ le)
    ∙ wanted total (colon_wanted x c.args.from label.Nothing c.in_ok-name.name) c.in_ok-want.ensures.token (fits levels _ le)
