use Rattle.std.proofs.Common.{refl}
use Rattle.hy_parser.proofs.Follows.{passed}
use Rattle.hy_parser.proofs.MemberSteps.{init_wanted}
use Rattle.hy_phrases.proofs.Walks.{fits, wanted, missed}
use Rattle.hy_parser.proofs.members.read_memberwise.Goals as goal

pub returns-in_err-span-clause-reads : goal.returns-in_err-span-clause-reads
returns-in_err-span-clause-reads c =
    passed 199 _ _ _ _ _ _ c.from_residual.ensures.1 (λ total x le. missed total (init_wanted x.owner x.members x.start) c.in_err-span.ensures.token)

pub returns-clause-reads : goal.returns-clause-reads
returns-clause-reads c = λ total x le. wanted total (init_wanted x.owner x.members x.start) c.in_ok-span.ensures.token (fits 199 1 refl)
