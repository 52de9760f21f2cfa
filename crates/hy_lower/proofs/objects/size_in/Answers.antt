use Rattle.std.proofs.Common.{refl}
use Rattle.hy_types.proofs.Sums.{one_words, has_or_not}
use Rattle.hy_lower.proofs.objects.size_in.Goals as goal

pub returns-in-Some : goal.returns-in-Some
returns-in-Some c = λ words has. one_words c.args.types.now c.in-Some.ensures.some.0 has.0

pub returns-in-None : goal.returns-in-None
returns-in-None c = λ words has. absurd (has_or_not c.args.types.now c.args.id words has (c.in-None.ensures.none.0 refl))
