use Rattle.std.proofs.Common.{[], flat_map, Option, sym, subst, List}
use Rattle.hy_base.specs.First.{Refusal}
use Rattle.hy_types.specs.declared.kinds.TyId.{TyId}
use Rattle.hy_signatures.specs.WantedShown.{type_shown}
use Rattle.hy_check.specs.Known.{Learns}
use Rattle.hy_check.specs.KnownShown.{known_of}
use Rattle.hy_check.specs.Refusals as refusals
use Rattle.hy_check.specs.ValuesShown.{exprs_in}
use Rattle.hy_check.proofs.Knowing.{learns_none}
use Rattle.hy_check.proofs.PartValues.{flat_none}
use Rattle.hy_check.proofs.checker.Checker.meet_each_unlike.Goals as goal

pub returns-in-Some-clause-learns : goal.returns-in-Some-clause-learns
returns-in-Some-clause-learns c around h =
    subst (λ (like : Option TyId). Learns (known_of c.args.self.now) (known_of c.meet_each_unfit.new.self)
    (flat_map (refusals.unlike around (type_shown c.args.self.now.types like)) (exprs_in c.args.parts.now)) []) (sym c.in-Some.is)
    (c.meet_each_unfit.ensures.learns around h)

pub returns-in-None-clause-learns : goal.returns-in-None-clause-learns
returns-in-None-clause-learns c around h =
    subst (λ (like : Option TyId). Learns (known_of c.args.self.now) (known_of c.args.self.now)
    (flat_map (refusals.unlike around (type_shown c.args.self.now.types like)) (exprs_in c.args.parts.now)) []) (sym c.in-None.is)
    (subst (λ (xs : List Refusal). Learns (known_of c.args.self.now) (known_of c.args.self.now) xs []) (sym (flat_none (exprs_in c.args.parts.now)))
    (learns_none (known_of c.args.self.now)))
