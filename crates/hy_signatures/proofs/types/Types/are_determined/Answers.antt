use Rattle.std.proofs.Common.{map, sym, ◌∙◌}
use Rattle.hy_signatures.specs.SignaturesShown.{parameter_shown}
use Rattle.hy_signatures.proofs.MatchedTypes.{not_determined}
use Rattle.hy_signatures.proofs.types.Types.are_determined.Goals as goal

pub returns-then-not-is_wanted : goal.returns-then-not-is_wanted
returns-then-not-is_wanted c =
    sym (not_determined (map (parameter_shown c.args.self.now) c.args.params.now) c.loop-place.place c.args.generics c.loop-place-test.true
    (sym c.is_wanted.ensures ∙ c.if-not-is_wanted.true))
