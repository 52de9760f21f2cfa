use Rattle.std.proofs.Common.{◌==◌, cond, Some, None, sym, ap, ◌∙◌}
use Rattle.std.specs.Map.{lookup}
use Rattle.std.specs.Option.{option_map}
use Rattle.hy_types.specs.Types.{type_of}
use Rattle.hy_signatures.specs.PlainTypes.{Found, matched}
use Rattle.hy_signatures.specs.SolutionShown.{found_shown}
use Rattle.hy_signatures.proofs.types.Types.fit_exactly.Goals as goal

pub returns-clause-found : goal.returns-clause-found
returns-clause-found c =
    let table = c.args.self.now in
    ap (λ (found : Found). matched (type_of table c.args.wanted) (type_of table c.args.given) found)
    (λ i place. option_map (type_of table) (lookup (λ other. place == other) (sym c.in_ok-trial.ensures i)))
    ∙ c.in_ok-matches.ensures.found ∙ ap (λ b. cond b (Some (found_shown table c.matches.new.found)) None) c.if-not-branch.false
