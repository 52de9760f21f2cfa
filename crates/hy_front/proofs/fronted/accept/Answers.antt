use Rattle.std.proofs.Common.{Some, None, refl, sym, ap, ◌∙◌}
use Rattle.hy_tree.specs.Denotes.{program_of}
use Rattle.hy_tree.specs.Findings.{meanings}
use Rattle.hy_front.specs.Noted.{after}
use Rattle.hy_front.specs.Unbuilt.{unbuilt}
use Rattle.hy_front.proofs.Firsts.{is_first}
use Rattle.hy_front.proofs.fronted.accept.Goals as goal

pub returns-in-Some : goal.returns-in-Some
returns-in-Some c =
    let tree = program_of c.args.tree in
    is_first (unbuilt (meanings tree) tree) (Some c.in-Some.first) (sym c.in-Some.is ∙ c.first_unbuilt.ensures
    ∙ ap (λ meant. after (unbuilt meant tree) None) c.requires)

pub returns-in-None : goal.returns-in-None
returns-in-None c =
    let tree = program_of c.args.tree in
    let met = sym c.in-None.is ∙ c.first_unbuilt.ensures ∙ ap (λ meant. after (unbuilt meant tree) None) c.requires in
    (is_first (unbuilt (meanings tree) tree) None met, refl)
