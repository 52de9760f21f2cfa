use Rattle.std.proofs.Common.{◌≡◌, ℤ, get_or, None, Some, sym, ap, ◌∙◌}
use Rattle.std.proofs.Common.{rules, w64, SFits}
use Rattle.std.proofs.lemmas.Int.{to_z-of_z}
use Rattle.hy_blocks.proofs.Listed.{at, known, live_and, holds, set_in}
use Rattle.hy_blocks.specs.Blocks.{cell_in}
use Rattle.hy_blocks.proofs.region.Region.read.Goals as goal

pub raw-requires : goal.raw-requires
raw-requires c = live_and _ (λ cells. (x : ℤ) × (get_or cells c.args.at None ≡ Some x)) (λ cells. Unit {0}) (λ cells is. tt)
    (known _ c.self.inside.taken _ c.self.view_is c.args.name _ (set_in _ c.args.at c.requires))

pub read-requires : goal.read-requires
read-requires c = holds _ (λ cells. (x : ℤ) × (get_or cells c.args.at None ≡ Some x)) _ c.raw.ensures
    (known _ c.self.inside.taken _ c.self.view_is c.args.name _ (set_in _ c.args.at c.requires))

pub returns : goal.returns
returns c = let fits : SFits w64 c.read.result = search rules in
    ap (λ b. cell_in b c.args.at) (at _ c.self.inside.taken _ c.self.view_is c.args.name _ (set_in _ c.args.at c.requires) ∙ c.raw.ensures)
    ∙ c.read.ensures ∙ ap Some (sym (to_z-of_z w64 c.read.result fits))
