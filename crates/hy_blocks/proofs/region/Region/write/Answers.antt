use Rattle.std.proofs.Common.{◌<◌, ◌≤◌, ◌+◌, length, slice_set, Some, IsSomeAnd, subst, arith}
use Rattle.std.proofs.Common.{rules, w64, SFits}
use Rattle.std.proofs.lemmas.Int.{to_z-of_z}
use Rattle.hy_blocks.specs.Tables.{look, Becomes}
use Rattle.hy_blocks.proofs.Listed.{changed, known, live_and}
use Rattle.hy_blocks.proofs.region.Region.write.Goals as goal

pub write-requires : goal.write-requires
write-requires c = live_and _ (λ cells. c.args.at + 1 ≤ length cells) (λ cells. c.args.at < length cells) (λ cells le. omega (arith, le))
    (known _ c.self.inside.taken _ c.self.view_is c.args.name (λ cells. c.args.at + 1 ≤ length cells) c.requires)

pub returns : goal.returns
returns c =
    let fits : SFits w64 c.args.value = search rules in
    changed _ _ c.self.inside.taken _ c.self.view_is c.args.name (λ cells. slice_set cells c.args.at (Some c.args.value)) (λ cells. c.args.at + 1 ≤
    length cells) c.requires
    (subst (λ v. IsSomeAnd (look c.self.inside.table c.args.name) (λ cells. Becomes (look c.self.inside.table) (look c.write.new.self) c.args.name
    (Some (slice_set cells c.args.at (Some v)))))
    (to_z-of_z w64 c.args.value fits) c.write.ensures)
