use Rattle.std.proofs.Common.{◌≡◌, ap, sym, subst, ◌∙◌, length, take, List}
use Rattle.hy_types.specs.declared.kinds.TyId.{TyId}
use Rattle.hy_types.specs.declared.sizes.Size.{Size}
use Rattle.hy_types.specs.Types.{Table, AllBelow}
use Rattle.hy_types.specs.Words.{TakeTogether}
use Rattle.hy_types.specs.Sizes.{AreRight, IsRightTogether}
use Rattle.hy_types.specs.Kept.{IsKept}
use Rattle.hy_types.proofs.Reading.{below_take}
use Rattle.hy_types.proofs.Waiting.{all_known, front_words}
use Rattle.hy_types.proofs.table.TyTable.offset.Goals as goal

pub total-requires : goal.total-requires
total-requires c =
    let kept = subst (λ (t : Table). IsKept t c.self.inside.sizes.items) c.self.view_is c.self.invariant in
    let long : length c.as_slice.result.now ≡ length c.args.self.now.types = ap length c.as_slice.ensures.value ∙ kept.long in
    subst (λ n. AllBelow n (take c.args.part c.parts_of-parts.result.now)) (sym long)
    (below_take (length c.args.self.now.types) c.args.part c.parts_of-parts.result.now c.parts_of-parts.ensures.known)

pub unreachable-requires : goal.unreachable-requires
unreachable-requires c =
    let kept = subst (λ (t : Table). IsKept t c.self.inside.sizes.items) c.self.view_is c.self.invariant in
    let front = front_words c.args.self.now c.args.id c.requires.words.0 c.requires.words.1 c.args.part in
    let right : AreRight c.args.self.now c.as_slice.result.now = subst (AreRight c.args.self.now) (sym c.as_slice.ensures.value) kept.right in
    let known = subst (λ (s : List Size). IsRightTogether c.args.self.now s (take c.args.part c.parts_of-parts.result.now) c.total.result)
    c.as_slice.ensures.value (c.total.ensures c.args.self.now right) in
    all_known c.args.self.now c.self.inside.sizes.items kept (take c.args.part c.parts_of-parts.result.now) front.0
    (subst (λ (ps : List TyId). TakeTogether c.args.self.now (take c.args.part ps) front.0) (sym c.parts_of-parts.ensures.parts) front.1) front.2
    c.total.result known c.in-Pending.is
