-- The order of start, where an activation is started, and where one ends.
use Rattle.std.proofs.Common.{◌≡◌, ℕ, Option, Some, None, IsSome, refl, sym, ap, ◌∙◌, arith}
use Rattle.slab.specs.Slab.{Slab, get}
use Rattle.hy_links.specs.Keyed.{numbered}
use Rattle.hy_links.specs.Linked.{look, before_at, after_at, newest_first, listed, AreLinked, IsPushed, IsUnlinked}
use Rattle.hy_links.proofs.Chains.{begins, head-times}
use Rattle.hy_links.proofs.Linked.{stays, near_by, alike_self, puts_told, unlinks_told}
use Rattle.hy_frames.specs.declared.slots.Slot.{Slot}
use Rattle.hy_frames.specs.Slots.{order, with_before, with_after, IsFilled, IsEmptied}

pub pushed : (old new : Slab Slot) (newest : Option ℕ) (slot : Slot) (x : ℕ) → AreLinked order old newest → IsFilled old new slot x
    → slot.links.before ≡ newest → slot.links.after ≡ None → IsPushed order old new newest x (order.held x slot)
pushed old new newest slot x linked fills is_before no_after =
    let tells = rw is_before at fills.newest in
    let same = λ (i : ℕ). stays fills.filled new newest (with_after (Some x)) tells (λ s. Some (order.held i s)) (λ s. refl) i in
    record {
      was_free = fills.was_free;
      puts = puts_told old fills.filled fills.filled new new x slot newest (with_after (Some x)) (λ s. s.links.before) (λ s. s.links.after) fills.fills
          (alike_self fills.filled (λ s. s.links.before)) (alike_self fills.filled (λ s. s.links.after)) (λ i. refl)
          tells (λ s. refl) (λ s. refl)
          (alike_self new (λ s. s.links.before)) (alike_self new (λ s. s.links.after))
          is_before no_after
          (λ i is.
          let there = head-times i (newest_first order old newest)
          (sym (begins (before_at order old) (after_at order old) None newest (newest_first order old newest) linked.chain) ∙ is) in
          let key = linked.in_use i there in
          (λ same_place. let never : IsSome {T = Slot} None = rw (ap (get old) same_place ∙ fills.was_free) at key in cc, key));
      holds = same x ∙ ap (look (λ s. Some (order.held x s))) fills.fills.changed;
      others = λ i differs. same i ∙ ap (look (λ s. Some (order.held i s))) (fills.fills.others i differs);
      one_more = fills.newest.as_many ∙ fills.one_more;
    }

pub unlinked : (old new : Slab Slot) (newest : Option ℕ) (slot : Slot) (x : ℕ) → AreLinked order old newest
    → IsSome (numbered order.number x (listed order old newest)) → IsEmptied old new slot x → IsUnlinked order old new x
unlinked old new newest slot x linked live empties =
    let near = near_by order old newest linked x live in
    let is_before : before_at order old x ≡ slot.links.before = ap (look (λ s. s.links.before)) empties.was in
    let is_after : after_at order old x ≡ slot.links.after = ap (look (λ s. s.links.after)) empties.was in
    record {
      unlinks = unlinks_told old empties.emptied empties.emptied empties.joined new new x slot (with_after slot.links.after) (with_before slot.links.before)
          (λ s. s.links.before) (λ s. s.links.after) empties.was empties.empties
          (alike_self empties.emptied (λ s. s.links.before)) (alike_self empties.emptied (λ s. s.links.after)) (λ i. refl)
          empties.before empties.after (λ s. refl) (λ s. refl) (λ s. refl) (λ s. refl)
          (alike_self new (λ s. s.links.before)) (alike_self new (λ s. s.links.after))
          (λ i is. (near.next_other i (is_before ∙ is), linked.in_use i (near.next_there i (is_before ∙ is))))
          (λ i is. (near.back_other i (is_after ∙ is), linked.in_use i (near.back_there i (is_after ∙ is))));
      others = λ i differs.
          stays empties.joined new slot.links.after (with_before slot.links.before) empties.after (λ s. Some (order.held i s)) (λ s. refl) i
          ∙ stays empties.emptied empties.joined slot.links.before (with_after slot.links.after) empties.before (λ s. Some (order.held i s)) (λ s. refl) i
          ∙ ap (look (λ s. Some (order.held i s))) (empties.empties.others i differs);
      one_less = omega (arith, empties.one_less, empties.before.as_many, empties.after.as_many);
    }
