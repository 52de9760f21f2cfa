-- What becomes of the forest where an access is lent, and where one is closed.
use Rattle.std.proofs.Common.{◌≡◌, ◌≢◌, ◌<◌, ℕ, List, [], ◌∷◌, Option, Some, None, IsSome, is_some, refl, sym, ap, subst, ◌∙◌, inl, inr, arith}
use Rattle.std.proofs.lemmas.Bool.{cases_eq}
use Rattle.slab.specs.Slab.{Slab, get}
use Rattle.hy_links.specs.Chains.{head, Chain, times, dropped, AreApart}
use Rattle.hy_links.specs.Linked.{look, before_at, after_at, newest_first, AreLinked, IsPushed, IsUnlinked}
use Rattle.hy_links.proofs.Chains.{begins, head-times, kept, put_in_front, taken_out, neighbours, Neighbours, times-other, times-dropped_other}
use Rattle.hy_links.proofs.Chains.{times-dropped_same, dropped-absent}
use Rattle.hy_links.proofs.Linked.{zero_or_more, none_or_some, cases_some, stays, elsewhere, sets, used, Alike, alike_self, alike_changed, alike_then}
use Rattle.hy_links.proofs.Linked.{puts_told, unlinks_told, started_so}
use Rattle.hy_access.specs.declared.slots.Slot.{Slot}
use Rattle.hy_access.specs.Forest.{order, slot_of_id, parent_at, child_at, older_at, younger_at, children, IsForest, youngest_of, with_before, with_after}
use Rattle.hy_access.specs.Forest.{with_older, with_younger, with_child, IsLent, where_none, first_of_parent, IsClosed}
use Rattle.hy_access.proofs.Children.{children-child, children-other, times-children, has_parent, is_child, apart-children, no_children, children-dropped}
use Rattle.hy_access.proofs.Children.{children-same, behind-same, parent_there, behind-dropped}

-- an access is lent
module _ (old new : Slab Slot) (newest : Option ℕ) (slot : Slot) (x : ℕ) (forest : IsForest old newest) (lent : IsLent old new slot x)
    (is_before : slot.links.before ≡ newest) (no_after : slot.links.after ≡ None)
    (is_older : slot.siblings.before ≡ youngest_of old (slot_of_id slot.parent)) (no_younger : slot.siblings.after ≡ None) (no_child : slot.child ≡ None)
    (parent_live : (p : ℕ) → slot_of_id slot.parent ≡ Some p → 0 < times p (newest_first order old newest)) where
  -- what is found in the slots by a look that none of the three changes touches
  untouched : {Y : Type 0} (find : Slot → Option Y) → ((s : Slot) → find (with_after (Some x) s) ≡ find s)
      → ((s : Slot) → find (with_younger (Some x) s) ≡ find s) → ((s : Slot) → find (with_child (Some x) s) ≡ find s) → (i : ℕ)
      → look find (get new i) ≡ look find (get lent.filled i)
  untouched find after younger child i =
      stays lent.beside new (slot_of_id slot.parent) (with_child (Some x)) lent.child find child i
      ∙ stays lent.behind lent.beside slot.siblings.before (with_younger (Some x)) lent.youngest find younger i
      ∙ stays lent.filled lent.behind slot.links.before (with_after (Some x)) lent.newest find after i

  free_slot : (i : ℕ) → 0 < times i (newest_first order old newest) → i ≢ x
  free_slot i there same =
      let never : IsSome {T = Slot} None = rw (ap (get old) same ∙ lent.was_free) at (forest.linked.in_use i there) in absurd (cc)

  pub pushed : IsPushed order old new newest x (order.held x slot)
  pushed = record {
    was_free = lent.was_free;
    puts = puts_told old lent.filled lent.filled lent.behind new x slot newest (with_after (Some x)) (λ s. s.links.before) (λ s. s.links.after) lent.fills
        (alike_self lent.filled (λ s. s.links.before)) (alike_self lent.filled (λ s. s.links.after)) (λ i. refl)
        (rw is_before at lent.newest) (λ s. refl) (λ s. refl)
        (alike_then lent.behind lent.beside new (λ s. s.links.before)
        (alike_changed lent.behind lent.beside slot.siblings.before (with_younger (Some x)) (λ s. s.links.before) lent.youngest (λ s. refl))
        (alike_changed lent.beside new (slot_of_id slot.parent) (with_child (Some x)) (λ s. s.links.before) lent.child (λ s. refl)))
        (alike_then lent.behind lent.beside new (λ s. s.links.after)
        (alike_changed lent.behind lent.beside slot.siblings.before (with_younger (Some x)) (λ s. s.links.after) lent.youngest (λ s. refl))
        (alike_changed lent.beside new (slot_of_id slot.parent) (with_child (Some x)) (λ s. s.links.after) lent.child (λ s. refl)))
        is_before no_after
        (λ i is.
        let there = head-times i (newest_first order old newest)
        (sym (begins (before_at order old) (after_at order old) None newest (newest_first order old newest) forest.linked.chain) ∙ is) in
        (free_slot i there, forest.linked.in_use i there));
    holds = untouched (λ s. Some (order.held x s)) (λ s. refl) (λ s. refl) (λ s. refl) x ∙ ap (look (λ s. Some (order.held x s))) lent.fills.changed;
    others = λ i differs. untouched (λ s. Some (order.held i s)) (λ s. refl) (λ s. refl) (λ s. refl) i
        ∙ ap (look (λ s. Some (order.held i s))) (lent.fills.others i differs);
    one_more = lent.child.as_many ∙ lent.youngest.as_many ∙ lent.newest.as_many ∙ lent.one_more;
  }

  parent_kept : (i : ℕ) → i ≢ x → parent_at new i ≡ parent_at old i
  parent_kept i differs = untouched (λ s. slot_of_id s.parent) (λ s. refl) (λ s. refl) (λ s. refl) i
      ∙ ap (look (λ s. slot_of_id s.parent)) (lent.fills.others i differs)

  parent_new : parent_at new x ≡ slot_of_id slot.parent
  parent_new = untouched (λ s. slot_of_id s.parent) (λ s. refl) (λ s. refl) (λ s. refl) x ∙ ap (look (λ s. slot_of_id s.parent)) lent.fills.changed

  older_kept : (i : ℕ) → i ≢ x → older_at new i ≡ older_at old i
  older_kept i differs = untouched (λ s. s.siblings.before) (λ s. refl) (λ s. refl) (λ s. refl) i
      ∙ ap (look (λ s. s.siblings.before)) (lent.fills.others i differs)

  younger_away : (i : ℕ) → slot.siblings.before ≢ Some i → younger_at new i ≡ look (λ s. s.siblings.after) (get lent.filled i)
  younger_away i away =
      stays lent.beside new (slot_of_id slot.parent) (with_child (Some x)) lent.child (λ s. s.siblings.after) (λ s. refl) i
      ∙ elsewhere lent.behind lent.beside slot.siblings.before (with_younger (Some x)) lent.youngest (λ s. s.siblings.after) i away
      ∙ stays lent.filled lent.behind slot.links.before (with_after (Some x)) lent.newest (λ s. s.siblings.after) (λ s. refl) i

  child_away : (i : ℕ) → slot_of_id slot.parent ≢ Some i → child_at new i ≡ look (λ s. s.child) (get lent.filled i)
  child_away i away =
      elsewhere lent.beside new (slot_of_id slot.parent) (with_child (Some x)) lent.child (λ s. s.child) i away
      ∙ stays lent.behind lent.beside slot.siblings.before (with_younger (Some x)) lent.youngest (λ s. s.child) (λ s. refl) i
      ∙ stays lent.filled lent.behind slot.links.before (with_after (Some x)) lent.newest (λ s. s.child) (λ s. refl) i

  child_here : (p : ℕ) → slot_of_id slot.parent ≡ Some p → child_at new p ≡ Some x
  child_here p is =
      let there = parent_live p is in
      let key = used lent.behind lent.beside slot.siblings.before (with_younger (Some x)) lent.youngest p
      ∙ used lent.filled lent.behind slot.links.before (with_after (Some x)) lent.newest p
      ∙ ap is_some (lent.fills.others p (free_slot p there))
      ∙ forest.linked.in_use p there in
      sets lent.beside new (slot_of_id slot.parent) (with_child (Some x)) lent.child (λ s. s.child) (Some x) (λ s. refl) p is key

  sibling_in : (o : Option ℕ) (i : ℕ) → ((p : ℕ) → o ≡ Some p → 0 < times p (newest_first order old newest)) → youngest_of old o ≡ Some i → (p : ℕ)
      × (o ≡ Some p) × (0 < times i (children (parent_at old) p (newest_first order old newest)))
  sibling_in None i live is = absurd (cc)
  sibling_in (Some p) i live is =
      let family = children (parent_at old) p (newest_first order old newest) in
      (p, refl, head-times i family (sym (begins (older_at old) (younger_at old) None (child_at old p) family (forest.siblings p (live p refl))) ∙ is))

  -- the sibling that is next to the new one has the same parent
  older_sibling : (i : ℕ) → slot.siblings.before ≡ Some i → (p : ℕ) × (slot_of_id slot.parent ≡ Some p)
      × (0 < times i (children (parent_at old) p (newest_first order old newest)))
  older_sibling i is = sibling_in (slot_of_id slot.parent) i parent_live (sym is_older ∙ is)

  not_before_itself : slot.siblings.before ≢ Some x
  not_before_itself is =
      let sibling = older_sibling x is in
      free_slot x (omega (arith, sibling.2, times-children (parent_at old) sibling.0 x (newest_first order old newest))) refl

  younger_kept : (i : ℕ) → 0 < times i (newest_first order old newest) → ((p : ℕ) → slot_of_id slot.parent ≡ Some p → parent_at old i ≢ Some p)
      → younger_at new i ≡ younger_at old i
  younger_kept i there other =
      let away : slot.siblings.before ≢ Some i = λ is. let sibling = older_sibling i is in
      other sibling.0 sibling.1 (has_parent (parent_at old) sibling.0 i (newest_first order old newest) sibling.2) in
      younger_away i away ∙ ap (look (λ s. s.siblings.after)) (lent.fills.others i (free_slot i there))

  family_same : (n : ℕ) → children (parent_at new) n (newest_first order old newest) ≡ children (parent_at old) n (newest_first order old newest)
  family_same n = children-same (parent_at old) (parent_at new) n (newest_first order old newest) (λ i there. parent_kept i (free_slot i there))

  in_family : (n i : ℕ) → 0 < times i (children (parent_at old) n (newest_first order old newest)) → 0 < times i (newest_first order old newest)
  in_family n i there = omega (arith, there, times-children (parent_at old) n i (newest_first order old newest))

  -- the children of a parent with one more
  grown : (p : ℕ) → slot_of_id slot.parent ≡ Some p
      → Chain (older_at new) (younger_at new) None (child_at new p) (children (parent_at new) p (x ∷ newest_first order old newest))
  grown p is =
      let family = children (parent_at old) p (newest_first order old newest) in
      let chain = forest.siblings p (parent_live p is) in
      let none : times x family ≡ 0 = no_times in
      let puts = puts_told old lent.filled lent.behind lent.beside new x slot (child_at old p) (with_younger (Some x)) (λ s. s.siblings.before)
      (λ s. s.siblings.after) lent.fills
      (alike_changed lent.filled lent.behind slot.links.before (with_after (Some x)) (λ s. s.siblings.before) lent.newest (λ s. refl))
      (alike_changed lent.filled lent.behind slot.links.before (with_after (Some x)) (λ s. s.siblings.after) lent.newest (λ s. refl))
      (used lent.filled lent.behind slot.links.before (with_after (Some x)) lent.newest)
      (rw older at lent.youngest) (λ s. refl) (λ s. refl)
      (alike_changed lent.beside new (slot_of_id slot.parent) (with_child (Some x)) (λ s. s.siblings.before) lent.child (λ s. refl))
      (alike_changed lent.beside new (slot_of_id slot.parent) (with_child (Some x)) (λ s. s.siblings.after) lent.child (λ s. refl))
      older no_younger
      (λ i at. let there = in_family p i (head-times i family (sym (begins (older_at old) (younger_at old) None (child_at old p) family chain) ∙ at)) in
      (free_slot i there, forest.linked.in_use i there)) in
      rw (child_here p is, children-child (parent_at new) p x (newest_first order old newest) (parent_new ∙ is), family_same p)
      (put_in_front (older_at old) (younger_at old) (older_at new) (younger_at new) (child_at old p) x family chain
      (apart-children (parent_at old) p (newest_first order old newest) forest.linked.apart) none puts)
    where
      older : slot.siblings.before ≡ child_at old p
      older = is_older ∙ ap (youngest_of old) is

      no_times : times x (children (parent_at old) p (newest_first order old newest)) ≡ 0
      no_times = elim (zero_or_more (times x (children (parent_at old) p (newest_first order old newest)))) [
        | inl none ↦ none
        | inr there ↦ absurd (free_slot x (in_family p x there) refl)
      ]

  -- the children of any other
  stayed : (n : ℕ) → 0 < times n (newest_first order old newest) → slot_of_id slot.parent ≢ Some n
      → Chain (older_at new) (younger_at new) None (child_at new n) (children (parent_at new) n (x ∷ newest_first order old newest))
  stayed n there away =
      let family = children (parent_at old) n (newest_first order old newest) in
      let same_child : child_at new n ≡ child_at old n = child_away n away ∙ ap (look (λ s. s.child)) (lent.fills.others n (free_slot n there)) in
      rw (same_child, children-other (parent_at new) n x (newest_first order old newest) (λ is. away (sym parent_new ∙ is)), family_same n)
      (kept (older_at old) (younger_at old) (older_at new) (younger_at new) None (child_at old n) family (forest.siblings n there)
      (λ i child. older_kept i (free_slot i (in_family n i child)))
      (λ i child. younger_kept i (in_family n i child) (λ p is mother. let same : n ≡ p =
      cc (has_parent (parent_at old) n i (newest_first order old newest) child, mother) in away (is ∙ ap (λ k. Some k) (sym same)))))

  -- the new one has no children
  alone : Chain (older_at new) (younger_at new) None (child_at new x) (children (parent_at new) x (x ∷ newest_first order old newest))
  alone =
      let away : slot_of_id slot.parent ≢ Some x = λ is. free_slot x (parent_live x is) refl in
      let no_family : children (parent_at old) x (newest_first order old newest) ≡ [] =
      no_children (parent_at old) x (newest_first order old newest)
      (λ i there is. free_slot x (parent_there (parent_at old) (newest_first order old newest) forest.behind i x there is) refl) in
      rw (children-other (parent_at new) x x (newest_first order old newest) (λ is. away (sym parent_new ∙ is)), family_same x, no_family)
      (child_away x away ∙ ap (look (λ s. s.child)) lent.fills.changed ∙ no_child)

  no_siblings : slot_of_id slot.parent ≡ None → slot.siblings.before ≡ None
  no_siblings none = is_older ∙ ap (youngest_of old) none

  root_new : parent_at new x ≡ None → (older_at new x ≡ None) × (younger_at new x ≡ None)
  root_new none = (
    untouched (λ s. s.siblings.before) (λ s. refl) (λ s. refl) (λ s. refl) x ∙ ap (look (λ s. s.siblings.before)) lent.fills.changed
        ∙ no_siblings (sym parent_new ∙ none),
    younger_away x not_before_itself ∙ ap (look (λ s. s.siblings.after)) lent.fills.changed ∙ no_younger,
  )

  pub lent_so : IsForest new (Some x)
  lent_so =
      let start = started_so order old new newest x (order.held x slot) forest.linked pushed in
      record {
        linked = start.linked;
        behind = rw start.order (
          λ p is. parent_live p (sym parent_new ∙ is),
          behind-same (parent_at old) (parent_at new) (newest_first order old newest) (λ i there. parent_kept i (free_slot i there)) forest.behind,
        );
        roots = rw start.order (λ n there none. elim (cases_eq x n) [
          | inl same ↦
              let P : ℕ → Type 0 = λ k. (older_at new k ≡ None) × (younger_at new k ≡ None) in
              subst P same (root_new (ap (parent_at new) same ∙ none))
          | inr differs ↦
              let inner : 0 < times n (newest_first order old newest) = omega (arith, there, times-other n x (newest_first order old newest) differs) in
              let was = sym (parent_kept n (free_slot n inner)) ∙ none in
              let root = forest.roots n inner was in (
                older_kept n (free_slot n inner) ∙ root.0,
                younger_kept n inner (λ p is mother. cc) ∙ root.1,
              )
        ]);
        siblings = rw start.order (λ n there. elim (cases_some (slot_of_id slot.parent) n) [
          | inl is ↦ grown n is
          | inr away ↦ elim (cases_eq x n) [
            | inl same ↦
                let P : ℕ → Type 0 =
                λ k. Chain (older_at new) (younger_at new) None (child_at new k) (children (parent_at new) k (x ∷ newest_first order old newest)) in
                subst P same alone
            | inr differs ↦ stayed n (omega (arith, there, times-other n x (newest_first order old newest) differs)) away
          ]
        ]);
      }

-- an access without children is closed
module _ (old new : Slab Slot) (newest left : Option ℕ) (slot : Slot) (x : ℕ) (forest : IsForest old newest) (closed : IsClosed old new slot x)
    (there : 0 < times x (newest_first order old newest)) (childless : (i : ℕ) → 0 < times i (newest_first order old newest)
    → parent_at old i ≢ Some x) where
  -- what is found in the slots by a look that none of the five changes touches
  same_look : {Y : Type 0} (find : Slot → Option Y) → ((s : Slot) → find (with_after slot.links.after s) ≡ find s)
      → ((s : Slot) → find (with_before slot.links.before s) ≡ find s) → ((s : Slot) → find (with_younger slot.siblings.after s) ≡ find s)
      → ((s : Slot) → find (with_older slot.siblings.before s) ≡ find s) → ((s : Slot) → find (with_child slot.siblings.before s) ≡ find s) → (i : ℕ)
      → i ≢ x → look find (get new i) ≡ look find (get old i)
  same_look find after before younger older child i differs =
      stays closed.younger_told new (first_of_parent slot) (with_child slot.siblings.before) closed.child find child i
      ∙ stays closed.older_told closed.younger_told slot.siblings.after (with_older slot.siblings.before) closed.younger find older i
      ∙ stays closed.linked closed.older_told slot.siblings.before (with_younger slot.siblings.after) closed.older find younger i
      ∙ stays closed.joined closed.linked slot.links.after (with_before slot.links.before) closed.after find before i
      ∙ stays closed.emptied closed.joined slot.links.before (with_after slot.links.after) closed.before find after i
      ∙ ap (look find) (closed.empties.others i differs)

  -- the last three changes leave the order of lending
  order_alike : (find : Slot → Option ℕ) → ((s : Slot) → find (with_younger slot.siblings.after s) ≡ find s)
      → ((s : Slot) → find (with_older slot.siblings.before s) ≡ find s) → ((s : Slot) → find (with_child slot.siblings.before s) ≡ find s)
      → Alike closed.linked new find
  order_alike find younger older child =
      alike_then closed.linked closed.older_told new find
      (alike_changed closed.linked closed.older_told slot.siblings.before (with_younger slot.siblings.after) find closed.older younger)
      (alike_then closed.older_told closed.younger_told new find
      (alike_changed closed.older_told closed.younger_told slot.siblings.after (with_older slot.siblings.before) find closed.younger older)
      (alike_changed closed.younger_told new (first_of_parent slot) (with_child slot.siblings.before) find closed.child child))

  -- the first two leave the siblings
  siblings_alike : (find : Slot → Option ℕ) → ((s : Slot) → find (with_after slot.links.after s) ≡ find s)
      → ((s : Slot) → find (with_before slot.links.before s) ≡ find s) → Alike closed.emptied closed.linked find
  siblings_alike find after before =
      alike_then closed.emptied closed.joined closed.linked find
      (alike_changed closed.emptied closed.joined slot.links.before (with_after slot.links.after) find closed.before after)
      (alike_changed closed.joined closed.linked slot.links.after (with_before slot.links.before) find closed.after before)

  used_linked : (i : ℕ) → is_some (get closed.linked i) ≡ is_some (get closed.emptied i)
  used_linked i =
      used closed.joined closed.linked slot.links.after (with_before slot.links.before) closed.after i
      ∙ used closed.emptied closed.joined slot.links.before (with_after slot.links.after) closed.before i

  pub unlinked : IsUnlinked order old new x
  unlinked =
      let near = neighbours (before_at order old) (after_at order old) newest x
      (newest_first order old newest) forest.linked.chain forest.linked.apart there in
      let is_before : before_at order old x ≡ slot.links.before = ap (look (λ s. s.links.before)) closed.was in
      let is_after : after_at order old x ≡ slot.links.after = ap (look (λ s. s.links.after)) closed.was in
      record {
        unlinks = unlinks_told old closed.emptied closed.emptied closed.joined closed.linked new x slot (with_after slot.links.after)
            (with_before slot.links.before) (λ s. s.links.before) (λ s. s.links.after) closed.was closed.empties
            (alike_self closed.emptied (λ s. s.links.before)) (alike_self closed.emptied (λ s. s.links.after)) (λ i. refl)
            closed.before closed.after (λ s. refl) (λ s. refl) (λ s. refl) (λ s. refl)
            (order_alike (λ s. s.links.before) (λ s. refl) (λ s. refl) (λ s. refl))
            (order_alike (λ s. s.links.after) (λ s. refl) (λ s. refl) (λ s. refl))
            (λ i is. (near.next_other i (is_before ∙ is), forest.linked.in_use i (near.next_there i (is_before ∙ is))))
            (λ i is. (near.back_other i (is_after ∙ is), forest.linked.in_use i (near.back_there i (is_after ∙ is))));
        others = λ i differs. same_look (λ s. Some (order.held i s)) (λ s. refl) (λ s. refl) (λ s. refl) (λ s. refl) (λ s. refl) i differs;
        one_less = omega (
          arith,
          closed.one_less,
          closed.child.as_many,
          closed.younger.as_many,
          closed.older.as_many,
          closed.after.as_many,
          closed.before.as_many,
        );
      }

  is_older : older_at old x ≡ slot.siblings.before
  is_older = ap (look (λ s. s.siblings.before)) closed.was

  is_younger : younger_at old x ≡ slot.siblings.after
  is_younger = ap (look (λ s. s.siblings.after)) closed.was

  is_parent : parent_at old x ≡ slot_of_id slot.parent
  is_parent = ap (look (λ s. slot_of_id s.parent)) closed.was

  family_apart : (n : ℕ) → AreApart (children (parent_at old) n (newest_first order old newest))
  family_apart n = apart-children (parent_at old) n (newest_first order old newest) forest.linked.apart

  of_family : (n i : ℕ) → 0 < times i (children (parent_at old) n (newest_first order old newest)) → 0 < times i (newest_first order old newest)
  of_family n i member = omega (arith, member, times-children (parent_at old) n i (newest_first order old newest))

  -- a neighbour among the siblings: it is another, and has the same parent
  record IsSibling (i : ℕ) : Type 0 where
    mother : ℕ
    of_closed : parent_at old x ≡ Some mother
    of_other : parent_at old i ≡ Some mother
    is_other : i ≢ x
    lives : 0 < times i (newest_first order old newest)

  near_family : (p : ℕ) → parent_at old x ≡ Some p → Neighbours (older_at old) (younger_at old) x (children (parent_at old) p (newest_first order old newest))
  near_family p is =
      neighbours (older_at old) (younger_at old) (child_at old p) x (children (parent_at old) p (newest_first order old newest))
      (forest.siblings p (parent_there (parent_at old) (newest_first order old newest) forest.behind x p there is)) (family_apart p)
      (is_child (parent_at old) p x (newest_first order old newest) there is)

  older_is : (i : ℕ) → slot.siblings.before ≡ Some i → (o : Option ℕ) → parent_at old x ≡ o → IsSibling i
  older_is i is None root = absurd (cc (sym (forest.roots x there root).0 ∙ is_older ∙ is))
  older_is i is (Some p) mother =
      let near = near_family p mother in
      let member = near.next_there i (is_older ∙ is) in
      record {
        mother = p;
        of_closed = mother;
        of_other = has_parent (parent_at old) p i (newest_first order old newest) member;
        is_other = near.next_other i (is_older ∙ is);
        lives = of_family p i member;
      }

  younger_is : (i : ℕ) → slot.siblings.after ≡ Some i → (o : Option ℕ) → parent_at old x ≡ o → IsSibling i
  younger_is i is None root = absurd (cc (sym (forest.roots x there root).1 ∙ is_younger ∙ is))
  younger_is i is (Some p) mother =
      let near = near_family p mother in
      let member = near.back_there i (is_younger ∙ is) in
      record {
        mother = p;
        of_closed = mother;
        of_other = has_parent (parent_at old) p i (newest_first order old newest) member;
        is_other = near.back_other i (is_younger ∙ is);
        lives = of_family p i member;
      }

  emptied_same : {Y : Type 0} (find : Slot → Option Y) → ((s : Slot) → find (with_after slot.links.after s) ≡ find s)
      → ((s : Slot) → find (with_before slot.links.before s) ≡ find s) → (i : ℕ) → i ≢ x → look find (get closed.linked i) ≡ look find (get old i)
  emptied_same find after before i differs =
      stays closed.joined closed.linked slot.links.after (with_before slot.links.before) closed.after find before i
      ∙ stays closed.emptied closed.joined slot.links.before (with_after slot.links.after) closed.before find after i
      ∙ ap (look find) (closed.empties.others i differs)

  older_stays : (i : ℕ) → i ≢ x → slot.siblings.after ≢ Some i → older_at new i ≡ older_at old i
  older_stays i differs away =
      stays closed.younger_told new (first_of_parent slot) (with_child slot.siblings.before) closed.child (λ s. s.siblings.before) (λ s. refl) i
      ∙ elsewhere closed.older_told closed.younger_told slot.siblings.after (with_older slot.siblings.before) closed.younger (λ s. s.siblings.before) i away
      ∙ stays closed.linked closed.older_told slot.siblings.before (with_younger slot.siblings.after) closed.older (λ s. s.siblings.before) (λ s. refl) i
      ∙ emptied_same (λ s. s.siblings.before) (λ s. refl) (λ s. refl) i differs

  younger_stays : (i : ℕ) → i ≢ x → slot.siblings.before ≢ Some i → younger_at new i ≡ younger_at old i
  younger_stays i differs away =
      stays closed.younger_told new (first_of_parent slot) (with_child slot.siblings.before) closed.child (λ s. s.siblings.after) (λ s. refl) i
      ∙ stays closed.older_told closed.younger_told slot.siblings.after (with_older slot.siblings.before) closed.younger (λ s. s.siblings.after) (λ s. refl) i
      ∙ elsewhere closed.linked closed.older_told slot.siblings.before (with_younger slot.siblings.after) closed.older (λ s. s.siblings.after) i away
      ∙ emptied_same (λ s. s.siblings.after) (λ s. refl) (λ s. refl) i differs

  child_before : (i : ℕ) → i ≢ x → look (λ s. s.child) (get closed.younger_told i) ≡ child_at old i
  child_before i differs =
      stays closed.older_told closed.younger_told slot.siblings.after (with_older slot.siblings.before) closed.younger (λ s. s.child) (λ s. refl) i
      ∙ stays closed.linked closed.older_told slot.siblings.before (with_younger slot.siblings.after) closed.older (λ s. s.child) (λ s. refl) i
      ∙ emptied_same (λ s. s.child) (λ s. refl) (λ s. refl) i differs

  child_stays : (i : ℕ) → i ≢ x → first_of_parent slot ≢ Some i → child_at new i ≡ child_at old i
  child_stays i differs away = elsewhere closed.younger_told new (first_of_parent slot) (with_child slot.siblings.before) closed.child (λ s. s.child) i away
      ∙ child_before i differs

  used_told : (i : ℕ) → is_some (get closed.younger_told i) ≡ is_some (get closed.emptied i)
  used_told i =
      used closed.older_told closed.younger_told slot.siblings.after (with_older slot.siblings.before) closed.younger i
      ∙ used closed.linked closed.older_told slot.siblings.before (with_younger slot.siblings.after) closed.older i
      ∙ used_linked i

  child_set : (p : ℕ) → p ≢ x → 0 < times p (newest_first order old newest) → first_of_parent slot ≡ Some p → child_at new p ≡ slot.siblings.before
  child_set p differs lives is =
      sets closed.younger_told new (first_of_parent slot) (with_child slot.siblings.before) closed.child (λ s. s.child) slot.siblings.before (λ s. refl) p is
      (used_told p ∙ ap is_some (closed.empties.others p differs) ∙ forest.linked.in_use p lives)

  first_none : slot.siblings.after ≡ None → first_of_parent slot ≡ slot_of_id slot.parent
  first_none none = ap (λ o. where_none o (slot_of_id slot.parent)) none

  first_some : (o other : Option ℕ) → o ≢ None → where_none o other ≡ None
  first_some None other some = absurd (some refl)
  first_some (Some i) other some = refl

  first_is_parent : (o : Option ℕ) (other : Option ℕ) (n : ℕ) → where_none o other ≡ Some n → other ≡ Some n
  first_is_parent None other n is = is
  first_is_parent (Some i) other n is = absurd (cc)

  in_left : (i : ℕ) → 0 < times i (dropped x (newest_first order old newest)) → (i ≢ x) × (0 < times i (newest_first order old newest))
  in_left i left_there = elim (cases_eq i x) [
    | inl same ↦ absurd (omega (
      arith,
      left_there,
      ap (λ k. times k (dropped x (newest_first order old newest))) same,
      times-dropped_same x (newest_first order old newest),
    ))
    | inr differs ↦ (differs, omega (arith, left_there, times-dropped_other x i (newest_first order old newest) differs))
  ]

  parent_stays : (i : ℕ) → i ≢ x → parent_at new i ≡ parent_at old i
  parent_stays i differs = same_look (λ s. slot_of_id s.parent) (λ s. refl) (λ s. refl) (λ s. refl) (λ s. refl) (λ s. refl) i differs

  family_left : (n : ℕ)
      → children (parent_at new) n (dropped x (newest_first order old newest)) ≡ dropped x (children (parent_at old) n (newest_first order old newest))
  family_left n =
      children-same (parent_at old) (parent_at new) n (dropped x (newest_first order old newest)) (λ i member. parent_stays i (in_left i member).0)
      ∙ children-dropped (parent_at old) n x (newest_first order old newest)

  -- the family of the one that is closed
  shrunk : (p : ℕ) → parent_at old x ≡ Some p
      → Chain (older_at new) (younger_at new) None (child_at new p) (children (parent_at new) p (dropped x (newest_first order old newest)))
  shrunk p mother =
      let family = children (parent_at old) p (newest_first order old newest) in
      let lives = parent_there (parent_at old) (newest_first order old newest) forest.behind x p there mother in
      let not_itself : p ≢ x = λ same. childless x there (mother ∙ ap (λ k. Some k) same) in
      let unlinks =
      unlinks_told old closed.emptied closed.linked closed.older_told closed.younger_told new x slot (with_younger slot.siblings.after)
      (with_older slot.siblings.before) (λ s. s.siblings.before) (λ s. s.siblings.after) closed.was closed.empties
      (siblings_alike (λ s. s.siblings.before) (λ s. refl) (λ s. refl)) (siblings_alike (λ s. s.siblings.after) (λ s. refl) (λ s. refl)) used_linked
      closed.older closed.younger (λ s. refl) (λ s. refl) (λ s. refl) (λ s. refl)
      (alike_changed closed.younger_told new (first_of_parent slot) (with_child slot.siblings.before) (λ s. s.siblings.before) closed.child (λ s. refl))
      (alike_changed closed.younger_told new (first_of_parent slot) (with_child slot.siblings.before) (λ s. s.siblings.after) closed.child (λ s. refl))
      (λ i is. let sibling = older_is i is (Some p) mother in (sibling.is_other, forest.linked.in_use i sibling.lives))
      (λ i is. let sibling = younger_is i is (Some p) mother in (sibling.is_other, forest.linked.in_use i sibling.lives)) in
      let rest = taken_out (older_at old) (younger_at old) (older_at new) (younger_at new) (child_at old p) x family (forest.siblings p lives)
      (family_apart p) (is_child (parent_at old) p x (newest_first order old newest) there mother) unlinks in
      let begin : child_at new p ≡ head (dropped x family) = elim (none_or_some slot.siblings.after) [
        | inl none ↦ child_set p not_itself lives (first_none none ∙ sym is_parent ∙ mother) ∙ sym is_older ∙ sym (rest.first_left (is_younger ∙ none))
        | inr some ↦ child_stays p not_itself (λ is. cc (sym (first_some slot.siblings.after (slot_of_id slot.parent) some) ∙ is))
            ∙ sym (rest.first_stays (λ none. some (sym is_younger ∙ none)))
      ] in
      rw (family_left p, begin) rest.chain

  -- any other family
  spared : (n : ℕ) → n ≢ x → 0 < times n (newest_first order old newest) → parent_at old x ≢ Some n
      → Chain (older_at new) (younger_at new) None (child_at new n) (children (parent_at new) n (dropped x (newest_first order old newest)))
  spared n differs lives away =
      let family = children (parent_at old) n (newest_first order old newest) in
      let same_child : child_at new n ≡ child_at old n =
      child_stays n differs (λ is. away (is_parent ∙ first_is_parent slot.siblings.after (slot_of_id slot.parent) n is)) in
      let mine : (i : ℕ) → 0 < times i family → parent_at old i ≡ Some n = λ i member. has_parent (parent_at old) n i (newest_first order old newest) member in
      let not_closed : (i : ℕ) → 0 < times i family → i ≢ x = λ i member same. away (ap (parent_at old) (sym same) ∙ mine i member) in
      let none : times x family ≡ 0 = elim (zero_or_more (times x family)) [
        | inl none ↦ none
        | inr member ↦ absurd (away (mine x member))
      ] in
      rw (family_left n, dropped-absent x family none, same_child)
      (kept (older_at old) (younger_at old) (older_at new) (younger_at new) None (child_at old n) family (forest.siblings n lives)
      (λ i member. older_stays i (not_closed i member) (λ is. let sibling = younger_is i is (parent_at old x) refl in
      let same : n ≡ sibling.mother = cc (mine i member, sibling.of_other) in away (sibling.of_closed ∙ ap (λ k. Some k) (sym same))))
      (λ i member. younger_stays i (not_closed i member) (λ is. let sibling = older_is i is (parent_at old x) refl in
      let same : n ≡ sibling.mother = cc (mine i member, sibling.of_other) in away (sibling.of_closed ∙ ap (λ k. Some k) (sym same)))))

  pub closed_so : AreLinked order new left → newest_first order new left ≡ dropped x (newest_first order old newest) → IsForest new left
  closed_so linked is_order = record {
    linked = linked;
    behind = rw is_order (behind-same (parent_at old) (parent_at new) (dropped x (newest_first order old newest))
        (λ i member. parent_stays i (in_left i member).0) (behind-dropped (parent_at old) x (newest_first order old newest) forest.behind childless));
    roots = rw is_order (λ n member none.
        let inner = in_left n member in
        let was = sym (parent_stays n inner.0) ∙ none in
        let root = forest.roots n inner.1 was in (
          older_stays n inner.0 (λ is. let sibling = younger_is n is (parent_at old x) refl in cc (was, sibling.of_other)) ∙ root.0,
          younger_stays n inner.0 (λ is. let sibling = older_is n is (parent_at old x) refl in cc (was, sibling.of_other)) ∙ root.1,
        ));
    siblings = rw is_order (λ n member.
        let inner = in_left n member in
        elim (cases_some (parent_at old x) n) [
          | inl is ↦ shrunk n is
          | inr away ↦ spared n inner.0 inner.1 away
        ]);
  }

-- running out of memory leaves the forest as it is
pub unchanged : (old new : Slab Slot) (newest : Option ℕ) → new.slots ≡ old.slots → IsForest old newest → IsForest new newest
unchanged old new newest same forest =
    let P : List (Option Slot) → Type 0 = λ slots. IsForest (record { slots = slots; vacant_key = new.vacant_key; capacity = new.capacity }) newest in
    subst P (sym same) (record {
      linked = record { chain = forest.linked.chain; apart = forest.linked.apart; in_use = forest.linked.in_use; all = forest.linked.all };
      behind = forest.behind;
      roots = forest.roots;
      siblings = forest.siblings;
    })
