-- What is represented after the frame of the running activation is freed, and the innermost of those that wait goes on.
use Rattle.std.proofs.Common.{◌≡◌, ◌<◌, ◌≤◌, ◌+◌, ◌-◌, ℕ, suc, Bool, true, false, ◌&&◌, not, cond, nat_eq, ◌⊎◌, inl, inr, List, ◌∷◌, Some, None, refl, sym}
use Rattle.std.proofs.Common.{ap, subst, ◌∙◌, arith, zero-add}
use Rattle.std.proofs.lemmas.Bool.Decides.{nat_tests, same_from_decides}
use Rattle.hy_access.specs.declared.access.Range.{Range}
use Rattle.hy_object.specs.declared.object.Fun.{Fun}
use Rattle.hy_object.specs.Checks.{is_name, is_nameless}
use Rattle.hy_object.specs.Controls.{frees_frame, goes_back, leaves_none}
use Rattle.hy_object.specs.States as machine
use Rattle.hy_object.specs.States.{State, Activation, all_below, within, with_at}
use Rattle.hy_store.specs.declared.opened.Opened.{Opened}
use Rattle.hy_store.specs.declared.store.Store.{Store}
use Rattle.hy_store.specs.Cells.{Cell}
use Rattle.hy_store.specs.Frames.{kept, slot_in, with_frame}
use Rattle.hy_store.specs.Held.{AreHeld}
use Rattle.hy_store.specs.Memory.{HasCells, live, with_block}
use Rattle.hy_store.specs.Opened.{abstract_range}
use Rattle.hy_store.specs.Switches.{LeadsTo, Returned, Waits, with_one_freed}
use Rattle.hy_store.specs.Returns.{FreesFrame}
use Rattle.hy_store.specs.Represents.{AreOpened, Ghosts, IsActive, IsInside, IsKept, RepresentsSome, Represents, abstract_slot}
use Rattle.hy_store.proofs.Counted.{all_below_if, both, each_below, joined}
use Rattle.hy_store.proofs.Holding.{freed_one, same_or_other}
use Rattle.hy_store.proofs.Waiting.{caller_active, caller_apart, now_not_caller, now_not_rest, rest_active, seen_of}

-- NAMES THAT ARE LEFT

outside : (name in_words : Bool) → cond name in_words true ≡ true → in_words ≡ false → not name ≡ true
outside true in_words h out = absurd (clash (sym h ∙ out))
  where
    clash : true ≡ false → ⊥
    clash e = cc
outside false in_words h out = refl

nameless : (name in_words : Bool) → not name ≡ true → cond name in_words true ≡ true
nameless true in_words h = absurd (cc)
nameless false in_words h = refl

inside : (name in_words : Bool) → in_words ≡ true → cond name in_words true ≡ true
inside true in_words h = h
inside false in_words h = refl

module _ (n from words : ℕ) (f : machine.Cells) (fits : from + words ≤ n) where
  abbrev kept_only : ℕ → Bool
  kept_only at = cond (is_name (f at)) (within from words at) true

  abbrev before : ℕ → Bool
  before i = not (is_name (f (0 + i)))

  abbrev past : ℕ → Bool
  past i = not (is_name (f (from + words + i)))

  parts : (k : ℕ) → ((k < from) ⊎ ((from ≤ k) × (k < from + words))) ⊎ (from + words ≤ k)
  parts k = grind arith

  not_before : (k : ℕ) → k < from → within from words k ≡ false
  not_before k h = grind (arith, nat_tests)

  not_behind : (k : ℕ) → from + words ≤ k → within from words k ≡ false
  not_behind k h = grind (arith, nat_tests)

  among : (k : ℕ) → from ≤ k → k < from + words → within from words k ≡ true
  among k a b = grind (arith, nat_tests)

  each_before : all_below n kept_only ≡ true → (k : ℕ) → k < from → before k ≡ true
  each_before all k h =
      ap (λ m. not (is_name (f m))) (zero-add k)
      ∙ outside (is_name (f k)) (within from words k) (each_below n kept_only all k (omega (arith, h, fits))) (not_before k h)

  each_behind : all_below n kept_only ≡ true → (k : ℕ) → k < n - (from + words) → past k ≡ true
  each_behind all k h =
      outside (is_name (f (from + words + k))) (within from words (from + words + k))
      (each_below n kept_only all (from + words + k) (omega (arith, h, fits))) (not_behind (from + words + k) (omega arith))

  each : all_below from before ≡ true → all_below (n - (from + words)) past ≡ true → (k : ℕ) → k < n → kept_only k ≡ true
  each first last k h = elim (parts k) [
    | inl (inl less) ↦ nameless (is_name (f k)) (within from words k) (ap (λ m. not (is_name (f m))) (sym (zero-add k)) ∙ each_below from before first k less)
    | inl (inr p) ↦ inside (is_name (f k)) (within from words k) (among k p.0 p.1)
    | inr le ↦
        let e : k ≡ from + words + (k - (from + words)) = omega (arith, le) in
        nameless (is_name (f k)) (within from words k) (ap (λ m. not (is_name (f m))) e
        ∙ each_below (n - (from + words)) past last (k - (from + words)) (omega (arith, h, le)))
  ]

  -- no name is left but in the words of a range: none stands before them, and none after
  pub none_but : all_below n (λ at. cond (is_name (f at)) (within from words at) true) ≡ (all_below from (λ i. not (is_name (f (0 + i)))) && all_below
      (n - (from + words)) (λ i. not (is_name (f (from + words + i)))))
  none_but =
      same_from_decides {P = (all_below from before && all_below (n - (from + words)) past) ≡ true} (all_below n kept_only)
      (all_below from before && all_below (n - (from + words)) past) (
        λ all. joined (all_below from before) (all_below (n - (from + words)) past) (all_below_if from before (each_before all))
            (all_below_if (n - (from + words)) past (each_behind all)),
        λ two. let p = both (all_below from before) (all_below (n - (from + words)) past) two in all_below_if n kept_only (each p.0 p.1),
      )
      (λ h. h, λ h. h)

-- no name is left in the frame: the program looks before the words of the result, and after them
pub leaves_none_is : (g : Ghosts) (store : Store) (fun : Fun) (s : State) → Represents g store fun s → (words : Range) → words.from + words.len ≤ fun.words →
    leaves_none s (abstract_range words) ≡ (is_nameless s (record { block = store.frame; from = 0; words = words.from }) && is_nameless s
    (record { block = store.frame; from = words.from + words.len; words = fun.words - (words.from + words.len) }))
leaves_none_is g store fun s represents words fits =
    ap (λ (f : Fun). all_below f.words (λ at. cond (is_name (s.cells s.now.frame at)) (within words.from words.len at) true)) (sym represents.fun_is)
    ∙ none_but fun.words words.from words.len (s.cells s.now.frame) fits
    ∙ ap (λ b. all_below words.from (λ i. not (is_name (s.cells b (0 + i)))) && all_below (fun.words - (words.from + words.len))
    (λ i. not (is_name (s.cells b (words.from + words.len + i))))) (sym represents.frame)

-- words of the own frame exist
pub own_cells : (store : Store) (fun : Fun) → RepresentsSome store fun → (from words : ℕ) → from + words ≤ fun.words
    → HasCells (live store.blocks store.frame) from words
own_cells store fun represented from words fits =
    let own = represented.2.own in
    subst (λ found. HasCells found from words) (sym own.1) (omega (arith, fits, own.2))

-- A FRAME IS FREED

module _ (old new : Store) (frees : FreesFrame old new) (fun : Fun) (g : Ghosts) (s : State) (represents : Represents g old fun s) where
  frame_taken : s.now.frame < s.counts.blocks
  frame_taken = let k = (represents.held.known old.frame represents.own.0 represents.own.1).named in omega (arith, k, represents.frame)

  blocks_left : (b : ℕ) → live new.blocks b ≡ with_block (live old.blocks) s.now.frame None b
  blocks_left b = frees.blocks b ∙ ap (λ f. with_block (live old.blocks) f None b) represents.frame

  frames_left : (b : ℕ) → kept new.frames b ≡ with_frame (kept old.frames) s.now.frame None b
  frames_left b = frees.frames b ∙ ap (λ f. with_frame (kept old.frames) f None b) represents.frame

  held_left : AreHeld (live new.blocks) g.is_array s.counts.blocks s.cells s.words (with_at s.freed s.now.frame (suc (s.freed s.now.frame)))
  held_left = freed_one g.is_array s.counts.blocks (live old.blocks) (live new.blocks) s.cells s.words s.freed represents.held s.now.frame frame_taken
      blocks_left

  block_left : (b : ℕ) → nat_eq s.now.frame b ≡ false → live new.blocks b ≡ live old.blocks b
  block_left b differs = blocks_left b ∙ ap (λ t. cond t None (live old.blocks b)) differs

  frame_left : (b : ℕ) → nat_eq s.now.frame b ≡ false → kept new.frames b ≡ kept old.frames b
  frame_left b differs = frames_left b ∙ ap (λ t. cond t None (kept old.frames b)) differs

  inside_left : (r : Range) → IsInside (live old.blocks) s.counts.blocks r → IsInside (live new.blocks) s.counts.blocks r
  inside_left r inside = record {
    named = inside.named;
    fits = λ found h. elim (same_or_other s.now.frame r.block) [
      | inl same ↦ absurd (none_some found (sym (blocks_left r.block ∙ ap (λ t. cond t None (live old.blocks r.block)) same.0) ∙ h))
      | inr differs ↦ inside.fits found (sym (block_left r.block differs) ∙ h)
    ];
  }
    where
      none_some : (found : List Cell) → None ≡ Some found → ⊥
      none_some found h = cc

  opened_left : AreOpened new.opened (live new.blocks) s.counts.blocks g.name s.access s.counts.opened
  opened_left = subst (λ (o : Opened). AreOpened o (live new.blocks) s.counts.blocks g.name s.access s.counts.opened) (sym frees.opened) (record {
    told = represents.opened.told;
    ids = represents.opened.ids;
    all = represents.opened.all;
    inside = λ id one h. inside_left one.own (represents.opened.inside id one h);
  })

  -- an activation in another frame stays as it was
  stays : (frame : ℕ) (a : Activation) → nat_eq s.now.frame a.frame ≡ false → IsActive g old s.slots a → IsActive g (record new { frame = frame }) s.slots a
  stays frame a differs active = record {
    own = (active.own.0, block_left a.frame differs ∙ active.own.1, active.own.2);
    slots_are = λ k. active.slots_are k ∙ ap (λ o. abstract_slot (slot_in o k)) (sym (frame_left a.frame differs));
    mine = subst (λ o. IsKept o a.fun a.role) (sym (frame_left a.frame differs)) active.mine;
    no_array = active.no_array;
  }

  pub goes_on_seen : (a : Activation) (rest : List Activation) → s.callers ≡ a ∷ rest → (frame : ℕ) (next : Fun) → a.frame ≡ frame → a.fun ≡ next
      → Represents g (record new { frame = frame }) next (record (frees_frame s) { now = a; callers = rest })
  goes_on_seen a rest waits frame next in_frame of_fun =
      seen_of g (record new { frame = frame }) next (record (frees_frame s) { now = a; callers = rest }) held_left opened_left (sym in_frame) (sym of_fun)
      (stays frame a (now_not_caller g old fun s represents a rest waits) (caller_active g old fun s represents a rest waits))
      (frees.counts ∙ ap with_one_freed represents.counts)
      (λ i b h. stays frame b (now_not_rest g old fun s represents a rest waits i b h) (rest_active g old fun s represents a rest waits i b h))
      (caller_apart g old fun s represents a rest waits)

-- the activation in that frame goes on
pub goes_on : (old new : Store) → FreesFrame old new → (frame : ℕ) (fun next : Fun)
    → LeadsTo fun next old (record new { frame = frame }) (Waits (Some frame) next) Returned (λ s. goes_back (frees_frame s) s.callers)
goes_on old new frees frame fun next = record {
  does = λ g s represents waits.
      let e : goes_back (frees_frame s) s.callers ≡ record (frees_frame s) { now = waits.0; callers = waits.1 } = ap (goes_back (frees_frame s)) waits.2 in (
        g,
        subst (Represents g (record new { frame = frame }) next) (sym e)
            (goes_on_seen old new frees fun g s represents waits.0 waits.1 waits.2 frame next waits.3 waits.4),
        subst (Returned s) (sym e) (record {
          back = record {
            caller = waits.0;
            rest = waits.1;
            waits = waits.2;
            now = refl;
            callers = refl;
            beside = record { left = refl; turns = refl; input = refl; cut = refl; output = refl; stop = refl };
          };
          suspended = refl;
        }),
      );
}
