-- Single instructions on words of the running body: what each leaves, and where the machine then is.
use Rattle.std.proofs.Common.{◌≡◌, ◌≢◌, ◌⊎◌, inl, inr, ⊎_elim, ℕ, suc, ◌+◌, ◌-◌, ◌≤◌, true, false, Some, ℤ, refl, sym, ap, ◌∙◌, subst, arith}
use Rattle.std.proofs.lemmas.Bool.{cases_eq}
use Rattle.hy_core.specs.Memory.{Key, key_eq, set_at, target_of, lending}
use Rattle.hy_core.specs.Memory as memory
use Rattle.hy_core.specs.Control.{Control, key, form}
use Rattle.hy_object.specs.declared.instr.Instr.{Instr}
use Rattle.hy_object.specs.declared.instr.Instr.TheVariants as instr
use Rattle.hy_object.specs.declared.object.Object.{Object}
use Rattle.hy_object.specs.Checks.{is_name, is_set, puts, next, store, transfers, only}
use Rattle.hy_object.specs.Checks as checks
use Rattle.hy_object.specs.States.{Cell, Unset, Word, Range, State, nth, with_cells, window, moved}
use Rattle.hy_object.specs.Steps.{does}
use Rattle.hy_lower.specs.Places.{own}
use Rattle.hy_lower_laws.proofs.OwnWords.{IsOwn, at_cells, const_is, copy_is, move_is}
use Rattle.hy_lower_laws.proofs.Simulates.{Body, IsBody, Cells, CellIs, Holds, Linked, mach, plain_of, Leads, leads_one}

-- one cell of the frame is another, and all others are the same
pub record Puts (cells new : Cells) (frame w : ℕ) (d : Cell) : Type 0 where
  pub here : new frame w ≡ d
  pub there : (block at : ℕ) → (block ≡ frame → at ≡ w → ⊥) → new block at ≡ cells block at

pub puts_one : (cells : Cells) (frame w : ℕ) (new : ℕ → Cell) → Puts cells (with_cells cells (record { block = frame; from = w; words = 1 }) new) frame w
    (new 0)
puts_one cells frame w new =
    let r : Range = record { block = frame; from = w; words = 1 } in
    let z : w - w ≡ 0 = omega arith in
    record {
      here = at_cells cells r new frame w (λ c. c ≡ new 0) (λ _ _ _. ap new z) (λ out. absurd (out refl (omega arith) (omega arith)));
      there = λ block at out. at_cells cells r new block at (λ c. c ≡ cells block at) (λ e l h. absurd (out e (omega arith))) (λ _. refl);
    }

-- a cell goes to another
pub record Shifts (cells new : Cells) (frame to from : ℕ) : Type 0 where
  pub here : new frame to ≡ cells frame from
  pub gone : new frame from ≡ Unset
  pub there : (block at : ℕ) → (block ≡ frame → at ≡ to → ⊥) → (block ≡ frame → at ≡ from → ⊥) → new block at ≡ cells block at

pub shifts_one : (cells : Cells) (frame to from : ℕ) → to ≢ from
    → Shifts cells (moved cells (record { block = frame; from = from; words = 1 }) (record { block = frame; from = to; words = 1 })) frame to from
shifts_one cells frame to from n =
    let x : Range = record { block = frame; from = to; words = 1 } in
    let y : Range = record { block = frame; from = from; words = 1 } in
    let mid = with_cells cells x (window cells y) in
    let a = puts_one cells frame to (window cells y) in
    let b = puts_one mid frame from (λ at. Unset) in
    let z : from + 0 ≡ from = omega arith in
    record {
      here = b.there frame to (λ _ e. n e) ∙ a.here ∙ ap (cells frame) z;
      gone = b.here;
      there = λ block at p q. b.there block at q ∙ a.there block at p;
    }

module _ (o : Object) (y : Body) (is : IsBody y) (c : Control) (s : memory.Cells) (pc : ℕ) (x : State) (k : Linked y c s x) where
  abbrev pub HasOwn : ℕ → Type 0
  HasOwn w = w + 1 ≤ y.object.words

  pub owned : (w : ℕ) → HasOwn w → IsOwn (mach c pc x) w
  owned w l = subst (λ f. w + 1 ≤ f.words) (sym k.object) l

  pub one : (n : State) (i : Instr) → nth y.object.code pc ≡ Some i → does o (mach c pc x) i ≡ n → Leads o (mach c pc x) n
  one n i h d = leads_one o (mach c pc x) n i k.stop (ap (λ f. nth f.code pc) k.object ∙ h) d

  -- the machine goes on with other cells
  pub record Writes (w : ℕ) (d : Cell) : Type 0 where
    pub cells : Cells
    pub leads : Leads o (mach c pc x) (mach c (suc pc) (record x { cells = cells }))
    pub puts : Puts x.cells cells x.now.frame w d

  pub stores_word : (w : ℕ) (n : ℤ) (i : Instr) → nth y.object.code pc ≡ Some i → does o (mach c pc x) i ≡ store (mach c pc x) (checks.own (mach c pc x) w 1) n
      → Writes w (Word n)
  stores_word w n i h d = record {
    cells = with_cells x.cells (record { block = x.now.frame; from = w; words = 1 }) (only (Word n));
    leads = one _ i h d;
    puts = puts_one x.cells x.now.frame w (only (Word n));
  }

  pub const_writes : (w : ℕ) (n : ℤ) → HasOwn w → nth y.object.code pc ≡ Some (instr.Const w n) → Writes w (Word n)
  const_writes w n l h = stores_word w n (instr.Const w n) h (const_is (mach c pc x) (plain_of y c s pc x k) w n (owned w l))

  pub copy_writes : (to from : ℕ) → HasOwn to → HasOwn from → is_set (x.cells x.now.frame from) ≡ true
      → nth y.object.code pc ≡ Some (instr.Copy (own to) (own from) 1) → Writes to (x.cells x.now.frame from)
  copy_writes to from l m e h =
      let z : from + 0 ≡ from = omega arith in
      let new = window x.cells (record { block = x.now.frame; from = from; words = 1 }) in
      let p = puts_one x.cells x.now.frame to new in
      record {
        cells = with_cells x.cells (record { block = x.now.frame; from = to; words = 1 }) new;
        leads = one _ (instr.Copy (own to) (own from) 1) h (copy_is (mach c pc x) (plain_of y c s pc x k) to from (owned to l) (owned from m) e);
        puts = record { here = p.here ∙ ap (x.cells x.now.frame) z; there = p.there };
      }

  pub record Carries (to from : ℕ) : Type 0 where
    pub cells : Cells
    pub leads : Leads o (mach c pc x) (mach c (suc pc) (record x { cells = cells }))
    pub shifts : Shifts x.cells cells x.now.frame to from

  pub move_carries : (to from : ℕ) → to ≢ from → HasOwn to → HasOwn from → is_set (x.cells x.now.frame from) ≡ true
      → nth y.object.code pc ≡ Some (instr.Move (own to) (own from) 1) → Carries to from
  move_carries to from n l m e h = record {
    cells = moved x.cells (record { block = x.now.frame; from = from; words = 1 }) (record { block = x.now.frame; from = to; words = 1 });
    leads = one _ (instr.Move (own to) (own from) 1) h (move_is (mach c pc x) (plain_of y c s pc x k) to from n (owned to l) (owned from m) e);
    shifts = shifts_one x.cells x.now.frame to from n;
  }

  -- WHAT STAYS

  -- other cells, which hold the same of the locals
  pub linked_with : (new : Cells) → Holds y c.now.id x.now.frame s new → Linked y c s (record x { cells = new })
  linked_with new h = record {
    going = k.going;
    stop = k.stop;
    core = k.core;
    object = k.object;
    closed = k.closed;
    own = k.own;
    holds = h;
    turns =
        k.turns;
    core_alone = k.core_alone;
    alone = k.alone;
    role = k.role;
    slots = k.slots;
  }

  pub nameless_put : (new : Cells) (w : ℕ) (d : Cell) → Puts x.cells new x.now.frame w d → is_name d ≡ false → (block at : ℕ) → is_name (new block at) ≡ false
  nameless_put new w d p e block at =
      ⊎_elim
      (λ q. ap is_name (ap (λ b. new b at) q.0 ∙ ap (new x.now.frame) q.1 ∙ p.here) ∙ e)
      (λ out. ap is_name (p.there block at (λ a b. out (a, b))) ∙ k.holds.nameless block at)
      (same_place block at)
    where
      same_place : (block at : ℕ) → ((block ≡ x.now.frame) × (at ≡ w)) ⊎ ((block ≡ x.now.frame) × (at ≡ w) → ⊥)
      same_place block at = ⊎_elim
          (λ e. ⊎_elim (λ f. inl (e, f)) (λ n. inr (λ q. n q.1)) (cases_eq at w))
          (λ n. inr (λ q. n q.0)) (cases_eq block x.now.frame)

  -- a scratch word changes
  pub scratch_put : (new : Cells) (w : ℕ) (d : Cell) → y.frame.scratch ≤ w → is_name d ≡ false → Puts x.cells new x.now.frame w d
      → Linked y c s (record x { cells = new })
  scratch_put new w d l e p = linked_with new (record {
    words = λ a u is_word. let b = is.below a u is_word in
        subst (CellIs (form y.frame.types is_word.type) (s.cell (key c a))) (sym (p.there x.now.frame u (λ _ q. omega arith))) (k.holds.words a u is_word);
    nameless = nameless_put new w d p e;
  })
