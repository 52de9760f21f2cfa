-- Locals without words: what is stored to them, and the end of `main`, which hands out such a value.
use Rattle.std.proofs.Common.{◌≡◌, ℕ, suc, ◌+◌, ◌≤◌, Bool, false, not, [], ◌++◌, Some, ℤ, refl, sym, ap, ◌∙◌, subst, arith, slice_get}
use Rattle.std.proofs.lemmas.Bool.{cond_both}
use Rattle.hy_core.specs.Plain as plain
use Rattle.hy_core.specs.Plain.{lent_types}
use Rattle.hy_core.specs.Values.{Val, is_whole}
use Rattle.hy_core.specs.Values as val
use Rattle.hy_core.specs.Memory.{Key, key_eq, set_at, target_of, lending}
use Rattle.hy_core.specs.Memory as memory
use Rattle.hy_core.specs.Runs.{Interaction, Fetch, Perform, interpret, Return}
use Rattle.hy_core.specs.Runs as runs
use Rattle.hy_core.specs.Control.{Control, Setting, form, with_some, key, local_type}
use Rattle.hy_core.specs.Statements.{does, constant}
use Rattle.hy_object.specs.declared.instr.Instr.TheVariants as instr
use Rattle.hy_object.specs.declared.object.Object.{Object}
use Rattle.hy_object.specs.declared.stuck.Kind.TheVariants as kind
use Rattle.hy_object.specs.Checks.{Reach, check, is_name, next, meets, transfers, own_words, may_write, is_whole as whole_range, is_nameless, ends, frees}
use Rattle.hy_object.specs.Checks as checks
use Rattle.hy_object.specs.States.{Unset, Range, State, nth, with_cells, window, moved}
use Rattle.hy_object.specs.Words.{move}
use Rattle.hy_lower.specs.Places.{own, size_at}
use Rattle.hy_lower_laws.specs.WordSteps.{whole_local}
use Rattle.hy_lower_laws.specs.Following.{IsNothing}
use Rattle.hy_lower_laws.proofs.Stands.{At}
use Rattle.hy_lower_laws.proofs.OwnWords.{IsPlain, at_cells, own_is, may_write_is}
use Rattle.hy_lower_laws.proofs.Simulates.{Body, IsBody, Cells, CellIs, Holds, Linked, mach, plain_of, Leads, Follows, goes_on}
use Rattle.hy_lower_laws.proofs.WordSteps.{one}
use Rattle.hy_lower_laws.proofs.Scalars.{key_from}

-- a move of no words
move_none : (m : State) (plain : IsPlain m) (to from : ℕ) → to + 0 ≤ m.now.fun.words → from + 0 ≤ m.now.fun.words
    → move m (own to) (own from) 0 ≡ transfers (next m) (checks.own m from 0).range (checks.own m to 0).range
move_none m plain to from l k =
    let x = checks.own m to 0 in
    let y = checks.own m from 0 in
    let t = transfers (next m) y.range x.range in
    let used = λ (b : Bool). check m kind.Access b t in
    own_is m plain to 0 (λ x. check m kind.Access (may_write m x) (checks.reach m (own from) 0 (λ y. check m kind.Range (not (meets x.range y.range))
    (check m kind.Access (may_write m y) (check m kind.Unset (whole_range m y.range) (check m kind.Lost (is_nameless m x.range) (transfers (next m) y.range
    x.range))))))) l
    ∙ ap (λ b. check m kind.Access b (checks.reach m (own from) 0 (λ y. check m kind.Range (not (meets x.range y.range))
    (check m kind.Access (may_write m y) (check m kind.Unset (whole_range m y.range) (check m kind.Lost (is_nameless m x.range) (transfers (next m) y.range
    x.range))))))) (may_write_is m plain to 0)
    ∙ own_is m plain from 0 (λ y. check m kind.Range (not (meets x.range y.range)) (check m kind.Access (may_write m y)
    (check m kind.Unset (whole_range m y.range) (check m kind.Lost (is_nameless m x.range) (transfers (next m) y.range x.range))))) k
    ∙ ap (λ b. check m kind.Range (not b) (used (may_write m y))) apart
    ∙ ap used (may_write_is m plain from 0)
  where
    apart : meets (checks.own m to 0).range (checks.own m from 0).range ≡ false
    apart = grind arith

pub none_moves : (cells : Cells) (b f t block at : ℕ) → moved cells (record { block = b; from = f; words = 0 }) (record { block = b; from = t; words = 0 })
    block at ≡ cells block at
none_moves cells b f t block at =
    let y : Range = record { block = b; from = f; words = 0 } in
    let x : Range = record { block = b; from = t; words = 0 } in
    at_cells (with_cells cells x (window cells y)) y (λ at. Unset) block at (λ d. d ≡ cells block at) (λ _ a l. absurd (omega arith))
    (λ _. at_cells cells x (window cells y) block at (λ d. d ≡ cells block at) (λ _ a l. absurd (omega arith)) (λ _. refl))

module _ (o : Object) (y : Body) (is : IsBody y) (p : Setting) (c : Control) (s : memory.Cells) (pc : ℕ) (x : State) (k : Linked y c s x) where
  pub typed : (l w : ℕ) (none : IsNothing y.frame l w) → local_type c.now.fun l ≡ Some none.type
  typed l w none = ap (λ f. local_type f l) k.core ∙ sym (is.locals l) ∙ none.typed

  -- other values of locals without words
  holds_with : (l w : ℕ) (none : IsNothing y.frame l w) (v : Val) (new : Cells) → ((block at : ℕ) → new block at ≡ x.cells block at)
      → Holds y c.now.id x.now.frame (record { refers = s.refers; cell = set_at s.cell (key c l) v }) new
  holds_with l w none v new same = record {
    words = λ a u word.
        cond_both (key_eq (key c a) (key c l)) v (s.cell (key c a)) (λ v. CellIs (form y.frame.types word.type) v (new x.now.frame u))
        (λ e. let q = (key_from (key c a) (key c l) e).1 in
        let t : Some word.type ≡ Some none.type = sym word.typed ∙ ap (slice_get y.frame.locals) q ∙ none.typed in
        let z : 1 ≡ 0 = sym word.size ∙ ap (size_at y.frame) t ∙ none.size in
        absurd (omega arith))
        (λ _. subst (CellIs (form y.frame.types word.type) (s.cell (key c a))) (sym (same x.now.frame u)) (k.holds.words a u word));
    nameless = λ block at. ap is_name (same block at) ∙ k.holds.nameless block at;
  }

  -- no words are moved
  pub moves_none : (to from : ℕ) → to ≤ y.object.words → from ≤ y.object.words → nth y.object.code pc ≡ Some (instr.Move (own to) (own from) 0)
      → Leads o (mach c pc x) (mach c (suc pc) (record x {
        cells = moved x.cells (record { block = x.now.frame; from = from; words = 0 })
            (record { block = x.now.frame; from = to; words = 0 });
      }))
  moves_none to from l m h =
      one o y is c s pc x k _ (instr.Move (own to) (own from) 0) h
      (move_none (mach c pc x) (plain_of y c s pc x k) to from
      (subst (λ f. to + 0 ≤ f.words) (sym k.object) (omega arith)) (subst (λ f. from + 0 ≤ f.words) (sym k.object) (omega arith)))

  set_is : (l w : ℕ) (none : IsNothing y.frame l w) (n : ℤ) (v : Val) → constant (form p.core.types none.type) n ≡ Some v
      → interpret lending (does p c (plain.Set (whole_local l) n)) s
      ≡ interpret lending (Return c) (record { refers = s.refers; cell = set_at s.cell (key c l) v })
  set_is l w none n v e =
      ap (λ r. interpret lending (with_some c r (λ t. with_some c (constant (form p.core.types t) n)
      (λ v. Perform (runs.Store (record { key = key c l; path = [] }) v) (Return c)))) s) (typed l w none)
      ∙ ap (λ r. interpret lending (with_some c r (λ v. Perform (runs.Store (record { key = key c l; path = [] }) v) (Return c))) s) e
      ∙ ap (λ o. let z = target_of (key c l) o in
      interpret lending (Return c) (record { refers = s.refers; cell = set_at s.cell z.key (val.put (z.path ++ []) v (s.cell z.key)) })) (k.own (key c l))

  pub nothing_set : (l w : ℕ) (none : IsNothing y.frame l w) (n : ℤ) (v : Val) → constant (form p.core.types none.type) n ≡ Some v → w ≤ y.object.words
      → nth y.object.code pc ≡ Some (instr.Move (own w) (own y.frame.scratch) 0) → At y.frame y.object.code (suc pc) c.now.work
      → Follows o y (interpret lending (does p c (plain.Set (whole_local l) n)) s) (mach c pc x)
  nothing_set l w none n v e fits has at =
      let f = is.scratch in
      let new = moved x.cells (record { block = x.now.frame; from = y.frame.scratch; words = 0 }) (record { block = x.now.frame; from = w; words = 0 }) in
      subst (λ r. Follows o y r (mach c pc x)) (sym (set_is l w none n v e))
      (goes_on (suc pc) (record x { cells = new })
      (record {
        going = k.going;
        stop = k.stop;
        core = k.core;
        object = k.object;
        closed = k.closed;
        own = k.own;
        holds = holds_with l w none v new (none_moves x.cells x.now.frame y.frame.scratch w);
        turns = k.turns;
        core_alone = k.core_alone;
        alone = k.alone;
        role = k.role;
        slots = k.slots;
      })
      at (moves_none w y.frame.scratch fits (omega arith) has))
