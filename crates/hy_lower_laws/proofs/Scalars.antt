-- A number or truth value is read from a local to a scratch word, and stored from there to a local.
use Rattle.std.proofs.Common.{◌≡◌, ⊎_elim, ℕ, suc, ◌+◌, ◌≤◌, eqb, Bool, true, [], ◌++◌, Some, ℤ, refl, sym, ap, ◌∙◌, subst, arith, slice_get}
use Rattle.std.proofs.lemmas.Bool.{cond_both, and_parts, eqb-true, and_from, eq-eqb, cases_eq, true≢false}
use Rattle.hy_base.specs.declared.numbers.IntegerType.TheVariants.{Int, Sized}
use Rattle.hy_types.specs.declared.kinds.TyId.{TyId}
use Rattle.hy_core.specs.Plain as plain
use Rattle.hy_core.specs.Values.{Val, Number, Truth, Tuple, Product, Array}
use Rattle.hy_core.specs.Values as val
use Rattle.hy_core.specs.Memory.{Key, key_eq, set_at, target_of, lending}
use Rattle.hy_core.specs.Memory as memory
use Rattle.hy_core.specs.Runs.{Interaction, Fetch, Perform, Return, interpret}
use Rattle.hy_core.specs.Runs as runs
use Rattle.hy_core.specs.Control.{Control, Setting, NotSet, key, read, write, with_some, with_set, local_type, Form, Numbers, Flags, form}
use Rattle.hy_object.specs.declared.instr.Instr.TheVariants as instr
use Rattle.hy_object.specs.declared.object.Object.{Object}
use Rattle.hy_object.specs.Checks.{is_name, is_set}
use Rattle.hy_object.specs.States.{Word, State, nth}
use Rattle.hy_object.specs.Words.{truth}
use Rattle.hy_lower.specs.declared.body.Home.TheVariants.{Words}
use Rattle.hy_lower.specs.Frames.{home_of}
use Rattle.hy_lower.specs.Places.{own}
use Rattle.hy_lower_laws.proofs.Stands.{At}
use Rattle.hy_lower_laws.proofs.Simulates.{Body, IsBody, IsWord, Cells, CellIs, Holds, Linked, mach, Follows, goes_on, wrong, not_set, leads_follows}
use Rattle.hy_lower_laws.proofs.WordSteps.{Shifts, Writes, copy_writes, move_carries, scratch_put}

-- a number or truth value of that form, and its word
pub data Scalar (f : Form) (v : Val) (n : ℤ) : Type 0 where
  number : f ≡ Numbers Int → v ≡ Number Int n → Scalar f v n
  flag : (b : Bool) → f ≡ Flags → v ≡ Truth b → n ≡ truth b → Scalar f v n

pub scalar_cell : (f : Form) (v : Val) (n : ℤ) → Scalar f v n → CellIs f v (Word n)
scalar_cell f v n (number k e) = subst (λ v. CellIs f v (Word n)) (sym e) (refl, k)
scalar_cell f v n (flag b k e d) = subst (λ v. CellIs f v (Word n)) (sym e) (ap Word d, k)

abbrev pub whole_local : ℕ → plain.Place
whole_local l = record { local = l; steps = [] }

pub key_from : (j k : Key) → key_eq j k ≡ true → (j.act ≡ k.act) × (j.local ≡ k.local)
key_from j k e = let h = and_parts (eqb j.act k.act) (eqb j.local k.local) e in (eqb-true j.act k.act h.0, eqb-true j.local k.local h.1)

pub key_to : (j k : Key) → j.act ≡ k.act → j.local ≡ k.local → key_eq j k ≡ true
key_to j k a b = and_from (eqb j.act k.act) (eqb j.local k.local) (eq-eqb j.act k.act a) (eq-eqb j.local k.local b)

one_type : (t u : TyId) → Some t ≡ Some u → t ≡ u
one_type t u e = cc

one_home : (u w : ℕ) → Words u ≡ Words w → u ≡ w
one_home u w e = cc

module _ (o : Object) (y : Body) (is : IsBody y) (c : Control) (s : memory.Cells) (pc : ℕ) (x : State) (k : Linked y c s x) where
  typed : (l w : ℕ) (word : IsWord y.frame l w) → local_type c.now.fun l ≡ Some word.type
  typed l w word = ap (λ f. local_type f l) k.core ∙ sym (is.locals l) ∙ word.typed

  pub in_frame : (l w : ℕ) → IsWord y.frame l w → w + 1 ≤ y.object.words
  in_frame l w word = let b = is.below l w word in let f = is.scratch in omega arith

  -- what a read of a whole local does
  read_is : (p : Setting) (l w : ℕ) (word : IsWord y.frame l w) (go : Control → Val → Interaction Control) (v : Val) → s.cell (key c l) ≡ v
      → interpret lending (read p c (whole_local l) go) s ≡ interpret lending (with_set c v (go c v)) s
  read_is p l w word go v e =
      ap (λ o. interpret lending (with_some c o (λ t. Fetch (record { key = key c l; path = [] }) (λ v. with_set c v (go c v)))) s) (typed l w word)
      ∙ ap (λ o. let z = target_of (key c l) o in
      let v = val.get (z.path ++ []) (s.cell z.key) in
      interpret lending (with_set c v (go c v)) s) (k.own (key c l))
      ∙ ap (λ v. interpret lending (with_set c v (go c v)) s) e

  -- A local is read to a scratch word: the core goes on with its value, and the machine with that word.
  pub loads : (p : Setting) (l w to : ℕ) (word : IsWord y.frame l w) → y.frame.scratch ≤ to → to + 1 ≤ y.object.words
      → nth y.object.code pc ≡ Some (instr.Copy (own to) (own w) 1) → (go : Control → Val → Interaction Control)
      → ((v : Val) (n : ℤ) → Scalar (form y.frame.types word.type) v n → (r : Writes o y is c s pc x k to (Word n)) → Linked y c s (record x {
        cells =
            r.cells;
      })
      → Follows o y (interpret lending (go c v) s) (mach c (suc pc) (record x { cells = r.cells })))
      → Follows o y (interpret lending (read p c (whole_local l) go) s) (mach c pc x)
  loads p l w to word le fits has go rest = by (s.cell (key c l)) refl (k.holds.words l w word)
    where
      goes : (v : Val) (n : ℤ) → Scalar (form y.frame.types word.type) v n → x.cells x.now.frame w ≡ Word n → Follows o y (interpret lending (go c v) s)
          (mach c pc x)
      goes v n scalar d =
          let r = subst (Writes o y is c s pc x k to) d (copy_writes o y is c s pc x k to w fits (in_frame l w word) (ap is_set d) has) in
          leads_follows o y (interpret lending (go c v) s) (mach c pc x) (mach c (suc pc) (record x { cells = r.cells })) r.leads
          (rest v n scalar r (scratch_put o y is c s pc x k r.cells to (Word n) le refl r.puts))

      after : (v : Val) → s.cell (key c l) ≡ v → Follows o y (interpret lending (with_set c v (go c v)) s) (mach c pc x)
          → Follows o y (interpret lending (read p c (whole_local l) go) s) (mach c pc x)
      after v e f = subst (λ r. Follows o y r (mach c pc x)) (sym (read_is p l w word go v e)) f

      by : (v : Val) → s.cell (key c l) ≡ v → CellIs (form y.frame.types word.type) v (x.cells x.now.frame w) → Follows o y (interpret lending (read p c
          (whole_local l) go) s) (mach c pc x)
      by val.Unset e d = after val.Unset e (wrong NotSet refl not_set)
      by (Number Int n) e d = after (Number Int n) e (goes (Number Int n) n (number d.1 refl) d.0)
      by (Number (Sized num) n) e d = absurd d
      by (Truth b) e d = after (Truth b) e (goes (Truth b) (truth b) (flag b d.1 refl refl) d.0)
      by (Tuple vs) e d = absurd d
      by (Product a vs) e d = absurd d
      by (Array vs) e d = absurd d

  -- The value of a local is fetched, and copied to a scratch word.
  pub fetches : (l w to : ℕ) (word : IsWord y.frame l w) → y.frame.scratch ≤ to → to + 1 ≤ y.object.words
      → nth y.object.code pc ≡ Some (instr.Copy (own to) (own w) 1) → (go : Val → Interaction Control)
      → Follows o y (interpret lending (go val.Unset) s) (mach c pc x)
      → ((v : Val) (n : ℤ) → Scalar (form y.frame.types word.type) v n → (r : Writes o y is c s pc x k to (Word n)) → Linked y c s (record x {
        cells =
            r.cells;
      })
      → Follows o y (interpret lending (go v) s) (mach c (suc pc) (record x { cells = r.cells })))
      → Follows o y (interpret lending (Fetch (memory.whole (key c l)) go) s) (mach c pc x)
  fetches l w to word le fits has go unset rest = by (s.cell (key c l)) refl (k.holds.words l w word)
    where
      after : (v : Val) → s.cell (key c l) ≡ v → Follows o y (interpret lending (go v) s) (mach c pc x)
          → Follows o y (interpret lending (Fetch (memory.whole (key c l)) go) s) (mach c pc x)
      after v e f = subst (λ r. Follows o y r (mach c pc x)) (sym (
          ap (λ o. let z = target_of (key c l) o in interpret lending (go (val.get (z.path ++ []) (s.cell z.key))) s) (k.own (key c l))
          ∙ ap (λ v. interpret lending (go v) s) e)) f

      goes : (v : Val) (n : ℤ) → Scalar (form y.frame.types word.type) v n → s.cell (key c l) ≡ v → x.cells x.now.frame w ≡ Word n
          → Follows o y (interpret lending (Fetch (memory.whole (key c l)) go) s) (mach c pc x)
      goes v n scalar e d =
          let r = subst (Writes o y is c s pc x k to) d (copy_writes o y is c s pc x k to w fits (in_frame l w word) (ap is_set d) has) in
          after v e (leads_follows o y (interpret lending (go v) s) (mach c pc x) (mach c (suc pc) (record x { cells = r.cells })) r.leads
          (rest v n scalar r (scratch_put o y is c s pc x k r.cells to (Word n) le refl r.puts)))

      by : (v : Val) → s.cell (key c l) ≡ v → CellIs (form y.frame.types word.type) v (x.cells x.now.frame w)
          → Follows o y (interpret lending (Fetch (memory.whole (key c l)) go) s) (mach c pc x)
      by val.Unset e d = after val.Unset e unset
      by (Number Int n) e d = goes (Number Int n) n (number d.1 refl) e d.0
      by (Number (Sized num) n) e d = absurd d
      by (Truth b) e d = goes (Truth b) (truth b) (flag b d.1 refl refl) e d.0
      by (Tuple vs) e d = absurd d
      by (Product a vs) e d = absurd d
      by (Array vs) e d = absurd d

  -- what a store to a whole local does
  write_is : (p : Setting) (l w : ℕ) (word : IsWord y.frame l w) (v : Val) (go : Control → Interaction Control)
      → interpret lending (write p c (whole_local l) v go) s ≡ interpret lending (go c) (record { refers = s.refers; cell = set_at s.cell (key c l) v })
  write_is p l w word v go =
      ap (λ o. interpret lending (with_some c o (λ t. Perform (runs.Store (record { key = key c l; path = [] }) v) (go c))) s) (typed l w word)
      ∙ ap (λ o. let z = target_of (key c l) o in
      interpret lending (go c) (record { refers = s.refers; cell = set_at s.cell z.key (val.put (z.path ++ []) v (s.cell z.key)) })) (k.own (key c l))

  -- the cells after the first scratch word was moved to a local
  stored : (l w : ℕ) (word : IsWord y.frame l w) (v : Val) (n : ℤ) → Scalar (form y.frame.types word.type) v n → x.cells x.now.frame y.frame.scratch ≡ Word n
      → (new : Cells) → Shifts x.cells new x.now.frame w y.frame.scratch
      → Holds y c.now.id x.now.frame (record { refers = s.refers; cell = set_at s.cell (key c l) v }) new
  stored l w word v n scalar d new f = record {
    words = λ a u is_word.
        cond_both (key_eq (key c a) (key c l)) v (s.cell (key c a)) (λ v. CellIs (form y.frame.types is_word.type) v (new x.now.frame u))
        (λ e. let same = (key_from (key c a) (key c l) e).1 in
        let home : Words u ≡ Words w = sym is_word.home ∙ ap (home_of y.frame) same ∙ word.home in
        let kind : Some is_word.type ≡ Some word.type = sym is_word.typed ∙ ap (slice_get y.frame.locals) same ∙ word.typed in
        let type = one_type is_word.type word.type kind in
        subst (CellIs (form y.frame.types is_word.type) v) (sym (ap (new x.now.frame) (one_home u w home) ∙ f.here ∙ d))
        (subst (λ t. CellIs (form y.frame.types t) v (Word n)) (sym type) (scalar_cell (form y.frame.types word.type) v n scalar)))
        (λ e. let other : u ≡ w → ⊥ = λ q. true≢false (sym (key_to (key c a) (key c l) refl
        (is.apart a l w (subst (IsWord y.frame a) q is_word) word)) ∙ e) in
        let b = is.below a u is_word in
        subst (CellIs (form y.frame.types is_word.type) (s.cell (key c a))) (sym (f.there x.now.frame u (λ _ q. other q) (λ _ q. omega arith)))
        (k.holds.words a u is_word));
    nameless = λ block at. ⊎_elim
        (λ e. ⊎_elim
        (λ q. ap is_name (ap (λ b. new b at) e ∙ ap (new x.now.frame) q ∙ f.here ∙ d))
        (λ q. ⊎_elim
        (λ h. ap is_name (ap (λ b. new b at) e ∙ ap (new x.now.frame) h ∙ f.gone))
        (λ h. ap is_name (f.there block at (λ _ t. q t) (λ _ t. h t)) ∙ k.holds.nameless block at)
        (cases_eq at y.frame.scratch)) (cases_eq at w))
        (λ e. ap is_name (f.there block at (λ t _. e t) (λ t _. e t)) ∙ k.holds.nameless block at)
        (cases_eq block x.now.frame);
  }

  -- The value of the first scratch word is stored to a local, and both go on.
  pub stores : (p : Setting) (l w : ℕ) (word : IsWord y.frame l w) (v : Val) (n : ℤ) → Scalar (form y.frame.types word.type) v n → x.cells x.now.frame
      y.frame.scratch ≡ Word n
      → nth y.object.code pc ≡ Some (instr.Move (own w) (own y.frame.scratch) 1) → At y.frame y.object.code (suc pc) c.now.work
      → Follows o y (interpret lending (write p c (whole_local l) v Return) s) (mach c pc x)
  stores p l w word v n scalar d has at =
      let f = is.scratch in
      let b = is.below l w word in
      let r = move_carries o y is c s pc x k w y.frame.scratch (λ e. omega arith) (in_frame l w word) (omega arith) (ap is_set d) has in
      let t : memory.Cells = record { refers = s.refers; cell = set_at s.cell (key c l) v } in
      subst (λ r. Follows o y r (mach c pc x)) (sym (write_is p l w word v Return))
      (goes_on (suc pc) (record x { cells = r.cells })
      (record {
        going = k.going;
        stop = k.stop;
        core = k.core;
        object = k.object;
        closed = k.closed;
        own = k.own;
        holds = stored l w word v n scalar d
            r.cells r.shifts;
        turns = k.turns;
        core_alone = k.core_alone;
        alone = k.alone;
        role = k.role;
        slots = k.slots;
      })
      at r.leads)
