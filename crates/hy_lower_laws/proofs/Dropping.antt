-- A `Drop` of a local of one word or of none, which takes no instruction.
use Rattle.std.proofs.Common.{◌≡◌, ◌⊎◌, inl, inr, ⊎_elim, ℕ, zero, suc, ◌+◌, true, List, [], ◌++◌, length, Some, refl, sym, ap, ◌∙◌, subst, arith, slice_get}
use Rattle.std.proofs.lemmas.Bool.{cond_both, cases_Bool, true≢false}
use Rattle.std.specs.Prelude.{if◌then◌else◌}
use Rattle.hy_base.specs.declared.numbers.IntegerType.TheVariants.{Int, Sized}
use Rattle.hy_types.specs.declared.kinds.TyId.{TyId}
use Rattle.hy_types.specs.Types.{Table}
use Rattle.hy_core.specs.Plain as plain
use Rattle.hy_core.specs.Values.{Val, Number, Truth, Tuple, Product, Array, is_whole}
use Rattle.hy_core.specs.Values as val
use Rattle.hy_core.specs.Memory.{key_eq, set_at, target_of, lending}
use Rattle.hy_core.specs.Memory as memory
use Rattle.hy_core.specs.Runs.{Interaction, Fetch, Perform, interpret, Return}
use Rattle.hy_core.specs.Runs as runs
use Rattle.hy_core.specs.Control.{Control, Setting, GivesUp, Form, Numbers, Flags, form, element_type, parts_of, with_some, with_set, key, local_type, NotSet}
use Rattle.hy_core.specs.Control.{stop}
use Rattle.hy_core.specs.Statements.{does, drop}
use Rattle.hy_object.specs.declared.object.Object.{Object}
use Rattle.hy_object.specs.States.{Cell, State}
use Rattle.hy_lower.specs.Arrays.{arrays_in, arrays_below, arrays_of_parts, array_or_parts, where_some}
use Rattle.hy_lower.specs.Frames.{size_of}
use Rattle.hy_lower_laws.specs.WordSteps.{whole_local}
use Rattle.hy_lower_laws.specs.Following.{IsNothing}
use Rattle.hy_lower_laws.proofs.Stands.{At, StmtAt}
use Rattle.hy_lower_laws.proofs.Simulates.{Body, IsBody, IsWord, CellIs, Holds, Linked, mach, leads_none, Follows, goes_on, wrong, not_set}

where_none : (n : ℕ) → where_some n [] ≡ []
where_none zero = refl
where_none (suc n) = refl

below_is : (types : Table) (sizes : List ℕ) (t : TyId) → arrays_in types sizes (Some t)
    ≡ where_some (size_of sizes t) (array_or_parts (element_type (form types t)) 0 (arrays_of_parts (arrays_below types sizes (length sizes)) sizes 0
    (parts_of (form types t))))
below_is types sizes t = let e : length sizes + 1 ≡ suc (length sizes) = omega arith in ap (λ n. arrays_below types sizes n 0 t) e

-- a number or truth value has no arrays, nor has what takes no words
plain_arrays : (types : Table) (sizes : List ℕ) (t : TyId) → (form types t ≡ Numbers Int) ⊎ (form types t ≡ Flags) → arrays_in types sizes (Some t) ≡ []
plain_arrays types sizes t h =
    let of = λ (f : Form). where_some (size_of sizes t) (array_or_parts (element_type f) 0 (arrays_of_parts (arrays_below types sizes (length sizes)) sizes
    0 (parts_of f))) in
    below_is types sizes t ∙ ⊎_elim (λ e. ap of e ∙ where_none (size_of sizes t)) (λ e. ap of e ∙ where_none (size_of sizes t)) h

no_arrays : (types : Table) (sizes : List ℕ) (t : TyId) → size_of sizes t ≡ 0 → arrays_in types sizes (Some t) ≡ []
no_arrays types sizes t e = below_is types sizes t
    ∙ ap (λ n. where_some n (array_or_parts (element_type (form types t)) 0 (arrays_of_parts (arrays_below types sizes (length sizes)) sizes 0 (parts_of
    (form types t))))) e

kind_of : (f : Form) (v : Val) (d : Cell) → CellIs f v d → is_whole v ≡ true → (f ≡ Numbers Int) ⊎ (f ≡ Flags)
kind_of f val.Unset d h e = absurd (true≢false (sym e))
kind_of f (Number Int n) d h e = inl h.1
kind_of f (Number (Sized num) n) d h e = absurd h
kind_of f (Truth b) d h e = inr h.1
kind_of f (Tuple vs) d h e = absurd h
kind_of f (Product a vs) d h e = absurd h
kind_of f (Array vs) d h e = absurd h

module _ (o : Object) (y : Body) (is : IsBody y) (p : Setting) (stage : p.stage ≡ GivesUp) (c : Control) (s : memory.Cells) (pc : ℕ) (x : State) (k :
    Linked y c s x) where
  unset_holds : (l : ℕ) → Holds y c.now.id x.now.frame (record { refers = s.refers; cell = set_at s.cell (key c l) val.Unset }) x.cells
  unset_holds l = record {
    words = λ a u word. cond_both (key_eq (key c a) (key c l)) val.Unset (s.cell (key c a)) (λ v. CellIs (form y.frame.types word.type) v (x.cells
        x.now.frame u))
        (λ _. k.holds.nameless x.now.frame u) (λ _. k.holds.words a u word);
    nameless = k.holds.nameless;
  }

  drop_is : (l : ℕ) (t : TyId) → slice_get y.frame.locals l ≡ Some t → interpret lending (does p c (plain.Drop (whole_local l))) s
      ≡ interpret lending (with_set c (s.cell (key c l)) (Perform (runs.Clear (record { key = key c l; path = [] }) runs.Discarded) (Return c))) s
  drop_is l t e =
      let ends : Interaction Control = Perform (runs.Clear (record { key = key c l; path = [] }) runs.Discarded) (Return c) in
      ap (λ st. interpret lending (drop p st c (whole_local l)) s) stage
      ∙ ap (λ r. interpret lending (with_some c r (λ t. Fetch (record { key = key c l; path = [] }) (λ v. with_set c v ends))) s)
      (ap (λ f. local_type f l) k.core ∙ sym (is.locals l) ∙ e)
      ∙ ap (λ r. let z = target_of (key c l) r in interpret lending (with_set c (val.get (z.path ++ []) (s.cell z.key)) ends) s) (k.own (key c l))

  pub drop_follows : (l : ℕ) (t : TyId) → slice_get y.frame.locals l ≡ Some t
      → (is_whole (s.cell (key c l)) ≡ true → arrays_in y.frame.types y.frame.sizes (Some t) ≡ [])
      → StmtAt y.frame y.object.code pc (plain.Drop (whole_local l)) c.now.work
      → Follows o y (interpret lending (does p c (plain.Drop (whole_local l))) s) (mach c pc x)
  drop_follows l t e none r =
      let ends : Interaction Control = Perform (runs.Clear (record { key = key c l; path = [] }) runs.Discarded) (Return c) in
      subst (λ r. Follows o y r (mach c pc x)) (sym (drop_is l t e))
      (⊎_elim
      (λ w. subst (λ b. Follows o y (interpret lending (if b then ends else stop c NotSet) s) (mach c pc x)) (sym w) (given w))
      (λ w. subst (λ b. Follows o y (interpret lending (if b then ends else stop c NotSet) s) (mach c pc x)) (sym w) (wrong NotSet refl not_set))
      (cases_Bool (is_whole (s.cell (key c l)))))
    where
      given : is_whole (s.cell (key c l)) ≡ true
          → Follows o y (interpret lending (Perform (runs.Clear (record { key = key c l; path = [] }) runs.Discarded) (Return c)) s) (mach c pc x)
      given w =
          let at = subst (λ list. At y.frame y.object.code (pc + (0 + (length list + 0))) c.now.work) (ap (arrays_in y.frame.types y.frame.sizes) e ∙ none
          w) r.next in
          let z : pc + 0 ≡ pc = omega arith in
          let stored = ap (λ r. let z = target_of (key c l) r in
          interpret lending (Return c) (record { refers = s.refers; cell = set_at s.cell z.key (val.put (z.path ++ []) val.Unset (s.cell z.key)) })) (k.own
          (key c l)) in
          subst (λ r. Follows o y r (mach c pc x)) (sym stored)
          (goes_on pc x (record {
            going = k.going;
            stop = k.stop;
            core = k.core;
            object = k.object;
            closed = k.closed;
            own = k.own;
            holds = unset_holds l;
            turns = k.turns;
            core_alone = k.core_alone;
            alone = k.alone;
            role = k.role;
            slots = k.slots;
          })
          (subst (λ n. At y.frame y.object.code n c.now.work) z at) (leads_none o (mach c pc x)))

  pub word_drop : (l w : ℕ) (word : IsWord y.frame l w) → StmtAt y.frame y.object.code pc (plain.Drop (whole_local l)) c.now.work
      → Follows o y (interpret lending (does p c (plain.Drop (whole_local l))) s) (mach c pc x)
  word_drop l w word = drop_follows l word.type word.typed
      (λ e. plain_arrays y.frame.types y.frame.sizes word.type (kind_of (form y.frame.types word.type) (s.cell (key c l)) (x.cells x.now.frame w)
      (k.holds.words l w word) e))

  pub nothing_drop : (l w : ℕ) (none : IsNothing y.frame l w) → StmtAt y.frame y.object.code pc (plain.Drop (whole_local l)) c.now.work
      → Follows o y (interpret lending (does p c (plain.Drop (whole_local l))) s) (mach c pc x)
  nothing_drop l w none = drop_follows l none.type none.typed (λ _. no_arrays y.frame.types y.frame.sizes none.type none.size)
