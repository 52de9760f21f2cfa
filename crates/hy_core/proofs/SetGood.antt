-- Interactions about places of which a flow state says that they are set: none of them reads what is unset, and each effect keeps what `Dropped` says.
use Rattle.std.proofs.Common.{◌≡◌, ◌≢◌, ℕ, zero, suc, Bool, true, false, cond, List, [], ◌∷◌}
use Rattle.std.proofs.Common.{Option, Some, None, slice_get, refl, sym, subst}
use Rattle.hy_base.specs.declared.numbers.IntegerType.TheVariants.{Int, Sized}
use Rattle.std.specs.Prelude.{ℤ}
use Rattle.hy_base.specs.declared.run.End.TheVariants as end
use Rattle.hy_base.specs.declared.run.TrapKind.{TrapKind}
use Rattle.hy_base.specs.declared.run.TrapKind.TheVariants as trap
use Rattle.hy_core.specs.Values.{Val, Unset, Number, Truth, Tuple, Product, Array, Vals, shape, is_whole}
use Rattle.hy_core.specs.Memory.{Copies, copying}
use Rattle.hy_core.specs.Runs.{Interaction, Fetch, Inspect, Perform, Return, apply, interpret}
use Rattle.hy_core.specs.Dropped.{Keeps}
use Rattle.hy_core.specs.Control.{Halt, Ends, Stuck, NotSet}
use Rattle.hy_core.specs.Control.{Control, Setting, stop, with_some, trapped, turn, with_number, with_flag, with_array, with_set}
use Rattle.hy_core.specs.Control.{with_index}
use Rattle.hy_core.specs.Statements.{with_one, with_two}
use Rattle.hy_core.proofs.CalmWalks.{IsQuiet}

-- A step leads to a state that stands, or that has halted, and not where something is unset.
pub data Fine (S : Control → Copies → Type 0) (c : Control) (m : Copies) : Type 0 where
  over : (h : Halt) → c.halt ≡ Some h → h ≢ NotSet → Fine S c m
  stands : S c m → Fine S c m

abbrev pub Good : Setting → (Control → Copies → Type 0) → Interaction Control → Copies → Type 0
Good p S (Fetch s go) m = Good p S (go (copying.read m s)) m
Good p S (Inspect s go) m = Good p S (go (shape (copying.read m s))) m
Good p S (Perform o t) m = Keeps p.stage o m × Good p S t (apply copying o m)
Good p S (Return c) m = Fine S c m

pub good_next : (p : Setting) (S : Control → Copies → Type 0) (t : Interaction Control) (m : Copies) → Good p S t m
    → Fine S (interpret copying t m).control (interpret copying t m).memory
good_next p S (Fetch s go) m h = good_next p S (go (copying.read m s)) m h
good_next p S (Inspect s go) m h = good_next p S (go (shape (copying.read m s))) m h
good_next p S (Perform o t) m h = good_next p S t (apply copying o m) h.1
good_next p S (Return c) m h = h

-- a quiet interaction is so
abbrev pub Sure : Setting → (Control → Copies → Type 0) → Interaction Control → Copies → Type 0
Sure p S t m = IsQuiet t m → Good p S t m

module _ (p : Setting) (S : Control → Copies → Type 0) where
  pub good_some : {A : Type 0} (c : Control) (o : Option A) (go : A → Interaction Control) (m : Copies) → ((a : A) → o ≡ Some a → Sure p S (go a) m)
      → Sure p S (with_some c o go) m
  good_some c None go m h calm = over Stuck refl (λ e. absurd (cc))
  good_some c (Some a) go m h calm = h a refl calm

  pub good_trap : (c : Control) (kind : TrapKind) (s : ℕ) (m : Copies) → Sure p S (trapped p c kind s) m
  good_trap c kind s m = good_some c (slice_get p.core.spans s) _ m (λ x e calm. over (Ends (end.Trap kind x)) refl (λ e. absurd (cc)))

  pub good_turn : (c : Control) (k : ℕ) (go : Control → Interaction Control) (m : Copies) → ((j : ℕ) → Sure p S (go (record c { turns = j })) m)
      → Sure p S (turn c k go) m
  good_turn c zero go m h calm = over (Ends end.Spent) refl (λ e. absurd (cc))
  good_turn c (suc k) go m h calm = h k calm

  pub good_number : (c : Control) (v : Val) (go : ℤ → Interaction Control) (m : Copies) → is_whole v ≡ true → ((i : ℤ) → Sure p S (go i) m)
      → Sure p S (with_number c v go) m
  good_number c Unset go m w h calm = absurd (cc)
  good_number c (Number Int n) go m w h calm = h n calm
  good_number c (Number (Sized num) n) go m w h calm = over Stuck refl (λ e. absurd (cc))
  good_number c (Truth b) go m w h calm = over Stuck refl (λ e. absurd (cc))
  good_number c (Tuple vs) go m w h calm = over Stuck refl (λ e. absurd (cc))
  good_number c (Product d vs) go m w h calm = over Stuck refl (λ e. absurd (cc))
  good_number c (Array vs) go m w h calm = over Stuck refl (λ e. absurd (cc))

  pub good_flag : (c : Control) (v : Val) (go : Bool → Interaction Control) (m : Copies) → is_whole v ≡ true → ((i : Bool) → Sure p S (go i) m)
      → Sure p S (with_flag c v go) m
  good_flag c Unset go m w h calm = absurd (cc)
  good_flag c (Number t n) go m w h calm = over Stuck refl (λ e. absurd (cc))
  good_flag c (Truth b) go m w h calm = h b calm
  good_flag c (Tuple vs) go m w h calm = over Stuck refl (λ e. absurd (cc))
  good_flag c (Product d vs) go m w h calm = over Stuck refl (λ e. absurd (cc))
  good_flag c (Array vs) go m w h calm = over Stuck refl (λ e. absurd (cc))

  -- with what the truth value is
  pub good_truth : (c : Control) (v : Val) (go : Bool → Interaction Control) (m : Copies) → is_whole v ≡ true → ((i : Bool) → v ≡ Truth i → Sure p S (go i) m)
      → Sure p S (with_flag c v go) m
  good_truth c Unset go m w h calm = absurd (cc)
  good_truth c (Number t n) go m w h calm = over Stuck refl (λ e. absurd (cc))
  good_truth c (Truth b) go m w h calm = h b refl calm
  good_truth c (Tuple vs) go m w h calm = over Stuck refl (λ e. absurd (cc))
  good_truth c (Product d vs) go m w h calm = over Stuck refl (λ e. absurd (cc))
  good_truth c (Array vs) go m w h calm = over Stuck refl (λ e. absurd (cc))

  pub good_array : (c : Control) (v : Val) (go : Vals → Interaction Control) (m : Copies) → is_whole v ≡ true
      → ((vs : Vals) → v ≡ Array vs → Sure p S (go vs) m) → Sure p S (with_array c v go) m
  good_array c Unset go m w h calm = absurd (cc)
  good_array c (Number t n) go m w h calm = over Stuck refl (λ e. absurd (cc))
  good_array c (Truth b) go m w h calm = over Stuck refl (λ e. absurd (cc))
  good_array c (Tuple vs) go m w h calm = over Stuck refl (λ e. absurd (cc))
  good_array c (Product d vs) go m w h calm = over Stuck refl (λ e. absurd (cc))
  good_array c (Array vs) go m w h calm = h vs refl calm

  pub good_if : (b : Bool) (c : Control) (h : Halt) (t : Interaction Control) (m : Copies) → h ≢ NotSet → (b ≡ true → Sure p S t m)
      → Sure p S (cond b t (stop c h)) m
  good_if true c h t m n f calm = f refl calm
  good_if false c h t m n f calm = over h refl n

  pub good_set : (c : Control) (v : Val) (t : Interaction Control) (m : Copies) → is_whole v ≡ true → Sure p S t m → Sure p S (with_set c v t) m
  good_set c v t m w h = subst (λ b. Sure p S (cond b t (stop c NotSet)) m) (sym w) h

  pub good_index : (c : Control) (s : ℕ) (o : Option ℕ) (go : ℕ → Interaction Control) (m : Copies) → ((i : ℕ) → o ≡ Some i → Sure p S (go i) m)
      → Sure p S (with_index p c s o go) m
  good_index c s None go m h = good_trap c trap.Index s m
  good_index c s (Some i) go m h = h i refl

  pub any_one : {A : Type 0} (c : Control) (xs : List A) (go : A → Interaction Control) (m : Copies)
      → ((a : A) → Sure p S (go a) m) → Sure p S (with_one c xs go) m
  any_one c [] go m h calm = over Stuck refl (λ e. absurd (cc))
  any_one c (a ∷ []) go m h calm = h a calm
  any_one c (a ∷ (b ∷ more)) go m h calm = over Stuck refl (λ e. absurd (cc))

  pub any_two : {A : Type 0} (c : Control) (xs : List A) (go : A → A → Interaction Control) (m : Copies) → ((a b : A) → Sure p S (go a b) m)
      → Sure p S (with_two c xs go) m
  any_two c [] go m h calm = over Stuck refl (λ e. absurd (cc))
  any_two c (a ∷ more) go m h calm = any_one c more (go a) m (h a) calm
