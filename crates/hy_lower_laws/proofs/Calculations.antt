-- Arithmetic and comparisons on locals: both operands to scratch words, the instruction, and the store.
use Rattle.std.proofs.Common.{◌≡◌, ℕ, suc, ◌+◌, ◌≤◌, Bool, true, false, List, [], ◌∷◌, Option, Some, None, ℤ, refl, sym, ap, ◌∙◌, subst, arith, slice_get}
use Rattle.std.proofs.Common.{Result, Ok, Err}
use Rattle.std.specs.Prelude.{if◌then◌else◌, ◌+ℤ◌, ◌-ℤ◌, ◌*ℤ◌}
use Rattle.hy_base.specs.declared.numbers.IntegerType.TheVariants.{Int}
use Rattle.hy_base.specs.declared.numbers.Operation.TheVariants as operation
use Rattle.hy_base.specs.declared.position.Span.{Span}
use Rattle.hy_base.specs.declared.run.TrapKind.{TrapKind}
use Rattle.hy_base.specs.declared.run.TrapKind.TheVariants as trap
use Rattle.hy_base.specs.declared.run.End.TheVariants as end
use Rattle.hy_base.specs.Numbers as base
use Rattle.hy_core.specs.Values.{Val, Number, Truth}
use Rattle.hy_core.specs.Memory.{lending}
use Rattle.hy_core.specs.Memory as memory
use Rattle.hy_core.specs.Operators.{as_value, operated}
use Rattle.hy_core.specs.Runs.{interpret}
use Rattle.hy_core.specs.Control.{Control, Setting, read, write, with_some, trapped, stop, Ends, Form, Numbers, Flags, form}
use Rattle.hy_core.specs.Control as core
use Rattle.hy_core.specs.Statements.{arithmetic, give}
use Rattle.hy_object.specs.declared.instr.Instr.{Instr}
use Rattle.hy_object.specs.declared.instr.Instr.TheVariants as instr
use Rattle.hy_object.specs.declared.object.Object.{Object}
use Rattle.hy_object.specs.Checks.{traps, store, span_of}
use Rattle.hy_object.specs.Checks as checks
use Rattle.hy_object.specs.States.{Word, State, Ended, nth}
use Rattle.hy_object.specs.Words.{Computed, Is, Traps, fitting, computed, calculate}
use Rattle.hy_object.specs.Steps.{does}
use Rattle.hy_lower.specs.Places.{own}
use Rattle.hy_lower_laws.proofs.Stands.{At, HasAt}
use Rattle.hy_lower_laws.proofs.OwnWords.{calculate_is}
use Rattle.hy_lower_laws.proofs.Simulates.{Body, IsBody, IsWord, Linked, mach, plain_of, Leads, Follows, over, wrong, stuck}
use Rattle.hy_lower_laws.proofs.Simulates.{leads_follows}
use Rattle.hy_lower_laws.proofs.WordSteps.{stores_word, scratch_put, owned, one}
use Rattle.hy_lower_laws.proofs.Scalars.{Scalar, number, flag, whole_local, loads, stores}

-- what the core's operation and the machine's give
pub data Gives (r : Option (Result Val TrapKind)) (g : Computed) : Type 0 where
  value : (n : ℤ) → r ≡ Some (Ok (Number Int n)) → g ≡ Is n → Gives r g
  fails : (why : TrapKind) → r ≡ Some (Err why) → g ≡ Traps why → Gives r g
  none : r ≡ None → Gives r g

fits_gives : (b : Bool) (n : ℤ) → Gives (Some (as_value Int (if b then Ok n else Err trap.Overflow))) (if b then Is n else Traps trap.Overflow)
fits_gives true n = value n refl refl
fits_gives false n = fails trap.Overflow refl refl

-- an operation on two numbers of type Int whose result is tested
module _ (f : ℤ → ℤ → ℤ) (op : Val → Val → Option (Result Val TrapKind))
    (on_numbers : (m n : ℤ) → op (Number Int m) (Number Int n) ≡ Some (as_value Int (base.fitting Int (f m n))))
    (first_flag : (b : Bool) (w : Val) → op (Truth b) w ≡ None) (second_flag : (m : ℤ) (b : Bool) → op (Number Int m) (Truth b) ≡ None) where
  pub tested_gives : (x z : Form) (v w : Val) (m n : ℤ) → Scalar x v m → Scalar z w n → Gives (op v w) (fitting (f m n))
  tested_gives x z v w m n (number _ e) (number _ d) =
      subst (λ r. Gives r (fitting (f m n))) (sym (ap (λ v. op v w) e ∙ ap (op (Number Int m)) d ∙ on_numbers m n)) (fits_gives (base.is_in Int (f m n)) (f
      m n))
  tested_gives x z v w m n (flag b _ e _) q = none (ap (λ v. op v w) e ∙ first_flag b w)
  tested_gives x z v w m n (number _ e) (flag b _ d _) = none (ap (λ v. op v w) e ∙ ap (op (Number Int m)) d ∙ second_flag m b)

pub add_gives : (x z : Form) (v w : Val) (m n : ℤ) → Scalar x v m → Scalar z w n → Gives (operated operation.Add v w) (fitting (m +ℤ n))
add_gives = tested_gives (λ m n. m +ℤ n) (operated operation.Add) (λ m n. refl) (λ b w. refl) (λ m b. refl)

pub sub_gives : (x z : Form) (v w : Val) (m n : ℤ) → Scalar x v m → Scalar z w n → Gives (operated operation.Sub v w) (fitting (m -ℤ n))
sub_gives = tested_gives (λ m n. m -ℤ n) (operated operation.Sub) (λ m n. refl) (λ b w. refl) (λ m b. refl)

pub mul_gives : (x z : Form) (v w : Val) (m n : ℤ) → Scalar x v m → Scalar z w n → Gives (operated operation.Mul v w) (fitting (m *ℤ n))
mul_gives = tested_gives (λ m n. m *ℤ n) (operated operation.Mul) (λ m n. refl) (λ b w. refl) (λ m b. refl)

-- The spans of the object are those of the core.
abbrev pub SameSpans : Object → Setting → Type 0
SameSpans o p = (i : ℕ) → nth o.spans i ≡ slice_get p.core.spans i

-- A trap ends both runs.
pub trap_follows : (o : Object) (y : Body) (c : Control) (s : memory.Cells) (pc : ℕ) (x : State) (k : Linked y c s x) (p : Setting) → SameSpans o p
    → (why : TrapKind) (span : ℕ) (m : State) → Leads o m (traps o (mach c pc x) why span)
    → Follows o y (interpret lending (trapped p c why span) s) m
trap_follows o y c s pc x k p same why span m l = by (slice_get p.core.spans span) refl
  where
    by : (r : Option Span) → slice_get p.core.spans span ≡ r → Follows o y (interpret lending (trapped p c why span) s) m
    by None e = subst (λ r. Follows o y (interpret lending (with_some c r (λ span. stop c (Ends (end.Trap why span)))) s) m) (sym e) (wrong core.Stuck refl
        stuck)
    by (Some at) e = subst (λ r. Follows o y (interpret lending (with_some c r (λ span. stop c (Ends (end.Trap why span)))) s) m) (sym e)
        (over (traps o (mach c pc x) why span) l (record {
          how = end.Trap why at;
          core = refl;
          machine = ap (λ r. Some (Ended (end.Trap why (span_of r)))) (same span ∙ e);
          output = refl;
          input = refl;
          turns = k.turns;
          opened = refl;
        }))

-- both operands, an instruction and a store
abbrev pub two_operands : (scratch a b to : ℕ) → Instr → List Instr
two_operands scratch a b to i = instr.Copy (own scratch) (own a) 1 ∷ instr.Copy (own (suc scratch)) (own b) 1 ∷ i ∷ instr.Move (own to) (own scratch) 1 ∷ []

module _ (o : Object) (y : Body) (is_body : IsBody y) (p : Setting) (same : SameSpans o p) where
  -- after the operands: the instruction, a trap or the store
  calculated : (c : Control) (s : memory.Cells) (pc : ℕ) (x : State) (k : Linked y c s x) (i : Instr) (span : ℕ) (f : ℤ → ℤ → Computed) (m n : ℤ)
      (r : Option (Result Val TrapKind)) (l w : ℕ) (word : IsWord y.frame l w) → form y.frame.types word.type ≡ Numbers Int → Gives r (f m n)
      → ((z : State) → does o z i ≡ calculate o z y.frame.scratch y.frame.scratch (suc y.frame.scratch) span f)
      → x.cells x.now.frame y.frame.scratch ≡ Word m → x.cells x.now.frame (suc y.frame.scratch) ≡ Word n
      → HasAt y.object.code pc (i ∷ instr.Move (own w) (own y.frame.scratch) 1 ∷ []) → At y.frame y.object.code (suc (suc pc)) c.now.work
      → Follows o y (interpret lending (with_some c r (λ r. give p c (Some (whole_local l)) span r)) s) (mach c pc x)
  calculated c s pc x k i span f m n r l w word kind given act d e has at = by given
    where
      fits : y.frame.scratch + 2 ≤ y.object.words
      fits = is_body.scratch

      done : does o (mach c pc x) i ≡ computed o (mach c pc x) (checks.own (mach c pc x) y.frame.scratch 1) span (f m n)
      done = act (mach c pc x) ∙ calculate_is (mach c pc x) (plain_of y c s pc x k) o y.frame.scratch (suc y.frame.scratch) span m n f
          (owned o y is_body c s pc x k y.frame.scratch (omega arith)) (owned o y is_body c s pc x k (suc y.frame.scratch) (omega arith)) d e

      by : Gives r (f m n) → Follows o y (interpret lending (with_some c r (λ r. give p c (Some (whole_local l)) span r)) s) (mach c pc x)
      by (value j q g) =
          let t = stores_word o y is_body c s pc x k y.frame.scratch j i has.0 (done ∙ ap (computed o (mach c pc x) (checks.own (mach c pc x)
          y.frame.scratch 1) span) g) in
          let k' = scratch_put o y is_body c s pc x k t.cells y.frame.scratch (Word j) (omega arith) refl t.puts in
          subst (λ r. Follows o y (interpret lending (with_some c r (λ r. give p c (Some (whole_local l)) span r)) s) (mach c pc x)) (sym q)
          (leads_follows o y _ (mach c pc x) (mach c (suc pc) (record x { cells = t.cells })) t.leads
          (stores o y is_body c s (suc pc) (record x { cells = t.cells }) k' p l w word (Number Int j) j (number kind refl) t.puts.here has.1.0 at))
      by (fails why q g) =
          subst (λ r. Follows o y (interpret lending (with_some c r (λ r. give p c (Some (whole_local l)) span r)) s) (mach c pc x)) (sym q)
          (trap_follows o y c s pc x k p same why span (mach c pc x)
          (one o y is_body c s pc x k _ i has.0 (done ∙ ap (computed o (mach c pc x) (checks.own (mach c pc x) y.frame.scratch 1) span) g)))
      by (none q) =
          subst (λ r. Follows o y (interpret lending (with_some c r (λ r. give p c (Some (whole_local l)) span r)) s) (mach c pc x)) (sym q)
          (wrong core.Stuck refl stuck)

  pub arithmetic_follows : (c : Control) (s : memory.Cells) (pc : ℕ) (x : State) (k : Linked y c s x) (i : Instr) (span : ℕ) (f : ℤ → ℤ → Computed)
      (op : Val → Val → Option (Result Val TrapKind)) (a b l wa wb wl : ℕ) → IsWord y.frame a wa → IsWord y.frame b wb → (word : IsWord y.frame l wl)
      → form y.frame.types word.type ≡ Numbers Int → ((x z : Form) (v w : Val) (m n : ℤ) → Scalar x v m → Scalar z w n → Gives (op v w) (f m n))
      → ((z : State) → does o z i ≡ calculate o z y.frame.scratch y.frame.scratch (suc y.frame.scratch) span f)
      → HasAt y.object.code pc (two_operands y.frame.scratch wa wb wl i) → At y.frame y.object.code (suc (suc (suc (suc pc)))) c.now.work
      → Follows o y (interpret lending (arithmetic p c (Some (whole_local l)) (whole_local a ∷ whole_local b ∷ []) (span ∷ []) op) s) (mach c pc x)
  arithmetic_follows c s pc x k i span f op a b l wa wb wl ia ib il kind gives act has at =
      let scratch = y.frame.scratch in
      let fits = is_body.scratch in
      loads o y is_body c s pc x k p a wa scratch ia (omega arith) (omega arith) has.0
      (λ c v. read p c (whole_local b) (λ c w. with_some c (op v w) (λ r. give p c (Some (whole_local l)) span r)))
      (λ v m sv r k1.
      let x1 : State = record x { cells = r.cells } in
      loads o y is_body c s (suc pc) x1 k1 p b wb (suc scratch) ib (omega arith) (omega arith) has.1.0
      (λ c w. with_some c (op v w) (λ r. give p c (Some (whole_local l)) span r))
      (λ w n sw t k2.
      let x2 : State = record x { cells = t.cells } in
      let kept : t.cells x.now.frame scratch ≡ Word m = t.puts.there x.now.frame scratch (λ _ q. omega arith) ∙ r.puts.here in
      calculated c s (suc (suc pc)) x2 k2 i span f m n (op v w) l wl il kind (gives (form y.frame.types ia.type) (form y.frame.types ib.type) v w m n sv
      sw) act kept t.puts.here has.1.1 at))
