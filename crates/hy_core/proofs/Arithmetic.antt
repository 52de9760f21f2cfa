-- What arithmetic on integers of one type gives: an integer of the type, or a trap.
use Rattle.std.proofs.Common.{◌≡◌, zero, suc, Bool, true, false, Option, Some, None, refl, sym, ap, ◌∙◌, subst}
use Rattle.std.specs.Prelude.{ℤ, pos, negsuc, ◌+ℤ◌, ◌-ℤ◌, ◌*ℤ◌, int_div, int_rem, if◌then◌else◌, Result, Ok, Err}
use Rattle.hy_base.specs.declared.numbers.IntegerType.{IntegerType}
use Rattle.hy_base.specs.declared.numbers.IntegerType.TheVariants.{Int, Sized}
use Rattle.hy_base.specs.declared.numbers.Num.TheVariants.{I8, I16, I32, U8, U16, U32, U64}
use Rattle.hy_base.specs.declared.numbers.Operation.{Operation}
use Rattle.hy_base.specs.declared.numbers.Operation.TheVariants as operation
use Rattle.hy_base.specs.declared.run.TrapKind.{TrapKind}
use Rattle.hy_base.specs.declared.run.TrapKind.TheVariants.{Overflow}
use Rattle.hy_base.specs.Numbers.{is_in, fitting, unless_zero, is_least_by_minus_one, calculated}
use Rattle.hy_types.specs.Types.{Table}
use Rattle.hy_core.specs.Values.{Val, Unset, Number, Truth, Tuple, Product, Array, is_whole}
use Rattle.hy_core.specs.Operators.{same_type, as_value, operated, negated, converted, ordered, InRange}
use Rattle.hy_core.specs.Control.{Numbers}
use Rattle.hy_core.proofs.Typed.{Fits}

same_itself : (t : IntegerType) → same_type t t ≡ true
same_itself Int = refl
same_itself (Sized I8) = refl
same_itself (Sized I16) = refl
same_itself (Sized I32) = refl
same_itself (Sized U8) = refl
same_itself (Sized U16) = refl
same_itself (Sized U32) = refl
same_itself (Sized U64) = refl

pub same_types : (t u : IntegerType) → t ≡ u → same_type t u ≡ true
same_types t u e = subst (λ u. same_type t u ≡ true) e (same_itself t)

pub in_range : (t : IntegerType) (n : ℤ) → is_in t n ≡ true → InRange t n
in_range Int n e = tt
in_range (Sized num) n e = e

-- an integer of the type, or a trap
abbrev pub IsProper : IntegerType → Result Val TrapKind → Type 0
IsProper t (Ok v) = (n : ℤ) × (v ≡ Number t n) × InRange t n
IsProper t (Err kind) = Unit {0}

pub proper_fits : (types : Table) (t : IntegerType) (v : Val) → IsProper t (Ok v) → Fits types (Numbers t) v × (is_whole v ≡ true)
proper_fits types t v is = (subst (Fits types (Numbers t)) (sym is.1) (refl, is.2), ap is_whole is.1)

proper_fitting : (t : IntegerType) (n : ℤ) → IsProper t (as_value t (fitting t n))
proper_fitting t n = by (is_in t n) refl
  where
    by : (b : Bool) → is_in t n ≡ b → IsProper t (as_value t (if b then Ok n else Err Overflow))
    by true e = (n, refl, in_range t n e)
    by false e = tt

proper_unless : (t : IntegerType) (y : ℤ) (r : Result ℤ TrapKind) → IsProper t (as_value t r) → IsProper t (as_value t (unless_zero y r))
proper_unless t (pos zero) r is = tt
proper_unless t (pos (suc n)) r is = is
proper_unless t (negsuc n) r is = is

proper_if : (t : IntegerType) (b : Bool) (r : Result ℤ TrapKind) → IsProper t (as_value t r) → IsProper t (as_value t (if b then Err Overflow else r))
proper_if t true r is = tt
proper_if t false r is = is

proper_calculated : (t : IntegerType) (o : Operation) (x y : ℤ) → IsProper t (as_value t (calculated t o x y))
proper_calculated t operation.Add x y = proper_fitting t (x +ℤ y)
proper_calculated t operation.Sub x y = proper_fitting t (x -ℤ y)
proper_calculated t operation.Mul x y = proper_fitting t (x *ℤ y)
proper_calculated t operation.Div x y = proper_unless t y (fitting t (int_div x y)) (proper_fitting t (int_div x y))
proper_calculated t operation.Rem x y =
    proper_unless t y (if is_least_by_minus_one t x y then Err Overflow else fitting t (int_rem x y))
    (proper_if t (is_least_by_minus_one t x y) (fitting t (int_rem x y)) (proper_fitting t (int_rem x y)))

-- what an operation gives of integers of a type is one of that type, or a trap
abbrev pub GivesOfOne : (t u : IntegerType) → (Val → Option (Result Val TrapKind)) → Type 0
GivesOfOne t u f = (i : ℤ) → (r : Result Val TrapKind) × (f (Number u i) ≡ Some r) × IsProper t r

abbrev pub GivesOfTwo : (Val → Val → Option (Result Val TrapKind)) → Type 0
GivesOfTwo f = (t : IntegerType) (i j : ℤ) → (r : Result Val TrapKind) × (f (Number t i) (Number t j) ≡ Some r) × IsProper t r

abbrev pub TellsOfTwo : (Val → Val → Option Bool) → Type 0
TellsOfTwo f = (t : IntegerType) (i j : ℤ) → (e : Bool) × (f (Number t i) (Number t j) ≡ Some e)

pub negated_gives : (t : IntegerType) → GivesOfOne t t negated
negated_gives t i = (as_value t (fitting t _), refl, proper_fitting t _)

pub converted_gives : (t u : IntegerType) → GivesOfOne t u (converted t)
converted_gives t u i = (as_value t (fitting t i), refl, proper_fitting t i)

pub operated_gives : (o : Operation) → GivesOfTwo (operated o)
operated_gives o t i j =
    let r : Result Val TrapKind = as_value t (calculated t o i j) in
    (r, ap (λ b. if b then Some r else None) (same_itself t), proper_calculated t o i j)

pub ordered_tells : (f : ℤ → ℤ → Bool) → TellsOfTwo (ordered f)
ordered_tells f t i j = (f i j, ap (λ b. if b then Some (f i j) else None) (same_itself t))

-- VALUES of a type

number_in : (types : Table) (t : IntegerType) (v : Val) → Fits types (Numbers t) v → is_whole v ≡ true → (i : ℤ) × (v ≡ Number t i)
number_in types t Unset h w = absurd (cc)
number_in types t (Number u i) h w = (i, let q = h.0 in let e : u ≡ t = cc in ap (λ k. Number k i) e)
number_in types t (Truth b) h w = absurd (cc)
number_in types t (Tuple vs) h w = absurd (let q = h.1 in cc)
number_in types t (Product d vs) h w = absurd (let q = h.1 in cc)
number_in types t (Array vs) h w = absurd (let q = h.1 in cc)

pub one_gives : (types : Table) (t u : IntegerType) (f : Val → Option (Result Val TrapKind)) → GivesOfOne t u f
    → (v : Val) → Fits types (Numbers u) v → is_whole v ≡ true → (r : Result Val TrapKind) × (f v ≡ Some r) × IsProper t r
one_gives types t u f gives v h w =
    let i = number_in types u v h w in
    let r = gives i.0 in
    (r.0, ap f i.1 ∙ r.1, r.2)

pub two_give : (types : Table) (t : IntegerType) (f : Val → Val → Option (Result Val TrapKind)) → GivesOfTwo f
    → (v w : Val) → Fits types (Numbers t) v → is_whole v ≡ true → Fits types (Numbers t) w → is_whole w ≡ true
    → (r : Result Val TrapKind) × (f v w ≡ Some r) × IsProper t r
two_give types t f gives v w hv wv hw ww =
    let i = number_in types t v hv wv in
    let j = number_in types t w hw ww in
    let r = gives t i.0 j.0 in
    (r.0, (λ k. f (i.1 k) (j.1 k)) ∙ r.1, r.2)

pub two_tell : (types : Table) (t : IntegerType) (f : Val → Val → Option Bool) → TellsOfTwo f
    → (v w : Val) → Fits types (Numbers t) v → is_whole v ≡ true → Fits types (Numbers t) w → is_whole w ≡ true → (e : Bool) × (f v w ≡ Some e)
two_tell types t f tells v w hv wv hw ww =
    let i = number_in types t v hv wv in
    let j = number_in types t w hw ww in
    let e = tells t i.0 j.0 in
    (e.0, (λ k. f (i.1 k) (j.1 k)) ∙ e.1)
