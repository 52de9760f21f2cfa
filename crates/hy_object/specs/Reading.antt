-- Numbers and instructions, read from the front of some bytes: with what follows them, or nothing where none stands there.
use Rattle.std.specs.Prelude.{◌≡◌, ℕ, zero, suc, ◌+◌, ◌-◌, ◌*◌, ◌^◌, ℤ, pos, negsuc, List, [], ◌∷◌, ◌++◌, Option, Some, None, Bool, true, false, nat_lt}
use Rattle.std.specs.Prelude.{nat_eq, if◌then◌else◌, slice_get, get_or}
use Rattle.std.specs.Option.{option_and_then}
use Rattle.hy_object.specs.declared.instr.Way.{Way}
use Rattle.hy_object.specs.declared.instr.Way.TheVariants as way
use Rattle.hy_object.specs.declared.instr.Shown.{Shown}
use Rattle.hy_object.specs.declared.instr.Shown.TheVariants as shown
use Rattle.hy_object.specs.declared.instr.Instr.{Instr}
use Rattle.hy_object.specs.declared.instr.Instr.TheVariants as instr
use Rattle.hy_object.specs.declared.number.Signed.{Signed}
use Rattle.hy_object.specs.declared.form.Form.{Form}
use Rattle.hy_object.specs.declared.form.Form.TheVariants as form
use Rattle.hy_object.specs.declared.form.One.{One}
use Rattle.hy_object.specs.declared.form.One.TheVariants as one
use Rattle.hy_object.specs.declared.form.Two.{Two}
use Rattle.hy_object.specs.declared.form.Two.TheVariants as two
use Rattle.hy_object.specs.declared.form.Three.{Three}
use Rattle.hy_object.specs.declared.form.Three.TheVariants as three
use Rattle.hy_object.specs.declared.form.Four.{Four}
use Rattle.hy_object.specs.declared.form.Four.TheVariants as four
use Rattle.hy_object.specs.declared.form.Five.{Five}
use Rattle.hy_object.specs.declared.form.Five.TheVariants as five
use Rattle.hy_object.specs.declared.form.Seven.{Seven}
use Rattle.hy_object.specs.declared.form.Seven.TheVariants as seven
use Rattle.hy_object.specs.declared.form.TheConstants.{FORMS}
use Rattle.hy_object.specs.Numbers.{low_group}

-- what a function found, seen by view, is what reading gives
abbrev pub Finds : {X Y : Type 0} → (X → Y) → Option X → Option Y → Type 0
Finds view None found = found ≡ None
Finds view (Some x) found = found ≡ Some (view x)

-- NUMBERS. They are made from the last group back. A last group of nothing would be a second spelling.

abbrev pub joined : ℕ → Option (ℕ × List ℕ) → Option (ℕ × List ℕ)
joined low None = None
joined low (Some high) = if nat_eq high.0 0 then None else (if nat_lt high.0 (2 ^ 25) then Some (128 * high.0 + low, high.1) else None)

-- a number of at most that many groups
unfoldable pub read_groups : ℕ → List ℕ → Option (ℕ × List ℕ)
read_groups zero bytes = None
read_groups (suc k) [] = None
read_groups (suc k) (b ∷ bytes) = if nat_lt b 128 then Some (b, bytes) else (if nat_lt b 256 then joined (b - 128) (read_groups k bytes) else None)

abbrev pub read_count : List ℕ → Option (ℕ × List ℕ)
read_count bytes = read_groups 5 bytes

abbrev pub last_group : ℕ → Signed
last_group group = if nat_lt group 64 then record { negative = false; number = group } else record { negative = true; number = 127 - group }

abbrev pub with_group : ℕ → Signed → Option Signed
with_group group high =
    if nat_lt high.number (2 ^ 56)
    then (if nat_lt (128 * high.number + low_group high.negative group) 64 then None else Some
    (record { negative = high.negative; number = 128 * high.number + low_group high.negative group }))
    else None

abbrev pub signed_joined : ℕ → Option (Signed × List ℕ) → Option (Signed × List ℕ)
signed_joined group None = None
signed_joined group (Some high) = option_and_then (λ s. Some (s, high.1)) (with_group group high.0)

unfoldable pub read_signed : ℕ → List ℕ → Option (Signed × List ℕ)
read_signed zero bytes = None
read_signed (suc k) [] = None
read_signed (suc k) (b ∷ bytes) =
    if nat_lt b 128 then Some (last_group b, bytes) else (if nat_lt b 256 then signed_joined (b - 128) (read_signed k bytes) else None)

abbrev pub value_by_sign : Bool → ℕ → ℤ
value_by_sign false n = pos n
value_by_sign true n = negsuc n

abbrev pub read_value : List ℕ → Option (ℤ × List ℕ)
read_value bytes = option_and_then (λ v. Some (value_by_sign v.0.negative v.0.number, v.1)) (read_signed 10 bytes)

-- so many counts, after those that were read
unfoldable pub read_row : ℕ → List ℕ → List ℕ → Option (List ℕ × List ℕ)
read_row zero row bytes = Some (row, bytes)
read_row (suc n) row bytes = option_and_then (λ x. read_row n (row ++ x.0 ∷ []) x.1) (read_count bytes)

-- INSTRUCTIONS, by how many counts they have

abbrev pub form_at : ℕ → Option Form
form_at n = if nat_eq n 0 then None else slice_get FORMS (n - 1)

abbrev pub way_at : ℕ → Option Way
way_at zero = Some way.Read
way_at (suc zero) = Some way.Write
way_at (suc (suc n)) = None

abbrev pub shown_at : ℕ → Option Shown
shown_at zero = Some shown.Int
shown_at (suc zero) = Some shown.Bool
shown_at (suc (suc n)) = None

abbrev pub at : List ℕ → ℕ → ℕ
at row i = get_or row i 0

abbrev pub one_of : One → List ℕ → Instr
one_of one.Jump row = instr.Jump (at row 0)
one_of one.Return row = instr.Return (at row 0)
one_of one.Yield row = instr.Yield (at row 0)
one_of one.Slide row = instr.Slide (at row 0)
one_of one.Close row = instr.Close (at row 0)

abbrev pub two_of : Two → List ℕ → Option Instr
two_of two.Not row = Some (instr.Not (at row 0) (at row 1))
two_of two.JumpIf row = Some (instr.JumpIf (at row 0) (at row 1))
two_of two.JumpUnless row = Some (instr.JumpUnless (at row 0) (at row 1))
two_of two.NewArray row = Some (instr.NewArray (record { base = at row 0; offset = at row 1 }))
two_of two.FreeArray row = Some (instr.FreeArray (record { base = at row 0; offset = at row 1 }))
two_of two.Print row = option_and_then (λ shown. Some (instr.Print (at row 0) shown)) (shown_at (at row 1))
two_of two.Read row = Some (instr.Read (at row 0) (at row 1))
two_of two.Check row = Some (instr.Check (at row 0) (at row 1))

abbrev pub three_of : Three → List ℕ → Instr
three_of three.Neg row = instr.Neg (at row 0) (at row 1) (at row 2)
three_of three.Eq row = instr.Eq (at row 0) (at row 1) (at row 2)
three_of three.Lt row = instr.Lt (at row 0) (at row 1) (at row 2)
three_of three.Le row = instr.Le (at row 0) (at row 1) (at row 2)
three_of three.Call row = instr.Call (at row 0) (at row 1) (at row 2)
three_of three.Grow row = instr.Grow (record { base = at row 0; offset = at row 1 }) (at row 2)
three_of three.Count row = instr.Count (at row 0) (record { base = at row 1; offset = at row 2 })

abbrev pub four_of : Four → List ℕ → Instr
four_of four.Add row = instr.Add (at row 0) (at row 1) (at row 2) (at row 3)
four_of four.Sub row = instr.Sub (at row 0) (at row 1) (at row 2) (at row 3)
four_of four.Mul row = instr.Mul (at row 0) (at row 1) (at row 2) (at row 3)
four_of four.Div row = instr.Div (at row 0) (at row 1) (at row 2) (at row 3)
four_of four.Rem row = instr.Rem (at row 0) (at row 1) (at row 2) (at row 3)
four_of four.Project row = instr.Project (at row 0) (at row 1) (at row 2) (at row 3)
four_of four.Push row = instr.Push (record { base = at row 0; offset = at row 1 }) (at row 2) (at row 3)

abbrev pub five_of : Five → List ℕ → Option Instr
five_of five.Copy row = Some (instr.Copy (record { base = at row 0; offset = at row 1 }) (record { base = at row 2; offset = at row 3 }) (at row 4))
five_of five.Move row = Some (instr.Move (record { base = at row 0; offset = at row 1 }) (record { base = at row 2; offset = at row 3 }) (at row 4))
five_of five.Lend row = option_and_then (λ way. Some (instr.Lend (at row 0) (record { base = at row 1; offset = at row 2 }) (at row 3) way))
    (way_at (at row 4))
five_of five.Pop row = Some (instr.Pop (record { base = at row 0; offset = at row 1 }) (at row 2) (at row 3) (at row 4))

abbrev pub seven_of : Seven → List ℕ → Option Instr
seven_of seven.Elem row =
    option_and_then (λ way. Some (instr.Elem (at row 0) (record { base = at row 1; offset = at row 2 }) (at row 3) (at row 4) way (at row 6)))
    (way_at (at row 5))
seven_of seven.Swap row = Some (instr.Swap (record { base = at row 0; offset = at row 1 }) (at row 2) (at row 3) (at row 4) (at row 5) (at row 6))

-- what is made of so many counts
abbrev pub read_made : ℕ → (List ℕ → Option Instr) → List ℕ → Option (Instr × List ℕ)
read_made n make bytes = option_and_then (λ row. option_and_then (λ i. Some (i, row.1)) (make row.0)) (read_row n [] bytes)

abbrev pub read_const : List ℕ → Option (Instr × List ℕ)
read_const bytes = option_and_then (λ to. option_and_then (λ value. Some (instr.Const to.0 value.0, value.1)) (read_value to.1)) (read_count bytes)

abbrev pub read_form : Option Form → List ℕ → Option (Instr × List ℕ)
read_form None bytes = None
read_form (Some form.Const) bytes = read_const bytes
read_form (Some (form.One f)) bytes = read_made 1 (λ row. Some (one_of f row)) bytes
read_form (Some (form.Two f)) bytes = read_made 2 (two_of f) bytes
read_form (Some (form.Three f)) bytes = read_made 3 (λ row. Some (three_of f row)) bytes
read_form (Some (form.Four f)) bytes = read_made 4 (λ row. Some (four_of f row)) bytes
read_form (Some (form.Five f)) bytes = read_made 5 (five_of f) bytes
read_form (Some (form.Seven f)) bytes = read_made 7 (seven_of f) bytes

unfoldable pub read_instr : List ℕ → Option (Instr × List ℕ)
read_instr [] = None
read_instr (b ∷ bytes) = read_form (form_at b) bytes
