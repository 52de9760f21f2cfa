-- An instruction that is read is the one that is spelled there, and one that is spelled is read.
use Rattle.std.proofs.Common.{◌≡◌, ℕ, zero, suc, ◌+◌, ◌-◌, ◌^◌, ◌<◌, Bool, true, false, List, [], ◌∷◌, ◌++◌, length, flat_map, Option, Some, None, refl, ap}
use Rattle.std.proofs.Common.{drop, sym, subst, ◌∙◌, append_assoc, arith, ℤ, pos, negsuc}
use Rattle.std.specs.Prelude.{slice_get, IsTrue}
use Rattle.std.specs.List.{AllByRecursion}
use Rattle.std.specs.Option.{option_and_then}
use Rattle.std.proofs.lemmas.List.{append-nil}
use Rattle.hy_base.specs.Numbers.{fits}
use Rattle.hy_object.specs.declared.instr.Instr.{Instr}
use Rattle.hy_object.specs.declared.instr.Instr.TheVariants as instr
use Rattle.hy_object.specs.declared.instr.Way.TheVariants as way
use Rattle.hy_object.specs.declared.instr.Shown.TheVariants as shown
use Rattle.hy_object.specs.declared.form.Form.{Form}
use Rattle.hy_object.specs.declared.form.Form.TheVariants as form
use Rattle.hy_object.specs.declared.form.One.{One}
use Rattle.hy_object.specs.declared.form.One.TheVariants as one
use Rattle.hy_object.specs.declared.form.Two.{Two}
use Rattle.hy_object.specs.declared.form.Two.TheVariants as two
use Rattle.hy_object.specs.declared.form.Three.{Three}
use Rattle.hy_object.specs.declared.form.Three.TheVariants as three
use Rattle.hy_object.specs.declared.form.Four.{Four}
use Rattle.hy_object.specs.declared.form.Four.TheVariants as four
use Rattle.hy_object.specs.declared.form.Five.{Five}
use Rattle.hy_object.specs.declared.form.Five.TheVariants as five
use Rattle.hy_object.specs.declared.form.Seven.{Seven}
use Rattle.hy_object.specs.declared.form.Seven.TheVariants as seven
use Rattle.hy_object.specs.declared.form.TheConstants.{FORMS}
use Rattle.hy_object.specs.Numbers.{count_bytes, value_bytes, signed_groups, signed_bytes}
use Rattle.hy_object.specs.Operands.{Operand, Own, Outcome, FirstWord, FirstSlot, Base, Offset, Slot, Callee, Target, Trap, Size, Choice, Value, operands}
use Rattle.hy_object.specs.Operands.{operand_bytes, instr_bytes, number}
use Rattle.hy_object.specs.Grammar.{IsCount}
use Rattle.hy_object.specs.Reading.{read_count, read_row, read_value, read_signed, value_by_sign, form_at, one_of, two_of, three_of, four_of, five_of}
use Rattle.hy_object.specs.Reading.{seven_of, read_made, read_const, read_form, read_instr}
use Rattle.hy_object.proofs.Choices.{is_below, below, some_is, none_is_some, and_then_some}
use Rattle.hy_object.proofs.Steps.{form_above}
use Rattle.hy_object.proofs.Numerals.{count_taken, count_again, signed_taken, signed_again}

-- ROWS

pub row_again : (more row rest : List ℕ) → AllByRecursion IsCount more
    → read_row (length more) row (flat_map count_bytes more ++ rest) ≡ Some (row ++ more, rest)
unfolding read_row
row_again [] row rest h = ap (λ (r : List ℕ). Some (r, rest)) (sym (append-nil row))
row_again (n ∷ more) row rest h =
    let front : (count_bytes n ++ flat_map count_bytes more) ++ rest ≡ count_bytes n ++ (flat_map count_bytes more ++ rest) =
    append_assoc (count_bytes n) (flat_map count_bytes more) rest in
    let read : read_count ((count_bytes n ++ flat_map count_bytes more) ++ rest) ≡ Some (n, flat_map count_bytes more ++ rest) = ap read_count front
    ∙ count_again n (flat_map count_bytes more ++ rest) h.0 in
    ap (option_and_then (λ x. read_row (length more) (row ++ x.0 ∷ []) x.1)) read ∙ row_again more (row ++ n ∷ []) rest h.1
    ∙ ap (λ (r : List ℕ). Some (r, rest)) (append_assoc row (n ∷ []) more)

made_again : (make : List ℕ → Option Instr) (row : List ℕ) (i : Instr) (rest : List ℕ) → AllByRecursion IsCount row → make row ≡ Some i
    → read_made (length row) make (flat_map count_bytes row ++ rest) ≡ Some (i, rest)
made_again make row i rest h made =
    ap (option_and_then (λ r. option_and_then (λ j. Some (j, r.1)) (make r.0))) (row_again row [] rest h) ∙ ap (option_and_then (λ j. Some (j, rest))) made

-- a field of an instruction has bytes
abbrev pub HasBytes : Operand → Type 0
HasBytes (Own n words) = IsCount n
HasBytes (Outcome n) = IsCount n
HasBytes (FirstWord n) = IsCount n
HasBytes (FirstSlot n) = IsCount n
HasBytes (Base n) = IsCount n
HasBytes (Offset n) = IsCount n
HasBytes (Slot n) = IsCount n
HasBytes (Callee n) = IsCount n
HasBytes (Target n) = IsCount n
HasBytes (Trap n) = IsCount n
HasBytes (Size n) = IsCount n
HasBytes (Choice n) = IsCount n
HasBytes (Value v) = IsTrue (fits v)

abbrev pub HaveBytes : Instr → Type 0
HaveBytes i = AllByRecursion HasBytes (operands i)

pub value_again : (v : ℤ) (rest : List ℕ) → IsTrue (fits v) → read_value (value_bytes v ++ rest) ≡ Some (v, rest)
unfolding signed_bytes
value_again (pos n) rest h = ap (option_and_then (λ x. Some (value_by_sign x.0.negative x.0.number, x.1))) (let small = below n (2 ^ 63) h in
    signed_again 9 n false rest (omega arith) small)
value_again (negsuc n) rest h = ap (option_and_then (λ x. Some (value_by_sign x.0.negative x.0.number, x.1))) (let small = below n (2 ^ 63) h in
    signed_again 9 n true rest (omega arith) small)

const_again : (to : ℕ) (value : ℤ) (rest : List ℕ) → IsCount to → IsTrue (fits value)
    → read_const ((count_bytes to ++ (value_bytes value ++ [])) ++ rest) ≡ Some (instr.Const to value, rest)
const_again to value rest h k =
    let front : (count_bytes to ++ (value_bytes value ++ [])) ++ rest ≡ count_bytes to ++ (value_bytes value ++ rest) = simp (append_assoc, append-nil) in
    ap read_const front
    ∙ ap (option_and_then (λ t. option_and_then (λ v. Some (instr.Const t.0 v.0, v.1)) (read_value t.1))) (count_again to (value_bytes value ++ rest) h)
    ∙ ap (option_and_then (λ v. Some (instr.Const to v.0, v.1))) (value_again value rest k)

pub instr_again : (i : Instr) (rest : List ℕ) → HaveBytes i → read_instr (instr_bytes i ++ rest) ≡ Some (i, rest)
unfolding read_instr
instr_again (instr.Const to value) rest h = const_again to value rest h.0 h.1.0
instr_again (instr.Jump target) rest h = made_again (λ row. Some (one_of one.Jump row)) (target ∷ []) _ rest h refl
instr_again (instr.Return w) rest h = made_again (λ row. Some (one_of one.Return row)) (w ∷ []) _ rest h refl
instr_again (instr.Yield slot) rest h = made_again (λ row. Some (one_of one.Yield row)) (slot ∷ []) _ rest h refl
instr_again (instr.Slide slot) rest h = made_again (λ row. Some (one_of one.Slide row)) (slot ∷ []) _ rest h refl
instr_again (instr.Close slot) rest h = made_again (λ row. Some (one_of one.Close row)) (slot ∷ []) _ rest h refl
instr_again (instr.Not to a) rest h = made_again (two_of two.Not) (to ∷ a ∷ []) _ rest h refl
instr_again (instr.JumpIf w target) rest h = made_again (two_of two.JumpIf) (w ∷ target ∷ []) _ rest h refl
instr_again (instr.JumpUnless w target) rest h = made_again (two_of two.JumpUnless) (w ∷ target ∷ []) _ rest h refl
instr_again (instr.NewArray p) rest h = made_again (two_of two.NewArray) (p.base ∷ p.offset ∷ []) _ rest h refl
instr_again (instr.FreeArray p) rest h = made_again (two_of two.FreeArray) (p.base ∷ p.offset ∷ []) _ rest h refl
instr_again (instr.Read to span) rest h = made_again (two_of two.Read) (to ∷ span ∷ []) _ rest h refl
instr_again (instr.Check w span) rest h = made_again (two_of two.Check) (w ∷ span ∷ []) _ rest h refl
instr_again (instr.Print w shown.Int) rest h = made_again (two_of two.Print) (w ∷ 0 ∷ []) _ rest h refl
instr_again (instr.Print w shown.Bool) rest h = made_again (two_of two.Print) (w ∷ 1 ∷ []) _ rest h refl
instr_again (instr.Neg to a span) rest h = made_again (λ row. Some (three_of three.Neg row)) (to ∷ a ∷ span ∷ []) _ rest h refl
instr_again (instr.Eq to a b) rest h = made_again (λ row. Some (three_of three.Eq row)) (to ∷ a ∷ b ∷ []) _ rest h refl
instr_again (instr.Lt to a b) rest h = made_again (λ row. Some (three_of three.Lt row)) (to ∷ a ∷ b ∷ []) _ rest h refl
instr_again (instr.Le to a b) rest h = made_again (λ row. Some (three_of three.Le row)) (to ∷ a ∷ b ∷ []) _ rest h refl
instr_again (instr.Call fun slot w) rest h = made_again (λ row. Some (three_of three.Call row)) (fun ∷ slot ∷ w ∷ []) _ rest h refl
instr_again (instr.Grow p width) rest h = made_again (λ row. Some (three_of three.Grow row)) (p.base ∷ p.offset ∷ width ∷ []) _ rest h refl
instr_again (instr.Count to p) rest h = made_again (λ row. Some (three_of three.Count row)) (to ∷ p.base ∷ p.offset ∷ []) _ rest h refl
instr_again (instr.Add to a b span) rest h = made_again (λ row. Some (four_of four.Add row)) (to ∷ a ∷ b ∷ span ∷ []) _ rest h refl
instr_again (instr.Sub to a b span) rest h = made_again (λ row. Some (four_of four.Sub row)) (to ∷ a ∷ b ∷ span ∷ []) _ rest h refl
instr_again (instr.Mul to a b span) rest h = made_again (λ row. Some (four_of four.Mul row)) (to ∷ a ∷ b ∷ span ∷ []) _ rest h refl
instr_again (instr.Div to a b span) rest h = made_again (λ row. Some (four_of four.Div row)) (to ∷ a ∷ b ∷ span ∷ []) _ rest h refl
instr_again (instr.Rem to a b span) rest h = made_again (λ row. Some (four_of four.Rem row)) (to ∷ a ∷ b ∷ span ∷ []) _ rest h refl
instr_again (instr.Project fun slot w into) rest h = made_again (λ row. Some (four_of four.Project row)) (fun ∷ slot ∷ w ∷ into ∷ []) _ rest h refl
instr_again (instr.Push p w width) rest h = made_again (λ row. Some (four_of four.Push row)) (p.base ∷ p.offset ∷ w ∷ width ∷ []) _ rest h refl
instr_again (instr.Copy to from words) rest h = made_again (five_of five.Copy) (to.base ∷ to.offset ∷ from.base ∷ from.offset ∷ words ∷ []) _ rest h refl
instr_again (instr.Move to from words) rest h = made_again (five_of five.Move) (to.base ∷ to.offset ∷ from.base ∷ from.offset ∷ words ∷ []) _ rest h refl
instr_again (instr.Pop p w width span) rest h = made_again (five_of five.Pop) (p.base ∷ p.offset ∷ w ∷ width ∷ span ∷ []) _ rest h refl
instr_again (instr.Lend slot p words way.Read) rest h = made_again (five_of five.Lend) (slot ∷ p.base ∷ p.offset ∷ words ∷ 0 ∷ []) _ rest h refl
instr_again (instr.Lend slot p words way.Write) rest h = made_again (five_of five.Lend) (slot ∷ p.base ∷ p.offset ∷ words ∷ 1 ∷ []) _ rest h refl
instr_again (instr.Swap p i j width span_i span_j) rest h =
    made_again (seven_of seven.Swap) (p.base ∷ p.offset ∷ i ∷ j ∷ width ∷ span_i ∷ span_j ∷ []) _ rest h refl
instr_again (instr.Elem slot p index width way.Read span) rest h =
    made_again (seven_of seven.Elem) (slot ∷ p.base ∷ p.offset ∷ index ∷ width ∷ 0 ∷ span ∷ []) _ rest h refl
instr_again (instr.Elem slot p index width way.Write span) rest h =
    made_again (seven_of seven.Elem) (slot ∷ p.base ∷ p.offset ∷ index ∷ width ∷ 1 ∷ span ∷ []) _ rest h refl

-- what a row was made into has its bytes
abbrev pub IsMade : ℕ → List ℕ → Instr → Type 0
IsMade n row i = (number i ≡ n) × (flat_map operand_bytes (operands i) ≡ flat_map count_bytes row) × HaveBytes i

made_is : (n : ℕ) (row : List ℕ) (j i : Instr) → IsMade n row j → Some j ≡ Some i → IsMade n row i
made_is n row j i m e = subst (λ (x : Instr). IsMade n row x) (some_is j i e) m

one_made : (form : One) (row : List ℕ) → length row ≡ 1 → AllByRecursion IsCount row → IsMade (number (one_of form [])) row (one_of form row)
one_made one.Jump (a ∷ []) h counts = (refl, refl, counts)
one_made one.Return (a ∷ []) h counts = (refl, refl, counts)
one_made one.Yield (a ∷ []) h counts = (refl, refl, counts)
one_made one.Slide (a ∷ []) h counts = (refl, refl, counts)
one_made one.Close (a ∷ []) h counts = (refl, refl, counts)
one_made _ _ h counts = absurd (omega arith)

three_made : (form : Three) (row : List ℕ) → length row ≡ 3 → AllByRecursion IsCount row → IsMade (number (three_of form [])) row (three_of form row)
three_made three.Neg (a ∷ b ∷ c ∷ []) h counts = (refl, refl, counts)
three_made three.Eq (a ∷ b ∷ c ∷ []) h counts = (refl, refl, counts)
three_made three.Lt (a ∷ b ∷ c ∷ []) h counts = (refl, refl, counts)
three_made three.Le (a ∷ b ∷ c ∷ []) h counts = (refl, refl, counts)
three_made three.Call (a ∷ b ∷ c ∷ []) h counts = (refl, refl, counts)
three_made three.Grow (a ∷ b ∷ c ∷ []) h counts = (refl, refl, counts)
three_made three.Count (a ∷ b ∷ c ∷ []) h counts = (refl, refl, counts)
three_made _ _ h counts = absurd (omega arith)

four_made : (form : Four) (row : List ℕ) → length row ≡ 4 → AllByRecursion IsCount row → IsMade (number (four_of form [])) row (four_of form row)
four_made four.Add (a ∷ b ∷ c ∷ d ∷ []) h counts = (refl, refl, counts)
four_made four.Sub (a ∷ b ∷ c ∷ d ∷ []) h counts = (refl, refl, counts)
four_made four.Mul (a ∷ b ∷ c ∷ d ∷ []) h counts = (refl, refl, counts)
four_made four.Div (a ∷ b ∷ c ∷ d ∷ []) h counts = (refl, refl, counts)
four_made four.Rem (a ∷ b ∷ c ∷ d ∷ []) h counts = (refl, refl, counts)
four_made four.Project (a ∷ b ∷ c ∷ d ∷ []) h counts = (refl, refl, counts)
four_made four.Push (a ∷ b ∷ c ∷ d ∷ []) h counts = (refl, refl, counts)
four_made _ _ h counts = absurd (omega arith)

abbrev number_of : Option Instr → ℕ
number_of None = 0
number_of (Some i) = number i

two_made : (form : Two) (row : List ℕ) (i : Instr) → length row ≡ 2 → AllByRecursion IsCount row → two_of form row ≡ Some i
    → IsMade (number_of (two_of form [])) row i
two_made two.Not (a ∷ b ∷ []) i h counts found = made_is _ (a ∷ b ∷ []) _ i (refl, refl, counts) found
two_made two.JumpIf (a ∷ b ∷ []) i h counts found = made_is _ (a ∷ b ∷ []) _ i (refl, refl, counts) found
two_made two.JumpUnless (a ∷ b ∷ []) i h counts found = made_is _ (a ∷ b ∷ []) _ i (refl, refl, counts) found
two_made two.NewArray (a ∷ b ∷ []) i h counts found = made_is _ (a ∷ b ∷ []) _ i (refl, refl, counts) found
two_made two.FreeArray (a ∷ b ∷ []) i h counts found = made_is _ (a ∷ b ∷ []) _ i (refl, refl, counts) found
two_made two.Read (a ∷ b ∷ []) i h counts found = made_is _ (a ∷ b ∷ []) _ i (refl, refl, counts) found
two_made two.Check (a ∷ b ∷ []) i h counts found = made_is _ (a ∷ b ∷ []) _ i (refl, refl, counts) found
two_made two.Print (a ∷ zero ∷ []) i h counts found = made_is _ (a ∷ zero ∷ []) _ i (refl, refl, counts) found
two_made two.Print (a ∷ (suc zero) ∷ []) i h counts found = made_is _ (a ∷ (suc zero) ∷ []) _ i (refl, refl, counts) found
two_made two.Print (a ∷ (suc (suc n)) ∷ []) i h counts found = absurd cc
two_made _ _ i h counts found = absurd (omega arith)

five_made : (form : Five) (row : List ℕ) (i : Instr) → length row ≡ 5 → AllByRecursion IsCount row → five_of form row ≡ Some i
    → IsMade (number_of (five_of form [])) row i
five_made five.Copy (a ∷ b ∷ c ∷ d ∷ e ∷ []) i h counts found = made_is _ (a ∷ b ∷ c ∷ d ∷ e ∷ []) _ i (refl, refl, counts) found
five_made five.Move (a ∷ b ∷ c ∷ d ∷ e ∷ []) i h counts found = made_is _ (a ∷ b ∷ c ∷ d ∷ e ∷ []) _ i (refl, refl, counts) found
five_made five.Pop (a ∷ b ∷ c ∷ d ∷ e ∷ []) i h counts found = made_is _ (a ∷ b ∷ c ∷ d ∷ e ∷ []) _ i (refl, refl, counts) found
five_made five.Lend (a ∷ b ∷ c ∷ d ∷ zero ∷ []) i h counts found = made_is _ (a ∷ b ∷ c ∷ d ∷ zero ∷ []) _ i (refl, refl, counts) found
five_made five.Lend (a ∷ b ∷ c ∷ d ∷ (suc zero) ∷ []) i h counts found = made_is _ (a ∷ b ∷ c ∷ d ∷ (suc zero) ∷ []) _ i (refl, refl, counts) found
five_made five.Lend (a ∷ b ∷ c ∷ d ∷ (suc (suc n)) ∷ []) i h counts found = absurd cc
five_made _ _ i h counts found = absurd (omega arith)

seven_made : (form : Seven) (row : List ℕ) (i : Instr) → length row ≡ 7 → AllByRecursion IsCount row → seven_of form row ≡ Some i
    → IsMade (number_of (seven_of form [])) row i
seven_made seven.Swap (a ∷ b ∷ c ∷ d ∷ e ∷ f ∷ g ∷ []) i h counts found = made_is _ (a ∷ b ∷ c ∷ d ∷ e ∷ f ∷ g ∷ []) _ i (refl, refl, counts) found
seven_made seven.Elem (a ∷ b ∷ c ∷ d ∷ e ∷ zero ∷ g ∷ []) i h counts found = made_is _ (a ∷ b ∷ c ∷ d ∷ e ∷ zero ∷ g ∷ []) _ i (refl, refl, counts) found
seven_made seven.Elem (a ∷ b ∷ c ∷ d ∷ e ∷ (suc zero) ∷ g ∷ []) i h counts found =
    made_is _ (a ∷ b ∷ c ∷ d ∷ e ∷ (suc zero) ∷ g ∷ []) _ i (refl, refl, counts) found
seven_made seven.Elem (a ∷ b ∷ c ∷ d ∷ e ∷ (suc (suc n)) ∷ g ∷ []) i h counts found = absurd cc
seven_made _ _ i h counts found = absurd (omega arith)

-- INSTRUCTIONS

row_taken : (n : ℕ) (row bytes all rest : List ℕ) → read_row n row bytes ≡ Some (all, rest)
    → (more : List ℕ) × (all ≡ row ++ more) × (length more ≡ n) × AllByRecursion IsCount more × (bytes ≡ flat_map count_bytes more ++ rest)
unfolding read_row
row_taken zero row bytes all rest e =
    let pair = some_is _ _ e in
    ([], sym (ap (λ (x : List ℕ × List ℕ). x.0) pair) ∙ sym (append-nil row), refl, tt, ap (λ (x : List ℕ × List ℕ). x.1) pair)
row_taken (suc n) row bytes all rest e =
    let p = and_then_some (λ x. read_row n (row ++ x.0 ∷ []) x.1) (read_count bytes) (all, rest) e in
    let taken = count_taken p.0.0 bytes p.0.1 p.1 in
    let more = row_taken n (row ++ p.0.0 ∷ []) p.0.1 all rest p.2 in (
      p.0.0 ∷ more.0,
      more.1 ∙ append_assoc row (p.0.0 ∷ []) more.0,
      ap suc more.2,
      (taken.1, more.3),
      taken.0
          ∙ ap (λ (t : List ℕ). count_bytes p.0.0 ++ t) more.4 ∙ sym (append_assoc (count_bytes p.0.0) (flat_map count_bytes more.0) rest),
    )

-- what was read of so many counts is spelled so, after the number
made_taken : (size n : ℕ) (make : List ℕ → Option Instr) (bytes : List ℕ) (i : Instr) (rest : List ℕ)
    → ((row : List ℕ) (j : Instr) → length row ≡ size → AllByRecursion IsCount row → make row ≡ Some j → IsMade n row j)
    → read_made size make bytes ≡ Some (i, rest)
    → (n ∷ bytes ≡ instr_bytes i ++ rest) × HaveBytes i
made_taken size n make bytes i rest made e =
    let p = and_then_some (λ row. option_and_then (λ j. Some (j, row.1)) (make row.0)) (read_row size [] bytes) (i, rest) e in
    let q = and_then_some (λ j. Some (j, p.0.1)) (make p.0.0) (i, rest) p.2 in
    let pair = some_is _ _ q.2 in
    let same : q.0 ≡ i = ap (λ (x : Instr × List ℕ). x.0) pair in
    let behind : p.0.1 ≡ rest = ap (λ (x : Instr × List ℕ). x.1) pair in
    let row = row_taken size [] bytes p.0.0 p.0.1 p.1 in
    let m = made row.0 i row.2 row.3 (ap make (sym row.1) ∙ q.1 ∙ ap (λ (x : Instr). Some x) same) in
    let spelled : bytes ≡ flat_map operand_bytes (operands i) ++ rest = row.4 ∙ ap (λ (t : List ℕ). t ++ p.0.1) (sym m.1)
    ∙ ap (λ (r : List ℕ). flat_map operand_bytes (operands i) ++ r) behind in
    (ap (λ (t : List ℕ). n ∷ t) spelled ∙ ap (λ (k : ℕ). k ∷ (flat_map operand_bytes (operands i) ++ rest)) (sym m.0), m.2)

signed_value : (negative : Bool) (n : ℕ) (bytes rest : List ℕ) → bytes ≡ signed_groups 10 negative n ++ rest → n < 2 ^ 63
    → (bytes ≡ value_bytes (value_by_sign negative n) ++ rest) × IsTrue (fits (value_by_sign negative n))
unfolding signed_bytes
signed_value false n bytes rest e h = (e, is_below n (2 ^ 63) h)
signed_value true n bytes rest e h = (e, is_below n (2 ^ 63) h)

pub value_taken : (v : ℤ) (bytes rest : List ℕ) → read_value bytes ≡ Some (v, rest) → (bytes ≡ value_bytes v ++ rest) × IsTrue (fits v)
value_taken v bytes rest e =
    let p = and_then_some (λ x. Some (value_by_sign x.0.negative x.0.number, x.1)) (read_signed 10 bytes) (v, rest) e in
    let pair = some_is _ _ p.2 in
    let taken = signed_taken 10 p.0.0 bytes p.0.1 p.1 in
    let family : ℤ × List ℕ → Type 0 = λ x. (bytes ≡ value_bytes x.0 ++ x.1) × IsTrue (fits x.0) in
    subst family pair (signed_value p.0.0.negative p.0.0.number bytes p.0.1 taken.0 taken.1)

const_taken : (bytes : List ℕ) (i : Instr) (rest : List ℕ) → read_const bytes ≡ Some (i, rest) → (1 ∷ bytes ≡ instr_bytes i ++ rest) × HaveBytes i
const_taken bytes i rest e =
    let p = and_then_some (λ to. option_and_then (λ value. Some (instr.Const to.0 value.0, value.1)) (read_value to.1)) (read_count bytes) (i, rest) e in
    let q = and_then_some (λ value. Some (instr.Const p.0.0 value.0, value.1)) (read_value p.0.1) (i, rest) p.2 in
    let pair = some_is _ _ q.2 in
    let to = count_taken p.0.0 bytes p.0.1 p.1 in
    let value = value_taken q.0.0 p.0.1 q.0.1 q.1 in
    let family : Instr × List ℕ → Type 0 = λ x. (1 ∷ bytes ≡ instr_bytes x.0 ++ x.1) × HaveBytes x.0 in
    let spelled : bytes ≡ (count_bytes p.0.0 ++ (value_bytes q.0.0 ++ [])) ++ q.0.1 = to.0 ∙ ap (λ (t : List ℕ). count_bytes p.0.0 ++ t) value.0
    ∙ simp (append_assoc, append-nil) in
    subst family pair (ap (λ (t : List ℕ). 1 ∷ t) spelled, (to.1, (value.1, tt)))

-- the number of the instructions of a form
abbrev form_number : Form → ℕ
form_number form.Const = 1
form_number (form.One f) = number (one_of f [])
form_number (form.Two f) = number_of (two_of f [])
form_number (form.Three f) = number (three_of f [])
form_number (form.Four f) = number (four_of f [])
form_number (form.Five f) = number_of (five_of f [])
form_number (form.Seven f) = number_of (seven_of f [])

form_taken : (f : Form) (bytes : List ℕ) (i : Instr) (rest : List ℕ) → read_form (Some f) bytes ≡ Some (i, rest)
    → (form_number f ∷ bytes ≡ instr_bytes i ++ rest) × HaveBytes i
form_taken form.Const bytes i rest e = const_taken bytes i rest e
form_taken (form.One f) bytes i rest e = made_taken 1 _ _ bytes i rest (λ row j h c m. made_is _ row _ j (one_made f row h c) m) e
form_taken (form.Two f) bytes i rest e = made_taken 2 _ _ bytes i rest (two_made f) e
form_taken (form.Three f) bytes i rest e = made_taken 3 _ _ bytes i rest (λ row j h c m. made_is _ row _ j (three_made f row h c) m) e
form_taken (form.Four f) bytes i rest e = made_taken 4 _ _ bytes i rest (λ row j h c m. made_is _ row _ j (four_made f row h c) m) e
form_taken (form.Five f) bytes i rest e = made_taken 5 _ _ bytes i rest (five_made f) e
form_taken (form.Seven f) bytes i rest e = made_taken 7 _ _ bytes i rest (seven_made f) e

-- the forms of a table have these numbers, one after the other
abbrev AreNumbered : ℕ → List Form → Type 0
AreNumbered n [] = Unit {0}
AreNumbered n (f ∷ forms) = (form_number f ≡ n) × AreNumbered (suc n) forms

numbered_at : (n at : ℕ) (forms : List Form) (f : Form) → AreNumbered n forms → slice_get forms at ≡ Some f → form_number f ≡ n + at
numbered_at n at [] f h e = absurd cc
numbered_at n zero (g ∷ forms) f h e = ap form_number (sym (some_is g f e)) ∙ h.0 ∙ omega arith
numbered_at n (suc at) (g ∷ forms) f h e = numbered_at (suc n) at forms f h.1 e ∙ omega arith

numbered_from_31 : AreNumbered 31 (drop 30 FORMS)
numbered_from_31 = (refl, (refl, (refl, (refl, tt))))

numbered_from_16 : AreNumbered 16 (drop 15 FORMS)
numbered_from_16 = (refl, (refl, (refl, (refl, (refl, (refl, (refl, (refl, (refl, (refl, (refl, (refl, (refl, (refl, (refl, numbered_from_31)))))))))))))))

forms_numbered : AreNumbered 1 FORMS
forms_numbered = (refl, (refl, (refl, (refl, (refl, (refl, (refl, (refl, (refl, (refl, (refl, (refl, (refl, (refl, (refl, numbered_from_16)))))))))))))))

form_numbered : (b : ℕ) (f : Form) → form_at b ≡ Some f → b ≡ form_number f
form_numbered zero f e = absurd (none_is_some f e)
form_numbered (suc b) f e =
    let some : suc b ≡ 0 → ⊥ = λ z. omega arith in
    let h = numbered_at 1 (suc b - 1) FORMS f forms_numbered (sym (form_above (suc b) some) ∙ e) in omega arith

read_taken : (b : ℕ) (form : Option Form) (bytes : List ℕ) (i : Instr) (rest : List ℕ) → form_at b ≡ form → read_form form bytes ≡ Some (i, rest)
    → (b ∷ bytes ≡ instr_bytes i ++ rest) × HaveBytes i
read_taken b None bytes i rest e r = absurd (none_is_some _ r)
read_taken b (Some f) bytes i rest e r = let taken = form_taken f bytes i rest r in (ap (λ (n : ℕ). n ∷ bytes) (form_numbered b f e) ∙ taken.0, taken.1)

pub instr_taken : (bytes : List ℕ) (i : Instr) (rest : List ℕ) → read_instr bytes ≡ Some (i, rest) → (bytes ≡ instr_bytes i ++ rest) × HaveBytes i
unfolding read_instr
instr_taken [] i rest e = absurd (none_is_some _ e)
instr_taken (b ∷ bytes) i rest e = read_taken b (form_at b) bytes i rest refl e
