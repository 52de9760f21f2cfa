-- A field that is read is the one that is spelled there, and one that is spelled is read.
use Rattle.std.proofs.Common.{◌≡◌, ℕ, ◌+◌, ◌-◌, ◌^◌, ◌<◌, ◌≤◌, Bool, true, false, cond, ◌&&◌, List, [], ◌∷◌, ◌++◌, nat_lt, nat_le, Some, None, refl, ap}
use Rattle.std.proofs.Common.{sym, subst, ◌∙◌, append_assoc, arith}
use Rattle.std.specs.Prelude.{IsTrue}
use Rattle.std.specs.List.{AllByRecursion, list_all}
use Rattle.std.specs.Option.{option_and_then}
use Rattle.hy_base.specs.declared.position.Span.{Span}
use Rattle.hy_object.specs.declared.bounds.Bounds.{Bounds}
use Rattle.hy_object.specs.declared.instr.Instr.{Instr}
use Rattle.hy_object.specs.Numbers.{count_bytes}
use Rattle.hy_object.specs.Operands.{Operand, Own, Outcome, FirstWord, FirstSlot, Base, Offset, Slot, Callee, Target, Trap, Size, Choice, Value, operands}
use Rattle.hy_object.specs.Operands.{instr_bytes}
use Rattle.hy_object.specs.Grammar.{IsCount, IsSpan, IsOperand, IsInstr}
use Rattle.hy_object.specs.Bytes.{span_bytes}
use Rattle.hy_object.specs.Allowed.{may_be, allows, may_stand}
use Rattle.hy_object.specs.Reading.{read_count, read_instr}
use Rattle.hy_object.specs.Formats.{Kind, Mark, Number, Range, Code, Held, spelled, read_number, read_span, span_from, read_code, read_field}
use Rattle.hy_object.proofs.Choices.{is_below, below, is_at_most, at_most, some_is, kept, and_then_some}
use Rattle.hy_object.proofs.Numerals.{count_taken, count_again}
use Rattle.hy_object.proofs.Marks.{mark_taken, mark_again}
use Rattle.hy_object.proofs.Instructions.{HaveBytes, instr_taken, instr_again}

-- what a field may hold
abbrev pub Fits : (kind : Kind) → Held kind → Type 0
Fits (Mark mark) held = Unit {0}
Fits (Number low high) n = (low ≤ n) × (n ≤ high) × IsCount n
Fits Range span = IsSpan span
Fits (Code bounds behind) i = IsInstr bounds i × IsTrue (may_stand behind i) × HaveBytes i

both : (a b : Bool) → (a && b) ≡ true → (a ≡ true) × (b ≡ true)
both true b e = (refl, e)
both false b e = absurd cc

-- RULES AND TESTS

operand_may : (b : Bounds) (o : Operand) → IsOperand b o → may_be b o ≡ true
operand_may b (Own word words) h = is_at_most _ _ h
operand_may b (Outcome word) h = is_at_most _ _ h
operand_may b (FirstWord word) h = is_at_most _ _ h
operand_may b (FirstSlot slot) h = is_at_most _ _ h
operand_may b (Base base) h = is_at_most _ _ h
operand_may b (Offset offset) h = is_below _ _ h
operand_may b (Slot slot) h = is_below _ _ h
operand_may b (Callee fun) h = is_below _ _ h
operand_may b (Target place) h = is_below _ _ h
operand_may b (Trap span) h = is_below _ _ h
operand_may b (Size words) h = is_at_most _ _ h
operand_may b (Choice n) h = is_below _ _ h
operand_may b (Value v) h = h

operand_is : (b : Bounds) (o : Operand) → may_be b o ≡ true → IsOperand b o
operand_is b (Own word words) h = at_most _ _ h
operand_is b (Outcome word) h = at_most _ _ h
operand_is b (FirstWord word) h = at_most _ _ h
operand_is b (FirstSlot slot) h = at_most _ _ h
operand_is b (Base base) h = at_most _ _ h
operand_is b (Offset offset) h = below _ _ h
operand_is b (Slot slot) h = below _ _ h
operand_is b (Callee fun) h = below _ _ h
operand_is b (Target place) h = below _ _ h
operand_is b (Trap span) h = below _ _ h
operand_is b (Size words) h = at_most _ _ h
operand_is b (Choice n) h = below _ _ h
operand_is b (Value v) h = h

all_may : (b : Bounds) (os : List Operand) → AllByRecursion (IsOperand b) os → list_all (may_be b) os ≡ true
all_may b [] h = refl
all_may b (o ∷ os) h = rw (operand_may b o h.0, all_may b os h.1) refl

all_are : (b : Bounds) (os : List Operand) → list_all (may_be b) os ≡ true → AllByRecursion (IsOperand b) os
all_are b [] h = tt
all_are b (o ∷ os) h = let p = both (may_be b o) _ h in (operand_is b o p.0, all_are b os p.1)

-- FIELDS

number_taken : (low high n : ℕ) (bytes rest : List ℕ) → read_number low high bytes ≡ Some (n, rest)
    → (bytes ≡ count_bytes n ++ rest) × Fits (Number low high) n
number_taken low high n bytes rest e =
    let p = and_then_some (λ x. cond (nat_le low x.0 && nat_le x.0 high) (Some x) None) (read_count bytes) (n, rest) e in
    let q = kept (nat_le low p.0.0 && nat_le p.0.0 high) (Some p.0) (n, rest) p.2 in
    let t = both (nat_le low p.0.0) (nat_le p.0.0 high) q.0 in
    let pair = some_is _ _ q.1 in
    let taken = count_taken p.0.0 bytes p.0.1 p.1 in
    subst (λ (x : ℕ × List ℕ). (bytes ≡ count_bytes x.0 ++ x.1) × Fits (Number low high) x.0) pair (
      taken.0,
      (at_most low p.0.0 t.0, at_most p.0.0 high t.1, taken.1),
    )

number_again : (low high n : ℕ) (rest : List ℕ) → Fits (Number low high) n → read_number low high (count_bytes n ++ rest) ≡ Some (n, rest)
number_again low high n rest h = rw (count_again n rest h.2, is_at_most low n h.0, is_at_most n high h.1) refl

span_taken : (span : Span) (bytes rest : List ℕ) → read_span bytes ≡ Some (span, rest) → (bytes ≡ span_bytes span ++ rest) × IsSpan span
span_taken span bytes rest e =
    let p = and_then_some (λ from. option_and_then (λ size. cond (nat_lt (from.0 + size.0) (2 ^ 32)) (Some (span_from from.0 size.0, size.1)) None)
    (read_count from.1)) (read_count bytes) (span, rest) e in
    let q = and_then_some (λ size. cond (nat_lt (p.0.0 + size.0) (2 ^ 32)) (Some (span_from p.0.0 size.0, size.1)) None) (read_count p.0.1) (span, rest) p.2 in
    let r = kept (nat_lt (p.0.0 + q.0.0) (2 ^ 32)) (Some (span_from p.0.0 q.0.0, q.0.1)) (span, rest) q.2 in
    let from = count_taken p.0.0 bytes p.0.1 p.1 in
    let size = count_taken q.0.0 p.0.1 q.0.1 q.1 in
    let length : p.0.0 + q.0.0 - p.0.0 ≡ q.0.0 = omega arith in
    let small : p.0.0 + q.0.0 < 2 ^ 32 = below _ _ r.0 in
    let whole : bytes ≡ (count_bytes p.0.0 ++ count_bytes (p.0.0 + q.0.0 - p.0.0)) ++ q.0.1 =
    from.0 ∙ ap (λ (t : List ℕ). count_bytes p.0.0 ++ t) size.0 ∙ sym (append_assoc (count_bytes p.0.0) (count_bytes q.0.0) q.0.1)
    ∙ ap (λ (n : ℕ). (count_bytes p.0.0 ++ count_bytes n) ++ q.0.1) (sym length) in
    subst (λ (x : Span × List ℕ). (bytes ≡ span_bytes x.0 ++ x.1) × IsSpan x.0) (some_is _ _ r.1) (whole, record { in_order = omega arith; to = small })

span_again : (span : Span) (rest : List ℕ) → IsSpan span → read_span (span_bytes span ++ rest) ≡ Some (span, rest)
span_again span rest h =
    let from = span.from in
    let size = span.to - span.from in
    let ordered : span.from ≤ span.to = h.in_order in
    let small : span.to < 2 ^ 32 = h.to in
    let sum : from + size ≡ span.to = omega arith in
    let front : (count_bytes from ++ count_bytes size) ++ rest ≡ count_bytes from ++ (count_bytes size ++ rest) =
    append_assoc (count_bytes from) (count_bytes size) rest in
    ap read_span front
    ∙ rw (count_again from (count_bytes size ++ rest) (omega arith), count_again size rest (omega arith), sum, is_below span.to (2 ^ 32) small) refl

code_taken : (bounds : Bounds) (behind : ℕ) (i : Instr) (bytes rest : List ℕ) → read_code bounds behind bytes ≡ Some (i, rest)
    → (bytes ≡ instr_bytes i ++ rest) × Fits (Code bounds behind) i
code_taken bounds behind i bytes rest e =
    let p = and_then_some (λ x. cond (allows bounds x.0 && may_stand behind x.0) (Some x) None) (read_instr bytes) (i, rest) e in
    let q = kept (allows bounds p.0.0 && may_stand behind p.0.0) (Some p.0) (i, rest) p.2 in
    let t = both (allows bounds p.0.0) (may_stand behind p.0.0) q.0 in
    let taken = instr_taken bytes p.0.0 p.0.1 p.1 in
    subst (λ (x : Instr × List ℕ). (bytes ≡ instr_bytes x.0 ++ x.1) × Fits (Code bounds behind) x.0) (some_is _ _ q.1) (
      taken.0,
      (all_are bounds (operands p.0.0) t.0, t.1, taken.1),
    )

code_again : (bounds : Bounds) (behind : ℕ) (i : Instr) (rest : List ℕ) → Fits (Code bounds behind) i
    → read_code bounds behind (instr_bytes i ++ rest) ≡ Some (i, rest)
code_again bounds behind i rest h = rw (instr_again i rest h.2, all_may bounds (operands i) h.0, h.1) refl

pub taken : (kind : Kind) (held : Held kind) (bytes rest : List ℕ) → read_field kind bytes ≡ Some (held, rest) → (bytes ≡ spelled kind held ++ rest)
    × Fits kind held
taken (Mark mark) held bytes rest e = (mark_taken mark bytes rest e, tt)
taken (Number low high) n bytes rest e = number_taken low high n bytes rest e
taken Range span bytes rest e = span_taken span bytes rest e
taken (Code bounds behind) i bytes rest e = code_taken bounds behind i bytes rest e

pub again : (kind : Kind) (held : Held kind) (rest : List ℕ) → Fits kind held → read_field kind (spelled kind held ++ rest) ≡ Some (held, rest)
again (Mark mark) held rest h = mark_again mark rest
again (Number low high) n rest h = number_again low high n rest h
again Range span rest h = span_again span rest h
again (Code bounds behind) i rest h = code_again bounds behind i rest h
