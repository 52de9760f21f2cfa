-- The format as a tree of fields to come, each with what may follow it, and reading along it. What stands in a file is so
-- decided at each field.
use Rattle.std.specs.Prelude.{◌≡◌, ◌+◌, ◌-◌, ◌^◌, ℕ, zero, suc, List, [], ◌∷◌, ◌++◌, length, ◌&&◌, nat_lt, nat_le, nat_eq, if◌then◌else◌, Option, Some}
use Rattle.std.specs.Prelude.{None, Result, Ok, Err}
use Rattle.std.specs.Option.{option_and_then}
use Rattle.hy_base.specs.declared.position.Span.{Span}
use Rattle.hy_object.specs.declared.bounds.Bounds.{Bounds}
use Rattle.hy_object.specs.declared.instr.Instr.{Instr}
use Rattle.hy_object.specs.declared.object.Object.{Object}
use Rattle.hy_object.specs.declared.object.Fun.{Fun}
use Rattle.hy_object.specs.declared.reading.Header.{Header}
use Rattle.hy_object.specs.declared.reading.Stop.{Stop}
use Rattle.hy_object.specs.declared.reading.Stop.TheVariants as stop
use Rattle.hy_object.specs.Numbers.{count_bytes}
use Rattle.hy_object.specs.Operands.{instr_bytes}
use Rattle.hy_object.specs.Allowed.{allows, may_stand}
use Rattle.hy_object.specs.Bytes.{magic, version, span_bytes}
use Rattle.hy_object.specs.Reading.{read_count, read_instr}

-- FIELDS

pub data Kind : Type 0 where
  -- these bytes
  Mark : List ℕ → Kind
  -- a count from one number to another
  Number : (low : ℕ) → (high : ℕ) → Kind
  -- a span
  Range : Kind
  -- an instruction, of a function with these bounds, with so many after it
  Code : Bounds → (behind : ℕ) → Kind

abbrev pub Held : Kind → Type 0
Held (Mark bytes) = Unit {0}
Held (Number low high) = ℕ
Held Range = Span
Held (Code bounds behind) = Instr

abbrev pub spelled : (kind : Kind) → Held kind → List ℕ
spelled (Mark bytes) held = bytes
spelled (Number low high) n = count_bytes n
spelled Range span = span_bytes span
spelled (Code bounds behind) i = instr_bytes i

-- the field's bytes, where the first bytes are they
abbrev pub read_mark : List ℕ → List ℕ → Option (Unit {0} × List ℕ)
read_mark [] bytes = Some (tt, bytes)
read_mark (m ∷ mark) [] = None
read_mark (m ∷ mark) (b ∷ bytes) = if nat_eq m b then read_mark mark bytes else None

abbrev pub read_number : ℕ → ℕ → List ℕ → Option (ℕ × List ℕ)
read_number low high bytes = option_and_then (λ x. if nat_le low x.0 && nat_le x.0 high then Some x else None) (read_count bytes)

abbrev pub span_from : ℕ → ℕ → Span
span_from from size = record { from = from; to = from + size }

abbrev pub read_span : List ℕ → Option (Span × List ℕ)
read_span bytes =
    option_and_then (λ from. option_and_then (λ size. if nat_lt (from.0 + size.0) (2 ^ 32) then Some (span_from from.0 size.0, size.1) else None)
    (read_count from.1)) (read_count bytes)

abbrev pub read_code : Bounds → ℕ → List ℕ → Option (Instr × List ℕ)
read_code bounds behind bytes = option_and_then (λ x. if allows bounds x.0 && may_stand behind x.0 then Some x else None) (read_instr bytes)

abbrev pub read_field : (kind : Kind) → List ℕ → Option (Held kind × List ℕ)
read_field (Mark mark) bytes = read_mark mark bytes
read_field (Number low high) bytes = read_number low high bytes
read_field Range bytes = read_span bytes
read_field (Code bounds behind) bytes = read_code bounds behind bytes

-- FORMATS

pub data Format : Type 0 where
  Done : Object → Format
  Then : (kind : Kind) → (Held kind → Format) → Format

abbrev pub follow : {A : Type 0} → Option (A × List ℕ) → (A → List ℕ → Result Object ℕ) → ℕ → Result Object ℕ
follow None next left = Err left
follow (Some x) next left = next x.0 x.1

-- the object, or how many bytes are left where the first field stands that cannot
unfoldable pub run : Format → List ℕ → Result Object ℕ
run (Done object) [] = Ok object
run (Done object) (b ∷ bytes) = Err (length (b ∷ bytes))
run (Then kind next) bytes = follow (read_field kind bytes) (λ held rest. run (next held) rest) (length bytes)

-- OBJECTS

-- the largest count
abbrev pub largest : ℕ
largest = 4294967295

abbrev pub number : ℕ → ℕ → (ℕ → Format) → Format
number low high next = Then (Number low high) next

-- So many of one part, after these. A part knows how many are after it, and which are before it.
abbrev pub many : {X : Type 0} → (ℕ → List X → (X → Format) → Format) → ℕ → List X → (List X → Format) → Format
many one zero before next = next before
many one (suc n) before next = one n before (λ x. many one n (before ++ x ∷ []) next)

abbrev pub one_span : ℕ → List Span → (Span → Format) → Format
one_span behind before next = Then Range next

abbrev pub one_instr : Bounds → ℕ → List Instr → (Instr → Format) → Format
one_instr bounds behind before next = Then (Code bounds behind) next

abbrev pub header_format : ℕ → (Header → Format) → Format
header_format most next =
    number 0 most (λ accesses. number 0 most (λ owned. number 0 most (λ result.
    number owned largest (λ words. number accesses largest (λ slots. number 1 largest (λ places.
    next (record { accesses = accesses; owned = owned; result = result; words = words; slots = slots; places = places })))))))

abbrev pub bounds_in : ℕ → ℕ → Header → Bounds
bounds_in spans funs header = record { spans = spans; funs = funs; result = header.result; words = header.words; slots = header.slots; places = header.places }

abbrev pub fun_of : Header → List Instr → Fun
fun_of header code = record {
  accesses = header.accesses;
  owned = header.owned;
  result = header.result;
  words = header.words;
  slots = header.slots;
  code = code;
}

abbrev pub fun_format : ℕ → ℕ → ℕ → (Fun → Format) → Format
fun_format spans funs most next =
    header_format most (λ header. many (one_instr (bounds_in spans funs header)) header.places [] (λ code. next (fun_of header code)))

-- how many accesses, owned words and result words a function may have after these functions: none where it is `main`
abbrev pub most : List Fun → ℕ
most [] = 0
most (fun ∷ funs) = largest

abbrev pub one_fun : ℕ → ℕ → ℕ → List Fun → (Fun → Format) → Format
one_fun spans funs behind before next = fun_format spans funs (most before) next

abbrev pub object_format : Format
object_format =
    Then (Mark magic) (λ _. Then (Mark version) (λ _.
    number 0 largest (λ spans. many one_span spans [] (λ ranges.
    number 1 largest (λ funs. many (one_fun spans funs) funs [] (λ all.
    Done (record { spans = ranges; funs = all })))))))

-- READING

-- whatever follows a part, a run stops in it, with so many bytes left, unless memory runs out
abbrev pub Stops : {X : Type 0} → ((X → Format) → Format) → List ℕ → Stop → Type 0
Stops {X = X} part bytes (stop.At left) = (next : X → Format) → run (part next) bytes ≡ Err left
Stops part bytes stop.NoMemory = Unit {0}

-- A function that reads a part answers so: whatever follows the part, a run goes on after it with what was read, or stops.
abbrev pub Reads : {X Y : Type 0} → (X → Y) → (X → List ℕ) → ((Y → Format) → Format) → List ℕ → Result X Stop → Type 0
Reads {Y = Y} view rest part bytes (Ok x) = (next : Y → Format) → run (part next) bytes ≡ run (next (view x)) (rest x)
Reads view rest part bytes (Err e) = Stops part bytes e

abbrev pub Ends : List ℕ → Result Object Stop → Type 0
Ends bytes (Ok object) = run object_format bytes ≡ Ok object
Ends bytes (Err (stop.At left)) = run object_format bytes ≡ Err left
Ends bytes (Err stop.NoMemory) = Unit {0}

-- A loop that reads many parts has read these: a run over all is one over the others, from the bytes that are left.
abbrev pub SoFar : {X : Type 0} → (ℕ → List X → (X → Format) → Format) → (size : ℕ) → (counter : ℕ) → List X → (all : List ℕ) → (left : List ℕ) → Type 0
SoFar {X = X} one size counter before all left = (next : List X → Format) → run (many one size [] next) all ≡ run (many one (size - counter) before next) left
