-- The format's paths are the objects in the grammar, each with its fields.
use Rattle.std.proofs.Common.{◌≡◌, ℕ, zero, suc, ◌^◌, ◌<◌, ◌≤◌, List, [], ◌∷◌, ◌++◌, length, flat_map, refl, ap, sym, subst, ◌∙◌, append_assoc, arith}
use Rattle.std.specs.Prelude.{IsTrue, map, slice_get, IsSomeAnd}
use Rattle.std.specs.List.{AllByRecursion}
use Rattle.std.proofs.lemmas.List.{append-nil}
use Rattle.std.proofs.lemmas.List.Concat.{flat_map_single}
use Rattle.hy_base.specs.declared.position.Span.{Span}
use Rattle.hy_object.specs.declared.bounds.Bounds.{Bounds}
use Rattle.hy_object.specs.declared.instr.Instr.{Instr}
use Rattle.hy_object.specs.declared.instr.Instr.TheVariants as instr
use Rattle.hy_object.specs.declared.object.Object.{Object}
use Rattle.hy_object.specs.declared.object.Fun.{Fun}
use Rattle.hy_object.specs.declared.reading.Header.{Header}
use Rattle.hy_object.specs.Numbers.{count_bytes}
use Rattle.hy_object.specs.Operands.{Operand, Own, Outcome, FirstWord, FirstSlot, Base, Offset, Slot, Callee, Target, Trap, Size, Choice, Value, operands}
use Rattle.hy_object.specs.Operands.{instr_bytes}
use Rattle.hy_object.specs.Grammar.{IsCount, IsSpan, IsOperand, IsInstr, IsFun, IsMain, IsInGrammar, Ends, bounds_of}
use Rattle.hy_object.specs.Bytes.{magic, version, span_bytes, fun_fields, fields}
use Rattle.hy_object.specs.Allowed.{may_stand}
use Rattle.hy_object.specs.Formats.{Number, Code, Format, Done, Then, many, one_span, one_instr, one_fun, largest, most, fun_format, object_format}
use Rattle.hy_object.specs.Formats.{bounds_in, fun_of}
use Rattle.hy_object.proofs.Instructions.{HasBytes}
use Rattle.hy_object.proofs.Fields.{Fits}
use Rattle.hy_object.proofs.Paths.{Path, Lives}

-- MANY PARTS

-- what is known of each of many parts, by how many are after it, and which are before it
abbrev pub Along : {X : Type 0} → (ℕ → List X → X → Type 0) → List X → List X → Type 0
Along Fact before [] = Unit {0}
Along Fact before (x ∷ xs) = Fact (length xs) before x × Along Fact (before ++ x ∷ []) xs

lives_many : {X : Type 0} (one : ℕ → List X → (X → Format) → Format)
    → ((behind : ℕ) (before : List X) (next : X → Format) → ((x : X) → Lives (next x)) → Lives (one behind before next))
    → (n : ℕ) (before : List X) (next : List X → Format) → ((xs : List X) → Lives (next xs)) → Lives (many one n before next)
lives_many one each zero before next h = h before
lives_many one each (suc n) before next h = each n before (λ x. many one n (before ++ x ∷ []) next) (λ x. lives_many one each n (before ++ x ∷ []) next h)

pub many_path : {X : Type 0} (one : ℕ → List X → (X → Format) → Format) (spell : X → List (List ℕ)) (Fact : ℕ → List X → X → Type 0)
    → ((behind : ℕ) (before : List X) (x : X) (next : X → Format) (fs : List (List ℕ)) (object : Object) → Fact behind before x → Path (next x) fs object
    → Path (one behind before next) (spell x ++ fs) object)
    → (xs before : List X) (next : List X → Format) (fs : List (List ℕ)) (object : Object) → Along Fact before xs → Path (next (before ++ xs)) fs object
    → Path (many one (length xs) before next) (flat_map spell xs ++ fs) object
many_path one spell Fact each [] before next fs object h p = subst (λ (l : List _). Path (next l) fs object) (append-nil before) p
many_path {X = X} one spell Fact each (x ∷ xs) before next fs object h p =
    let behind : Path (next ((before ++ x ∷ []) ++ xs)) fs object =
    subst (λ (l : List X). Path (next l) fs object) (sym (append_assoc before (x ∷ []) xs)) p in
    let more = many_path one spell Fact each xs (before ++ x ∷ []) next fs object h.1 behind in
    let whole = each (length xs) before x (λ y. many one (length xs) (before ++ y ∷ []) next) (flat_map spell xs ++ fs) object h.0 more in
    subst (λ (t : List (List ℕ)). Path (one (length xs) before (λ y. many one (length xs) (before ++ y ∷ []) next)) t object)
    (sym (append_assoc (spell x) (flat_map spell xs) fs)) whole

abbrev Part : {X : Type 0} → (X → List (List ℕ)) → (X → Type 0) → (X → Format) → List (List ℕ) → Object → Type 0
Part {X = X} spell Fact next fs object = (x : X) × (rest : List (List ℕ)) × Fact x × (fs ≡ spell x ++ rest) × Path (next x) rest object

many_walked : {X : Type 0} (one : ℕ → List X → (X → Format) → Format) (spell : X → List (List ℕ)) (Fact : ℕ → List X → X → Type 0)
    → ((behind : ℕ) (before : List X) (next : X → Format) (fs : List (List ℕ)) (object : Object) → Path (one behind before next) fs object
    → Part spell (Fact behind before) next fs object)
    → (n : ℕ) (before : List X) (next : List X → Format) (fs : List (List ℕ)) (object : Object) → Path (many one n before next) fs object
    → (xs : List X) × (rest : List (List ℕ)) × (length xs ≡ n) × Along Fact before xs × (fs ≡ flat_map spell xs ++ rest)
    × Path (next (before ++ xs)) rest object
many_walked {X = X} one spell Fact each zero before next fs object p =
    ([], fs, refl, tt, refl, subst (λ (l : List X). Path (next l) fs object) (sym (append-nil before)) p)
many_walked {X = X} one spell Fact each (suc n) before next fs object p =
    let first = each n before (λ y. many one n (before ++ y ∷ []) next) fs object p in
    let more = many_walked one spell Fact each n (before ++ first.0 ∷ []) next first.1 object first.4 in (
      first.0 ∷ more.0,
      more.1,
      ap suc more.2,
      (subst (λ (k : ℕ). Fact k before first.0) (sym more.2) first.2, more.3),
      first.3 ∙ ap (λ (t : List (List ℕ)). spell first.0 ++ t) more.4 ∙ sym (append_assoc (spell first.0) (flat_map spell more.0) more.1),
      subst (λ (l : List X). Path (next l) more.1 object) (append_assoc before (first.0 ∷ []) more.0) more.5,
    )

-- SPANS

abbrev SpanFact : ℕ → List Span → Span → Type 0
SpanFact behind before span = IsSpan span

abbrev span_fields : Span → List (List ℕ)
span_fields span = span_bytes span ∷ []

span_path : (behind : ℕ) (before : List Span) (span : Span) (next : Span → Format) (fs : List (List ℕ)) (object : Object) → SpanFact behind before span
    → Path (next span) fs object
    → Path (one_span behind before next) (span_fields span ++ fs) object
span_path behind before span next fs object h p = (span, fs, h, refl, p)

span_walked : (behind : ℕ) (before : List Span) (next : Span → Format) (fs : List (List ℕ)) (object : Object) → Path (one_span behind before next) fs object
    → Part span_fields (SpanFact behind before) next fs object
span_walked behind before next fs object p = (p.0, p.1, p.2, p.3, p.4)

spans_along : (before spans : List Span) → AllByRecursion IsSpan spans → Along SpanFact before spans
spans_along before [] h = tt
spans_along before (s ∷ spans) h = (h.0, spans_along (before ++ s ∷ []) spans h.1)

spans_all : (before spans : List Span) → Along SpanFact before spans → AllByRecursion IsSpan spans
spans_all before [] h = tt
spans_all before (s ∷ spans) h = (h.0, spans_all (before ++ s ∷ []) spans h.1)

-- CODE

abbrev InstrFact : Bounds → ℕ → List Instr → Instr → Type 0
InstrFact bounds behind before i = Fits (Code bounds behind) i

abbrev instr_fields : Instr → List (List ℕ)
instr_fields i = instr_bytes i ∷ []

instr_path : (bounds : Bounds) (behind : ℕ) (before : List Instr) (i : Instr) (next : Instr → Format) (fs : List (List ℕ)) (object : Object)
    → InstrFact bounds behind before i → Path (next i) fs object
    → Path (one_instr bounds behind before next) (instr_fields i ++ fs) object
instr_path bounds behind before i next fs object h p = (i, fs, h, refl, p)

instr_walked : (bounds : Bounds) (behind : ℕ) (before : List Instr) (next : Instr → Format) (fs : List (List ℕ)) (object : Object)
    → Path (one_instr bounds behind before next) fs object
    → Part instr_fields (InstrFact bounds behind before) next fs object
instr_walked bounds behind before next fs object p = (p.0, p.1, p.2, p.3, p.4)

-- all that an instruction may name has a count
record AreCounts (b : Bounds) : Type 0 where
  spans : IsCount b.spans
  funs : IsCount b.funs
  words : IsCount b.words
  slots : IsCount b.slots
  places : IsCount b.places

operand_has : (b : Bounds) (o : Operand) → AreCounts b → IsOperand b o → HasBytes o
operand_has b (Own word words) h k = omega (arith, h.words)
operand_has b (Outcome word) h k = omega (arith, h.words)
operand_has b (FirstWord word) h k = omega (arith, h.words)
operand_has b (FirstSlot slot) h k = omega (arith, h.slots)
operand_has b (Base base) h k = omega (arith, h.slots)
operand_has b (Offset offset) h k = k
operand_has b (Slot slot) h k = omega (arith, h.slots)
operand_has b (Callee fun) h k = omega (arith, h.funs)
operand_has b (Target place) h k = omega (arith, h.places)
operand_has b (Trap span) h k = omega (arith, h.spans)
operand_has b (Size words) h k = omega arith
operand_has b (Choice n) h k = omega arith
operand_has b (Value v) h k = k

all_have : (b : Bounds) (os : List Operand) → AreCounts b → AllByRecursion (IsOperand b) os → AllByRecursion HasBytes os
all_have b [] h k = tt
all_have b (o ∷ os) h k = (operand_has b o h k.0, all_have b os h k.1)

code_along : (b : Bounds) (before code : List Instr) → AreCounts b → AllByRecursion (IsInstr b) code → Ends code → Along (InstrFact b) before code
code_along b before [] counts h e = absurd e
code_along b before (i ∷ []) counts h e = ((h.0, e, all_have b (operands i) counts h.0), tt)
code_along b before (i ∷ (j ∷ code)) counts h e = ((h.0, refl, all_have b (operands i) counts h.0), code_along b (before ++ i ∷ []) (j ∷ code) counts h.1 e)

code_all : (b : Bounds) (before code : List Instr) → Along (InstrFact b) before code → AllByRecursion (IsInstr b) code
code_all b before [] h = tt
code_all b before (i ∷ code) h = (h.0.0, code_all b (before ++ i ∷ []) code h.1)

code_ends : (b : Bounds) (before code : List Instr) → 1 ≤ length code → Along (InstrFact b) before code → Ends code
code_ends b before [] some h = absurd (omega arith)
code_ends b before (i ∷ []) some h = h.0.1
code_ends b before (i ∷ (j ∷ code)) some h = code_ends b (before ++ i ∷ []) (j ∷ code) (omega arith) h.1

-- FUNCTIONS

record FunFact (spans funs limit : ℕ) (fun : Fun) : Type 0 where
  fits : IsFun spans funs fun
  accesses : fun.accesses ≤ limit
  owned : fun.owned ≤ limit
  result : fun.result ≤ limit

some_code : (code : List Instr) → Ends code → 1 ≤ length code
some_code [] e = absurd e
some_code (i ∷ code) e = omega arith

counts_of : (spans funs : ℕ) (fun : Fun) → IsCount spans → IsCount funs → IsFun spans funs fun → AreCounts (bounds_of spans funs fun)
counts_of spans funs fun s f h = record { spans = s; funs = f; words = h.words; slots = h.slots; places = h.places }

fun_path : (spans funs limit : ℕ) (fun : Fun) (next : Fun → Format) (fs : List (List ℕ)) (object : Object) → IsCount spans → IsCount funs
    → FunFact spans funs limit fun → Path (next fun) fs object
    → Path (fun_format spans funs limit next) (fun_fields fun ++ fs) object
fun_path spans funs limit fun next fs object s f h p =
    let k = h.fits in
    let accesses : fun.accesses ≤ fun.slots = k.accesses in
    let owned : fun.owned ≤ fun.words = k.owned in
    let words : fun.words < 2 ^ 32 = k.words in
    let slots : fun.slots < 2 ^ 32 = k.slots in
    let places : length fun.code < 2 ^ 32 = k.places in
    let some = some_code fun.code k.ends in
    let bounds = bounds_of spans funs fun in
    let code = many_path (one_instr bounds) instr_fields (InstrFact bounds) (instr_path bounds) fun.code [] (λ code. next (record fun { code = code })) fs
    object (code_along bounds [] fun.code (counts_of spans funs fun s f k) k.instrs k.ends) p in
    let code_fields : flat_map instr_fields fun.code ≡ map instr_bytes fun.code = flat_map_single instr_bytes fun.code in (
      fun.accesses,
      _,
      (omega arith, h.accesses, omega arith),
      refl,
      (
        fun.owned,
        _,
        (omega arith, h.owned, omega arith),
        refl,
        (
          fun.result,
          _,
          (omega arith, h.result, k.result),
          refl,
          (
            fun.words,
            _,
            (owned, omega arith, words),
            refl,
            (
              fun.slots,
              _,
              (accesses, omega arith, slots),
              refl,
              (
                length fun.code,
                map instr_bytes fun.code ++ fs,
                (some, omega arith, places),
                refl,
                subst (λ (t : List (List ℕ)). Path (many (one_instr bounds) (length fun.code) [] (λ code. next (record fun { code = code }))) (t ++ fs)
                    object) code_fields code,
              ),
            ),
          ),
        ),
      ),
    )

fun_walked : (spans funs limit : ℕ) (next : Fun → Format) (fs : List (List ℕ)) (object : Object) → Path (fun_format spans funs limit next) fs object
    → Part fun_fields (FunFact spans funs limit) next fs object
fun_walked spans funs limit next fs object (
  accesses,
  r1,
  f1,
  e1,
  (owned, r2, f2, e2, (result, r3, f3, e3, (words, r4, f4, e4, (slots, r5, f5, e5, (places, r6, f6, e6, p))))),
) =
    let header : Header = record { accesses = accesses; owned = owned; result = result; words = words; slots = slots; places = places } in
    let bounds = bounds_in spans funs header in
    let walked = many_walked (one_instr bounds) instr_fields (InstrFact bounds) (instr_walked bounds) places [] (λ code. next (fun_of header code)) r6
    object p in
    let code = walked.0 in
    let fun = fun_of header code in
    let size : length code ≡ places = walked.2 in
    let instrs : AllByRecursion (IsInstr (bounds_of spans funs fun)) code =
    subst (λ (n : ℕ). AllByRecursion (IsInstr (record { spans = spans; funs = funs; result = result; words = words; slots = slots; places = n })) code)
    (sym size) (code_all bounds [] code walked.3) in
    let some : 1 ≤ length code = omega (arith, f6.0) in
    let counted : count_bytes places ≡ count_bytes (length code) = ap count_bytes (sym size) in
    let spelled_so : r6 ≡ map instr_bytes code ++ walked.1 = walked.4 ∙ ap (λ (t : List (List ℕ)). t ++ walked.1) (flat_map_single instr_bytes code) in (
      fun,
      walked.1,
      record {
        fits = record {
          accesses = f5.0;
          owned = f4.0;
          result = f3.2;
          words = f4.2;
          slots = f5.2;
          places = subst (λ (n : ℕ). n < 2 ^ 32) (sym size) f6.2;
          instrs = instrs;
          ends = code_ends bounds [] code some walked.3;
        };
        accesses = f1.1;
        owned = f2.1;
        result = f3.1;
      },
      e1 ∙ ap (λ (t : List (List ℕ)). count_bytes accesses ∷ t) (e2
          ∙ ap (λ (t : List (List ℕ)). count_bytes owned ∷ t) (e3
          ∙ ap (λ (t : List (List ℕ)). count_bytes result ∷ t) (e4 ∙ ap (λ (t : List (List ℕ)). count_bytes words ∷ t)
          (e5 ∙ ap (λ (t : List (List ℕ)). count_bytes slots ∷ t) (e6 ∙ ap (λ (t : List (List ℕ)). count_bytes places ∷ t) spelled_so
          ∙ ap (λ (c : List ℕ). c ∷ (map instr_bytes code ++ walked.1)) counted))))),
      walked.5,
    )

-- where the functions before are some, the limit is the largest count
most_later : (before : List Fun) (fun : Fun) → most (before ++ fun ∷ []) ≡ largest
most_later [] fun = refl
most_later (f ∷ before) fun = refl

abbrev FunsFact : ℕ → ℕ → ℕ → List Fun → Fun → Type 0
FunsFact spans funs behind before fun = FunFact spans funs (most before) fun

later_along : (spans funs : ℕ) (before all : List Fun) → most before ≡ largest → AllByRecursion (IsFun spans funs) all → Along (FunsFact spans funs) before all
later_along spans funs before [] m h = tt
later_along spans funs before (fun ∷ all) m h =
    let k = h.0 in
    let words : fun.words < 2 ^ 32 = k.words in
    let slots : fun.slots < 2 ^ 32 = k.slots in
    let result : fun.result < 2 ^ 32 = k.result in
    let accesses : fun.accesses ≤ fun.slots = k.accesses in
    let owned : fun.owned ≤ fun.words = k.owned in (
      record { fits = k; accesses = omega (arith, m); owned = omega (arith, m); result = omega (arith, m) },
      later_along spans funs (before ++ fun ∷ []) all (most_later before fun) h.1,
    )

funs_along : (spans funs : ℕ) (all : List Fun) → AllByRecursion (IsFun spans funs) all
    → IsSomeAnd (slice_get all 0) IsMain → Along (FunsFact spans funs) [] all
funs_along spans funs [] h m = absurd m
funs_along spans funs (fun ∷ all) h m =
    let accesses : fun.accesses ≡ 0 = m.accesses in
    let owned : fun.owned ≡ 0 = m.owned in
    let result : fun.result ≡ 0 = m.result in
    (record { fits = h.0; accesses = omega arith; owned = omega arith; result = omega arith }, later_along spans funs (fun ∷ []) all refl h.1)

funs_all : (spans funs : ℕ) (before all : List Fun) → Along (FunsFact spans funs) before all → AllByRecursion (IsFun spans funs) all
funs_all spans funs before [] h = tt
funs_all spans funs before (fun ∷ all) h = (h.0.fits, funs_all spans funs (before ++ fun ∷ []) all h.1)

funs_main : (spans funs : ℕ) (all : List Fun) → 1 ≤ length all → Along (FunsFact spans funs) [] all → IsSomeAnd (slice_get all 0) IsMain
funs_main spans funs [] some h = absurd (omega arith)
funs_main spans funs (fun ∷ all) some h =
    let accesses : fun.accesses ≤ 0 = h.0.accesses in
    let owned : fun.owned ≤ 0 = h.0.owned in
    let result : fun.result ≤ 0 = h.0.result in
    record { accesses = omega arith; owned = omega arith; result = omega arith }

-- OBJECTS

some_funs : (all : List Fun) → IsSomeAnd (slice_get all 0) IsMain → 1 ≤ length all
some_funs [] m = absurd m
some_funs (fun ∷ all) m = omega arith

-- the format after the spans
abbrev funs_behind : ℕ → List Span → Format
funs_behind spans ranges = Then (Number 1 largest) (λ funs. many (one_fun spans funs) funs [] (λ all. Done (record { spans = ranges; funs = all })))

-- an object in the grammar is at the end of a path, with its fields
pub object_path : (object : Object) → IsInGrammar object → Path object_format (fields object) object
object_path object h =
    let spans = length object.spans in
    let funs = length object.funs in
    let span_count : spans < 2 ^ 32 = h.span_count in
    let fun_count : funs < 2 ^ 32 = h.fun_count in
    let end : Path (Done object) [] object = (refl, refl) in
    let fun_part =
    many_path (one_fun spans funs) fun_fields (FunsFact spans funs)
    (λ behind before fun next fs o. fun_path spans funs (most before) fun next fs o span_count fun_count)
    object.funs [] (λ all. Done (record { spans = object.spans; funs = all })) [] object (funs_along spans funs object.funs h.funs h.main) end in
    let counted : Path (funs_behind spans object.spans) (count_bytes funs ∷ flat_map fun_fields object.funs) object = (
      funs,
      flat_map fun_fields object.funs,
      (some_funs object.funs h.main, omega arith, fun_count),
      refl,
      subst (λ (t : List (List ℕ)). Path (many (one_fun spans funs) funs [] (λ all. Done (record { spans = object.spans; funs = all }))) t object)
          (append-nil (flat_map fun_fields object.funs)) fun_part,
    ) in
    let span_part =
    many_path one_span span_fields SpanFact span_path object.spans [] (funs_behind spans) (count_bytes funs ∷ flat_map fun_fields object.funs) object
    (spans_along [] object.spans h.spans) counted in (
      tt,
      _,
      tt,
      refl,
      (
        tt,
        _,
        tt,
        refl,
        (
          spans,
          map span_bytes object.spans ++ (count_bytes funs ∷ flat_map fun_fields object.funs),
          (omega arith, omega arith, span_count),
          refl,
          subst (λ (t : List (List ℕ)). Path (many one_span spans [] (funs_behind spans)) (t ++ (count_bytes funs ∷ flat_map fun_fields object.funs))
              object) (flat_map_single span_bytes object.spans) span_part,
        ),
      ),
    )

-- and what is at the end of a path is an object in the grammar, with its fields
pub object_walked : (fs : List (List ℕ)) (object : Object) → Path object_format fs object → IsInGrammar object × (fs ≡ fields object)
object_walked fs object (t, r1, f1, e1, (u, r2, f2, e2, (spans, r3, f3, e3, p))) =
    let ranges = many_walked one_span span_fields SpanFact span_walked spans [] (funs_behind spans) r3 object p in
    let counted = ranges.5 in
    let funs = counted.0 in
    let all = many_walked (one_fun spans funs) fun_fields (FunsFact spans funs) (λ behind before next fs o. fun_walked spans funs (most before) next fs o)
    funs [] (λ all. Done (record { spans = ranges.0; funs = all })) counted.1 object counted.4 in
    let end = all.5 in
    let made : Object = record { spans = ranges.0; funs = all.0 } in
    let some : 1 ≤ length all.0 = omega (arith, all.2, counted.2.0) in
    let in_grammar : IsInGrammar made = record {
      span_count = subst (λ (n : ℕ). n < 2 ^ 32) (sym ranges.2) f3.2;
      spans = spans_all [] ranges.0 ranges.3;
      fun_count = subst (λ (n : ℕ). n < 2 ^ 32) (sym all.2) counted.2.2;
      funs = subst (λ (n : ℕ). AllByRecursion (IsFun n (length all.0)) all.0) (sym ranges.2)
          (subst (λ (n : ℕ). AllByRecursion (IsFun spans n) all.0) (sym all.2) (funs_all spans funs [] all.0 all.3));
      main = funs_main spans funs all.0 some all.3;
    } in
    let last : counted.1 ≡ flat_map fun_fields all.0 = all.4 ∙ ap (λ (t : List (List ℕ)). flat_map fun_fields all.0 ++ t) end.0
    ∙ append-nil (flat_map fun_fields all.0) in
    let third : ranges.1 ≡ count_bytes (length all.0) ∷ flat_map fun_fields all.0 =
    counted.3 ∙ ap (λ (t : List (List ℕ)). count_bytes funs ∷ t) last ∙ ap (λ (n : ℕ). count_bytes n ∷ flat_map fun_fields all.0) (sym all.2) in
    let second : r3 ≡ map span_bytes ranges.0 ++ (count_bytes (length all.0) ∷ flat_map fun_fields all.0) =
    ranges.4 ∙ ap (λ (t : List (List ℕ)). t ++ ranges.1) (flat_map_single span_bytes ranges.0)
    ∙ ap (λ (t : List (List ℕ)). map span_bytes ranges.0 ++ t) third in
    let first : r2 ≡ count_bytes (length ranges.0) ∷ (map span_bytes ranges.0 ++ (count_bytes (length all.0) ∷ flat_map fun_fields all.0)) =
    e3 ∙ ap (λ (t : List (List ℕ)). count_bytes spans ∷ t) second
    ∙ ap (λ (n : ℕ). count_bytes n ∷ (map span_bytes ranges.0 ++ (count_bytes (length all.0) ∷ flat_map fun_fields all.0))) (sym ranges.2) in
    let whole : fs ≡ fields made = e1 ∙ ap (λ (t : List (List ℕ)). magic ∷ t) (e2 ∙ ap (λ (t : List (List ℕ)). version ∷ t) first) in
    subst (λ (o : Object). IsInGrammar o × (fs ≡ fields o)) end.1 (in_grammar, whole)

-- LIVES

least : (low high : ℕ) → low ≤ high → high < 2 ^ 32 → (n : ℕ) × Fits (Number low high) n
least low high le lt = (low, (omega arith, le, omega arith))

lives_span : (behind : ℕ) (before : List Span) (next : Span → Format) → ((span : Span) → Lives (next span)) → Lives (one_span behind before next)
lives_span behind before next h = ((record { from = 0; to = 0 }, record { in_order = omega arith; to = omega arith }), λ span fits. h span)

goes_nowhere : (behind : ℕ) → IsTrue (may_stand behind (instr.Jump 0))
goes_nowhere zero = refl
goes_nowhere (suc behind) = refl

lives_instr : (bounds : Bounds) → 1 ≤ bounds.places → (behind : ℕ) (before : List Instr) (next : Instr → Format) → ((i : Instr) → Lives (next i))
    → Lives (one_instr bounds behind before next)
lives_instr bounds some behind before next h = ((instr.Jump 0, ((omega arith, tt), goes_nowhere behind, (omega arith, tt))), λ i fits. h i)

small_count : (n : ℕ) → n < 2 ^ 32 → n ≤ largest
small_count n h = omega arith

lives_fun : (spans funs limit : ℕ) (next : Fun → Format) → limit < 2 ^ 32 → ((fun : Fun) → Lives (next fun)) → Lives (fun_format spans funs limit next)
lives_fun spans funs limit next lt h =
    let free = least 0 limit (omega arith) lt in (
      free,
      λ accesses a. (
        free,
        λ owned o. (
          free,
          λ result r. (
            least owned largest (small_count owned o.2) (omega arith),
            λ words w. (
              least accesses largest (small_count accesses a.2) (omega arith),
              λ slots s. (
                least 1 largest (omega arith) (omega arith),
                λ places p.
                    let header : Header = record { accesses = accesses; owned = owned; result = result; words = words; slots = slots; places = places } in
                    lives_many (one_instr (bounds_in spans funs header)) (lives_instr (bounds_in spans funs header) p.0) places []
                    (λ code. next (fun_of header code)) (λ code. h (fun_of header code)),
              ),
            ),
          ),
        ),
      ),
    )

most_counts : (before : List Fun) → most before < 2 ^ 32
most_counts [] = omega arith
most_counts (fun ∷ before) = omega arith

pub object_lives : Lives object_format
object_lives = (
  (tt, tt),
  λ t f. (
    (tt, tt),
    λ u g. (
      least 0 largest (omega arith) (omega arith),
      λ spans s.
          lives_many one_span lives_span spans [] (funs_behind spans) (λ ranges. (
            least 1 largest (omega arith) (omega arith),
            λ funs f.
                lives_many (one_fun spans funs) (λ behind before next. lives_fun spans funs (most before) next (most_counts before)) funs []
                (λ all. Done (record { spans = ranges; funs = all })) (λ all. tt),
          )),
    ),
  ),
)
