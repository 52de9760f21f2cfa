-- The laws of objects and their bytes, from runs along the format.
use Rattle.std.proofs.Common.{◌≡◌, ℕ, ◌-◌, ◌≤◌, List, ◌++◌, length, take, drop, Result, Ok, Err, refl, ap, sym, subst, ◌∙◌, arith, inl, inr}
use Rattle.std.specs.Prelude.{◌⊎◌}
use Rattle.std.specs.List.{concat}
use Rattle.std.proofs.lemmas.List.{length-append, length-drop, take-append-drop, take_at}
use Rattle.hy_object.specs.declared.object.Object.{Object}
use Rattle.hy_object.specs.declared.object.ObjectFault.{ObjectFault}
use Rattle.hy_object.specs.declared.object.ObjectFault.TheVariants.{Bad, NoMemory}
use Rattle.hy_object.specs.Bytes.{fields, bytes_of}
use Rattle.hy_object.specs.Places.{Spells, Begins, IsBadAt, Decodes, Gives, Refuses, OneSpelling, OnePlace, ObjectOrPlace, DecodesAgain}
use Rattle.hy_object.specs.Formats.{object_format, run}
use Rattle.hy_object.proofs.Paths.{Path, along, walked, IsBad, is_bad}
use Rattle.hy_object.proofs.Objects.{object_path, object_walked, object_lives}

abbrev sure : Object → Result Object ℕ
sure object = Ok object

ok_is : (x y : Object) → sure x ≡ sure y → x ≡ y
ok_is x y e = cc

no_err : (x : Object) (left : ℕ) → sure x ≡ Err left → ⊥
no_err x left e = cc

-- A RUN, AND OBJECTS

pub run_object : (bytes : List ℕ) (object : Object) → run object_format bytes ≡ Ok object → Spells bytes object
run_object bytes object e =
    let w = walked object_format bytes object e in
    let o = object_walked w.0 object w.1 in
    (o.0, w.2 ∙ ap concat o.1)

pub object_run : (bytes : List ℕ) (object : Object) → Spells bytes object → run object_format bytes ≡ Ok object
object_run bytes object s = ap (run object_format) s.1 ∙ along object_format (fields object) object (object_path object s.0)

-- A RUN, AND PLACES

pub left_within : (bytes : List ℕ) (left : ℕ) → run object_format bytes ≡ Err left → left ≤ length bytes
left_within bytes left e = let bad = is_bad object_format bytes left object_lives e in
    omega (arith, ap length bad.begins, length-append (concat bad.done) bad.rest, bad.left_is)

begins_here : (bytes : List ℕ) (left : ℕ) → IsBad object_format bytes left → Begins bytes (length bytes - left)
begins_here bytes left bad =
    let o = object_walked (bad.done ++ bad.more) bad.object bad.path in
    let size : length (concat bad.done) ≡ length bytes - left = omega (arith, ap length bad.begins, length-append (concat bad.done) bad.rest, bad.left_is) in
    let front : take (length bytes - left) bytes ≡ concat bad.done = ap (take (length bytes - left)) bad.begins
    ∙ take_at (concat bad.done) bad.rest (length bytes - left) size in
    let first : take (length bad.done) (fields bad.object) ≡ bad.done = ap (take (length bad.done)) (sym o.1)
    ∙ take_at bad.done bad.more (length bad.done) refl in
    record { object = bad.object; in_grammar = o.0; count = length bad.done; within = omega arith; same = front ∙ ap concat (sym first) }

no_longer : (bytes : List ℕ) (left : ℕ) → IsBad object_format bytes left → left ≤ length bytes → (n : ℕ) → Begins bytes n → n ≤ length bytes - left
no_longer bytes left bad fits n b =
    let parts : take b.count (fields b.object) ++ drop b.count (fields b.object) ≡ fields b.object = take-append-drop b.count (fields b.object) in
    let path : Path object_format (take b.count (fields b.object) ++ drop b.count (fields b.object)) b.object =
    subst (λ (fs : List (List ℕ)). Path object_format fs b.object) (sym parts) (object_path b.object b.in_grammar) in
    let whole : bytes ≡ concat (take b.count (fields b.object)) ++ drop n bytes = sym (take-append-drop n bytes)
    ∙ ap (λ (t : List ℕ). t ++ drop n bytes) b.same in
    let longest = bad.longest (take b.count (fields b.object)) (drop b.count (fields b.object)) b.object (drop n bytes) path whole in
    let within : n ≤ length bytes = b.within in
    omega (arith, longest, length-drop n bytes)

pub run_bad : (bytes : List ℕ) (left : ℕ) → run object_format bytes ≡ Err left → IsBadAt bytes (length bytes - left)
run_bad bytes left e =
    let bad = is_bad object_format bytes left object_lives e in
    record {
      no_object = λ object s. bad.none (fields object) object (object_path object s.0) s.1;
      begins = begins_here bytes left bad;
      longest = no_longer bytes left bad (left_within bytes left e);
    }

-- LAWS

pub one_spelling : OneSpelling
one_spelling one other g h e = ok_is one other (sym (object_run (bytes_of one) one (g, refl)) ∙ object_run (bytes_of one) other (h, e))

pub one_place : OnePlace
one_place bytes one other b c = let le = c.longest one b.begins in let ge = b.longest other c.begins in omega arith

run_ends : (bytes : List ℕ) (ended : Result Object ℕ) → run object_format bytes ≡ ended → ((object : Object) × Spells bytes object)
    ⊎ ((place : ℕ) × IsBadAt bytes place)
run_ends bytes (Ok object) e = inl (object, run_object bytes object e)
run_ends bytes (Err left) e = inr (length bytes - left, run_bad bytes left e)

pub object_or_place : ObjectOrPlace
object_or_place bytes = run_ends bytes (run object_format bytes) refl

-- of two objects that the bytes spell, each is the other
one_object : (bytes : List ℕ) (one other : Object) → Spells bytes one → Spells bytes other → one ≡ other
one_object bytes one other s t = ok_is one other (sym (object_run bytes one s) ∙ object_run bytes other t)

pub gives : (bytes : List ℕ) (result : Result Object ObjectFault) → Decodes bytes result → (object : Object) → Spells bytes object → Gives object result
gives bytes (Ok made) d object s = one_object bytes made object d s
gives bytes (Err (Bad place)) d object s = d.no_object object s
gives bytes (Err NoMemory) d object s = tt

pub refuses : (bytes : List ℕ) (result : Result Object ObjectFault) → Decodes bytes result → (place : ℕ) → IsBadAt bytes place → Refuses place result
refuses bytes (Ok made) d place b = b.no_object made d
refuses bytes (Err (Bad other)) d place b = one_place bytes other place d b
refuses bytes (Err NoMemory) d place b = tt

pub decodes_again : DecodesAgain
decodes_again object result g d = gives (bytes_of object) result d object (g, refl)
