-- Fields put one after the other.
use Rattle.std.proofs.Common.{◌≡◌, ℕ, List, [], ◌∷◌, ◌++◌, refl, ap, ◌∙◌, flat_map}
use Rattle.std.specs.Prelude.{map}
use Rattle.std.specs.List.{concat}
use Rattle.std.proofs.lemmas.List.{append_assoc, append-nil}
use Rattle.std.proofs.lemmas.List.Folds.{concat-append}
use Rattle.hy_object.specs.declared.object.Object.{Object}
use Rattle.hy_object.specs.declared.object.Fun.{Fun}
use Rattle.hy_object.specs.Numbers.{count_bytes}
use Rattle.hy_object.specs.Operands.{instr_bytes}
use Rattle.hy_object.specs.Bytes.{span_bytes, fun_fields, fun_bytes}

pub concat_map : {X : Type 0} (f : X → List ℕ) (xs : List X) → concat (map f xs) ≡ flat_map f xs
concat_map f [] = refl
concat_map f (x ∷ xs) = ap (λ (t : List ℕ). f x ++ t) (concat_map f xs)

pub concat_flat_map : {X : Type 0} (f : X → List (List ℕ)) (xs : List X) → concat (flat_map f xs) ≡ flat_map (λ x. concat (f x)) xs
concat_flat_map f [] = refl
concat_flat_map f (x ∷ xs) = concat-append (f x) (flat_map f xs) ∙ ap (λ (t : List ℕ). concat (f x) ++ t) (concat_flat_map f xs)

-- a function, written in three parts
pub fun_written : (fun : Fun) (old sizes counted all : List ℕ) (places : ℕ)
    → sizes ≡ old ++ flat_map count_bytes (fun.accesses ∷ fun.owned ∷ fun.result ∷ fun.words ∷ fun.slots ∷ [])
    → counted ≡ sizes ++ count_bytes places → all ≡ counted ++ flat_map instr_bytes fun.code
    → all ≡ old ++ (count_bytes
    fun.accesses ++ (count_bytes
    fun.owned ++ (count_bytes
    fun.result ++ (count_bytes fun.words ++ (count_bytes fun.slots ++ (count_bytes places ++ concat (map instr_bytes fun.code)))))))
fun_written fun old sizes counted all places s c a = a ∙ rw (c, s, concat_map) (simp (append_assoc, append-nil))

-- an object, written in five parts
pub object_written : (object : Object) (header one two three all : List ℕ) (spans funs : ℕ)
    → one ≡ header ++ count_bytes spans → two ≡ one ++ flat_map span_bytes object.spans → three ≡ two ++ count_bytes funs
    → all ≡ three ++ flat_map fun_bytes object.funs
    → all ≡ header ++ (count_bytes spans ++ concat (map span_bytes object.spans ++ (count_bytes funs ∷ flat_map fun_fields object.funs)))
object_written object header one two three all spans funs a b c d =
    d ∙ rw (c, b, a, concat-append, concat_map, concat_flat_map) (simp append_assoc)
