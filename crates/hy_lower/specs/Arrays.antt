-- Where the arrays of a type stand in the words of its values.
use Rattle.std.specs.Prelude.{ℕ, zero, suc, ◌+◌, List, [], ◌∷◌, ◌++◌, length, Option, Some, None}
use Rattle.hy_types.specs.declared.kinds.TyId.{TyId}
use Rattle.hy_types.specs.Types.{Table}
use Rattle.hy_core.specs.Control.{form, element_type, parts_of}
use Rattle.hy_lower.specs.Frames.{size_of}

-- the arrays of parts that stand one after another, where `arrays` has those of one that begins at a word
abbrev pub arrays_of_parts : (arrays : ℕ → TyId → List ℕ) → (sizes : List ℕ) → (offset : ℕ) → List TyId → List ℕ
arrays_of_parts arrays sizes offset [] = []
arrays_of_parts arrays sizes offset (t ∷ ts) = arrays offset t ++ arrays_of_parts arrays sizes (offset + size_of sizes t) ts

abbrev pub array_or_parts : Option TyId → (offset : ℕ) → (of_parts : List ℕ) → List ℕ
array_or_parts None offset of_parts = of_parts
array_or_parts (Some element) offset of_parts = offset ∷ []

-- what takes no words is not entered
abbrev pub where_some : (words : ℕ) → List ℕ → List ℕ
where_some zero arrays = []
where_some (suc words) arrays = arrays

abbrev pub arrays_below : Table → (sizes : List ℕ) → (depth offset : ℕ) → TyId → List ℕ
arrays_below types sizes zero offset t = []
arrays_below types sizes (suc depth) offset t =
    let x = form types t in
    where_some (size_of sizes t) (array_or_parts (element_type x) offset (arrays_of_parts (arrays_below types sizes depth) sizes offset (parts_of x)))

-- A type is no part of itself, so no more steps lead into one than there are types.
abbrev pub arrays_in : Table → List ℕ → Option TyId → List ℕ
arrays_in types sizes None = []
arrays_in types sizes (Some t) = arrays_below types sizes (length sizes + 1) zero t
