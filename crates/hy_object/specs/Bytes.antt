-- The bytes of an object: one spelling for each.
use Rattle.std.specs.Prelude.{ℕ, ◌-◌, List, [], ◌∷◌, ◌++◌, length, map, flat_map}
use Rattle.std.specs.List.{concat}
use Rattle.hy_base.specs.declared.position.Span.{Span}
use Rattle.hy_object.specs.declared.object.Object.{Object}
use Rattle.hy_object.specs.declared.object.Fun.{Fun}
use Rattle.hy_object.specs.Numbers.{count_bytes}
use Rattle.hy_object.specs.Operands.{instr_bytes}

-- `HYLO`
abbrev pub magic : List ℕ
magic = 72 ∷ 89 ∷ 76 ∷ 79 ∷ []

abbrev pub version : List ℕ
version = 1 ∷ []

-- its start and its length, which are one field
abbrev pub span_bytes : Span → List ℕ
span_bytes span = count_bytes span.from ++ count_bytes (span.to - span.from)

-- the fields of its header, and its instructions
abbrev pub fun_fields : Fun → List (List ℕ)
fun_fields fun = count_bytes fun.accesses ∷ count_bytes fun.owned ∷ count_bytes fun.result ∷ count_bytes fun.words ∷ count_bytes fun.slots ∷
    count_bytes (length fun.code) ∷ map instr_bytes fun.code

abbrev pub fun_bytes : Fun → List ℕ
fun_bytes fun = concat (fun_fields fun)

-- the header fields and instructions of an object, in order
abbrev pub fields : Object → List (List ℕ)
fields object = magic ∷ version ∷ count_bytes (length object.spans) ∷
    (map span_bytes object.spans ++ (count_bytes (length object.funs) ∷ flat_map fun_fields object.funs))

abbrev pub bytes_of : Object → List ℕ
bytes_of object = concat (fields object)
