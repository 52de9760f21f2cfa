-- The code of a body: the segments of its statements, one after another.
use Rattle.std.specs.Prelude.{◌≡◌, ℕ, zero, suc, ◌+◌, Bool, true, false, max, List, [], ◌∷◌, ◌++◌, length, map, Option, Some, None, if◌then◌else◌}
use Rattle.hy_types.specs.Types.{Table}
use Rattle.hy_core.specs.Plain.{Operator, Add, Sub, Mul, Div, Rem, Neg, Convert, Eq, Lt, Le, Not, NewArray, Push, Pop, Swap, Count, FreeArray, Print, Read}
use Rattle.hy_core.specs.Plain.{Check, Stmts, Done, Then, Stmt, Built, Set, Lend, Close, Move, Copy, Drop, Call, Project, Slide, Yield, If, While, Break}
use Rattle.hy_core.specs.Plain.{Continue, Leave, Fun, is_ramp, Core}
use Rattle.hy_core.specs.Plain as core
use Rattle.hy_core.specs.Statements.{is_counted}
use Rattle.hy_object.specs.declared.instr.Instr.{Instr}
use Rattle.hy_object.specs.declared.instr.Instr.TheVariants as instr
use Rattle.hy_object.specs.declared.object.Fun as object
use Rattle.hy_object.specs.declared.object.Object.{Object}
use Rattle.hy_lower.specs.Arrays.{arrays_in}
use Rattle.hy_lower.specs.Frames.{Home, Words, Slot, AreSizes, size_of, words_of, indexes, Frame, home_of, slot_of, frame_of}
use Rattle.hy_lower.specs.Places.{place_size, type_of}
use Rattle.hy_lower.specs.Segments.{test, built, set, lend, close, move, copy, drop, call, project, leave}

-- LENGTHS: how many instructions the segment of a statement has, whatever the places that it jumps to

-- a place for as long as so many instructions
abbrev pub through_length : core.Place → ℕ → ℕ
through_length p n = indexes p.steps + (n + indexes p.steps)

-- each with one instruction
abbrev pub loads_length : List core.Place → ℕ
loads_length [] = zero
loads_length (p ∷ ps) = through_length p 1 + loads_length ps

abbrev pub stores_length : Option core.Place → ℕ
stores_length None = zero
stores_length (Some p) = through_length p 1

abbrev pub through_some : Option core.Place → ℕ
through_some None = zero
through_some (Some p) = through_length p 1

-- of operations on the first place, where it has so many, after one instruction each for the others
abbrev pub change_length : List core.Place → ℕ → ℕ
change_length [] n = zero
change_length (p ∷ ps) n = loads_length ps + through_length p n

-- of an operation on the first place, and a store
abbrev pub give_length : Option core.Place → List core.Place → ℕ
give_length to [] = zero
give_length to (p ∷ ps) = through_length p 1 + stores_length to

abbrev pub first_length : List core.Place → ℕ
first_length [] = zero
first_length (p ∷ ps) = through_length p 1

abbrev pub scalar_length : Option core.Place → List core.Place → ℕ → ℕ
scalar_length to from n = loads_length from + (n + stores_length to)

abbrev pub built_length : Operator → Option core.Place → List core.Place → ℕ
built_length Add to from = scalar_length to from 1
built_length Sub to from = scalar_length to from 1
built_length Mul to from = scalar_length to from 1
built_length Div to from = scalar_length to from 1
built_length Rem to from = scalar_length to from 1
built_length Neg to from = scalar_length to from 1
built_length (Convert t) to from = scalar_length to from 2
built_length Eq to from = scalar_length to from 1
built_length Lt to from = scalar_length to from 1
built_length Le to from = scalar_length to from 1
built_length Not to from = scalar_length to from 1
built_length NewArray to from = through_some to
built_length Push to from = change_length from 2
built_length Pop to from = give_length to from
built_length Swap to from = change_length from 1
built_length Count to from = give_length to from
built_length FreeArray to from = first_length from
built_length Print to from = scalar_length to from 1
built_length Read to from = scalar_length to from 1
built_length Check to from = scalar_length to from 1

abbrev pub constant_length : (words : ℕ) → ℕ
constant_length zero = zero
constant_length (suc words) = 1

abbrev pub last_length : Bool → ℕ
last_length true = 1
last_length false = zero

abbrev pub lend_length : Home → core.Place → ℕ
lend_length (Words w) p = zero
lend_length (Slot slot first inner) p = indexes p.steps + last_length (is_counted p.steps)

abbrev pub close_length : Home → ℕ
close_length (Words w) = zero
close_length (Slot slot first inner) = inner + 1

module _ (b : Frame) where
  abbrev mutual
    pub length_all : Stmts → ℕ
    length_all Done = zero
    length_all (Then s ss) = length_of s + length_all ss

    pub length_of : Stmt → ℕ
    length_of (Built operator to from spans) = built_length operator to from
    length_of (Set to n) = constant_length (place_size b to) + through_length to 1
    length_of (Lend to p w) = lend_length (home_of b to) p
    length_of (Close l) = close_length (home_of b l)
    length_of (Move to from) = through_length from 1 + through_length to 1
    length_of (Copy to from) = through_length from 1 + through_length to 1
    length_of (Drop p) = through_length p (length (arrays_in b.types b.sizes (type_of b p)))
    length_of (Call fun lent owned to) = loads_length owned + through_length to 1 + 1
    length_of (Project fun lent owned to) = loads_length owned + 1
    length_of (Slide l) = 1
    length_of (Yield l) = 1
    length_of (If on yes' no') = length_all yes' + length_all no' + 3
    length_of (While head on body) = length_all body + length_all head + 3
    length_of Break = 1
    length_of Continue = 1
    length_of (Leave from) = through_length from 1 + 1

  -- CODE from a place on, where the innermost loop goes on at `after` when it ends, and at `again` for its next pass

  -- the test, a jump to the second part where it is false, the first part, a jump past the second, and the second part
  abbrev pub choice : (pc on first second : ℕ) → (yes' no' : List Instr) → List Instr
  choice pc on first second yes' no' = test b on ++ (instr.JumpUnless b.scratch (pc + 2 + first + 1)
      ∷ (yes' ++ (instr.Jump (pc + 2 + first + 1 + second) ∷ no')))

  -- a jump to the head, the body, the head, the test, and a jump back to the body where it is true, which takes the turn
  abbrev pub loop : (pc on body : ℕ) → (body' head : List Instr) → List Instr
  loop pc on body body' head = instr.Jump (pc + 1 + body) ∷ (body' ++ (head ++ (test b on ++ instr.JumpIf b.scratch (pc + 1) ∷ [])))

  abbrev mutual
    pub code_all : (pc after again : ℕ) → Stmts → List Instr
    code_all pc after again Done = []
    code_all pc after again (Then s ss) = code_of pc after again s ++ code_all (pc + length_of s) after again ss

    pub code_of : (pc after again : ℕ) → Stmt → List Instr
    code_of pc after again (Built operator to from spans) = built b operator to from spans
    code_of pc after again (Set to n) = set b to n
    code_of pc after again (Lend to p w) = lend b to p w
    code_of pc after again (Close l) = close b l
    code_of pc after again (Move to from) = move b to from
    code_of pc after again (Copy to from) = copy b to from
    code_of pc after again (Drop p) = drop b p
    code_of pc after again (Call fun lent owned to) = call b fun lent owned to
    code_of pc after again (Project fun lent owned to) = project b fun lent owned to
    code_of pc after again (Slide l) = instr.Slide (slot_of b l) ∷ []
    code_of pc after again (Yield l) = instr.Yield (slot_of b l) ∷ []
    code_of pc after again (If on yes' no') =
        let first = length_all yes' in
        choice pc on first (length_all no') (code_all (pc + 2) after again yes') (code_all (pc + 2 + first + 1) after again no')
    code_of pc after again (While head on body) =
        let first = pc + 1 + length_all body in
        loop pc on (length_all body) (code_all (pc + 1) (first + length_all head + 2) first body) (code_all first after again head)
    code_of pc after again Break = instr.Jump after ∷ []
    code_of pc after again Continue = instr.Jump again ∷ []
    code_of pc after again (Leave from) = leave b from

-- SIZES OF A FRAME: the greatest of a number and of what each statement uses

-- how many index steps a place has that a statement opens and closes itself
abbrev pub most : ℕ → List core.Place → ℕ
most n [] = n
most n (p ∷ ps) = most (max n (indexes p.steps)) ps

abbrev pub most_some : ℕ → Option core.Place → ℕ
most_some n None = n
most_some n (Some p) = max n (indexes p.steps)

abbrev mutual
  pub depth_all : ℕ → Stmts → ℕ
  depth_all n Done = n
  depth_all n (Then s ss) = depth_all (depth_of n s) ss

  pub depth_of : ℕ → Stmt → ℕ
  depth_of n (Built operator to from spans) = most (most_some n to) from
  depth_of n (Set to k) = max n (indexes to.steps)
  depth_of n (Lend to p w) = n
  depth_of n (Close l) = n
  depth_of n (Move to from) = max (max n (indexes to.steps)) (indexes from.steps)
  depth_of n (Copy to from) = max (max n (indexes to.steps)) (indexes from.steps)
  depth_of n (Drop p) = max n (indexes p.steps)
  depth_of n (Call fun lent owned to) = most (max n (indexes to.steps)) owned
  depth_of n (Project fun lent owned to) = most n owned
  depth_of n (Slide l) = n
  depth_of n (Yield l) = n
  depth_of n (If on yes' no') = depth_all (depth_all n yes') no'
  depth_of n (While head on body) = depth_all (depth_all n head) body
  depth_of n Break = n
  depth_of n Continue = n
  depth_of n (Leave from) = max n (indexes from.steps)

module _ (b : Frame) where
  -- the words of these places together
  abbrev pub all_sizes : List core.Place → ℕ
  all_sizes [] = zero
  all_sizes (p ∷ ps) = place_size b p + all_sizes ps

  abbrev pub rest_sizes : List core.Place → ℕ
  rest_sizes [] = zero
  rest_sizes (p ∷ ps) = all_sizes ps

  abbrev pub size_some : Option core.Place → ℕ
  size_some None = zero
  size_some (Some p) = place_size b p

  -- a word for each operand and one for the result; for a `Push` the element, and for a `Pop` what it gives
  abbrev pub built_words : Operator → Option core.Place → List core.Place → ℕ
  built_words Push to from = rest_sizes from
  built_words Pop to from = size_some to
  built_words Add to from = length from + 1
  built_words Sub to from = length from + 1
  built_words Mul to from = length from + 1
  built_words Div to from = length from + 1
  built_words Rem to from = length from + 1
  built_words Neg to from = length from + 1
  built_words (Convert t) to from = length from + 1
  built_words Eq to from = length from + 1
  built_words Lt to from = length from + 1
  built_words Le to from = length from + 1
  built_words Not to from = length from + 1
  built_words NewArray to from = length from + 1
  built_words Swap to from = length from + 1
  built_words Count to from = length from + 1
  built_words FreeArray to from = length from + 1
  built_words Print to from = length from + 1
  built_words Read to from = length from + 1
  built_words Check to from = length from + 1

  -- the scratch words that the segments use
  abbrev mutual
    pub scratch_all : ℕ → Stmts → ℕ
    scratch_all n Done = n
    scratch_all n (Then s ss) = scratch_all (scratch_of n s) ss

    pub scratch_of : ℕ → Stmt → ℕ
    scratch_of n (Built operator to from spans) = max n (built_words operator to from)
    scratch_of n (Set to k) = max n (place_size b to)
    scratch_of n (Lend to p w) = n
    scratch_of n (Close l) = n
    scratch_of n (Move to from) = max (max n (place_size b to)) (place_size b from)
    scratch_of n (Copy to from) = max (max n (place_size b to)) (place_size b from)
    scratch_of n (Drop p) = n
    scratch_of n (Call fun lent owned to) = max (max n (place_size b to)) (all_sizes owned)
    scratch_of n (Project fun lent owned to) = max n (all_sizes owned)
    scratch_of n (Slide l) = n
    scratch_of n (Yield l) = n
    scratch_of n (If on yes' no') = scratch_all (scratch_all (max n 1) yes') no'
    scratch_of n (While head on body) = scratch_all (scratch_all (max n 1) head) body
    scratch_of n Break = n
    scratch_of n Continue = n
    scratch_of n (Leave from) = max n (place_size b from)

-- FUNCTIONS

-- a ramp hands out nothing at its end
abbrev pub result_size : List ℕ → Fun → ℕ
result_size sizes f = if is_ramp f then zero else size_of sizes f.result

-- After the statements stands a jump to itself, which no run comes to: so each place that a segment jumps to is there, and the
-- last instruction is a jump.
abbrev pub body_code : Frame → Stmts → List Instr
body_code b ss = code_all b zero zero zero ss ++ instr.Jump (length_all b ss) ∷ []

-- a function with a body of that frame
abbrev pub fun_from : Frame → (accesses owned result : ℕ) → Stmts → object.Fun
fun_from b accesses owned result ss = record {
  accesses = accesses;
  owned = owned;
  result = result;
  words = b.scratch + scratch_all b zero ss;
  slots = b.slot + depth_all zero ss;
  code = body_code b ss;
}

abbrev pub fun_of : Table → List ℕ → Fun → object.Fun
fun_of types sizes f = fun_from (frame_of types sizes f) (length f.lent) (words_of sizes f.owned) (result_size sizes f) f.body

-- The object has the functions of the core, in order, and its spans.
pub record Lowered (core : Core) (object : Object) : Type 0 where
  pub sizes : List ℕ
  pub each : length sizes ≡ length core.types.types
  pub are_sizes : AreSizes core.types sizes
  pub spans : object.spans ≡ core.spans
  pub funs : object.funs ≡ map (fun_of core.types sizes) core.funs
