-- What an instruction on the elements of an array looks at, in parts.
use Rattle.std.specs.Prelude.{◌≡◌, ◌≢◌, ℕ, zero, suc, ◌+◌, ◌-◌, ◌*◌, ◌&&◌, not, cond, nat_le, nat_lt, true, IsSome, Option, Some, None, Result, Ok, Err, ℤ}
use Rattle.std.specs.Prelude.{pos, negsuc}
use Rattle.hy_access.specs.declared.access.Range.{Range}
use Rattle.hy_base.specs.declared.run.End.TheVariants as end
use Rattle.hy_base.specs.declared.run.TrapKind.TheVariants as trap
use Rattle.hy_object.specs.declared.instr.Place.{Place}
use Rattle.hy_object.specs.declared.instr.Way.TheVariants as way
use Rattle.hy_object.specs.declared.object.Fun.{Fun}
use Rattle.hy_object.specs.declared.object.Object.{Object}
use Rattle.hy_object.specs.declared.stuck.Kind.TheVariants as kind
use Rattle.hy_object.specs.Arrays.{is_apart, is_inside}
use Rattle.hy_object.specs.Checks.{Reach, check, ends, may_write, meets, own_words, stuck, traps}
use Rattle.hy_object.specs.Elements.{array, element, room, with_index}
use Rattle.hy_object.specs.States as machine
use Rattle.hy_object.specs.States.{State}
use Rattle.hy_store.specs.declared.arrays.Array.{Array}
use Rattle.hy_store.specs.declared.halt.Halt.{Halt}
use Rattle.hy_store.specs.declared.halt.Halt.TheVariants as halt
use Rattle.hy_store.specs.declared.store.Store.{Store}
use Rattle.hy_store.specs.Memory.{live}
use Rattle.hy_store.specs.Opened.{abstract_range}
use Rattle.hy_store.specs.Represents.{Ghosts, Reaches, Represents}

-- its two cells exist, and its block is live and an array's
pub record IsArray (store : Store) (fun : Fun) (a : Array) : Type 0 where
  pub cells : Reaches store 2 a.cells
  pub lives : IsSome (live store.blocks a.block)
  pub is_array : (g : Ghosts) (s : State) → Represents g store fun s → g.is_array a.block ≡ true

-- CHECKS THAT MAY TRAP

-- the step is stuck or ends the run; it does not ask, and memory does not run out
abbrev pub Halts : State → Halt → State → Type 0
Halts s (halt.Stuck why) t = t ≡ stuck s why
Halts s (halt.Ended e) t = (t ≡ ends s e) × (e ≢ end.Asks)
Halts s (halt.Cut c) t = ⊥

-- a check's answer goes on, or the step halts
abbrev pub Follows : {A : Type 0} → State → Result A Halt → (A → State) → State → Type 0
Follows s (Ok a) go t = t ≡ go a
Follows s (Err h) go t = Halts s h t

-- COUNTS

-- a count that is a natural number
abbrev pub natural : ℤ → Option ℕ
natural (pos n) = Some n
natural (negsuc n) = None

-- the number of the last of so many
abbrev pub last_number : ℤ → Option ℕ
last_number (pos n) = cond (nat_lt 0 n) (Some (n - 1)) None
last_number (negsuc n) = None

-- RANGES OF ELEMENTS

-- the cells of an element, where they lie in a block of so many words
abbrev pub range_in : (block k width words : ℕ) → Option Range
range_in block k width words = cond (nat_le (k * width + width) words) (Some (record { block = block; from = k * width; len = width })) None

-- a range that meets neither of two others
abbrev pub clear : Option Range → (a b : machine.Range) → Option Range
clear None a b = None
clear (Some r) a b = cond (is_apart (abstract_range r) a b) (Some r) None

-- the cells of an element, reached as its array is
abbrev pub element_of : Reach → (block k width : ℕ) → Reach
element_of x block k width = record { range = element block k width; way = x.way; chain = x.chain }

-- the element with that index, which lies in the array's block
abbrev pub indexed : Object → State → (span : ℕ) → Reach → (block : ℕ) → (index count : ℤ) → (width : ℕ) → (Reach → State) → State
indexed object s span x block index count width go =
    with_index object s span index count (λ k. check s kind.Range (is_inside s (element block k width)) (go (element_of x block k width)))

-- ELEMENTS THAT MOVE

-- an array that is written, and words of the own frame that are written, apart from its two cells
abbrev pub sides : State → Place → (word width : ℕ) → (Reach → (block : ℕ) → (count : ℤ) → Reach → State) → State
sides s p word width go =
    array s p way.Write (λ x block count.
    own_words s word width (λ y. check s kind.Range (not (meets x.range y.range))
    (check s kind.Access (may_write s y)
    (go x block count y))))

-- room after the last element for one more, and the count with it
abbrev pub after_last : State → Reach → (block : ℕ) → ℤ → Reach → (width : ℕ) → (machine.Range → ℤ → State) → State
after_last s x block (negsuc n) y width go = stuck s kind.Range
after_last s x block (pos count) y width go =
    check s kind.Range (nat_le (suc count * room width) (s.words block) && is_apart (element block count width) x.range y.range)
    (go (element block count width) (pos (suc count)))

-- the last element, and the count without it
abbrev pub last : Object → State → Reach → (block : ℕ) → ℤ → Reach → (width span : ℕ) → (machine.Range → ℤ → State) → State
last object s x block (negsuc n) y width span go = traps object s trap.Empty span
last object s x block (pos zero) y width span go = traps object s trap.Empty span
last object s x block (pos (suc k)) y width span go =
    check s kind.Range (is_inside s (element block k width) && is_apart (element block k width) x.range y.range)
    (go (element block k width) (pos k))
