-- How a place of a body is reached: the accesses that are opened on the way, and where it then is.
use Rattle.std.specs.Prelude.{ℕ, zero, suc, ◌+◌, List, [], ◌∷◌, ◌++◌, Option, Some, None, slice_get}
use Rattle.hy_types.specs.declared.kinds.TyId.{TyId}
use Rattle.hy_core.specs.Plain.{Step, Part, Index}
use Rattle.hy_core.specs.Plain as core
use Rattle.hy_core.specs.Control.{Form, Unknown, form, parts_of, part_type, element_type}
use Rattle.hy_object.specs.declared.instr.Instr.{Instr}
use Rattle.hy_object.specs.declared.instr.Instr.TheVariants as instr
use Rattle.hy_object.specs.declared.instr.Place.{Place}
use Rattle.hy_object.specs.declared.instr.Way.{Way}
pub use Rattle.hy_lower.specs.declared.body.Line.{Line}
use Rattle.hy_lower.specs.Frames.{Home, Words, Slot, size_of, words_before, indexes, Frame, home_of, word_of}

abbrev pub place : (base offset : ℕ) → Place
place base offset = record { base = base; offset = offset }

-- words of the own frame
abbrev pub own : ℕ → Place
own w = place 0 w

-- where a local is
abbrev pub place_at : Home → Place
place_at (Words w) = place 0 w
place_at (Slot slot first count) = place (suc slot) 0

-- the slot of the next access, and the line after it
abbrev pub slot_now : (next left last : ℕ) → ℕ
slot_now next zero last = last
slot_now next (suc left) last = next

abbrev pub after_one : (next left last : ℕ) → Line
after_one next zero last = record { next = next; left = zero; last = last }
after_one next (suc left) last = record { next = suc next; left = left; last = last }

abbrev pub here : Line → ℕ
here x = slot_now x.next x.left x.last

abbrev pub rest : Line → Line
rest x = after_one x.next x.left x.last

-- so many slots from one on, the last first
abbrev pub closes : (first count : ℕ) → List Instr
closes first zero = []
closes first (suc n) = instr.Close (first + n) ∷ closes first n

module _ (b : Frame) where
  -- TYPES

  abbrev pub form_at : Option TyId → Form
  form_at None = Unknown
  form_at (Some t) = form b.types t

  abbrev pub size_at : Option TyId → ℕ
  size_at None = zero
  size_at (Some t) = size_of b.sizes t

  abbrev pub element_at : Option TyId → Option TyId
  element_at t = element_type (form_at t)

  abbrev pub part_at : Option TyId → ℕ → Option TyId
  part_at t i = part_type (form_at t) i

  abbrev pub type_step : Option TyId → Step → Option TyId
  type_step t (Part i) = part_at t i
  type_step t (Index l s) = element_at t

  abbrev pub type_after : Option TyId → List Step → Option TyId
  type_after t [] = t
  type_after t (step ∷ steps) = type_after (type_step t step) steps

  abbrev pub type_of : core.Place → Option TyId
  type_of p = type_after (slice_get b.locals p.local) p.steps

  -- the words of what stands at a place
  abbrev pub place_size : core.Place → ℕ
  place_size p = size_at (type_of p)

  -- the words of an element of the array there
  abbrev pub element_size : core.Place → ℕ
  element_size p = size_at (element_at (type_of p))

  -- STEPS: a part lies further on in the same words, and an element is reached through an access of its own

  abbrev pub part_after : Option TyId → ℕ → Place → Place
  part_after t i x = place x.base (x.offset + words_before b.sizes (parts_of (form_at t)) i)

  abbrev pub elem : Way → Line → Option TyId → Place → (local span : ℕ) → Instr
  elem way line t x l s = instr.Elem (here line) x (word_of b l) (size_at (element_at t)) way s

  abbrev pub opens_after : Way → Line → Option TyId → Place → List Step → List Instr
  opens_after way line t x [] = []
  opens_after way line t x (Part i ∷ steps) = opens_after way line (part_at t i) (part_after t i x) steps
  opens_after way line t x (Index l s ∷ steps) = elem way line t x l s ∷ opens_after way (rest line) (element_at t) (place (suc (here line)) 0) steps

  abbrev pub place_after : Line → Option TyId → Place → List Step → Place
  place_after line t x [] = x
  place_after line t x (Part i ∷ steps) = place_after line (part_at t i) (part_after t i x) steps
  place_after line t x (Index l s ∷ steps) = place_after (rest line) (element_at t) (place (suc (here line)) 0) steps

  abbrev pub opens : Way → Line → core.Place → List Instr
  opens way line p = opens_after way line (slice_get b.locals p.local) (place_at (home_of b p.local)) p.steps

  abbrev pub reached : Line → core.Place → Place
  reached line p = place_after line (slice_get b.locals p.local) (place_at (home_of b p.local)) p.steps

  -- A place for as long as a statement lasts: it is opened, used and closed.

  abbrev pub line_for : core.Place → Line
  line_for p = record { next = b.slot; left = indexes p.steps; last = zero }

  abbrev pub at : core.Place → Place
  at p = reached (line_for p) p

  abbrev pub through : Way → core.Place → List Instr → List Instr
  through way p use' = opens way (line_for p) p ++ (use' ++ closes b.slot (indexes p.steps))
