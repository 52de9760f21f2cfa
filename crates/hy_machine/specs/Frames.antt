-- What an instruction does to a frame, as the program answers it.
use Rattle.std.specs.Prelude.{◌≡◌, ◌≢◌, ℕ, ◌+◌, List, length, Option, Some, None, Result, Ok, Err, ℤ, nat_le, nat_eq, if◌then◌else◌}
use Rattle.hy_base.specs.declared.run.End.TheVariants as end
use Rattle.hy_machine.specs.declared.frame.Halt.{Halt}
use Rattle.hy_machine.specs.declared.frame.Halt.TheVariants.{Ended, Stuck, Cut}
use Rattle.hy_object.specs.declared.object.Object.{Object}
use Rattle.hy_object.specs.declared.instr.Place.{Place}
use Rattle.hy_object.specs.declared.instr.Instr.{Instr}
use Rattle.hy_object.specs.declared.stuck.Kind.TheVariants as kind
use Rattle.hy_machine.specs.Machine.{State, Cell, Unset, Word, ends, stuck, goes_on, does}

-- the word that a cell holds
abbrev pub word_of : Option Cell → Result ℤ Halt
word_of None = Err (Stuck kind.Range)
word_of (Some Unset) = Err (Stuck kind.Unset)
word_of (Some (Word n)) = Ok n

-- whether a place of that many words lies in the frame
abbrev pub reached : List Cell → Place → ℕ → Result (Unit {0}) Halt
reached frame p words = if nat_eq p.base 0 then (if nat_le (p.offset + words) (length frame) then Ok tt else Err (Stuck kind.Range)) else Err (Stuck kind.Slot)

-- the state after an answer, with this frame; nothing was done where the run is cut off
abbrev pub follow : State → Result (Unit {0}) Halt → List Cell → State
follow s (Ok done) frame = goes_on s frame
follow s (Err (Ended e)) frame = ends s e
follow s (Err (Stuck why)) frame = stuck s why
follow s (Err (Cut cause)) frame = s

-- The instruction takes one frame to another, and is answered so.
abbrev pub Takes : Object → Instr → List Cell → List Cell → Result (Unit {0}) Halt → Type 0
Takes object i old new result = (s : State) → s.frame ≡ old → does object s i ≡ follow s result new

-- the answer of an instruction that writes nothing: it is not cut off, and asks for no input
abbrev pub IsSilent : Result (Unit {0}) Halt → Type 0
IsSilent (Ok done) = Unit {0}
IsSilent (Err (Ended e)) = e ≢ end.Asks
IsSilent (Err (Stuck why)) = Unit {0}
IsSilent (Err (Cut cause)) = ⊥
