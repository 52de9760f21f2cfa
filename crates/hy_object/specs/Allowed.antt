-- The rules of an instruction's fields, as tests.
use Rattle.std.specs.Prelude.{◌+◌, ◌^◌, ℕ, zero, suc, Bool, true, nat_le, nat_lt}
use Rattle.std.specs.List.{list_all}
use Rattle.hy_base.specs.Numbers.{fits}
use Rattle.hy_object.specs.declared.instr.Instr.{Instr}
use Rattle.hy_object.specs.Operands.{Operand, Own, Outcome, FirstWord, FirstSlot, Base, Offset, Slot, Callee, Target, Trap, Size, Choice, Value, operands}
use Rattle.hy_object.specs.declared.bounds.Bounds.{Bounds}
use Rattle.hy_object.specs.Grammar.{is_end}

abbrev pub may_be : Bounds → Operand → Bool
may_be b (Own word words) = nat_le (word + words) b.words
may_be b (Outcome word) = nat_le (word + b.result) b.words
may_be b (FirstWord word) = nat_le word b.words
may_be b (FirstSlot slot) = nat_le slot b.slots
may_be b (Base base) = nat_le base b.slots
may_be b (Offset offset) = nat_lt offset (2 ^ 32)
may_be b (Slot slot) = nat_lt slot b.slots
may_be b (Callee fun) = nat_lt fun b.funs
may_be b (Target place) = nat_lt place b.places
may_be b (Trap span) = nat_lt span b.spans
may_be b (Size words) = nat_le words 4096
may_be b (Choice n) = nat_lt n 2
may_be b (Value v) = fits v

abbrev pub allows : Bounds → Instr → Bool
allows b i = list_all (may_be b) (operands i)

-- it may be the instruction with so many after it
abbrev pub may_stand : ℕ → Instr → Bool
may_stand zero i = is_end i
may_stand (suc behind) i = true
