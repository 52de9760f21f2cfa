use Rattle.std.proofs.Common.{◌≡◌, ◌≤◌, fold, length}
use Rattle.hy_lexer.specs.Pieces.{number_of, with_digit}
use Rattle.hy_lexer.proofs.number.number_value.Given as goal

abbrev pub invariant-loop-byte : goal.invariant-loop-byte
invariant-loop-byte l = record { value : number_of l.fn.digits ≡ fold with_digit l.value l.rest; bound : l.value ≤ 9223372036854775807 }

abbrev pub decreases-loop-byte : goal.decreases-loop-byte
decreases-loop-byte l = length l.rest
