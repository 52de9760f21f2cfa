use Rattle.std.proofs.Common.{◌≡◌, ◌<◌, ◌^◌, drop}
use Rattle.hy_base.specs.Digits.{capped_from, capped_digits}
use Rattle.hy_base.proofs.line_number.digits.Given as goal

abbrev pub invariant-loop-byte : goal.invariant-loop-byte
invariant-loop-byte l = (capped_from l.number (drop l.byte-index l.text) ≡ capped_digits l.text) × (l.number < 2 ^ 64)
