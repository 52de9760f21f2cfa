use Rattle.std.proofs.Common.{◌≡◌, ◌<◌, ◌^◌, drop}
use Rattle.hy_base.specs.Lines.{digits_from}
use Rattle.hy_words.proofs.words.value_of.Given as goal

abbrev pub invariant-loop-byte : goal.invariant-loop-byte
invariant-loop-byte l = record { reads : digits_from l.value (drop l.byte-index l.word) ≡ digits_from 0 l.word; small : l.value < 10 ^ l.byte-index }
