use Rattle.hy_object.specs.Formats.{SoFar, one_instr}
use Rattle.hy_object.proofs.reading.read_code.Given as goal

abbrev pub invariant-loop-i : goal.invariant-loop-i
invariant-loop-i l = SoFar (one_instr l.bounds) l.bounds.places l.i l.code l.bytes l.rest
