use Rattle.hy_object.specs.Formats.{SoFar, one_fun}
use Rattle.hy_object.proofs.reading.read_funs.Given as goal

abbrev pub invariant-loop : goal.invariant-loop
invariant-loop l = SoFar (one_fun l.span_count l.size) l.size l.counter l.funs l.bytes l.rest
