use Rattle.hy_object.specs.Formats.{SoFar, one_span}
use Rattle.hy_object.proofs.reading.read_spans.Given as goal

abbrev pub invariant-loop : goal.invariant-loop
invariant-loop l = SoFar one_span l.size l.counter l.spans l.bytes l.rest
