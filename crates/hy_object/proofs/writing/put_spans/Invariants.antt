use Rattle.std.proofs.Common.{◌≡◌, ◌++◌, take, flat_map}
use Rattle.hy_object.specs.Bytes.{span_bytes}
use Rattle.hy_object.proofs.writing.put_spans.Given as goal

abbrev pub invariant-loop-span : goal.invariant-loop-span
invariant-loop-span l = l.out.items ≡ l.initial.out.items ++ flat_map span_bytes (take l.span-index l.spans)
