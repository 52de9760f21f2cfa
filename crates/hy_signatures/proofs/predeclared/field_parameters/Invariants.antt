use Rattle.std.proofs.Common.{◌≡◌, map, take}
use Rattle.hy_signatures.specs.SignaturesShown.{field_parameter}
use Rattle.hy_signatures.proofs.predeclared.field_parameters.Given as goal

abbrev pub invariant-loop-field : goal.invariant-loop-field
invariant-loop-field l = l.params.items ≡ map field_parameter (take l.field-index l.fields)
