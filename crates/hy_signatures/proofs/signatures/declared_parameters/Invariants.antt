use Rattle.std.proofs.Common.{map, take}
use Rattle.hy_tree.specs.Denotes.{callable_of, param_of}
use Rattle.hy_types.specs.Types.{Table}
use Rattle.hy_signatures.specs.CallablesShown.{HasTypes}
use Rattle.hy_signatures.specs.Declarations.{Source}
use Rattle.hy_signatures.specs.Signatures.{parameters_of}
use Rattle.hy_signatures.specs.SignaturesShown.{ParametersAre}
use Rattle.hy_signatures.proofs.signatures.declared_parameters.Given as goal

abbrev pub invariant-loop-k : goal.invariant-loop-k
invariant-loop-k l = (table : Table) (source : Source) → HasTypes table source (callable_of l.row.callable.now) l.row
    → ParametersAre table (parameters_of source (map param_of (take l.k l.params))) l.made.items
