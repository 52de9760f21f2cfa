use Rattle.std.proofs.Common.{List, map, subst}
use Rattle.hy_tree.specs.Denotes.{param_of}
use Rattle.hy_tree.specs.declared.declaration.Param.{Param}
use Rattle.hy_signatures.specs.CallablesShown.{parameter_types}
use Rattle.hy_signatures.specs.Numbered.{AreNumbers}
use Rattle.hy_signatures.specs.Shown.{source_shown}
use Rattle.hy_signatures.proofs.Numbering.{numbers_kept}
use Rattle.hy_signatures.proofs.callables.with_types.Goals as goal

pub returns-clause-types : goal.returns-clause-types
returns-clause-types c =
    let source = source_shown c.args.source.now in
    record {
      params = subst (λ (params : List Param). AreNumbers c.number_result.new.types (parameter_types source (map param_of params)) c.in_ok-params.params)
          c.as_slice.ensures
          (numbers_kept c.number_params.new.types c.number_result.new.types (parameter_types source (map param_of c.as_slice.result.now))
          c.in_ok-params.params c.in_ok-result.ensures.stays c.in_ok-params.ensures.numbers);
      result = c.in_ok-result.ensures.number;
    }
