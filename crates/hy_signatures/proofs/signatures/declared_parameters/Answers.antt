use Rattle.std.proofs.Common.{◌+◌, List, map, take, take_all, sym, subst, arith}
use Rattle.hy_tree.specs.Denotes.{param_of}
use Rattle.hy_tree.specs.declared.declaration.Param.{Param}
use Rattle.hy_types.specs.declared.kinds.TyId.{TyId}
use Rattle.hy_signatures.specs.CallablesShown.{parameter_types}
use Rattle.hy_signatures.specs.Numbered.{AreNumbers}
use Rattle.hy_signatures.specs.Signatures.{parameters_of}
use Rattle.hy_signatures.specs.SignaturesShown.{ParametersAre}
use Rattle.hy_signatures.specs.declared.signatures.Parameter.{Parameter}
use Rattle.hy_signatures.proofs.ParameterTables.{as_many, parameter_more}
use Rattle.hy_signatures.proofs.signatures.declared_parameters.Goals as goal

pub bounds-numbers-k : goal.bounds-numbers-k
bounds-numbers-k c =
    let (table, source, has) = c.requires in
    let are : AreNumbers table (parameter_types source (map param_of c.as_slice-params.result.now)) c.as_slice-numbers.result.now =
    subst (λ (ids : List TyId). AreNumbers table (parameter_types source (map param_of c.as_slice-params.result.now)) ids) (sym c.as_slice-numbers.ensures)
    (subst (λ (params : List Param). AreNumbers table (parameter_types source (map param_of params)) c.args.row.now.params) (sym c.as_slice-params.ensures)
    has.params) in
    let many = as_many table source c.as_slice-params.result.now c.as_slice-numbers.result.now are in
    let lt = c.loop-k-test.true in
    omega (arith, many, lt)

pub loop-k-preserved : goal.loop-k-preserved
loop-k-preserved c table source has =
    let are : AreNumbers table (parameter_types source (map param_of c.as_slice-params.result.now)) c.as_slice-numbers.result.now =
    subst (λ (ids : List TyId). AreNumbers table (parameter_types source (map param_of c.as_slice-params.result.now)) ids) (sym c.as_slice-numbers.ensures)
    (subst (λ (params : List Param). AreNumbers table (parameter_types source (map param_of params)) c.args.row.now.params) (sym c.as_slice-params.ensures)
    has.params) in
    subst (λ (made : List Parameter). ParametersAre table (parameters_of source (map param_of (take (c.loop-k.k + 1) c.as_slice-params.result.now))) made)
    (sym c.in_ok-push.ensures.items)
    (parameter_more table source c.as_slice-params.result.now c.as_slice-numbers.result.now are c.loop-k.k c.index-params-k.result (record { at = 0 })
    c.loop-k.made.items c.index-params-k.is c.loop-k-test.true (c.loop-k.invariant table source has))

pub returns : goal.returns
returns c table source has =
    subst (λ (params : List Param). ParametersAre table (parameters_of source (map param_of params)) c.loop-k.made.items) c.as_slice-params.ensures
    (subst (λ (params : List Param). ParametersAre table (parameters_of source (map param_of params)) c.loop-k.made.items)
    (take_all c.loop-k.k c.as_slice-params.result.now c.loop-k-test.false) (c.loop-k.invariant table source has))
