use Rattle.std.proofs.Common.{◌+◌, List, map, sym, subst}
use Rattle.hy_tree.specs.Denotes.{type_of, param_of}
use Rattle.hy_tree.specs.declared.declaration.Param.{Param}
use Rattle.hy_types.specs.Types.{PlainType, PlainTypes}
use Rattle.hy_types.specs.declared.kinds.TyId.{TyId}
use Rattle.hy_signatures.specs.CallablesShown.{parameter_types}
use Rattle.hy_signatures.specs.Declarations.{written_type}
use Rattle.hy_signatures.specs.Numbered.{AreNumbers}
use Rattle.hy_signatures.specs.Shown.{source_shown}
use Rattle.hy_signatures.proofs.Numbering.{Numbering, numbering_more, numbering_all, parameters_all}
use Rattle.hy_signatures.proofs.callables.number_params.Goals as goal

pub loop-p-preserved : goal.loop-p-preserved
loop-p-preserved c =
    let f : Param → PlainType = λ p. written_type (source_shown c.args.source.now) (type_of p.written) in
    subst (λ (ids : List TyId). Numbering f c.args.params.now c.args.types.now c.number_written.new.types ids (c.loop-p.p-index + 1))
    (sym c.in_ok-push.ensures.items)
    (numbering_more f c.args.params.now c.args.types.now c.loop-p.types c.number_written.new.types c.loop-p.ids.items c.loop-p.p-index
    c.p-item.result c.in_ok-number_written.field-0 c.p-item.is c.loop-p-test.true c.loop-p.invariant c.in_ok-number_written.ensures.stays
    c.in_ok-number_written.ensures.number)

pub returns-clause-numbers : goal.returns-clause-numbers
returns-clause-numbers c =
    let source = source_shown c.args.source.now in
    let f : Param → PlainType = λ p. written_type source (type_of p.written) in
    subst (AreNumbers c.loop-p.types (parameter_types source (map param_of c.args.params.now))) (sym c.from_vec.ensures)
    (subst (λ (types : PlainTypes). AreNumbers c.loop-p.types types c.loop-p.ids.items) (parameters_all source c.args.params.now)
    (numbering_all f c.args.params.now c.args.types.now c.loop-p.types c.loop-p.ids.items c.loop-p.p-index c.loop-p-test.false c.loop-p.invariant))
