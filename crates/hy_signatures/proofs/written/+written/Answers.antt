use Rattle.std.proofs.Common.{◌+◌, List, sym, subst}
use Rattle.hy_tree.specs.Denotes.{type_of, types_of}
use Rattle.hy_tree.specs.declared.written.TypeExp.{TypeExp}
use Rattle.hy_types.specs.Types.{PlainType, PlainTypes}
use Rattle.hy_types.specs.declared.kinds.TyId.{TyId}
use Rattle.hy_signatures.specs.Declarations.{written_type, written_types}
use Rattle.hy_signatures.specs.Numbered.{AreNumbers}
use Rattle.hy_signatures.specs.Shown.{source_shown}
use Rattle.hy_signatures.proofs.Numbering.{Numbering, numbering_more, numbering_all, written_all}
use Rattle.hy_signatures.proofs.written.+written.Goals as goal

pub number_all-loop-part-preserved : goal.number_all-loop-part-preserved
number_all-loop-part-preserved t c =
    let f : TypeExp → PlainType = λ x. written_type (source_shown c.args.source.now) (type_of x) in
    subst (λ (ids : List TyId). Numbering f c.args.parts.now c.args.types.now c.number_written.new.types ids (c.loop-part.part-index + 1))
    (sym c.in_ok-push.ensures.items)
    (numbering_more f c.args.parts.now c.args.types.now c.loop-part.types c.number_written.new.types c.loop-part.ids.items c.loop-part.part-index
    c.part-item.result c.in_ok-number_written.field-0 c.part-item.is c.loop-part-test.true c.loop-part.invariant
    c.in_ok-number_written.ensures.stays c.in_ok-number_written.ensures.number)

pub number_all-returns-clause-numbers : goal.number_all-returns-clause-numbers
number_all-returns-clause-numbers t c =
    let f : TypeExp → PlainType = λ x. written_type (source_shown c.args.source.now) (type_of x) in
    subst (AreNumbers c.loop-part.types (written_types (source_shown c.args.source.now) (types_of c.args.parts.now))) (sym c.from_vec.ensures)
    (subst (λ (types : PlainTypes). AreNumbers c.loop-part.types types c.loop-part.ids.items) (written_all (source_shown c.args.source.now) c.args.parts.now)
    (numbering_all f c.args.parts.now c.args.types.now c.loop-part.types c.loop-part.ids.items c.loop-part.part-index c.loop-part-test.false
    c.loop-part.invariant))
