use Rattle.std.proofs.Common.{◌≡◌, List, [], ◌∷◌, ◌++◌, refl, sym, ap, subst, ◌∙◌, ◌+◌, drop}
use Rattle.std.proofs.lemmas.List.{drop_all}
use Rattle.hy_tree.proofs.Equations.{array_type_is, tuple_type_is}
use Rattle.hy_tree.specs.Denotes.{placed, type_kind_of, type_of, types_of}
use Rattle.hy_tree.specs.Tree as T
use Rattle.hy_tree.specs.declared.written.TypeExp.{TypeExp}
use Rattle.hy_types.specs.Types as Y
use Rattle.hy_types.specs.Types.{PlainType, PlainTypes, plain_types}
use Rattle.hy_types.specs.declared.kinds.TyId.{TyId}
use Rattle.hy_signatures.specs.Declarations.{written_type, written_types}
use Rattle.hy_signatures.specs.Numbered.{AreNumbers}
use Rattle.hy_signatures.proofs.Numbering.{numbering_all, written_all}
use Rattle.hy_check.specs.Facts.{HasType, type_facts, types_facts}
use Rattle.hy_check.specs.KnownShown.{known_of}
use Rattle.hy_check.proofs.Knowing.{learning_end}
use Rattle.hy_check.proofs.NotedTypes.{IsNoting, noting_start, noting_more, after_parts}
use Rattle.hy_check.proofs.checker.Checker.+noting.Goals as goal

pub note_written-returns-in_ok-id-in-Array-clause-learns : goal.note_written-returns-in_ok-id-in-Array-clause-learns
note_written-returns-in_ok-id-in-Array-clause-learns t c =
    let source = (known_of c.args.self.now).around.source in
    let at = placed c.args.written.now.span c.args.written.now.node in
    let element = type_of c.get.result.now in
    let is : type_of c.args.written.now ≡ T.ArrayType element at =
    ap (λ kind. type_kind_of kind at) c.in-Array.is ∙ array_type_is c.in-Array.element at ∙ ap
    (λ (e : TypeExp). T.ArrayType (type_of e) at) (sym c.get.ensures) in
    let type : Y.Array (written_type source element) ≡ Y.Array (Y.type_of c.note_written.new.self.types c.in_ok-element-in-Array.element) =
    ap Y.Array (sym c.in_ok-element-in-Array.ensures.number.is) in
    after_parts (known_of c.args.self.now) (known_of c.note_written.new.self) (known_of c.note_type.new.self) (type_facts source element)
    (type_facts source (type_of c.args.written.now)) _ c.in_ok-element-in-Array.ensures.learns c.in_ok-id-in-Array.ensures.learns
    (ap (type_facts source) is ∙ ap (λ one. type_facts source element ++ HasType c.args.written.now.node one ∷ []) type)

pub note_written-returns-in_ok-id-in-Tuple-clause-learns : goal.note_written-returns-in_ok-id-in-Tuple-clause-learns
note_written-returns-in_ok-id-in-Tuple-clause-learns t c =
    let source = (known_of c.args.self.now).around.source in
    let at = placed c.args.written.now.span c.args.written.now.node in
    let parts = types_of c.as_slice.result.now in
    let is : type_of c.args.written.now ≡ T.TupleType parts at =
    ap (λ kind. type_kind_of kind at) c.in-Tuple.is ∙ tuple_type_is c.in-Tuple.parts at ∙ ap
    (λ (list : List TypeExp). T.TupleType (types_of list) at) (sym c.as_slice.ensures) in
    let type : Y.Tuple (written_types source parts) ≡ Y.Tuple (plain_types (Y.type_of c.note_all_written.new.self.types) c.in_ok-parts-in-Tuple.parts) =
    ap Y.Tuple (sym c.in_ok-parts-in-Tuple.ensures.numbers.are) in
    after_parts (known_of c.args.self.now) (known_of c.note_all_written.new.self) (known_of c.note_type-in-Tuple.new.self) (types_facts source parts)
    (type_facts source (type_of c.args.written.now)) _ c.in_ok-parts-in-Tuple.ensures.learns c.in_ok-id-in-Tuple.ensures.learns
    (ap (type_facts source) is ∙ ap (λ one. types_facts source parts ++ HasType c.args.written.now.node one ∷ []) type)

pub note_all_written-loop-part-init : goal.note_all_written-loop-part-init
note_all_written-loop-part-init t c =
    subst (λ (ids : List TyId). IsNoting c.args.parts.now c.args.self.now c.args.self.now ids 0) (sym c.new-ids.ensures.items)
    (noting_start c.args.parts.now c.args.self.now c.requires)

pub note_all_written-loop-part-preserved : goal.note_all_written-loop-part-preserved
note_all_written-loop-part-preserved t c =
    subst (λ (ids : List TyId). IsNoting c.args.parts.now c.args.self.now c.note_written.new.self ids (c.loop-part.part-index + 1))
    (sym c.in_ok-push.ensures.items)
    (noting_more c.args.parts.now c.args.self.now c.loop-part.self c.note_written.new.self c.loop-part.ids.items c.loop-part.part-index c.part-item.result
    c.in_ok-note_written.field-0 c.part-item.is c.loop-part-test.true c.loop-part.invariant c.in_ok-note_written.ensures.right
    c.in_ok-note_written.ensures.number c.in_ok-note_written.ensures.learns)

pub note_all_written-returns-clause-numbers : goal.note_all_written-returns-clause-numbers
note_all_written-returns-clause-numbers t c =
    let source = (known_of c.args.self.now).around.source in
    let f : TypeExp → PlainType = λ x. written_type source (type_of x) in
    subst (AreNumbers c.loop-part.self.types (written_types source (types_of c.args.parts.now))) (sym c.from_vec.ensures)
    (subst (λ (types : PlainTypes). AreNumbers c.loop-part.self.types types c.loop-part.ids.items) (written_all source c.args.parts.now)
    (numbering_all f c.args.parts.now c.args.self.now.types c.loop-part.self.types c.loop-part.ids.items c.loop-part.part-index c.loop-part-test.false
    c.loop-part.invariant.numbers))

pub note_all_written-returns-clause-learns : goal.note_all_written-returns-clause-learns
note_all_written-returns-clause-learns t c =
    let source = (known_of c.args.self.now).around.source in
    learning_end (known_of c.args.self.now) (known_of c.loop-part.self) [] [] (types_facts source (types_of c.args.parts.now))
    (types_facts source (types_of (drop c.loop-part.part-index c.args.parts.now))) c.loop-part.invariant.learns refl
    (ap (λ list. types_facts source (types_of list)) (drop_all c.loop-part.part-index c.args.parts.now c.loop-part-test.false))
