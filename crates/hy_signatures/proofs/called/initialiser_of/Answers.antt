use Rattle.std.proofs.Common.{◌∙◌, ap, sym}
use Rattle.hy_signatures.specs.Signatures as S
use Rattle.hy_signatures.proofs.CalledNames.{labels, names_kept, if_true, if_false}
use Rattle.hy_signatures.proofs.MemberTables.{fields_kept}
use Rattle.hy_signatures.proofs.called.initialiser_of.Goals as goal

pub returns-then-not-are_labels_of-clause-signature : goal.returns-then-not-are_labels_of-clause-signature
returns-then-not-are_labels_of-clause-signature c list has =
    if_false c.args.types.now _ (S.initialiser c.args.node list)
    (ap (S.same_labels (labels c.args.args.now)) (sym (names_kept c.args.types.now list c.args.fields.now has))
    ∙ sym c.are_labels_of.ensures ∙ c.if-not-are_labels_of.true)

pub returns-clause-signature : goal.returns-clause-signature
returns-clause-signature c list has =
    if_true c.number_named.new.self _ (S.initialiser c.args.node list) c.in_ok-s.s
    (ap (S.same_labels (labels c.args.args.now)) (sym (names_kept c.args.types.now list c.args.fields.now has))
    ∙ sym c.are_labels_of.ensures ∙ c.if-not-are_labels_of.false)
    (c.in_ok-s.ensures c.number_named.new.self list
    (fields_kept c.args.types.now c.number_named.new.self list c.args.fields.now c.in_ok-product.ensures.stays has) c.in_ok-product.ensures.number)
