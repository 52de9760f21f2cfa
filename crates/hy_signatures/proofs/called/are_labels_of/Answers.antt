use Rattle.std.proofs.Common.{sym, arith}
use Rattle.hy_signatures.proofs.CalledNames.{counts_differ, label_same, label_differs, all_same}
use Rattle.hy_signatures.proofs.called.are_labels_of.Goals as goal

pub returns-then-args-fields : goal.returns-then-args-fields
returns-then-args-fields c = sym (counts_differ c.args.args.now c.args.fields.now c.if-args-fields.true)

pub returns-then-not-is_label_of : goal.returns-then-not-is_label_of
returns-then-not-is_label_of c =
    label_differs c.args.args.now c.args.fields.now c.loop-k.k c.index-args-k.result c.index-fields-k.result c.index-args-k.is c.index-fields-k.is
    c.loop-k-test.true (let same = c.if-args-fields.false in let lt = c.loop-k-test.true in omega (arith, same, lt))
    c.is_label_of.result c.is_label_of.ensures c.loop-k.invariant c.if-not-is_label_of.true

pub loop-k-preserved : goal.loop-k-preserved
loop-k-preserved c =
    label_same c.args.args.now c.args.fields.now c.loop-k.k c.index-args-k.result c.index-fields-k.result c.index-args-k.is c.index-fields-k.is
    c.loop-k-test.true (let same = c.if-args-fields.false in let lt = c.loop-k-test.true in omega (arith, same, lt))
    c.is_label_of.result c.is_label_of.ensures c.loop-k.invariant c.if-not-is_label_of.false

pub returns : goal.returns
returns c = all_same c.args.args.now c.args.fields.now c.loop-k.k c.loop-k-test.false c.if-args-fields.false c.loop-k.invariant
