use Rattle.std.proofs.Common.{◌<◌, length, false, get_or}
use Rattle.std.proofs.lemmas.Option.{slice_get-get_or}
use Rattle.hy_types.proofs.Reading.{below_at}
use Rattle.hy_signatures.proofs.CopyTables.{copyable_more, not_copyable}
use Rattle.hy_signatures.proofs.copyables.all_copyable.Goals as goal

pub bounds-flags-part : goal.bounds-flags-part
bounds-flags-part c =
    below_at (length c.args.flags.now) c.args.parts.now c.loop-part.part-index (record { at = 0 }) c.requires c.loop-part-test.true

pub returns-then-not-flags-part : goal.returns-then-not-flags-part
returns-then-not-flags-part c table source generics tells =
    let part = get_or c.args.parts.now c.loop-part.part-index (record { at = 0 }) in
    let lt : part.at < length c.args.flags.now =
    below_at (length c.args.flags.now) c.args.parts.now c.loop-part.part-index (record { at = 0 }) c.requires c.loop-part-test.true in
    not_copyable table source generics c.args.flags.now c.args.parts.now c.loop-part.part-index (record { at = 0 }) (get_or c.args.flags.now part.at false)
    c.loop-part-test.true tells (c.loop-part.invariant table source generics tells) (slice_get-get_or c.args.flags.now part.at false lt)
    c.if-not-flags-part.true

pub loop-part-preserved : goal.loop-part-preserved
loop-part-preserved c table source generics tells =
    let part = get_or c.args.parts.now c.loop-part.part-index (record { at = 0 }) in
    let lt : part.at < length c.args.flags.now =
    below_at (length c.args.flags.now) c.args.parts.now c.loop-part.part-index (record { at = 0 }) c.requires c.loop-part-test.true in
    copyable_more table source generics c.args.flags.now c.args.parts.now c.loop-part.part-index (record { at = 0 }) (get_or c.args.flags.now part.at false)
    c.loop-part-test.true tells (c.loop-part.invariant table source generics tells) (slice_get-get_or c.args.flags.now part.at false lt)
    c.if-not-flags-part.false
