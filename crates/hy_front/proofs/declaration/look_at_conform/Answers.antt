use Rattle.std.proofs.Common.{◌∷◌, ◌++◌, map, ap, ◌∙◌}
use Rattle.hy_tree.specs.Denotes.{conform_of, member_of}
use Rattle.hy_front.specs.Noted.{note, after}
use Rattle.hy_front.specs.Unbuilt.{in_uses, in_members}
use Rattle.hy_front.proofs.Walks.{then_met}
use Rattle.hy_base.proofs.Walks.{then}
use Rattle.hy_front.proofs.declaration.look_at_conform.Goals as goal

pub returns : goal.returns
returns c =
    let r = c.look_at_members.result in
    let meant = c.args.meant.now in
    let it = conform_of c.args.c.now in
    then_met it.at.span (it.target.span ∷ (in_uses it.traits ++ in_members meant it.members)) c.args.first c.meet.result r c.meet.ensures
    (then_met it.target.span (in_uses it.traits ++ in_members meant it.members) c.meet.result c.meet-first.result r c.meet-first.ensures
    (then note (in_uses it.traits) (in_members meant it.members) c.meet-first.result c.look_at_uses-first.result r
    (c.look_at_uses-first.ensures ∙ ap (λ names. after (in_uses names) c.meet-first.result) c.as_slice.ensures)
    (c.look_at_members.ensures ∙ ap (λ members. after (in_members meant (map member_of members)) c.look_at_uses-first.result) c.as_slice-2.ensures)))
