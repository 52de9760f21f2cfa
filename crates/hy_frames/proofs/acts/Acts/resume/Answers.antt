use Rattle.std.proofs.Common.{◌≡◌, Some, refl, true}
use Rattle.hy_links.proofs.Linked.{live_slot, some_such, changes_written, touched}
use Rattle.hy_frames.specs.declared.id.Standing.TheVariants.{Running}
use Rattle.hy_frames.specs.Activations.{resumed, is_suspended}
use Rattle.hy_frames.specs.Slots.{order}
use Rattle.hy_frames.proofs.acts.Acts.resume.Goals as goal

pub index_mut-requires : goal.index_mut-requires
index_mut-requires c =
    live_slot order c.self.inside.slots c.self.inside.newest c.self.invariant c.args.act.slot
    (some_such _ (λ a. is_suspended a.standing ≡ true) (rw (c.self.view_is) c.requires))

pub invariant_of-self : goal.invariant_of-self
invariant_of-self c =
    (touched order c.self.inside.slots _ c.self.inside.newest c.args.act.slot (λ slot. record slot { standing = Running (Some c.args.caller) })
    (resumed c.args.caller) c.self.invariant (changes_written c.self.inside.slots c.args.act.slot c.index_mut.result.now
    (λ slot. record slot { standing = Running (Some c.args.caller) }) c.index_mut.ensures.value) (λ slot. refl) (λ slot. refl) (λ slot. refl)).linked

pub returns : goal.returns
returns c = rw (← c.self.view_is) (touched order c.self.inside.slots _ c.self.inside.newest c.args.act.slot
    (λ slot. record slot { standing = Running (Some c.args.caller) }) (resumed c.args.caller) c.self.invariant
    (changes_written c.self.inside.slots c.args.act.slot c.index_mut.result.now (λ slot. record slot { standing = Running (Some c.args.caller) })
    c.index_mut.ensures.value) (λ slot. refl) (λ slot. refl) (λ slot. refl)).lists
