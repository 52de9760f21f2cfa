-- What becomes of the activations of a machine when the running one stops.
use Rattle.std.proofs.Common.{◌≡◌, ◌+◌, suc, false, List, length, Option, Some, refl, sym, ap, subst, ◌∙◌, arith}
use Rattle.hy_frames.specs.declared.id.ActId.{ActId}
use Rattle.hy_frames.specs.declared.id.Standing.TheVariants.{Running, Suspended}
use Rattle.hy_frames.specs.Activations as acts
use Rattle.hy_object.specs.declared.object.Object.{Object}
use Rattle.hy_object.specs.Controls.{at_next}
use Rattle.hy_object.specs.States.{Sliding, State}
use Rattle.hy_checked.specs.declared.machine.Machine.{Machine}
use Rattle.hy_checked.specs.Simulates.{AreCallers, AreSuspended, HasCaller, IsKeptAs, IsPausedAs, Simulates, waits_as}
use Rattle.hy_checked.proofs.Acting.{KeepsOthers, callers_stay, changed_is, changed_keeps, changed_many, ended_keeps, ended_many, live_so, of_found}
use Rattle.hy_checked.proofs.Acting.{own_apart, suspended_stay, then_keeps, to_found}

module _ (object : Object) (m : Machine) (s : State) (st : Simulates object m s) where
  pub now_live : acts.IsLive m.running m.acts
  now_live = live_so m.running m.acts st.running.one st.running.is

  -- it has that caller
  pub caller_told : (found : Option ActId) → HasCaller m found → st.caller ≡ found
  caller_told found h = sym (of_found (acts.activation m.running m.acts) st.running.one (λ one. found ≡ acts.caller_of one.standing) st.running.is h
      ∙ ap acts.caller_of st.running.standing_is)

  pub now_changed : (live : List acts.Activation) (change : acts.Activation → acts.Activation) → live ≡ acts.with_activation m.running change m.acts
      → ((x : acts.Activation) → acts.slot_of (change x) ≡ acts.slot_of x) → KeepsOthers m.acts live s.now.frame
  now_changed live change is keeps =
      subst (KeepsOthers m.acts live) (sym st.running.frame) (changed_keeps m.acts live m.running st.running.one st.running.is change is keeps)

  pub now_ended : (live : List acts.Activation) → live ≡ acts.without_activation m.running m.acts → KeepsOthers m.acts live s.now.frame
  now_ended live is = subst (KeepsOthers m.acts live) (sym st.running.frame) (ended_keeps m.acts live m.running st.running.one st.running.is is)

  pub now_one_less : (live : List acts.Activation) → live ≡ acts.without_activation m.running m.acts → acts.HaveOwnIds m.acts
      → length live ≡ length s.callers + length s.suspended
  now_one_less live is own = let size = ended_many m.acts live m.running st.running.one st.running.is is own in omega (arith, size, st.all)

  pub others_wait : (live : List acts.Activation) → KeepsOthers m.acts live s.now.frame → AreCallers object live st.caller s.callers
  others_wait live keeps =
      callers_stay object m.acts live s.now.frame keeps st.caller s.callers (own_apart s.now.frame s.callers s.suspended st.represents.apart).0 st.callers

  pub others_suspended : (live : List acts.Activation) → KeepsOthers m.acts live s.now.frame → AreSuspended object live m.suspended_ids.items s.suspended
  others_suspended live keeps =
      suspended_stay object m.acts live s.now.frame keeps m.suspended_ids.items s.suspended
      (own_apart s.now.frame s.callers s.suspended st.represents.apart).1 st.suspended

  -- where it goes on
  pub at_next_kept : IsKeptAs object (waits_as (acts.gone_to (m.place + 1) st.running.one)) (at_next s.now)
  at_next_kept = record {
    number = st.running.number;
    place = (let e : suc s.now.place ≡ m.place + 1 = omega (arith, st.place) in e);
    frame = st.running.frame;
    fun = st.fun;
  }

  module _ (mid : List acts.Activation) (goes : mid ≡ acts.with_activation m.running (acts.gone_to (m.place + 1)) m.acts) where
    pub gone_keeps : KeepsOthers m.acts mid s.now.frame
    gone_keeps = now_changed mid (acts.gone_to (m.place + 1)) goes (λ x. refl)

    gone_is : acts.activation m.running mid ≡ Some (acts.gone_to (m.place + 1) st.running.one)
    gone_is = changed_is m.acts mid m.running st.running.one st.running.is (acts.gone_to (m.place + 1)) goes (λ x. refl)

    -- it waits
    pub waits_at_next : IsPausedAs object mid m.running (Running st.caller) (at_next s.now)
    waits_at_next = record { one = acts.gone_to (m.place + 1) st.running.one; is = gone_is; standing_is = st.running.standing_is; kept = at_next_kept }

    pub gone_many : length mid ≡ length m.acts
    gone_many = changed_many m.acts mid m.running st.running.one st.running.is (acts.gone_to (m.place + 1)) goes (λ x. refl)

    pub now_runs_at_next : acts.IsRunning m.running mid
    now_runs_at_next =
        to_found (acts.activation m.running mid) (acts.gone_to (m.place + 1) st.running.one) (λ one. acts.is_suspended one.standing ≡ false) gone_is
        (ap acts.is_suspended st.running.standing_is)

    module _ (live : List acts.Activation) (is : live ≡ acts.with_activation m.running acts.suspended mid) where
      -- it is suspended
      pub suspended_at_next : IsPausedAs object live m.running Suspended (record (at_next s.now) { role = Sliding })
      suspended_at_next = record {
        one = acts.suspended (acts.gone_to (m.place + 1) st.running.one);
        is = changed_is mid live m.running (acts.gone_to (m.place + 1) st.running.one) gone_is acts.suspended is (λ x. refl);
        standing_is = refl;
        kept = record { number = at_next_kept.number; place = at_next_kept.place; frame = at_next_kept.frame; fun = at_next_kept.fun };
      }

      pub suspended_keeps : KeepsOthers m.acts live s.now.frame
      suspended_keeps =
          then_keeps m.acts mid live s.now.frame gone_keeps (subst (KeepsOthers mid live) (sym st.running.frame)
          (changed_keeps mid live m.running (acts.gone_to (m.place + 1) st.running.one) gone_is acts.suspended is (λ x. refl)))

      pub suspended_many : length live ≡ length m.acts
      suspended_many = changed_many mid live m.running (acts.gone_to (m.place + 1) st.running.one) gone_is acts.suspended is (λ x. refl) ∙ gone_many
