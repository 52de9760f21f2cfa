-- Statements of a core that has a flow: each step is calm.
use Rattle.hy_core.specs.Plain.{lent_types}
use Rattle.std.proofs.Common.{◌≡◌, ◌≢◌, inl, inr, ⊎_elim, ℕ, zero, suc, ◌<◌, List, [], ◌∷◌, length, Option, Some, None, refl, sym, ap, ◌∙◌, subst, arith}
use Rattle.std.proofs.lemmas.Bool.Decides.{eqb_tells}
use Rattle.hy_base.specs.declared.run.End.TheVariants as end
use Rattle.hy_core.specs.Values.{Val}
use Rattle.hy_core.specs.Memory.{Key, set_at, Origin, close_copy}
use Rattle.hy_core.specs.Runs as effect
use Rattle.hy_core.specs.Runs.{Interaction, Fetch, Inspect, Perform, Return, apply, interpret, steps}
use Rattle.hy_core.specs.Calm.{MayClose}
use Rattle.hy_core.specs.Control.{Form, form, local_type, Work, Idle, Rest, Loop, Test, Drops, Dest, Opens, Nowhere, Activation, Nap, Halt, Ends, Stuck}
use Rattle.hy_core.specs.Control.{NotSet, NotOpened, Control, Stage, GivesUp, Setting, stop, with_work, key, count_one, with_some, trapped, turn, with_flag}
use Rattle.hy_core.specs.Control.{spot, read, take, write, read_number, read_flag, read_array, sleeper_of, wake}
use Rattle.hy_core.specs.Control as control
use Rattle.hy_core.specs.Statements.{close_all, back}
use Rattle.hy_core.specs.Flow.{Holder, InLocal, InSubscript, Signature, opened}
use Rattle.hy_core.proofs.Keys.{set_same, set_other}
use Rattle.hy_core.proofs.OpenPlaces.{Sound, sound_apply}
use Rattle.hy_core.proofs.CalmWalks.{Slots, at, mem, over, stands, Good, GoodAt, good_write}
use Rattle.hy_core.proofs.CalmFrames.{Top, Runs, Waits, Sleeps, ParamOf, ExtraBy, PendingBy, Fits, Half, listed_map, half_pass, Change, half_keep, waits}
use Rattle.hy_core.proofs.CalmFrames.{Others, Stands, framed_keep, callers_keep, still_open, view}

-- STATES that differ only in what is counted

pub record Like (c d : Control) : Type 0 where
  pub turns : ℕ
  pub opened : ℕ
  pub input : List ℕ
  pub output : List ℕ
  pub is : d ≡ record c { turns = turns; opened = opened; input = input; output = output }

pub like_self : (c : Control) → Like c c
like_self c = record { turns = c.turns; opened = c.opened; input = c.input; output = c.output; is = refl }

pub like_with : (c d : Control) (turns opened : ℕ) (input output : List ℕ) → Like c d
    → Like c (record d { turns = turns; opened = opened; input = input; output = output })
like_with c d turns opened input output l = record {
  turns = turns;
  opened = opened;
  input = input;
  output = output;
  is =
      ap (λ (d : Control). record d { turns = turns; opened = opened; input = input; output = output }) l.is;
}

pub like_count : (c d : Control) → Like c d → Like c (count_one d)
like_count c d l = like_with c d d.turns (suc d.opened) d.input d.output l

pub like_id : (c d : Control) → Like c d → d.now.id ≡ c.now.id
like_id c d l = ap (λ (d : Control). d.now.id) l.is

module _ (p : Setting) (signatures : ℕ → Signature) (halt : Option Halt) where
  abbrev pub S : Control → Slots → Type 0
  S = Stands p signatures halt

  pub like_stands : (c d : Control) (slots : Slots) → Like c d → S c slots → S d slots
  like_stands c d slots l s =
      subst (λ d. S d slots) (sym l.is) (record { same = s.same; number = s.number; flow = s.flow; half = s.half; goes = s.goes; others = s.others })

  -- CLOSING

  pub good_close : (slots : Slots) (k : Key) (o : Origin) (t : Interaction Control) → slots k ≡ Some o
      → ((c : Key) (x : Origin) → slots c ≡ Some x → x.base ≢ k) → GoodAt S t (set_at slots k None) → GoodAt S (Perform (effect.Close k) t) slots
  good_close slots k o t e shut h vals s =
      let may : MayClose (mem slots vals) k = record { origin = o; opened = e; shut = shut } in (
        may,
        subst (λ y. Sound (close_copy (mem slots vals) k y) → Good S t (close_copy (mem slots vals) k y)) (sym e) (λ s. h _ s)
            (sound_apply (effect.Close k) (mem slots vals) may s),
      )

  pub record Closed (slots slots' : Slots) (id n : ℕ) : Type 0 where
    pub fewer : (k : Key) (o : Origin) → slots' k ≡ Some o → slots k ≡ Some o
    pub gone : (j : ℕ) → j < n → slots' (at id j) ≡ None
    pub own : (k : Key) → k.act ≢ id → slots' k ≡ slots k

  none_of : (slots slots' : Slots) (k : Key) → ((o : Origin) → slots' k ≡ Some o → slots k ≡ Some o) → slots k ≡ None → slots' k ≡ None
  none_of slots slots' k f e = go (slots' k) f
    where
      go : (x : Option Origin) → ((o : Origin) → x ≡ Some o → slots k ≡ Some o) → x ≡ None
      go None f = refl
      go (Some o) f = let h = f o refl in absurd (cc)

  pub good_close_all : (c : Control) (t : Interaction Control) (n : ℕ) (slots : Slots) → ((j : ℕ) → j < n → (o : Origin) × (slots (at c.now.id j) ≡ Some o))
      → ((k : Key) (o : Origin) → slots k ≡ Some o → o.base.act ≢ c.now.id)
      → ((slots' : Slots) → Closed slots slots' c.now.id n → GoodAt S t slots') → GoodAt S (close_all c n t) slots
  good_close_all c t zero slots params shut cont = cont slots (record { fewer = λ k o h. h; gone = λ j h. absurd (omega arith); own = λ k n. refl })
  good_close_all c t (suc i) slots params shut cont =
      let q = params i (omega arith) in
      good_close slots (at c.now.id i) q.0 (close_all c i t) q.1 (λ d x h e. shut d x h (ap (λ k. k.act) e))
      (good_close_all c t i (set_at slots (at c.now.id i) None)
      (λ j lt. let r = params j (omega arith) in
      (r.0, set_other slots (at c.now.id i) None (at c.now.id j) (λ e. let e' : j ≡ i = ap (λ k. k.local) e in absurd (omega arith)) ∙ r.1))
      (λ k o x. shut k o (still_open slots (at c.now.id i) k o x).1)
      (λ slots' C. cont slots' (record {
        fewer = λ k o h. (still_open slots (at c.now.id i) k o (C.fewer k o h)).1;
        gone = λ j lt. ⊎_elim
            (λ e. subst (λ j. slots' (at c.now.id j) ≡ None) (sym e.1)
            (none_of (set_at slots (at c.now.id i) None) slots' (at c.now.id i) (C.fewer (at c.now.id i)) (set_same slots (at c.now.id i) None)))
            (λ e. C.gone j (let n = e.1 in omega arith)) (eqb_tells j i);
        own = λ k n. C.own k n ∙ set_other slots (at c.now.id i) None k (λ e. n (ap (λ k. k.act) e));
      })))

  -- the caller goes on when all parameters have closed
  module _ (c : Control) (same : c.halt ≡ halt) (number : ℕ) (slots slots' : Slots) (C : Closed slots slots' c.now.id (length (lent_types c.now.fun))) where
    closed_change : Change c.now.id c.now.id slots slots' (sleeper_of c.asleep) (sleeper_of c.asleep)
    closed_change = record { own = λ x j n. C.own (at x j) n; base = λ k o h n. C.fewer k o h; sleep = λ x j n. refl }

    abbrev pub TopOf : Dest → Top
    TopOf dest = Waits c.now.id (length (lent_types c.now.fun)) (signatures number).yields dest

    module _ (a : Activation) (rest : List Activation) (dest : Dest)
        (X : Others p signatures slots (sleeper_of c.asleep) c.now.id c.started (TopOf dest) (a ∷ rest))
        (ex : (k : Key) → ExtraBy c.now.id (length (lent_types c.now.fun)) dest k → ParamOf c.now.id (length (lent_types c.now.fun)) k)
        (pe : (t : ℕ) (k : Key) → PendingBy c.now.id (length (lent_types c.now.fun)) dest t k → ⊥) where
      resumed_half : Half slots' (sleeper_of c.asleep) Runs a.id (length (lent_types a.fun)) X.frames.0.flow
      resumed_half =
          let k = half_keep slots slots' (sleeper_of c.asleep) (sleeper_of c.asleep) c.now.id c.now.id _ a.id (length (lent_types a.fun)) _ closed_change
          (λ e. X.not_now.0 (sym e)) (λ e. X.not_now.0 (sym e)) X.frames.0.half in
          record {
            status = k.status;
            slept = k.slept;
            params = k.params;
            all_listed = λ k' o x b. ⊎_elim (λ e. absurd (closed k' o x (ex k' e)))
                (λ l. inr (listed_map _ _ _ _ k' o (λ en i u. (i, awake en.holder k' u)) l)) (k.all_listed k' o x b);
          }
        where
          closed : (k' : Key) (o : Origin) → slots' k' ≡ Some o → ParamOf c.now.id (length (lent_types c.now.fun)) k' → ⊥
          closed k' o x h = let g = C.gone k'.local h.1 in let e : slots' (at c.now.id k'.local) ≡ slots' k' = ap (λ i. slots' (at i k'.local)) (sym h.0) in cc

          awake : (holder : Holder) (k : Key) → Fits (sleeper_of c.asleep) (TopOf dest) a.id holder k → Fits (sleeper_of c.asleep) Runs a.id holder k
          awake (InLocal j) k u = u
          awake (InSubscript t) k u = ⊎_elim inl (λ z. absurd (pe t k z)) u

      resumed_others : Others p signatures slots' (sleeper_of c.asleep) a.id c.started (waits p signatures a X.frames.0.number) rest
      resumed_others = record {
        frames = callers_keep p signatures slots slots' (sleeper_of c.asleep) (sleeper_of c.asleep) c.now.id c.now.id closed_change
            (waits p signatures a X.frames.0.number) rest X.not_now.1 X.not_now.1 X.frames.1;
        sleepers = λ k b e. let z = X.sleepers k b e in record {
          nowhere = z.nowhere;
          frame = framed_keep p signatures slots slots' (sleeper_of c.asleep) (sleeper_of c.asleep) c.now.id c.now.id closed_change (Sleeps k) b z.not_now
              z.not_now z.frame;
          not_now = z.apart.0;
          apart = z.apart.1;
          below = z.below;
          home = z.home;
        };
        alone = X.alone;
        not_now = X.distinct.0;
        distinct = X.distinct.1;
        now_below = X.below.0;
        below = X.below.1;
        inside = λ k o x. X.inside k o (C.fewer k o x);
      }

    pub good_back : (v : Val) (callers : List Activation) (dest : Dest)
        → Others p signatures slots (sleeper_of c.asleep) c.now.id c.started (TopOf dest) callers → GoodAt S (back p c callers v dest) slots'
    good_back v [] dest X vals s = over (Ends end.Done) refl (λ e. absurd (cc))
    good_back v (a ∷ rest) (Opens l) X vals s = over Stuck refl (λ e. absurd (cc))
    good_back v (a ∷ rest) (control.Result q) X vals s =
        let h = resumed_half a rest (control.Result q) X (λ k e. e) (λ t k e. e) in
        let k : Control = record c { now = a; callers = rest } in
        let w = X.frames.0.goes in
        let flow = X.frames.0.flow in
        let done : S k slots' = record {
          same = same;
          number = X.frames.0.number;
          flow = w.next;
          half = half_pass slots' (sleeper_of c.asleep) Runs a.id (length (lent_types a.fun)) flow w.next w.passes h;
          goes = w.work;
          others = resumed_others a rest (control.Result q) X (λ k e. e) (λ t k e. e);
        } in
        good_write p S slots' flow a.id (view slots' (sleeper_of c.asleep) a.id (length (lent_types a.fun)) flow h) (Like k) (like_count k) (like_id k) q v
        Return w.indexes w.free
        (λ d l vals s. stands (like_stands k d slots' l done)) k (like_self k) vals s
    good_back v (a ∷ rest) Nowhere X vals s = stands (record {
      same = same;
      number = X.frames.0.number;
      flow = X.frames.0.flow;
      half = resumed_half a rest Nowhere X (λ k e. e) (λ t k e. e);
      goes = X.frames.0.goes;
      others = resumed_others a rest Nowhere X (λ k e. e) (λ t k e. e);
    })
