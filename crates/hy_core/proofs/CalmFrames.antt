-- What is known of each activation of a run of a core that has a flow: one runs, others wait for one another, and others sleep.
use Rattle.std.proofs.Common.{◌≡◌, ◌≢◌, ◌⊎◌, inl, inr, ⊎_elim, ℕ, suc, ◌<◌, cond, Bool, true, false, List}
use Rattle.std.proofs.Common.{[], ◌∷◌, length, Option, Some, None, refl, sym, ap, ◌∙◌, subst, arith}
use Rattle.std.proofs.lemmas.Bool.Decides.{eqb_tells}
use Rattle.hy_core.specs.Plain.{Place, Stmts, Fun, lent_types}
use Rattle.hy_core.specs.Memory.{Key, Spot, set_at, Way, Origin}
use Rattle.hy_core.specs.Control.{Flags, Deed, Body, EachOf, Element, Task, Do, Value, PartsOf, Unsets, Work, Idle, Rest, Loop}
use Rattle.hy_core.specs.Control.{Test, Drops, Dest, Opens, Nowhere, Activation, Nap, Halt, Control, GivesUp, Setting}
use Rattle.hy_core.specs.Control.{sleeper_of, wake}
use Rattle.hy_core.specs.Control as control
use Rattle.hy_core.specs.Statements.{broken, continued}
use Rattle.hy_core.specs.Typing.{Among, all, still}
use Rattle.hy_core.specs.Shaped.{HasForm, ShapedAll}
use Rattle.hy_core.specs.Flow.{IsSetSo, where_is, Holder, InLocal, InSubscript, OpenPlace, Status, Own}
use Rattle.hy_core.specs.Flow.{Param, Opened, Bound, FlowState, Signature, Context, set_local}
use Rattle.hy_core.specs.Flow.{with_status, all_set, IsShutAt, MayReadAt, MayWriteAt, IndexesOk, FlowsInto, TransfersAll, Around, NoLoop, InLoop}
use Rattle.hy_core.specs.Flow.{context_of}
use Rattle.hy_core.proofs.Keys.{key_dec, set_same, set_other, at_key}
use Rattle.hy_core.proofs.CalmWalks.{Slots, at, Is, Listed, LocalIn, View}

abbrev pub Sleeping : Type 0
Sleeping = Key → Option Activation

-- FLOW STATES that tell the same of what is open

-- they tell the same of each local, and what is open in the first is open in the second
pub record Passes (g d : FlowState) : Type 0 where
  pub status : (j : ℕ) → g.status j ≡ d.status j
  pub open_places : (e : OpenPlace) → Among e g.open_places → Among e d.open_places

pub passes_self : (g : FlowState) → Passes g g
passes_self g = record { status = λ j. refl; open_places = λ e i. i }

pub passes_on : (g h d : FlowState) → Passes g h → Passes h d → Passes g d
passes_on g h d a b = record { status = λ j. a.status j ∙ b.status j; open_places = λ e i. b.open_places e (a.open_places e i) }

pub flows_pass : (x : Context) (g d : FlowState) → FlowsInto x g d → Passes g d
flows_pass x g d l = record { status = l.status; open_places = l.open_places }

-- of what is open they tell nothing new where a local is known to be true or false
pub where_pass : (x : Context) (g : FlowState) (f : ℕ) (b : Bool) → Passes g (where_is x g f b)
where_pass x g f b = record { status = λ j. refl; open_places = λ e i. i }

-- WORK

module _ (x : Context) where
  abbrev pub AroundBy : Around x → (FlowState → Type 0) → (FlowState → Type 0) → Type 0
  AroundBy NoLoop B A = Unit {0}
  AroundBy (InLoop behind again) B A = B behind × A again

  -- a loop from its head on, where g is known; N is wanted after it
  pub record LoopFlows (g : FlowState) (head : Stmts) (on : ℕ) (body : Stmts) (N : FlowState → Type 0) : Type 0 where
    pub test : FlowState
    pub out : FlowState
    pub transfers : TransfersAll x NoLoop g head test
    pub read : MayReadAt test on []
    pub set : IsSetSo (test.init on [])
    pub flag : HasForm x.core x.fun on Flags
    pub pass : TransfersAll x (InLoop out g) (where_is x test on true) body g
    pub leaves : FlowsInto x (where_is x test on false) out
    pub shaped_head : ShapedAll x.core x.fun head
    pub shaped_body : ShapedAll x.core x.fun body
    pub next : N out

  pub record RestFlows (g : FlowState) (ss : Stmts) (B A N : FlowState → Type 0) : Type 0 where
    pub around : Around x
    pub last : FlowState
    pub transfers : TransfersAll x around g ss last
    pub shaped : ShapedAll x.core x.fun ss
    pub outer : AroundBy around B A
    pub next : N last

  pub record AtHead (g : FlowState) (head : Stmts) (on : ℕ) (body : Stmts) (N : FlowState → Type 0) : Type 0 where
    pub first : FlowState
    pub flows : Passes g first
    pub loop : LoopFlows first head on body N

  pub record AtTest (g : FlowState) (head : Stmts) (on : ℕ) (body : Stmts) (N : FlowState → Type 0) : Type 0 where
    pub first : FlowState
    pub loop : LoopFlows first head on body N
    pub flows : Passes g loop.test

-- DEINITIALISATIONS that a `Drop` has begun: where each part of them stands

module _ (P : Spot → Type 0) where
  abbrev pub DeedOn : Deed → Type 0
  DeedOn (Body d s) = P s
  DeedOn (EachOf n s) = P s
  DeedOn (Element s) = P s

  abbrev pub TaskOn : Task → Type 0
  TaskOn (Do d) = DeedOn d
  TaskOn (Value s) = P s
  TaskOn (PartsOf s) = P s
  TaskOn (Unsets s) = P s

-- the place is the activation's own, and may be changed
abbrev pub SpotFree : ℕ → FlowState → Spot → Type 0
SpotFree id g s = (s.key.act ≡ id) × MayWriteAt g s.key.local s.path

module _ (x : Context) (id : ℕ) where
  -- what is left of a body, where g is known; after its innermost loop; and at the next pass of that
  abbrev mutual
    pub WorkFlows : Work → FlowState → Type 0
    WorkFlows Idle g = Unit {0}
    WorkFlows (Rest ss w) g = RestFlows x g ss (BreakFlows w) (AgainFlows w) (WorkFlows w)
    WorkFlows (Loop head on body w) g = AtHead x g head on body (WorkFlows w)
    WorkFlows (Test head on body w) g = AtTest x g head on body (WorkFlows w)
    WorkFlows (Drops ts w) g = all (TaskOn (SpotFree id g)) ts × ((d : FlowState) × Passes g d × WorkFlows w d)

    pub BreakFlows : Work → FlowState → Type 0
    BreakFlows Idle g = Unit {0}
    BreakFlows (Rest ss w) g = BreakFlows w g
    BreakFlows (Loop head on body w) g = WorkFlows w g
    BreakFlows (Test head on body w) g = Unit {0}
    BreakFlows (Drops ts w) g = Unit {0}

    pub AgainFlows : Work → FlowState → Type 0
    AgainFlows Idle g = Unit {0}
    AgainFlows (Rest ss w) g = AgainFlows w g
    AgainFlows (Loop head on body w) g = LoopFlows x g head on body (WorkFlows w)
    AgainFlows (Test head on body w) g = Unit {0}
    AgainFlows (Drops ts w) g = Unit {0}

  pub break_flows : (w v : Work) (g : FlowState) → broken w ≡ Some v → BreakFlows w g → WorkFlows v g
  break_flows Idle v g e h = absurd (cc)
  break_flows (Rest ss w) v g e h = break_flows w v g e h
  break_flows (Loop head on body w) v g e h = let z : w ≡ v = cc in subst (λ w. WorkFlows w g) z h
  break_flows (Test head on body w) v g e h = absurd (cc)
  break_flows (Drops ts w) v g e h = absurd (cc)

  pub again_flows : (w v : Work) (g : FlowState) → continued w ≡ Some v → AgainFlows w g → WorkFlows v g
  again_flows Idle v g e h = absurd (cc)
  again_flows (Rest ss w) v g e h = again_flows w v g e h
  again_flows (Loop head on body w) v g e h = let z : Loop head on body w ≡ v = cc in
      subst (λ w. WorkFlows w g) z (record { first = g; flows = passes_self g; loop = h })
  again_flows (Test head on body w) v g e h = absurd (cc)
  again_flows (Drops ts w) v g e h = absurd (cc)

-- FRAMES

-- the local of a status has a sleeper, or none
abbrev pub Sl : Status → Option Activation → Type 0
Sl Own x = x ≡ None
Sl (Param w) x = x ≡ None
Sl (Opened o) x = x ≡ None
Sl (Bound w) x = (b : Activation) × (x ≡ Some b)

-- an activation runs; waits for another; or sleeps, with a local of another that stands for its own
pub data Top : Type 0 where
  Runs : Top
  Waits : (id lent : ℕ) → Way → Dest → Top
  Sleeps : Key → Top

abbrev pub ParamOf : ℕ → ℕ → Key → Type 0
ParamOf id lent k = (k.act ≡ id) × (k.local < lent)

-- what is open and has no entry
abbrev pub ExtraBy : ℕ → ℕ → Dest → Key → Type 0
ExtraBy id lent (control.Result p) k = ParamOf id lent k
ExtraBy id lent (Opens t) k = ⊥
ExtraBy id lent Nowhere k = ParamOf id lent k

abbrev pub Extra : Top → Key → Type 0
Extra Runs k = ⊥
Extra (Waits id lent v dest) k = ExtraBy id lent dest k
Extra (Sleeps x) k = k ≡ x

abbrev pub HeldIn : Option Activation → Key → Type 0
HeldIn None k = ⊥
HeldIn (Some b) k = ParamOf b.id (length (lent_types b.fun)) k

abbrev pub PendingBy : ℕ → ℕ → Dest → ℕ → Key → Type 0
PendingBy id lent (control.Result p) t k = ⊥
PendingBy id lent (Opens u) t k = (t ≡ u) × ParamOf id lent k
PendingBy id lent Nowhere t k = ⊥

abbrev pub Pending : Top → ℕ → Key → Type 0
Pending Runs t k = ⊥
Pending (Waits id lent v dest) t k = PendingBy id lent dest t k
Pending (Sleeps x) t k = ⊥

abbrev pub Fits : Sleeping → Top → ℕ → Holder → Key → Type 0
Fits asl top a (InLocal j) k = k ≡ at a j
Fits asl top a (InSubscript t) k = HeldIn (asl (at a t)) k ⊎ Pending top t k

abbrev pub AllListed : Slots → ℕ → FlowState → (Key → Type 0) → (Holder → Key → Type 0) → Type 0
AllListed slots a g X F = (k : Key) (o : Origin) → slots k ≡ Some o → o.base.act ≡ a → X k ⊎ Listed F g k o

pub record Half (slots : Slots) (asl : Sleeping) (top : Top) (id lent : ℕ) (g : FlowState) : Type 0 where
  pub status : (j : ℕ) → Is (g.status j) (slots (at id j))
  pub slept : (j : ℕ) → Sl (g.status j) (asl (at id j))
  pub params : (j : ℕ) → j < lent → (v : Way) × (g.status j ≡ Param v)
  pub all_listed : AllListed slots id g (Extra top) (Fits asl top id)

pub listed_map : (F G : Holder → Key → Type 0) (g d : FlowState) (k : Key) (o : Origin)
    → ((e : OpenPlace) → Among e g.open_places → F e.holder k → Among e d.open_places × G e.holder k) → Listed F g k o → Listed G d k o
listed_map F G g d k o f l = let r = f l.open_place l.among l.fits in
    record { open_place = l.open_place; among = r.0; base = l.base; way = l.way; rest = l.rest; path = l.path; fits = r.1 }

pub half_pass : (slots : Slots) (asl : Sleeping) (top : Top) (id lent : ℕ) (g d : FlowState) → Passes g d → Half slots asl top id lent g
    → Half slots asl top id lent d
half_pass slots asl top id lent g d l h = record {
  status = λ j. subst (λ s. Is s (slots (at id j))) (l.status j) (h.status j);
  slept = λ j. subst (λ s. Sl s (asl (at id j))) (l.status j) (h.slept j);
  params = λ j lt. let r = h.params j lt in (r.0, sym (l.status j) ∙ r.1);
  all_listed = λ k o x b. ⊎_elim inl (λ y. inr (listed_map _ _ g d k o (λ e i t. (l.open_places e i, t)) y)) (h.all_listed k o x b);
}

abbrev pub bind : FlowState → ℕ → Way → FlowState
bind g t v = with_status g t (Bound v) all_set

-- what is known of a waiting body once it goes on
pub record WritesBack (x : Context) (id : ℕ) (g : FlowState) (w : Work) (place : Place) : Type 0 where
  pub indexes : IndexesOk g place.steps
  pub free : MayWriteAt g place.local (still place.steps)
  pub next : FlowState
  pub passes : Passes g next
  pub work : WorkFlows x id w next

pub record Binds (x : Context) (id : ℕ) (g : FlowState) (w : Work) (v : Way) (t : ℕ) : Type 0 where
  pub own : g.status t ≡ Own
  pub shut : IsShutAt g t
  pub next : FlowState
  pub passes : Passes (bind g t v) next
  pub work : WorkFlows x id w next

abbrev pub GoesBy : Context → ℕ → FlowState → Work → Way → Dest → Type 0
GoesBy x id g w v (control.Result q) = WritesBack x id g w q
GoesBy x id g w v (Opens t) = Binds x id g w v t
GoesBy x id g w v Nowhere = WorkFlows x id w g

abbrev pub Goes : Context → ℕ → FlowState → Work → Top → Type 0
Goes x id g w Runs = WorkFlows x id w g
Goes x id g w (Waits other lent v dest) = GoesBy x id g w v dest
Goes x id g w (Sleeps k) = WorkFlows x id w g

abbrev pub NotIn : ℕ → List Activation → Type 0
NotIn i [] = Unit {0}
NotIn i (a ∷ rest) = (i ≢ a.id) × NotIn i rest

abbrev pub Distinct_ids : List Activation → Type 0
Distinct_ids [] = Unit {0}
Distinct_ids (a ∷ rest) = NotIn a.id rest × Distinct_ids rest

abbrev pub AllBelow : ℕ → List Activation → Type 0
AllBelow n [] = Unit {0}
AllBelow n (a ∷ rest) = (a.id < n) × AllBelow n rest

pub below_notin : (n : ℕ) (xs : List Activation) → AllBelow n xs → NotIn n xs
below_notin n [] h = tt
below_notin n (a ∷ xs) h = ((λ e. let lt : a.id < n = h.0 in omega arith), below_notin n xs h.1)

pub below_more : (n : ℕ) (xs : List Activation) → AllBelow n xs → AllBelow (suc n) xs
below_more n [] h = tt
below_more n (a ∷ xs) h = ((let lt : a.id < n = h.0 in omega arith), below_more n xs h.1)

-- KEEPING: a change at locals of i, or of what is open from e, leaves the frames of others

pub record Change (i e : ℕ) (slots slots' : Slots) (asl asl' : Sleeping) : Type 0 where
  pub own : (x j : ℕ) → x ≢ i → slots' (at x j) ≡ slots (at x j)
  pub base : (k : Key) (o : Origin) → slots' k ≡ Some o → o.base.act ≢ e → slots k ≡ Some o
  pub sleep : (x j : ℕ) → x ≢ i → asl' (at x j) ≡ asl (at x j)

fits_keep : (asl asl' : Sleeping) (top : Top) (a : ℕ) → ((j : ℕ) → asl' (at a j) ≡ asl (at a j)) → (holder : Holder) (k : Key) → Fits asl top a holder k
    → Fits asl' top a holder k
fits_keep asl asl' top a e (InLocal j) k h = h
fits_keep asl asl' top a e (InSubscript t) k h = ⊎_elim (λ i. inl (subst (λ b. HeldIn b k) (sym (e t)) i)) inr h

pub half_keep : (slots slots' : Slots) (asl asl' : Sleeping) (i e : ℕ) (top : Top) (id lent : ℕ) (g : FlowState) → Change i e slots slots' asl asl' → id ≢ i
    → id ≢ e → Half slots asl top id lent g → Half slots' asl' top id lent g
half_keep slots slots' asl asl' i e top id lent g ch ni ne h = record {
  status = λ j. subst (Is (g.status j)) (sym (ch.own id j ni)) (h.status j);
  slept = λ j. subst (Sl (g.status j)) (sym (ch.sleep id j ni)) (h.slept j);
  params = h.params;
  all_listed = λ k o x b. ⊎_elim inl (λ l. inr (listed_map _ _ g g k o (λ en n t. (n, fits_keep asl asl' top id (λ j. ch.sleep id j ni) en.holder k t)) l))
      (h.all_listed k o (ch.base k o x (λ q. ne (sym b ∙ q))) b);
}

module _ (p : Setting) (signatures : ℕ → Signature) where
  abbrev pub context : ℕ → Fun → Context
  context n f = context_of p.stage p.core signatures n f

  abbrev pub waits : Activation → ℕ → Top
  waits a n = Waits a.id (length (lent_types a.fun)) (signatures n).yields a.dest

  pub record Framed (slots : Slots) (asl : Sleeping) (top : Top) (a : Activation) : Type 0 where
    pub number : ℕ
    pub flow : FlowState
    pub half : Half slots asl top a.id (length (lent_types a.fun)) flow
    pub goes : Goes (context number a.fun) a.id flow a.work top

  abbrev pub CallersOk : Slots → Sleeping → Top → List Activation → Type 0
  CallersOk slots asl top [] = Unit {0}
  CallersOk slots asl top (a ∷ rest) = (x : Framed slots asl top a) × CallersOk slots asl (waits a x.number) rest

  pub record Sleeper (slots : Slots) (asl : Sleeping) (id started : ℕ) (callers : List Activation) (k : Key) (b : Activation) : Type 0 where
    pub nowhere : b.dest ≡ Nowhere
    pub frame : Framed slots asl (Sleeps k) b
    pub not_now : b.id ≢ id
    pub apart : NotIn b.id callers
    pub below : b.id < started
    pub home : k.act < started

  -- all but the frame of the activation that runs
  pub record Others (slots : Slots) (asl : Sleeping) (id started : ℕ) (top : Top) (callers : List Activation) : Type 0 where
    pub frames : CallersOk slots asl top callers
    pub sleepers : (k : Key) (b : Activation) → asl k ≡ Some b → Sleeper slots asl id started callers k b
    pub alone : (k l : Key) (b d : Activation) → asl k ≡ Some b → asl l ≡ Some d → b.id ≡ d.id → k ≡ l
    pub not_now : NotIn id callers
    pub distinct : Distinct_ids callers
    pub now_below : id < started
    pub below : AllBelow started callers
    pub inside : (k : Key) (o : Origin) → slots k ≡ Some o → (k.act < started) × (o.base.act < started)

  -- the run stands where it stood, halted or not
  pub record Stands (halt : Option Halt) (c : Control) (slots : Slots) : Type 0 where
    pub same : c.halt ≡ halt
    pub number : ℕ
    pub flow : FlowState
    pub half : Half slots (sleeper_of c.asleep) Runs c.now.id (length (lent_types c.now.fun)) flow
    pub goes : WorkFlows (context number c.now.fun) c.now.id c.now.work flow
    pub others : Others slots (sleeper_of c.asleep) c.now.id c.started (waits c.now number) c.callers

  module _ (slots slots' : Slots) (asl asl' : Sleeping) (i e : ℕ) (ch : Change i e slots slots' asl asl') where
    pub framed_keep : (top : Top) (a : Activation) → a.id ≢ i → a.id ≢ e → Framed slots asl top a → Framed slots' asl' top a
    framed_keep top a ni ne h =
        record {
          number = h.number;
          flow = h.flow;
          half = half_keep slots slots' asl asl' i e top a.id (length (lent_types a.fun)) h.flow ch ni ne h.half;
          goes = h.goes;
        }

    pub callers_keep : (top : Top) (rest : List Activation) → NotIn i rest → NotIn e rest → CallersOk slots asl top rest → CallersOk slots' asl' top rest
    unfolding framed_keep
    callers_keep top [] ni ne h = tt
    callers_keep top (a ∷ rest) ni ne h = (framed_keep top a (λ q. ni.0 (sym q)) (λ q. ne.0 (sym q)) h.0, callers_keep (waits a h.0.number) rest ni.1 ne.1 h.1)

  -- the others, where what runs changes its own locals
  pub others_keep : (slots slots' : Slots) (asl : Sleeping) (id started : ℕ) (top : Top) (callers : List Activation) → Change id id slots slots' asl asl
      → ((k : Key) (o : Origin) → slots' k ≡ Some o → (k.act < started) × (o.base.act < started)) → Others slots asl id started top callers
      → Others slots' asl id started top callers
  others_keep slots slots' asl id started top callers ch below x = record {
    frames = callers_keep slots slots' asl asl id id ch top callers x.not_now x.not_now x.frames;
    sleepers = λ k b e. let s = x.sleepers k b e in record {
      nowhere = s.nowhere;
      frame = framed_keep slots slots' asl asl id id ch (Sleeps k) b s.not_now s.not_now s.frame;
      not_now = s.not_now;
      apart = s.apart;
      below = s.below;
      home = s.home;
    };
    alone = x.alone;
    not_now = x.not_now;
    distinct = x.distinct;
    now_below = x.now_below;
    below = x.below;
    inside = below;
  }

-- CHANGES of one local

pub some_is : (a b : Origin) → Some a ≡ Some b → a ≡ b
some_is a b e = cc

pub at_local : (f : ℕ → Status) (l : ℕ) (s : Status) (j : ℕ) (P : Status → Type 0) → (j ≡ l → P s) → (j ≢ l → P (f j)) → P (set_local f l s j)
at_local f l s j P a b =
    ⊎_elim (λ e. subst (λ x. P (cond x s (f j))) (sym e.0) (a e.1)) (λ e. subst (λ x. P (cond x s (f j))) (sym e.0) (b e.1)) (eqb_tells j l)

pub at_both : {A : Type 0} (f : ℕ → Status) (l : ℕ) (s : Status) (m : Key → A) (id : ℕ) (x : A) (j : ℕ) (P : Status → A → Type 0)
    → (j ≡ l → P s x) → (j ≢ l → P (f j) (m (at id j))) → P (set_local f l s j) (set_at m (at id l) x (at id j))
at_both f l s m id x j P a b = at_local f l s j (λ s. P s (set_at m (at id l) x (at id j)))
    (λ e. at_key m (at id l) x (at id j) (P s) (λ _. a e) (λ n. absurd (n (ap (at id) e))))
    (λ n. at_key m (at id l) x (at id j) (P (f j)) (λ e. absurd (n (ap (λ k. k.local) e))) (λ _. b n))

pub other_act : (x j id l : ℕ) → x ≢ id → at x j ≢ at id l
other_act x j id l n e = n (ap (λ k. k.act) e)

-- what is open when something closes
pub still_open : (slots : Slots) (l k : Key) (o : Origin) → set_at slots l None k ≡ Some o → (k ≢ l) × (slots k ≡ Some o)
still_open slots l k o = at_key slots l None k (λ y. y ≡ Some o → (k ≢ l) × (slots k ≡ Some o)) (λ e y. absurd (cc)) (λ n y. (n, y))

pub open_change : (slots : Slots) (asl : Sleeping) (id l : ℕ) (new : Origin) → Change id new.base.act slots (set_at slots (at id l) (Some new)) asl asl
open_change slots asl id l new = record {
  own = λ x j n. set_other slots (at id l) (Some new) (at x j) (other_act x j id l n);
  base = λ k o h n. at_key slots (at id l) (Some new) k (λ y. y ≡ Some o → slots k ≡ Some o)
      (λ e y. absurd (n (ap (λ o. o.base.act) (sym (some_is new o y))))) (λ m y. y) h;
  sleep = λ x j n. refl;
}

pub close_change : (slots : Slots) (asl : Sleeping) (id l e : ℕ) → Change id e slots (set_at slots (at id l) None) asl asl
close_change slots asl id l e = record {
  own = λ x j n. set_other slots (at id l) None (at x j) (other_act x j id l n);
  base = λ k o h n. (still_open slots (at id l) k o h).1;
  sleep = λ x j n. refl;
}

-- who sleeps when one has woken
wake_at : (xs : List Nap) (k j : Key) → sleeper_of (wake xs k) j ≡ set_at (sleeper_of xs) k None j
wake_at [] k j = at_key {A = Option Activation} (λ _. None) k None j (λ y. None ≡ y) (λ e. refl) (λ n. refl)
wake_at (x ∷ xs) k j = ⊎_elim
    (λ e. ap (λ l. sleeper_of l j) (gone e) ∙ wake_at xs k j ∙ at_key (sleeper_of xs) k None j (λ y. y ≡ set_at (sleeper_of (x ∷ xs)) k None j)
    (λ q. sym (subst (λ j. set_at (sleeper_of (x ∷ xs)) k None j ≡ None) (sym q) (set_same (sleeper_of (x ∷ xs)) k None)))
    (λ n. sym (set_other (sleeper_of (x ∷ xs)) k None j n ∙ set_other (sleeper_of xs) x.key (Some x.act) j (λ q. n (q ∙ e)))))
    (λ n. ap (λ l. sleeper_of l j) (stays n) ∙ at_key (sleeper_of (wake xs k)) x.key (Some x.act) j (λ y. y ≡ set_at (sleeper_of (x ∷ xs)) k None j)
    (λ q. sym (set_other (sleeper_of (x ∷ xs)) k None j (λ r. n (sym q ∙ r))
    ∙ subst (λ j. set_at (sleeper_of xs) x.key (Some x.act) j ≡ Some x.act) (sym q) (set_same (sleeper_of xs) x.key (Some x.act))))
    (λ m. wake_at xs k j ∙ at_key (sleeper_of xs) k None j (λ y. y ≡ set_at (sleeper_of (x ∷ xs)) k None j)
    (λ q. sym (subst (λ j. set_at (sleeper_of (x ∷ xs)) k None j ≡ None) (sym q) (set_same (sleeper_of (x ∷ xs)) k None)))
    (λ r. sym (set_other (sleeper_of (x ∷ xs)) k None j r ∙ set_other (sleeper_of xs) x.key (Some x.act) j m))))
    (key_dec x.key k)
  where
    gone : x.key ≡ k → wake (x ∷ xs) k ≡ wake xs k
    gone e = at_key (λ _. x ∷ wake xs k) k (wake xs k) x.key (λ y. y ≡ wake xs k) (λ _. refl) (λ n. absurd (n e))

    stays : x.key ≢ k → wake (x ∷ xs) k ≡ x ∷ wake xs k
    stays n = at_key (λ _. x ∷ wake xs k) k (wake xs k) x.key (λ y. y ≡ x ∷ wake xs k) (λ e. absurd (n e)) (λ _. refl)

pub wake_is : (xs : List Nap) (k : Key) → sleeper_of (wake xs k) ≡ set_at (sleeper_of xs) k None
wake_is xs k = λ i j. wake_at xs k j i

pub view : (slots : Slots) (asl : Sleeping) (id lent : ℕ) (g : FlowState) → Half slots asl Runs id lent g → View slots id g
view slots asl id lent g h = record {
  status = h.status;
  listed = λ k o x b. ⊎_elim (λ e. absurd e) (λ l. listed_map _ _ g g k o (λ e i t. (i, mine e.holder k t)) l) (h.all_listed k o x b);
}
  where
    mine : (holder : Holder) (k : Key) → Fits asl Runs id holder k → LocalIn id holder k
    mine (InLocal j) k t = λ _. ap (λ k. k.act) t
    mine (InSubscript j) k t = λ m. absurd m
