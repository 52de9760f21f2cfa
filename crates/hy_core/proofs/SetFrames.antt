-- What is known to be set in each activation of a run of a core that has a flow is set in the memory that copies.
use Rattle.std.proofs.Common.{◌≡◌, ◌≢◌, ℕ, ◌<◌, ◌≤◌, Bool, false, List, [], ◌∷◌, ◌++◌, length, Option, Some, None, slice_get, refl, sym, ap, ◌∙◌, subst, arith}
use Rattle.hy_types.specs.declared.kinds.TyId.{TyId}
use Rattle.hy_core.specs.Plain.{Place, Stmts, Fun, is_ramp, lent_types}
use Rattle.hy_core.specs.Values.{Path}
use Rattle.hy_core.specs.Memory.{Key, Spot, Way, Copies}
use Rattle.hy_core.specs.Control.{Flags, form, local_type, Task, Do, Value, PartsOf, Unsets, Work, Idle, Rest}
use Rattle.hy_core.specs.Control.{Loop, Test, Drops, Dest, Opens, Nowhere, Activation, Nap, Halt, Control}
use Rattle.hy_core.specs.Control.{GivesUp, Setting, with_work, sleeper_of, wake}
use Rattle.hy_core.specs.Control as control
use Rattle.hy_core.specs.Statements.{broken, continued}
use Rattle.hy_core.specs.Typing.{IsLeaf, type_at}
use Rattle.hy_core.specs.Shaped.{IsOf}
use Rattle.hy_core.specs.Flow.{Becomes, IsDoubtful, IsUntied, all_set, none_set, with_init, Own, Param, Bound}
use Rattle.hy_core.specs.Flow.{FlowState, Signature, Context, with_status, StoreOk, stored, FlowsInto}
use Rattle.hy_core.proofs.OpenPlaces.{Sound}
use Rattle.hy_core.proofs.CalmWalks.{Slots, at}
use Rattle.hy_core.proofs.CalmFrames.{Sleeping, NotIn, LoopFlows, RestFlows, DeedOn, context}
use Rattle.hy_core.proofs.SetMemories.{InitMaps, Holds}
use Rattle.hy_core.proofs.FlowStates.{becomes_self, becomes_on, Tells, tells_same}
use Rattle.hy_core.proofs.SetTies.{wholes, Tie, AllBound}

-- FLOW STATES that tell less of each local

module _ (x : Context) where
  pub record SameInit (g d : FlowState) : Type 0 where
    pub status : (l : ℕ) → g.status l ≡ d.status l
    pub init : (l : ℕ) (t : TyId) (q : Path) → local_type x.fun l ≡ Some t → IsLeaf x.core.types t q → Becomes x g (g.init l q) (d.init l q)

  pub less_self : (g : FlowState) → SameInit g g
  less_self g = record { status = λ l. refl; init = λ l t q e i. becomes_self x g (g.init l q) }

  pub less_on : (g h d : FlowState) → SameInit g h → SameInit h d → SameInit g d
  less_on g h d a b = record {
    status = λ l. a.status l ∙ b.status l;
    init = λ l t q e i. becomes_on x g h a.init (g.init l q) (h.init l q) (d.init l q) (a.init l t q e i) (b.init l t q e i);
  }

  pub flows_less : (g d : FlowState) → FlowsInto x g d → SameInit g d
  flows_less g d a = record { status = a.status; init = λ l t q e i. a.init l t q e i }

  -- WORK, where g is known

  pub record HeadSet (g : FlowState) (head : Stmts) (on : ℕ) (body : Stmts) (N : FlowState → Type 0) : Type 0 where
    pub first : FlowState
    pub flows : SameInit g first
    pub loop : LoopFlows x first head on body N

  pub record TestSet (g : FlowState) (head : Stmts) (on : ℕ) (body : Stmts) (N : FlowState → Type 0) : Type 0 where
    pub first : FlowState
    pub loop : LoopFlows x first head on body N
    pub flows : SameInit g loop.test

module _ (x : Context) (id : ℕ) where
  -- A place of the activation of which the flow state says nothing, while what stands there is deinitialised.
  pub record SpotSet (g : FlowState) (s : Spot) : Type 0 where
    pub own : s.key.act ≡ id
    pub untied : IsUntied x g s.key.local
    pub doubtful : (r : Path) → g.init s.key.local (s.path ++ r) ≡ IsDoubtful

  -- What a `Drop` has begun stands in such places, and at its end what it was to leave unset is.
  abbrev pub TasksSet : List Task → FlowState → (FlowState → Type 0) → Type 0
  TasksSet [] g N = (d : FlowState) × SameInit x g d × N d
  TasksSet (Do d ∷ ts) g N = DeedOn (SpotSet g) d × TasksSet ts g N
  TasksSet (Value s ∷ ts) g N = SpotSet g s × TasksSet ts g N
  TasksSet (PartsOf s ∷ ts) g N = SpotSet g s × TasksSet ts g N
  TasksSet (Unsets s ∷ ts) g N = SpotSet g s × ((u : TyId) × (type_at x.core.types (local_type x.fun s.key.local) s.path ≡ Some u))
      × TasksSet ts (with_init g s.key.local s.path none_set) N

  abbrev mutual
    pub WorkSet : Work → FlowState → Type 0
    WorkSet Idle g = Unit {0}
    WorkSet (Rest ss w) g = RestFlows x g ss (BreakSet w) (AgainSet w) (WorkSet w)
    WorkSet (Loop head on body w) g = HeadSet x g head on body (WorkSet w)
    WorkSet (Test head on body w) g = TestSet x g head on body (WorkSet w)
    WorkSet (Drops ts w) g = TasksSet ts g (WorkSet w)

    pub BreakSet : Work → FlowState → Type 0
    BreakSet Idle g = Unit {0}
    BreakSet (Rest ss w) g = BreakSet w g
    BreakSet (Loop head on body w) g = WorkSet w g
    BreakSet (Test head on body w) g = Unit {0}
    BreakSet (Drops ts w) g = Unit {0}

    pub AgainSet : Work → FlowState → Type 0
    AgainSet Idle g = Unit {0}
    AgainSet (Rest ss w) g = AgainSet w g
    AgainSet (Loop head on body w) g = LoopFlows x g head on body (WorkSet w)
    AgainSet (Test head on body w) g = Unit {0}
    AgainSet (Drops ts w) g = Unit {0}

  pub break_set : (w v : Work) (g : FlowState) → broken w ≡ Some v → BreakSet w g → WorkSet v g
  break_set Idle v g e h = absurd (cc)
  break_set (Rest ss w) v g e h = break_set w v g e h
  break_set (Loop head on body w) v g e h = let z : w ≡ v = cc in subst (λ w. WorkSet w g) z h
  break_set (Test head on body w) v g e h = absurd (cc)
  break_set (Drops ts w) v g e h = absurd (cc)

  pub again_set : (w v : Work) (g : FlowState) → continued w ≡ Some v → AgainSet w g → WorkSet v g
  again_set Idle v g e h = absurd (cc)
  again_set (Rest ss w) v g e h = again_set w v g e h
  again_set (Loop head on body w) v g e h = let z : Loop head on body w ≡ v = cc in
      subst (λ w. WorkSet w g) z (record { first = g; flows = less_self x g; loop = h })
  again_set (Test head on body w) v g e h = absurd (cc)
  again_set (Drops ts w) v g e h = absurd (cc)

-- FRAMES

-- the types of locals, what is set in them, and what will be when they close, and what each stands for
pub record World : Type 0 where
  pub ty : Key → Option TyId
  pub maps : InitMaps
  pub promised : InitMaps
  pub slots : Slots

module _ (p : Setting) (signatures : ℕ → Signature) where
  pub record Frame (n : ℕ) (W : World) (id : ℕ) (fun : Fun) (Goes : ℕ → FlowState → Type 0) : Type 0 where
    pub number : ℕ
    pub found : slice_get p.core.funs number ≡ Some fun
    pub below : id < n
    pub locals : (l : ℕ) → W.ty (at id l) ≡ local_type fun l
    pub flow : FlowState
    pub agrees : (l : ℕ) (t : TyId) (q : Path) → local_type fun l ≡ Some t → IsLeaf p.core.types t q
        → Tells (wholes W.maps id) (flow.init l q) (W.maps (at id l) q)
    pub ties : (l : ℕ) → Tie p.core.types fun id l (flow.status l) (W.slots (at id l))
    pub params : (j : ℕ) → j < length (lent_types fun) → (v : Way) × (flow.status j ≡ Param v)
    pub bound : AllBound flow.status (λ l. W.promised (at id l))
    pub promises : (j : ℕ) → j < length (lent_types fun) → (q : Path) → W.promised (at id j) q ≡ ((signatures number).lent j).after q
    pub goes : Goes number flow

  -- what is known of a waiting body once it goes on
  pub record Writes_back (x : Context) (id : ℕ) (g : FlowState) (w : Work) (place : Place) : Type 0 where
    pub store : StoreOk x g place
    pub next : FlowState
    pub flows : FlowsInto x (stored x g place) next
    pub work : WorkSet x id w next

  pub record Bind_back (x : Context) (id : ℕ) (g : FlowState) (w : Work) (v : Way) (l : ℕ) : Type 0 where
    pub own : g.status l ≡ Own
    pub untied : IsUntied x g l
    pub next : FlowState
    pub flows : FlowsInto x (with_status g l (Bound v) all_set) next
    pub work : WorkSet x id w next

  -- a body waits for one that gives a value of that type, or yields such a local in that way
  abbrev pub WaitsFor : (a : Activation) → (ramp : Bool) → (result : TyId) → Way → Dest → ℕ → FlowState → Type 0
  WaitsFor a ramp t v (control.Result place) k g = (ramp ≡ false) × IsOf p.core a.fun t place × Writes_back (context p signatures k a.fun) a.id g a.work place
  WaitsFor a ramp t v (Opens l) k g = (local_type a.fun l ≡ Some t) × Bind_back (context p signatures k a.fun) a.id g a.work v l
  WaitsFor a ramp t v Nowhere k g = WorkSet (context p signatures k a.fun) a.id a.work g

  abbrev pub Runs_on : Activation → ℕ → FlowState → Type 0
  Runs_on a k g = WorkSet (context p signatures k a.fun) a.id a.work g

  abbrev pub CallersSet : ℕ → World → (ramp : Bool) → (result : TyId) → Way → Dest → List Activation → Type 0
  CallersSet n W ramp t v dest [] = Unit {0}
  CallersSet n W ramp t v dest (a ∷ rest) = (x : Frame n W a.id a.fun (WaitsFor a ramp t v dest))
      × CallersSet n W (is_ramp a.fun) a.fun.result (signatures x.number).yields a.dest rest

  abbrev pub AsleepSet : ℕ → World → Sleeping → Type 0
  AsleepSet n W asl = (k : Key) (b : Activation) → asl k ≡ Some b → Frame n W b.id b.fun (Runs_on b)

  pub record Stands (c : Control) (m : Copies) : Type 0 where
    pub none : c.halt ≡ None
    pub ty : Key → Option TyId
    pub maps : InitMaps
    pub promised : InitMaps
    pub holds : Holds p.core.types ty c.started maps promised m
    pub sound : Sound m
    pub now : Frame c.started (record { ty = ty; maps = maps; promised = promised; slots = m.opened }) c.now.id c.now.fun (Runs_on c.now)
    pub callers : CallersSet c.started (record { ty = ty; maps = maps; promised = promised; slots = m.opened }) (is_ramp c.now.fun) c.now.fun.result
        (signatures now.number).yields c.now.dest c.callers
    pub asleep : AsleepSet c.started (record { ty = ty; maps = maps; promised = promised; slots = m.opened }) (sleeper_of c.asleep)

  -- KEEPING: a change at the locals of i and j leaves the frames of others

  pub record Changes (i j n n' : ℕ) (W W' : World) : Type 0 where
    pub more : n ≤ n'
    pub ty : (k : Key) → k.act < n → k.act ≢ i → k.act ≢ j → W'.ty k ≡ W.ty k
    pub maps : (k : Key) → k.act < n → k.act ≢ i → k.act ≢ j → W'.maps k ≡ W.maps k
    pub promised : (k : Key) → k.act < n → k.act ≢ i → k.act ≢ j → W'.promised k ≡ W.promised k
    pub slots : (k : Key) → k.act < n → k.act ≢ i → k.act ≢ j → W'.slots k ≡ W.slots k

  module _ (i j n n' : ℕ) (W W' : World) (ch : Changes i j n n' W W') where
    abbrev pub frame_keep : (id : ℕ) (fun : Fun) (Goes : ℕ → FlowState → Type 0) → id ≢ i → id ≢ j → Frame n W id fun Goes → Frame n' W' id fun Goes
    frame_keep id fun Goes ni nj f = record {
      number = f.number;
      found = f.found;
      below = let a = f.below in let b = ch.more in omega arith;
      locals = λ l. ch.ty (at id l) f.below ni nj ∙ f.locals l;
      flow = f.flow;
      agrees = λ l t q e leaf. tells_same (wholes W.maps id) (wholes W'.maps id) (f.flow.init l q) (W'.maps (at id l) q)
          (λ k. ap (λ c. c []) (ch.maps (at id k) f.below ni nj))
          (subst (Tells (wholes W.maps id) (f.flow.init l q)) (ap (λ c. c q) (sym (ch.maps (at id l) f.below ni nj))) (f.agrees l t q e leaf));
      ties = λ l. subst (Tie p.core.types fun id l (f.flow.status l)) (sym (ch.slots (at id l) f.below ni nj)) (f.ties l);
      params = f.params;
      bound = λ l w e q. ap (λ c. c q) (ch.promised (at id l) f.below ni nj) ∙ f.bound l w e q;
      promises = λ k lt q. ap (λ c. c q) (ch.promised (at id k) f.below ni nj) ∙ f.promises k lt q;
      goes = f.goes;
    }

    pub callers_keep : (ramp : Bool) (t : TyId) (v : Way) (dest : Dest) (rest : List Activation) → NotIn i rest → NotIn j rest
        → CallersSet n W ramp t v dest rest → CallersSet n' W' ramp t v dest rest
    callers_keep ramp t v dest [] ni nj h = tt
    callers_keep ramp t v dest (a ∷ rest) ni nj h = (
      frame_keep a.id a.fun (WaitsFor a ramp t v dest) (λ e. ni.0 (sym e)) (λ e. nj.0 (sym e)) h.0,
      callers_keep (is_ramp a.fun) a.fun.result (signatures h.0.number).yields a.dest rest ni.1 nj.1 h.1,
    )
