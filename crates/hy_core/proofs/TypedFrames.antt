-- What a core of the right shape has in each activation: locals of their types, and work of the right shape.
-- Who waits can take what it gets.
use Rattle.std.proofs.Common.{◌≡◌, ⊎_elim, ℕ, zero, suc, ◌+◌, ◌<◌, ◌≤◌, ◌==◌, Bool, true, false, cond, List, [], ◌∷◌}
use Rattle.std.proofs.Common.{◌++◌, length, Option, Some, None, slice_get, refl, sym, ap, ◌∙◌, subst, arith}
use Rattle.std.proofs.lemmas.Bool.Decides.{eqb_tells}
use Rattle.hy_types.specs.declared.kinds.TyId.{TyId}
use Rattle.hy_types.specs.Types.{declared}
use Rattle.hy_core.specs.Plain.{Place}
use Rattle.hy_core.specs.Plain.{Fun, is_ramp}
use Rattle.hy_core.specs.Memory.{Key, Spot, whole, Copies}
use Rattle.hy_core.specs.Runs as effect
use Rattle.hy_core.specs.Runs.{Interaction, Fetch, Inspect, Perform, Return, interpret, steps}
use Rattle.hy_core.specs.Control.{Form, Flags, Products, Unknown, form, local_type, Deed, Body, EachOf, Element, Task, Do, Value, PartsOf, Unsets, Work}
use Rattle.hy_core.specs.Control.{Idle, Rest, Loop, Test, Drops, Dest, Opens, Nowhere, Activation, Nap, Halt, Ends, Stuck, NotOpened, Control, Stage}
use Rattle.hy_core.specs.Control.{Deinitialises, GivesUp, Setting, stop, with_work, key, count_one, with_some, turn, with_flag, spot, take, write, read}
use Rattle.hy_core.specs.Control.{Aim, ToRead, ToWrite, ToDrop, sleeper_of, wake}
use Rattle.hy_core.specs.Control as control
use Rattle.hy_core.specs.Statements.{hand_all, move_all, close_all, back}
use Rattle.hy_core.specs.Statements.{deinit_of}
use Rattle.hy_core.specs.Typing.{all}
use Rattle.hy_core.specs.Shaped.{HasForm, IsOf, AreOf, LocalsAre, ShapedAll}
use Rattle.hy_core.proofs.Typed.{form_at, form_on, Fits, IsTyped, typed_store, typed_lend, typed_close}
use Rattle.hy_core.proofs.TypedWalks.{Fine, stands, Good, IsLocal, good_take}
use Rattle.hy_core.proofs.Paths.{WorkGoes}

abbrev pub at : ℕ → ℕ → Key
at a l = record { act = a; local = l }

-- WHAT WAITS FOR AN ACTIVATION

abbrev pub IsNoOpening : Dest → Type 0
IsNoOpening (control.Result place) = Unit {0}
IsNoOpening (Opens l) = ⊥
IsNoOpening Nowhere = Unit {0}

abbrev pub IsOpening : Dest → Type 0
IsOpening (control.Result place) = ⊥
IsOpening (Opens l) = Unit {0}
IsOpening Nowhere = ⊥

-- a ramp opens a local until its `Yield`, and goes nowhere after it
abbrev pub DestOk : (ramp yielded : Bool) → Dest → Type 0
DestOk false false d = IsNoOpening d
DestOk false true d = ⊥
DestOk true false d = IsOpening d
DestOk true true d = d ≡ Nowhere

module _ (p : Setting) where
  -- a caller takes a value of that type, or a local of it
  abbrev pub Awaits : Fun → Dest → TyId → Type 0
  Awaits f (control.Result place) t = IsOf p.core f t place
  Awaits f (Opens l) t = local_type f l ≡ Some t
  Awaits f Nowhere t = Unit {0}

  -- FRAMES

  -- a place holds a product that has a body of a deinitialiser
  pub record IsBody (forms : Key → Form) (n d : ℕ) (s : Spot) : Type 0 where
    pub below : s.key.act < n
    pub fun : ℕ
    pub found : deinit_of p.core.deinits d ≡ Some fun
    pub parts : List TyId
    pub product : form_on p.core.types (forms s.key) s.path ≡ Products d parts
    pub declared : declared p.core.types d ≡ Some parts

  abbrev pub DeedOk : (Key → Form) → ℕ → Deed → Type 0
  DeedOk forms n (Body d s) = IsBody forms n d s
  DeedOk forms n (EachOf k s) = s.key.act < n
  DeedOk forms n (Element s) = s.key.act < n

  abbrev pub TaskOk : (Key → Form) → ℕ → Task → Type 0
  TaskOk forms n (Do d) = DeedOk forms n d
  TaskOk forms n (Value s) = s.key.act < n
  TaskOk forms n (PartsOf s) = s.key.act < n
  TaskOk forms n (Unsets s) = s.key.act < n

  abbrev pub WorkOk : (Key → Form) → ℕ → Fun → Work → Type 0
  WorkOk forms n f Idle = Unit {0}
  WorkOk forms n f (Rest ss w) = ShapedAll p.core f ss × WorkOk forms n f w
  WorkOk forms n f (Loop head on body w) = ShapedAll p.core f head × HasForm p.core f on Flags × ShapedAll p.core f body × WorkOk forms n f w
  WorkOk forms n f (Test head on body w) = ShapedAll p.core f head × HasForm p.core f on Flags × ShapedAll p.core f body × WorkOk forms n f w
  WorkOk forms n f (Drops ts w) = all (TaskOk forms n) ts × WorkOk forms n f w

  pub record Frame (forms : Key → Form) (n : ℕ) (a : Activation) : Type 0 where
    pub fun : Fun
    pub same : a.fun ≡ fun
    pub below : a.id < n
    pub locals : (l : ℕ) → forms (at a.id l) ≡ form_at p.core.types (local_type fun l)
    pub work : WorkOk forms n fun a.work
    pub yielded : Bool
    pub paths : WorkGoes (is_ramp fun) a.work yielded
    pub dest : DestOk (is_ramp fun) yielded a.dest

  abbrev pub CallersOk : (Key → Form) → ℕ → Dest → TyId → List Activation → Type 0
  CallersOk forms n dest t [] = IsNoOpening dest
  CallersOk forms n dest t (a ∷ rest) = (x : Frame forms n a) × Awaits x.fun dest t × CallersOk forms n a.dest x.fun.result rest

  abbrev pub NapsOk : (Key → Form) → ℕ → List Nap → Type 0
  NapsOk forms n [] = Unit {0}
  NapsOk forms n (x ∷ xs) = Frame forms n x.act × (x.act.dest ≡ Nowhere) × NapsOk forms n xs

  -- all but what is left of the running activation, which runs f; k have been started, and n have locals
  pub record Base (forms : Key → Form) (n k : ℕ) (f : Fun) (started id : ℕ) (g : Fun) (dest : Dest) (callers : List Activation) (asleep : List Nap)
      (halt : Option Halt) : Type 0 where
    pub none : halt ≡ None
    pub count : started ≡ k
    pub same : g ≡ f
    pub below : id < n
    pub locals : (l : ℕ) → forms (at id l) ≡ form_at p.core.types (local_type f l)
    pub frames : CallersOk forms n dest f.result callers
    pub naps : NapsOk forms n asleep

  abbrev pub BaseOf : (Key → Form) → (n k : ℕ) → Fun → Control → Type 0
  BaseOf forms n k f c = Base forms n k f c.started c.now.id c.now.fun c.now.dest c.callers c.asleep c.halt

  pub record Goes_on (forms : Key → Form) (n : ℕ) (f : Fun) (y : Bool) (w : Work) (dest : Dest) : Type 0 where
    pub work : WorkOk forms n f w
    pub paths : WorkGoes (is_ramp f) w y
    pub flows : DestOk (is_ramp f) y dest

  pub record Stands (c : Control) (m : Copies) : Type 0 where
    pub forms : Key → Form
    pub count : ℕ
    pub fun : Fun
    pub base : BaseOf forms count count fun c
    pub yielded : Bool
    pub on : Goes_on forms count fun yielded c.now.work c.now.dest
    pub typed : IsTyped p.core.types forms count m

  -- KEEPING: more locals

  module _ (forms forms' : Key → Form) (n n' : ℕ) (le : n ≤ n') (same : (k : Key) → k.act < n → forms' k ≡ forms k) where
    deed_keep : (d : Deed) → DeedOk forms n d → DeedOk forms' n' d
    deed_keep (Body d s) h = record {
      below = let lt = h.below in omega arith;
      fun = h.fun;
      found = h.found;
      parts = h.parts;
      product = ap (λ f. form_on p.core.types f s.path) (same s.key h.below) ∙ h.product;
      declared = h.declared;
    }
    deed_keep (EachOf k s) h = omega arith
    deed_keep (Element s) h = omega arith

    task_keep : (t : Task) → TaskOk forms n t → TaskOk forms' n' t
    task_keep (Do d) h = deed_keep d h
    task_keep (Value s) h = omega arith
    task_keep (PartsOf s) h = omega arith
    task_keep (Unsets s) h = omega arith

    tasks_keep : (ts : List Task) → all (TaskOk forms n) ts → all (TaskOk forms' n') ts
    tasks_keep [] h = tt
    tasks_keep (t ∷ ts) h = (task_keep t h.0, tasks_keep ts h.1)

    work_keep : (f : Fun) (w : Work) → WorkOk forms n f w → WorkOk forms' n' f w
    work_keep f Idle h = tt
    work_keep f (Rest ss w) h = (h.0, work_keep f w h.1)
    work_keep f (Loop head on body w) h = (h.0, h.1, h.2, work_keep f w h.3)
    work_keep f (Test head on body w) h = (h.0, h.1, h.2, work_keep f w h.3)
    work_keep f (Drops ts w) h = (tasks_keep ts h.0, work_keep f w h.1)

    locals_keep : (a : ℕ) (f : Fun) → a < n → ((l : ℕ) → forms (at a l) ≡ form_at p.core.types (local_type f l)) → (l : ℕ)
        → forms' (at a l) ≡ form_at p.core.types (local_type f l)
    locals_keep a f lt h l = same (at a l) lt ∙ h l

    frame_keep : (a : Activation) → Frame forms n a → Frame forms' n' a
    frame_keep a h = record {
      fun = h.fun;
      same = h.same;
      below = let lt = h.below in omega arith;
      locals = locals_keep a.id h.fun h.below h.locals;
      work = work_keep h.fun a.work h.work;
      yielded = h.yielded;
      paths = h.paths;
      dest = h.dest;
    }

    callers_keep : (dest : Dest) (t : TyId) (callers : List Activation) → CallersOk forms n dest t callers → CallersOk forms' n' dest t callers
    unfolding frame_keep
    callers_keep dest t [] h = h
    callers_keep dest t (a ∷ rest) h = (frame_keep a h.0, h.1, callers_keep a.dest h.0.fun.result rest h.2)

    naps_keep : (xs : List Nap) → NapsOk forms n xs → NapsOk forms' n' xs
    naps_keep [] h = tt
    naps_keep (x ∷ xs) h = (frame_keep x.act h.0, h.1, naps_keep xs h.2)

    base_keep : (k : ℕ) (f : Fun) (started id : ℕ) (g : Fun) (dest : Dest) (callers : List Activation) (asleep : List Nap) (halt : Option Halt)
        → Base forms n k f started id g dest callers asleep halt → Base forms' n' k f started id g dest callers asleep halt
    base_keep k f started id g dest callers asleep halt h = record {
      none = h.none;
      count = h.count;
      same = h.same;
      below = let lt = h.below in omega arith;
      locals = locals_keep id f h.below h.locals;
      frames = callers_keep dest f.result callers h.frames;
      naps = naps_keep asleep h.naps;
    }

  -- the forms with those of one more activation
  abbrev pub with_forms : (Key → Form) → ℕ → Fun → Key → Form
  with_forms forms n g k = cond (k.act == n) (form_at p.core.types (local_type g k.local)) (forms k)

  module _ (forms : Key → Form) (n : ℕ) (g : Fun) where
    pub old_forms : (k : Key) → k.act < n → with_forms forms n g k ≡ forms k
    old_forms k lt =
        ⊎_elim (λ e. let q : k.act ≡ n = e.1 in absurd (omega arith)) (λ e. ap (λ b. cond b (form_at p.core.types (local_type g k.local)) (forms k)) e.0)
        (eqb_tells k.act n)

    pub new_forms : (l : ℕ) → with_forms forms n g (at n l) ≡ form_at p.core.types (local_type g l)
    new_forms l = ⊎_elim (λ e. ap (λ b. cond b (form_at p.core.types (local_type g l)) (forms (at n l))) e.0) (λ e. absurd (e.1 refl)) (eqb_tells n n)

    pub typed_new : (m : Copies) → IsTyped p.core.types forms n m → IsTyped p.core.types (with_forms forms n g) (suc n) m
    typed_new m h = record {
      value = λ k. ⊎_elim (λ e. let q : k.act ≡ n = e.1 in subst (Fits p.core.types (with_forms forms n g k)) (sym (h.fresh k (omega arith))) tt)
          (λ e. subst (λ b. Fits p.core.types (cond b (form_at p.core.types (local_type g k.local)) (forms k)) (m.value k)) (sym e.0) (h.value k))
          (eqb_tells k.act n);
      origin = λ k o e. let a = h.origin k o e in let lk = a.0 in let lb = a.1 in
          (omega arith, omega arith, old_forms k lk ∙ a.2 ∙ ap (λ f. form_on p.core.types f o.path) (sym (old_forms o.base lb)));
      fresh = λ k le. h.fresh k (omega arith);
    }

  -- STARTING AN ACTIVATION

  abbrev LocalsFrom : (Key → Form) → (a i : ℕ) → List TyId → Type 0
  LocalsFrom forms a i [] = Unit {0}
  LocalsFrom forms a i (u ∷ us) = (forms (at a i) ≡ form p.core.types u) × LocalsFrom forms a (suc i) us

  pub locals_from : (forms : Key → Form) (a : ℕ) (whole us back : List TyId) (i : ℕ) → ((l : ℕ) → forms (at a l) ≡ form_at p.core.types (slice_get whole l))
      → ((j : ℕ) → slice_get whole (i + j) ≡ slice_get (us ++ back) j) → LocalsFrom forms a i us
  locals_from forms a whole [] back i locals h = tt
  locals_from forms a whole (u ∷ us) back i locals h =
      let z : i + 0 ≡ i = omega arith in (
        locals i ∙ ap (λ k. form_at p.core.types (slice_get whole k)) (sym z) ∙ ap (form_at p.core.types) (h 0),
        locals_from forms a whole us back (suc i) locals (λ j. let z : suc i + j ≡ i + suc j = omega arith in ap (slice_get whole) z ∙ h (suc j)),
      )

  pub behind : {A : Type 0} (xs ys : List A) (j : ℕ) → slice_get (xs ++ ys) (length xs + j) ≡ slice_get ys j
  behind [] ys j = let z : 0 + j ≡ j = omega arith in ap (slice_get ys) z
  behind (x ∷ xs) ys j = let z : suc (length xs) + j ≡ suc (length xs + j) = omega arith in ap (slice_get (x ∷ (xs ++ ys))) z ∙ behind xs ys j

  module _ (forms : Key → Form) (n : ℕ) (f : Fun) (Q : Control → Type 0) (counted : (c : Control) → Q c → Q (count_one c)) (local : (c : Control) → Q c
      → IsLocal p.core.types forms n f c) where
    abbrev Typed : Copies → Type 0
    Typed m = IsTyped p.core.types forms n m

    abbrev Always : (Control → Interaction Control) → Type 0
    Always go = (c : Control) (m : Copies) → Q c → Typed m → Good Stands (go c) m

    pub moves : (a : ℕ) (go : Control → Interaction Control) → a < n → Always go → (xs : List Place) (us : List TyId) (i : ℕ) → AreOf p.core f us xs
        → LocalsFrom forms a i us → Always (λ c. move_all p c a i xs us go)
    moves a go lt next [] [] i is from = next
    moves a go lt next [] (u ∷ us) i is from = absurd is
    moves a go lt next (x ∷ xs) [] i is from = absurd is
    moves a go lt next (x ∷ xs) (u ∷ us) i is from = λ c m q h. good_take p Stands forms n f Q counted local effect.Moved x u _ is.0 (λ c m v q h fits.
        moves a go lt next xs us (suc i) is.1 from.1 c _ q (typed_store p.core.types forms n m h (whole (at a i)) v lt
        (subst (λ y. Fits p.core.types y v) (sym from.0) fits))) c m q h

    pub hands : (a : ℕ) (t : Interaction Control) → a < n → (c : Control) → Q c → ((m : Copies) → Typed m → Good Stands t m)
        → (ls : List ℕ) (us : List TyId) (i : ℕ) → LocalsAre p.core f us ls → LocalsFrom forms a i us → (m : Copies) → Typed m
        → Good Stands (hand_all c a i ls us t) m
    hands a t lt c q next [] [] i is from m h = next m h
    hands a t lt c q next [] (u ∷ us) i is from m h = absurd is
    hands a t lt c q next (l ∷ ls) [] i is from m h = absurd is
    hands a t lt c q next (l ∷ ls) (u ∷ us) i is from m h =
        let lo = local c q in
        hands a t lt c q next ls us (suc i) is.1 from.1 _ (typed_lend p.core.types forms n m h (at a i) (whole (key c l)) _ lt lo.below (from.0
        ∙ sym (lo.locals l ∙ ap (form_at p.core.types) is.0)))

  pub closes : (forms : Key → Form) (n : ℕ) (c : Control) (t : Interaction Control) → ((m : Copies) → IsTyped p.core.types forms n m → Good Stands t m)
      → (i : ℕ) (m : Copies) → IsTyped p.core.types forms n m → Good Stands (close_all c i t) m
  closes forms n c t next zero m h = next m h
  closes forms n c t next (suc i) m h = closes forms n c t next i _ (typed_close p.core.types forms n m h (key c i))

  -- A RUNNING ACTIVATION, between two statements

  module _ (forms : Key → Form) (n k : ℕ) (f : Fun) (y : Bool) where
    pub record Rests (started id : ℕ) (g : Fun) (w : Work) (dest : Dest) (callers : List Activation) (asleep : List Nap) (halt : Option Halt) : Type 0 where
      pub base : Base forms n k f started id g dest callers asleep halt
      pub on : Goes_on forms n f y w dest

    abbrev pub Q : Control → Type 0
    Q c = Rests c.started c.now.id c.now.fun c.now.work c.now.dest c.callers c.asleep c.halt

    pub q_up : (c : Control) (turns opened : ℕ) (input output : List ℕ) → Q c → Q (record c { turns = turns; opened = opened; input = input; output = output })
    q_up c turns opened input output q = q

    pub q_count : (c : Control) → Q c → Q (count_one c)
    q_count c q = q

    pub q_local : (c : Control) → Q c → IsLocal p.core.types forms n f c
    q_local c q = let b = q.base in record { fun = b.same; below = b.below; locals = b.locals }

    -- the frame of the activation once it waits
    abbrev pub q_frame : (c : Control) → Q c → Frame forms n c.now
    q_frame c q = record {
      fun = f;
      same = q.base.same;
      below = q.base.below;
      locals = q.base.locals;
      work = q.on.work;
      yielded = y;
      paths =
          q.on.paths;
      dest = q.on.flows;
    }

  module _ (forms : Key → Form) (n : ℕ) (f : Fun) (y : Bool) where
    pub q_done : (c : Control) (m : Copies) → Q forms n n f y c → IsTyped p.core.types forms n m → Fine Stands c m
    q_done c m q h = stands (record { forms = forms; count = n; fun = f; base = q.base; yielded = y; on = q.on; typed = h })

    -- goes on with other work
    pub goes : (c : Control) (m : Copies) (w : Work) → BaseOf forms n n f c → Goes_on forms n f y w c.now.dest → IsTyped p.core.types forms n m
        → Fine Stands (with_work c w) m
    goes c m w base on h = stands (record { forms = forms; count = n; fun = f; base = base; yielded = y; on = on; typed = h })

    on_keep : (forms' : Key → Form) (n' : ℕ) (le : n ≤ n') (same : (k : Key) → k.act < n → forms' k ≡ forms k) (w : Work) (dest : Dest)
        → Goes_on forms n f y w dest → Goes_on forms' n' f y w dest
    on_keep forms' n' le same w dest h = record { work = work_keep forms forms' n n' le same f w h.work; paths = h.paths; flows = h.flows }

    pub q_keep : (c : Control) (forms' : Key → Form) (n' : ℕ) (le : n ≤ n') (same : (k : Key) → k.act < n → forms' k ≡ forms k) → Q forms n n f y c
        → Q forms' n' n f y c
    q_keep c forms' n' le same q = record {
      base = base_keep forms forms' n n' le same n f c.started c.now.id c.now.fun c.now.dest c.callers c.asleep c.halt q.base;
      on = on_keep forms' n' le same c.now.work c.now.dest q.on;
    }
