-- Interactions about places of which a flow state says that they are free: each question and each change that they make is allowed.
use Rattle.std.proofs.Common.{◌≡◌, ◌≢◌, inl, inr, ℕ, zero, suc, ◌<◌, Bool, true, false, cond, nat_lt, List, [], ◌∷◌, ◌++◌, length, Option, Some, None}
use Rattle.std.proofs.Common.{slice_get, refl, sym, ap, ◌∙◌, subst, append_assoc, append-nil}
use Rattle.hy_base.specs.declared.numbers.IntegerType.TheVariants.{Int, Sized}
use Rattle.std.specs.Prelude.{ℤ, pos, negsuc}
use Rattle.std.proofs.lemmas.Bool.{ltb-true}
use Rattle.std.proofs.lemmas.Option.{slice_get_within}
use Rattle.hy_base.specs.declared.run.End.TheVariants as end
use Rattle.hy_base.specs.declared.run.TrapKind.{TrapKind}
use Rattle.hy_base.specs.declared.run.TrapKind.TheVariants as trap
use Rattle.hy_types.specs.declared.kinds.TyId.{TyId}
use Rattle.hy_core.specs.Plain.{Step, Part, Index, Place}
use Rattle.hy_core.specs.Values.{Val, Unset, Number, Truth, Tuple, Product, Array, Vals, Selector, PartAt, ElementAt, Path, many, get, put, Apart, Within}
use Rattle.hy_core.specs.Values.{shape, Has, IsThere, is_whole, Diverge}
use Rattle.hy_core.specs.Memory.{Key, Spot, whole, Way, Reads, Writes, Origin, Copies, copying}
use Rattle.hy_core.specs.Runs as effect
use Rattle.hy_core.specs.Runs.{Effect, Store, Change, Clear, Lend, Hand, Close, Quit, Interaction, Fetch, Inspect, Perform, Return, apply, interpret}
use Rattle.hy_core.specs.Calm.{MayInspect, MayRead, MayWrite, MayLend, MayHand, MayClose, May, IsCalm}
use Rattle.hy_core.specs.Operators.{index_in, blanks}
use Rattle.hy_core.specs.Control.{Form, Numbers, Flags, Tuples, Products, Arrays, Unknown, form, part_type, element_type, blank_of, local_type, Halt, Ends}
use Rattle.hy_core.specs.Control.{Stuck, NotSet, NotOpened, Control, Setting, stop, key, count_one, with_some, trapped, turn, with_number, with_flag, take_as}
use Rattle.hy_core.specs.Control.{with_array, with_set, with_index, Aim, ToRead, ToWrite, ToDrop, at_part}
use Rattle.hy_core.specs.Control.{at_element, walk, spot, read, write, read_number}
use Rattle.hy_core.specs.Control.{read_flag, read_array}
use Rattle.hy_core.specs.Typing.{Among, still}
use Rattle.hy_core.specs.Flow.{Holder, OpenPlace, Status, Own, Param, Opened, Bound, FlowState, way_of, IsInLocal, is_exact, IsShutAt, MayReadAt}
use Rattle.hy_core.specs.Flow.{MayWriteAt, IndexesOk}
use Rattle.hy_core.proofs.Keys.{set_same}
use Rattle.hy_core.proofs.Values.{apart_diverge, apart_back, there_append}
use Rattle.hy_core.proofs.OpenPlaces.{there_put, get_put, apart_unset, Sound, sound_apply}

abbrev pub Slots : Type 0
Slots = Key → Option Origin

abbrev pub at : ℕ → ℕ → Key
at a l = record { act = a; local = l }

abbrev pub mem : Slots → (Key → Val) → Copies
mem open_at value = record { opened = open_at; value = value }

-- A step leads to a state that stands, or that has halted and has closed only what was opened.
pub data Fine (S : Control → Slots → Type 0) (c : Control) (slots : Slots) : Type 0 where
  over : (h : Halt) → c.halt ≡ Some h → h ≢ NotOpened → Fine S c slots
  stands : S c slots → Fine S c slots

-- what may be done; and an activation that ends has no open place
abbrev pub Allowed : Effect → Copies → Type 0
Allowed (Store s v) m = MayWrite m s
Allowed (Change s v) m = MayWrite m s
Allowed (Clear s fate) m = MayWrite m s
Allowed (Lend k s way) m = MayLend m k s way
Allowed (Hand k l) m = MayHand m k l
Allowed (Close k) m = MayClose m k
Allowed (Quit a n) m = (k : Key) (o : Origin) → m.opened k ≡ Some o → o.base.act ≢ a

may_of : (o : Effect) (m : Copies) → Allowed o m → May o m
may_of (Store s v) m may = may
may_of (Change s v) m may = may
may_of (Clear s fate) m may = may
may_of (Lend k s way) m may = may
may_of (Hand k l) m may = may
may_of (Close k) m may = may
may_of (Quit a n) m may = tt

abbrev pub IsQuiet : Interaction Control → Copies → Type 0
IsQuiet (Fetch s go) m = MayRead m s × IsQuiet (go (copying.read m s)) m
IsQuiet (Inspect s go) m = MayInspect m s × IsQuiet (go (shape (copying.read m s))) m
IsQuiet (Perform o t) m = Allowed o m × IsQuiet t (apply copying o m)
IsQuiet (Return c) m = Unit {0}

-- each question and change is allowed, and the step leads to such a state
abbrev pub Good : (Control → Slots → Type 0) → Interaction Control → Copies → Type 0
Good S (Fetch s go) m = MayRead m s × Good S (go (copying.read m s)) m
Good S (Inspect s go) m = MayInspect m s × Good S (go (shape (copying.read m s))) m
Good S (Perform o t) m = Allowed o m × Good S t (apply copying o m)
Good S (Return c) m = Fine S c m.opened

pub good_quiet : (S : Control → Slots → Type 0) (t : Interaction Control) (m : Copies) → Good S t m → IsQuiet t m
good_quiet S (Fetch s go) m h = (h.0, good_quiet S (go (copying.read m s)) m h.1)
good_quiet S (Inspect s go) m h = (h.0, good_quiet S (go (shape (copying.read m s))) m h.1)
good_quiet S (Perform o t) m h = (h.0, good_quiet S t (apply copying o m) h.1)
good_quiet S (Return c) m h = tt

pub good_calm : (S : Control → Slots → Type 0) (t : Interaction Control) (m : Copies) → Good S t m → IsCalm t m
good_calm S (Fetch s go) m h = (h.0, good_calm S (go (copying.read m s)) m h.1)
good_calm S (Inspect s go) m h = (h.0, good_calm S (go (shape (copying.read m s))) m h.1)
good_calm S (Perform o t) m h = (may_of o m h.0, good_calm S t (apply copying o m) h.1)
good_calm S (Return c) m h = tt

pub good_next : (S : Control → Slots → Type 0) (t : Interaction Control) (m : Copies) → Good S t m
    → Fine S (interpret copying t m).control (interpret copying t m).memory.opened
good_next S (Fetch s go) m h = good_next S (go (copying.read m s)) m h.1
good_next S (Inspect s go) m h = good_next S (go (shape (copying.read m s))) m h.1
good_next S (Perform o t) m h = good_next S t (apply copying o m) h.1
good_next S (Return c) m h = h

pub good_sound : (S : Control → Slots → Type 0) (t : Interaction Control) (m : Copies) → Good S t m → Sound m → Sound (interpret copying t m).memory
good_sound S (Fetch s go) m h x = good_sound S (go (copying.read m s)) m h.1 x
good_sound S (Inspect s go) m h x = good_sound S (go (shape (copying.read m s))) m h.1 x
good_sound S (Perform o t) m h x = good_sound S t (apply copying o m) h.1 (sound_apply o m (may_of o m h.0) x)
good_sound S (Return c) m h x = x

-- the same whatever the values are
abbrev pub GoodAt : (Control → Slots → Type 0) → Interaction Control → Slots → Type 0
GoodAt S t slots = (vals : Key → Val) → Sound (mem slots vals) → Good S t (mem slots vals)

-- WHAT A FLOW STATE TELLS of the places that are open

abbrev pub IsOpenSo : Way → Option Origin → Type 0
IsOpenSo w o = (x : Origin) × (o ≡ Some x) × (x.way ≡ w)

abbrev pub Is : Status → Option Origin → Type 0
Is Own o = o ≡ None
Is (Param w) o = IsOpenSo w o
Is (Opened l) o = IsOpenSo l.way o
Is (Bound w) o = IsOpenSo w o

some_is : (a b : Origin) → Some a ≡ Some b → a ≡ b
some_is a b e = cc

open_way : (w : Way) (o : Option Origin) → IsOpenSo w o → w ≡ Writes → (x : Origin) → o ≡ Some x → x.way ≡ Writes
open_way v o i w x h = ap (λ x. x.way) (sym (some_is i.0 x (sym i.1 ∙ h))) ∙ i.2 ∙ w

is_writable : (s : Status) (o : Option Origin) → Is s o → way_of s ≡ Writes → (x : Origin) → o ≡ Some x → x.way ≡ Writes
is_writable Own o i w x h = let e : None ≡ Some x = sym i ∙ h in absurd (cc)
is_writable (Param v) o i w x h = open_way v o i w x h
is_writable (Opened l) o i w x h = open_way l.way o i w x h
is_writable (Bound v) o i w x h = open_way v o i w x h

-- a listed place is what is open at k, where its holder and k go together
pub record Listed (F : Holder → Key → Type 0) (g : FlowState) (k : Key) (o : Origin) : Type 0 where
  pub open_place : OpenPlace
  pub among : Among open_place g.open_places
  pub base : open_place.base ≡ o.base.local
  pub way : open_place.way ≡ o.way
  pub rest : Path
  pub path : o.path ≡ open_place.path ++ rest
  pub fits : F open_place.holder k

abbrev pub LocalIn : ℕ → Holder → Key → Type 0
LocalIn id holder k = IsInLocal holder → k.act ≡ id

pub record View (slots : Slots) (id : ℕ) (g : FlowState) : Type 0 where
  pub status : (j : ℕ) → Is (g.status j) (slots (at id j))
  pub listed : (k : Key) (o : Origin) → slots k ≡ Some o → o.base.act ≡ id → Listed (LocalIn id) g k o

-- the places that a use in that way conflicts with
abbrev pub Conflicts : Way → Origin → Type 0
Conflicts Reads o = o.way ≡ Writes
Conflicts Writes o = Unit {0}

abbrev pub Free : Slots → Way → Key → Path → Type 0
Free slots w k p = (c : Key) (o : Origin) → slots c ≡ Some o → o.base ≡ k → Conflicts w o → Apart o.path p

-- what is open from the local is open in its own body
abbrev pub Kept : Slots → Key → Type 0
Kept slots k = (c : Key) (o : Origin) → slots c ≡ Some o → o.base ≡ k → c.act ≡ k.act

abbrev pub Begins : Path → Path → Type 0
Begins p q = (r : Path) × (q ≡ p ++ r)

pub apart_more : (h p q : Path) → Apart h p → Apart h (p ++ q)
apart_more h p q a = subst (λ h. Apart h (p ++ q)) (append-nil h) (apart_back h p [] q a)

pub free_more : (slots : Slots) (w : Way) (k : Key) (p q : Path) → Begins p q → Free slots w k p → Free slots w k q
free_more slots w k p q b f c o h e r = subst (Apart o.path) (sym b.1) (apart_more o.path p b.0 (f c o h e r))

apart_outside : (h p q : Path) → Apart h (p ++ q) → Within h p → ⊥
apart_outside h p q a w = outside h p q (apart_diverge h (p ++ q) a) w
  where
    outside : (h p q : Path) → Diverge h (p ++ q) → Within h p → ⊥
    outside [] p q a w = a
    outside (s ∷ h) [] q a w = w
    outside (s ∷ h) (t ∷ p) q (inl n) w = n w.0
    outside (s ∷ h) (t ∷ p) q (inr a) w = outside h p q a w.1

writes_conflict : (w : Way) (o : Origin) → o.way ≡ Writes → Conflicts w o
writes_conflict Reads o e = e
writes_conflict Writes o e = tt

module _ (slots : Slots) (id : ℕ) (g : FlowState) (V : View slots id g) where
  open_place_of : (l : ℕ) (k : Key) (o : Origin) → slots k ≡ Some o → o.base ≡ at id l → (e : Listed (LocalIn id) g k o) × (e.open_place.base ≡ l)
  open_place_of l k o x b = let e = V.listed k o x (ap (λ k. k.act) b) in (e, e.base ∙ ap (λ k. k.local) b)

  longer : (k : Key) (o : Origin) (q : Path) (e : Listed (LocalIn id) g k o) → Apart e.open_place.path q → Apart o.path q
  longer k o q e a =
      subst (λ h. Apart h q) (sym e.path) (subst (λ q. Apart (e.open_place.path ++ e.rest) q) (append-nil q) (apart_back e.open_place.path q e.rest [] a))

  pub free_read : (l : ℕ) (q : Path) → MayReadAt g l q → Free slots Reads (at id l) q
  free_read l q may k o x b w = let e = open_place_of l k o x b in longer k o q e.0 ((may e.0.open_place e.0.among e.1).1 (e.0.way ∙ w))

  pub kept_read : (l : ℕ) (q : Path) → MayReadAt g l q → Kept slots (at id l)
  kept_read l q may k o x b = let e = open_place_of l k o x b in e.0.fits (may e.0.open_place e.0.among e.1).0

  pub free_write : (l : ℕ) (q : Path) → MayWriteAt g l q → Free slots Writes (at id l) q
  free_write l q may k o x b w = let e = open_place_of l k o x b in longer k o q e.0 (may.free e.0.open_place e.0.among e.1).1

  pub kept_write : (l : ℕ) (q : Path) → MayWriteAt g l q → Kept slots (at id l)
  kept_write l q may k o x b = let e = open_place_of l k o x b in e.0.fits (may.free e.0.open_place e.0.among e.1).0

  pub shut_at : (l : ℕ) → IsShutAt g l → (k : Key) (o : Origin) → slots k ≡ Some o → o.base ≢ at id l
  shut_at l may k o x b = let e = open_place_of l k o x b in may e.0.open_place e.0.among e.1

  pub writable_at : (l : ℕ) → way_of (g.status l) ≡ Writes → (x : Origin) → slots (at id l) ≡ Some x → x.way ≡ Writes
  writable_at l w = is_writable (g.status l) (slots (at id l)) (V.status l) w

-- a place that may be written may be read
pub read_at : (g : FlowState) (l : ℕ) (q : Path) → MayWriteAt g l q → MayReadAt g l q
read_at g l q may e i b = let x = may.free e i b in (x.0, λ _. x.1)

-- what lies before an index is no more than what is
pub exact_indexes : (g : FlowState) (steps : List Step) → is_exact steps ≡ true → IndexesOk g steps
exact_indexes g [] e = tt
exact_indexes g (Part i ∷ steps) e = exact_indexes g steps e
exact_indexes g (Index l s ∷ steps) e = absurd (cc)

-- FORMS

has_part : (f : Form) (i : ℕ) (u : TyId) (v : Val) → part_type f i ≡ Some u → blank_of f ≡ Some v → Has (PartAt i) (shape v)
has_part (Numbers k) i u v e b = absurd (cc)
has_part Flags i u v e b = absurd (cc)
has_part (Tuples parts) i u v e b = let z : Tuple (blanks parts) ≡ v = cc in
    subst (λ v. Has (PartAt i) (shape v)) z (subst (λ k. i < k) (sym (many_blanks parts)) (slice_get_within parts i u e))
  where
    many_blanks : (ts : List TyId) → many (blanks ts) ≡ length ts
    many_blanks [] = refl
    many_blanks (t ∷ ts) = ap suc (many_blanks ts)
has_part (Products d parts) i u v e b = let z : Product d (blanks parts) ≡ v = cc in
    subst (λ v. Has (PartAt i) (shape v)) z (subst (λ k. i < k) (sym (many_blanks parts)) (slice_get_within parts i u e))
  where
    many_blanks : (ts : List TyId) → many (blanks ts) ≡ length ts
    many_blanks [] = refl
    many_blanks (t ∷ ts) = ap suc (many_blanks ts)
has_part (Arrays t) i u v e b = absurd (cc)
has_part Unknown i u v e b = absurd (cc)

abbrev pub aim_for : Way → Aim
aim_for Reads = ToRead
aim_for Writes = ToWrite

one : (q : Path) (i : Selector) (r : Path) → (q ++ i ∷ []) ++ r ≡ (q ++ []) ++ (i ∷ r)
one q i r = append_assoc q (i ∷ []) r ∙ ap (λ x. x ++ (i ∷ r)) (sym (append-nil q))

-- an index in range is one of an element
pub index_has : (n : ℕ) (i : ℤ) (j : ℕ) → index_in n i ≡ Some j → j < n
index_has n (pos k) j e = yes (nat_lt k n) refl e
  where
    yes : (b : Bool) → nat_lt k n ≡ b → cond b (Some k) None ≡ Some j → j < n
    yes true q e = let z : k ≡ j = cc in subst (λ k. k < n) z (ltb-true k n q)
    yes false q e = absurd (cc)
index_has n (negsuc k) j e = absurd (cc)

module _ (p : Setting) (S : Control → Slots → Type 0) where
  pub good_tell : (o : Effect) (t : Interaction Control) (m : Copies) → Sound m → Allowed o m
      → (Sound (apply copying o m) → Good S t (apply copying o m)) → Good S (Perform o t) m
  good_tell o t m x may h = (may, h (sound_apply o m (may_of o m may) x))

  pub good_some : {A : Type 0} (c : Control) (o : Option A) (go : A → Interaction Control) (m : Copies) → ((a : A) → o ≡ Some a → Good S (go a) m)
      → Good S (with_some c o go) m
  good_some c None go m h = over Stuck refl (λ e. absurd (cc))
  good_some c (Some a) go m h = h a refl

  pub good_trap : (c : Control) (kind : TrapKind) (s : ℕ) (m : Copies) → Good S (trapped p c kind s) m
  good_trap c kind s m = good_some c (slice_get p.core.spans s) _ m (λ x e. over (Ends (end.Trap kind x)) refl (λ e. absurd (cc)))

  pub good_turn : (c : Control) (k : ℕ) (go : Control → Interaction Control) (m : Copies) → ((j : ℕ) → Good S (go (record c { turns = j })) m)
      → Good S (turn c k go) m
  good_turn c zero go m h = over (Ends end.Spent) refl (λ e. absurd (cc))
  good_turn c (suc k) go m h = h k

  pub good_number : (c : Control) (v : Val) (go : ℤ → Interaction Control) (m : Copies) → ((i : ℤ) → Good S (go i) m) → Good S (with_number c v go) m
  good_number c Unset go m h = over NotSet refl (λ e. absurd (cc))
  good_number c (Number Int n) go m h = h n
  good_number c (Number (Sized num) n) go m h = over Stuck refl (λ e. absurd (cc))
  good_number c (Truth b) go m h = over Stuck refl (λ e. absurd (cc))
  good_number c (Tuple vs) go m h = over Stuck refl (λ e. absurd (cc))
  good_number c (Product d vs) go m h = over Stuck refl (λ e. absurd (cc))
  good_number c (Array vs) go m h = over Stuck refl (λ e. absurd (cc))

  pub good_flag : (c : Control) (v : Val) (go : Bool → Interaction Control) (m : Copies) → ((i : Bool) → Good S (go i) m) → Good S (with_flag c v go) m
  good_flag c Unset go m h = over NotSet refl (λ e. absurd (cc))
  good_flag c (Number t n) go m h = over Stuck refl (λ e. absurd (cc))
  good_flag c (Truth b) go m h = h b
  good_flag c (Tuple vs) go m h = over Stuck refl (λ e. absurd (cc))
  good_flag c (Product d vs) go m h = over Stuck refl (λ e. absurd (cc))
  good_flag c (Array vs) go m h = over Stuck refl (λ e. absurd (cc))

  pub good_array : (c : Control) (v : Val) (go : Vals → Interaction Control) (m : Copies) → ((vs : Vals) → Good S (go vs) m) → Good S (with_array c v go) m
  good_array c Unset go m h = over NotSet refl (λ e. absurd (cc))
  good_array c (Number t n) go m h = over Stuck refl (λ e. absurd (cc))
  good_array c (Truth b) go m h = over Stuck refl (λ e. absurd (cc))
  good_array c (Tuple vs) go m h = over Stuck refl (λ e. absurd (cc))
  good_array c (Product d vs) go m h = over Stuck refl (λ e. absurd (cc))
  good_array c (Array vs) go m h = h vs

  pub good_if : (b : Bool) (c : Control) (h : Halt) (t : Interaction Control) (m : Copies) → h ≢ NotOpened → (b ≡ true → Good S t m)
      → Good S (cond b t (stop c h)) m
  good_if true c h t m n f = f refl
  good_if false c h t m n f = over h refl n

  pub good_set : (c : Control) (v : Val) (t : Interaction Control) (m : Copies) → Good S t m → Good S (with_set c v t) m
  good_set c v t m h = good_if (is_whole v) c NotSet t m (λ e. absurd (cc)) (λ _. h)

  pub good_index : (c : Control) (s : ℕ) (n : ℕ) (o : Option ℕ) (go : ℕ → Interaction Control) (m : Copies) → ((i : ℕ) → o ≡ Some i → Good S (go i) m)
      → Good S (with_index p c s o go) m
  good_index c s n None go m h = good_trap c trap.Index s m
  good_index c s n (Some i) go m h = h i refl

  -- WALKS, where a flow state says what is open from the running activation; nothing of what is wanted changes on the way

  module _ (slots : Slots) (g : FlowState) (id : ℕ) (V : View slots id g) (Q : Control → Type 0) (up : (c : Control) → Q c
      → Q (count_one c)) (same : (c : Control) → Q c → c.now.id ≡ id) where
    view : (c : Control) → Q c → View slots c.now.id g
    view c x = subst (λ i. View slots i g) (sym (same c x)) V

    abbrev pub After : Key → Path → (Control → Spot → TyId → Interaction Control) → Type 0
    After k q go = (c : Control) (vals : Key → Val) (u : Path) (t : TyId) → Q c → Sound (mem slots vals) → Begins q u → IsThere u (vals k)
        → Good S (go c (record { key = k; path = u }) t) (mem slots vals)

    pub good_local : (c : Control) (l : ℕ) (go : Val → Interaction Control) → Q c → MayReadAt g l [] → ((v : Val) → GoodAt S (go v) slots)
        → GoodAt S (Fetch (whole (key c l)) go) slots
    good_local c l go x may h vals s =
        let V = view c x in (record { kept = kept_read slots c.now.id g V l [] may; apart = free_read slots c.now.id g V l [] may }, h (vals (key c l)) vals s)

    -- where a place is entered, and a product of unset parts is stored if it is unset
    module _ (w : Way) (k : Key) (kept : Kept slots k) (writable : w ≡ Writes → (x : Origin) → slots k ≡ Some x → x.way ≡ Writes) where
      may_inspect : (vals : Key → Val) (q r : Path) → Free slots w k (q ++ r) → MayInspect (mem slots vals) (record { key = k; path = q })
      may_inspect vals q r free = record { kept = kept; clear = λ c o x b wr. apart_outside o.path q r (free c o x b (writes_conflict w o wr)) }

      blank_good : (c : Control) (vals : Key → Val) (q r : Path) (f : Form) (i : ℕ) (u : TyId) (t : Interaction Control) → Sound (mem slots vals)
          → w ≡ Writes → Free slots w k (q ++ PartAt i ∷ r) → IsThere q (vals k) → get q (vals k) ≡ Unset
          → part_type f i ≡ Some u → ((vals : Key → Val) → Sound (mem slots vals) → IsThere (q ++ PartAt i ∷ []) (vals k) → Good S t (mem slots vals))
          → Good S (with_some c (blank_of f) (λ v. Perform (effect.Store (record { key = k; path = q }) v) t)) (mem slots vals)
      blank_good c vals q r f i u t s e free there is part next = good_some c (blank_of f) _ (mem slots vals) (λ v b.
          let may : MayWrite (mem slots vals) (record { key = k; path = q }) = record {
            kept = kept;
            writable = writable e;
            there = there;
            apart = λ c o x y. apart_unset o.path q r (PartAt i) (vals k) (free c o x y (subst (λ w. Conflicts w o) (sym e) tt))
                (subst (λ k. IsThere o.path (vals k)) y (s.there c o x)) is;
          } in
          good_tell (effect.Store (record { key = k; path = q }) v) t (mem slots vals) s may (λ s. next _ s
          (subst (IsThere (q ++ PartAt i ∷ [])) (sym (set_same vals k (put q v (vals k))))
          (there_append q (PartAt i ∷ []) (put q v (vals k)) (there_put q v (vals k) there)
          (subst (λ x. Has (PartAt i) (shape x)) (sym (get_put q v (vals k) there)) (has_part f i u v part b), tt)))))

      part_good : (c : Control) (vals : Key → Val) (q r : Path) (f : Form) (i : ℕ) (u : TyId) (v : Val) (t : Interaction Control) → Sound (mem slots vals)
          → Free slots w k (q ++ PartAt i ∷ r) → IsThere q (vals k) → get q (vals k) ≡ v
          → part_type f i ≡ Some u → ((vals : Key → Val) → Sound (mem slots vals) → IsThere (q ++ PartAt i ∷ []) (vals k) → Good S t (mem slots vals))
          → (x : Way) → x ≡ w → Good S (at_part (aim_for x) c (record { key = k; path = q }) f i (shape v) t) (mem slots vals)
      part_good c vals q r f i u Unset t s free there is part next Reads e = over NotSet refl (λ e. absurd (cc))
      part_good c vals q r f i u Unset t s free there is part next Writes e = blank_good c vals q r f i u t s (sym e) free there is part next
      part_good c vals q r f i u (Number k n) t s free there is part next x e = over Stuck refl (λ e. absurd (cc))
      part_good c vals q r f i u (Truth b) t s free there is part next x e = over Stuck refl (λ e. absurd (cc))
      part_good c vals q r f i u (Tuple vs) t s free there is part next x e = good_if (nat_lt i (many vs)) c Stuck t (mem slots vals) (λ e. absurd (cc))
          (λ b. next vals s (there_append q (PartAt i ∷ []) (vals k) there (subst (λ v. Has (PartAt i) (shape v)) (sym is) (ltb-true i (many vs) b), tt)))
      part_good c vals q r f i u (Product d vs) t s free there is part next x e = good_if (nat_lt i (many vs)) c Stuck t (mem slots vals) (λ e. absurd (cc))
          (λ b. next vals s (there_append q (PartAt i ∷ []) (vals k) there (subst (λ v. Has (PartAt i) (shape v)) (sym is) (ltb-true i (many vs) b), tt)))
      part_good c vals q r f i u (Array vs) t s free there is part next x e = over Stuck refl (λ e. absurd (cc))

      -- up to a place that is to be deinitialised, which may stand in something unset
      drop_walk : (go : Control → Spot → TyId → Interaction Control) → ((c : Control) → Q c → Fine S c slots) → (steps : List Step) (c : Control)
          (vals : Key → Val) (q : Path) (t : TyId) → Q c → Sound (mem slots vals) → is_exact steps ≡ true → Free slots w k (q ++ still steps)
          → IsThere q (vals k) → After k (q ++ still steps) go → Good S (walk p ToDrop c k q t steps go) (mem slots vals)
      drop_walk go quits [] c vals q t x s exact free there next = next c vals q t x s ([], sym (append-nil (q ++ []) ∙ append-nil q)) there
      drop_walk go quits (Index l span ∷ steps) c vals q t x s exact free there next = absurd (cc)
      drop_walk go quits (Part i ∷ steps) c vals q t x s exact free there next = good_some c (part_type (form p.core.types t) i) _ (mem slots vals) (λ u e. (
        may_inspect vals q (PartAt i ∷ still steps) free,
        by u (get q (vals k)) refl (λ there. drop_walk go quits steps c vals (q ++ PartAt i ∷ []) u x s exact
            (subst (Free slots w k) (sym (append_assoc q (PartAt i ∷ []) (still steps))) free) there
            (λ c vals v t x s b there. next c vals v t x s (b.0, b.1 ∙ ap (λ y. y ++ b.0) (append_assoc q (PartAt i ∷ []) (still steps))) there)),
      ))
        where
          by : (u : TyId) (v : Val) → get q (vals k) ≡ v → (IsThere (q ++ PartAt i ∷ []) (vals k)
              → Good S (walk p ToDrop c k (q ++ PartAt i ∷ []) u steps go) (mem slots vals))
              → Good S (at_part ToDrop c (record { key = k; path = q }) (form p.core.types t) i (shape v) (walk p ToDrop c k (q ++ PartAt i ∷ []) u steps go))
              (mem slots vals)
          by u Unset is on = quits c x
          by u (Number n j) is on = over Stuck refl (λ e. absurd (cc))
          by u (Truth b) is on = over Stuck refl (λ e. absurd (cc))
          by u (Tuple vs) is on = good_if (nat_lt i (many vs)) c Stuck _ (mem slots vals) (λ e. absurd (cc))
              (λ b. on (there_append q (PartAt i ∷ []) (vals k) there (subst (λ v. Has (PartAt i) (shape v)) (sym is) (ltb-true i (many vs) b), tt)))
          by u (Product d vs) is on = good_if (nat_lt i (many vs)) c Stuck _ (mem slots vals) (λ e. absurd (cc))
              (λ b. on (there_append q (PartAt i ∷ []) (vals k) there (subst (λ v. Has (PartAt i) (shape v)) (sym is) (ltb-true i (many vs) b), tt)))
          by u (Array vs) is on = over Stuck refl (λ e. absurd (cc))

      element_good : (c : Control) (vals : Key → Val) (q : Path) (span : ℕ) (i : ℤ) (v : Val) (go : ℕ → Interaction Control) → IsThere q (vals k)
          → get q (vals k) ≡ v
          → ((j : ℕ) → IsThere (q ++ ElementAt j ∷ []) (vals k) → Good S (go j) (mem slots vals)) → (x : Way)
          → Good S (at_element p (aim_for x) c span i (shape v) go) (mem slots vals)
      element_good c vals q span i Unset go there is next Reads = over NotSet refl (λ e. absurd (cc))
      element_good c vals q span i Unset go there is next Writes = over NotSet refl (λ e. absurd (cc))
      element_good c vals q span i (Number t n) go there is next x = over Stuck refl (λ e. absurd (cc))
      element_good c vals q span i (Truth b) go there is next x = over Stuck refl (λ e. absurd (cc))
      element_good c vals q span i (Tuple vs) go there is next x = over Stuck refl (λ e. absurd (cc))
      element_good c vals q span i (Product d vs) go there is next x = over Stuck refl (λ e. absurd (cc))
      element_good c vals q span i (Array vs) go there is next x = good_index c span (many vs) (index_in (many vs) i) go (mem slots vals)
          (λ j e. next j (there_append q (ElementAt j ∷ []) (vals k) there
          (subst (λ v. Has (ElementAt j) (shape v)) (sym is) (index_has (many vs) i j e), tt)))

      good_walk : (go : Control → Spot → TyId → Interaction Control) (steps : List Step) (c : Control) (vals : Key → Val) (q : Path) (t : TyId) → Q c
          → Sound (mem slots vals) → IndexesOk g steps → Free slots w k (q ++ still steps) → IsThere q (vals k)
          → After k (q ++ still steps) go → Good S (walk p (aim_for w) c k q t steps go) (mem slots vals)
      good_walk go [] c vals q t x s idx free there next = next c vals q t x s ([], sym (append-nil (q ++ []) ∙ append-nil q)) there
      good_walk go (Part i ∷ steps) c vals q t x s idx free there next = good_some c (part_type (form p.core.types t) i) _ (mem slots vals) (λ u e. (
        may_inspect vals q (PartAt i ∷ still steps) free,
        part_good c vals q (still steps) (form p.core.types t) i u (get q (vals k)) _ s free there refl e
            (λ vals s there. good_walk go steps c vals (q ++ PartAt i ∷ []) u x s idx
            (subst (Free slots w k) (sym (append_assoc q (PartAt i ∷ []) (still steps))) free) there
            (λ c vals v t x s b there. next c vals v t x s (b.0, b.1 ∙ ap (λ y. y ++ b.0) (append_assoc q (PartAt i ∷ []) (still steps))) there)) w refl,
      ))
      good_walk go (Index l span ∷ steps) c vals q t x s idx free there next = good_some c (element_type (form p.core.types t)) _ (mem slots vals) (λ u e.
          let V = view c x in (
            record { kept = kept_read slots c.now.id g V l [] idx.0; apart = free_read slots c.now.id g V l [] idx.0 },
            good_number c (vals (key c l)) _ (mem slots vals) (λ i. (
              may_inspect vals q [] free,
              element_good c vals q span i (get q (vals k)) _ there refl (λ j there.
                  good_walk go steps (count_one c) vals (q ++ ElementAt j ∷ []) u (up c x) s idx.2
                  (free_more slots w k _ _ (ElementAt j ∷ still steps, one q (ElementAt j) (still steps)) free) there
                  (λ c vals v t x s b there. next c vals v t x s (
                    (ElementAt j ∷ still steps) ++ b.0,
                    b.1
                        ∙ ap (λ y. y ++ b.0) (one q (ElementAt j) (still steps)) ∙ append_assoc (q ++ []) (ElementAt j ∷ still steps) b.0,
                  ) there)) w,
            )),
          ))

    -- PLACES of the running activation

    abbrev pub MayAt : ℕ → Path → Way → Type 0
    MayAt l q Reads = MayReadAt g l q
    MayAt l q Writes = MayWriteAt g l q

    kept_at : (w : Way) (l : ℕ) (q : Path) → MayAt l q w → Kept slots (at id l)
    kept_at Reads l q may = kept_read slots id g V l q may
    kept_at Writes l q may = kept_write slots id g V l q may

    free_at : (w : Way) (l : ℕ) (q : Path) → MayAt l q w → Free slots w (at id l) q
    free_at Reads l q may = free_read slots id g V l q may
    free_at Writes l q may = free_write slots id g V l q may

    may_write_at : (w : Way) (l : ℕ) (q : Path) → MayAt l q w → w ≡ Writes → (x : Origin) → slots (at id l) ≡ Some x → x.way ≡ Writes
    may_write_at Reads l q may e = absurd (cc)
    may_write_at Writes l q may e = writable_at slots id g V l may.writable

    pub may_read : (vals : Key → Val) (l : ℕ) (q u : Path) → MayReadAt g l q → Begins q u → MayRead (mem slots vals) (record { key = at id l; path = u })
    may_read vals l q u may b = record {
      kept = kept_read slots id g V l q may;
      apart = free_more slots Reads (at id l) q u b (free_read slots id g V l q may);
    }

    pub may_write : (vals : Key → Val) (l : ℕ) (q u : Path) → MayWriteAt g l q → Begins q u → IsThere u (vals (at id l))
        → MayWrite (mem slots vals) (record { key = at id l; path = u })
    may_write vals l q u may b there = record {
      kept = kept_write slots id g V l q may;
      writable = writable_at slots id g V l may.writable;
      there = there;
      apart = λ c o x e. free_more slots Writes (at id l) q u b (free_write slots id g V l q may) c o x e tt;
    }

    pub good_spot : (w : Way) (place : Place) (go : Control → Spot → TyId → Interaction Control) → IndexesOk g place.steps
        → MayAt place.local (still place.steps) w → After (at id place.local) (still place.steps) go
        → (c : Control) → Q c → GoodAt S (spot p (aim_for w) c place go) slots
    good_spot w place go idx may next c x vals s = good_some c (local_type c.now.fun place.local) _ (mem slots vals) (λ t e.
        let same_key : key c place.local ≡ at id place.local = ap (λ i. at i place.local) (same c x) in
        subst (λ k. Good S (walk p (aim_for w) c k [] t place.steps go) (mem slots vals)) (sym same_key)
        (good_walk w (at id place.local) (kept_at w place.local _ may) (may_write_at w place.local _ may) go place.steps c vals [] t x s idx
        (free_at w place.local _ may) tt next))

    pub good_spot_drop : (place : Place) (go : Control → Spot → TyId → Interaction Control) → is_exact place.steps ≡ true
        → MayWriteAt g place.local (still place.steps) → ((c : Control) → Q c → Fine S c slots) → After (at id place.local) (still place.steps) go
        → (c : Control) → Q c → GoodAt S (spot p ToDrop c place go) slots
    good_spot_drop place go exact may quits next c x vals s = good_some c (local_type c.now.fun place.local) _ (mem slots vals) (λ t e.
        let same_key : key c place.local ≡ at id place.local = ap (λ i. at i place.local) (same c x) in
        subst (λ k. Good S (walk p ToDrop c k [] t place.steps go) (mem slots vals)) (sym same_key)
        (drop_walk Writes (at id place.local) (kept_at Writes place.local _ may) (may_write_at Writes place.local _ may) go quits place.steps c vals [] t x s
        exact (free_at Writes place.local _ may) tt next))

    -- whatever is read, and whatever the control counts
    abbrev pub Reads_on : (Control → Val → Interaction Control) → Type 0
    Reads_on go = (c : Control) (v : Val) → Q c → GoodAt S (go c v) slots

    pub good_read : (place : Place) (go : Control → Val → Interaction Control) → IndexesOk g place.steps → MayReadAt g place.local (still place.steps)
        → Reads_on go → (c : Control) → Q c → GoodAt S (read p c place go) slots
    good_read place go idx may next = good_spot Reads place _ idx may (λ c vals u t x s b there.
        let v = get u (vals (at id place.local)) in (may_read vals place.local _ u may b, good_set c v (go c v) (mem slots vals) (next c v x vals s)))

    pub good_take : (fate : effect.Fate) (place : Place) (go : Control → Val → Interaction Control) → is_exact place.steps ≡ true
        → MayWriteAt g place.local (still place.steps) → Reads_on go → (c : Control) → Q c → GoodAt S (take_as fate p c place go) slots
    good_take fate place go exact may next = good_spot Reads place _ (exact_indexes g place.steps exact) (read_at g place.local _ may)
        (λ c vals u t x s b there. let v = get u (vals (at id place.local)) in (
          may_read vals place.local _ u (read_at g place.local _ may) b,
          good_set c v (Perform (effect.Clear (record { key = at id place.local; path = u }) fate) (go c v)) (mem slots vals)
              (good_tell (effect.Clear (record { key = at id place.local; path = u }) fate) (go c v) (mem slots vals) s
              (may_write vals place.local _ u may b there) (λ s. next c v x _ s)),
        ))

    pub good_write : (place : Place) (v : Val) (go : Control → Interaction Control) → IndexesOk g place.steps → MayWriteAt g place.local (still place.steps)
        → ((c : Control) → Q c → GoodAt S (go c) slots) → (c : Control) → Q c
        → GoodAt S (write p c place v go) slots
    good_write place v go idx may next = good_spot Writes place _ idx may (λ c vals u t x s b there.
        good_tell (effect.Store (record { key = at id place.local; path = u }) v) (go c) (mem slots vals) s (may_write vals place.local _ u may b there)
        (λ s. next c x _ s))

    pub good_read_number : (place : Place) (go : Control → ℤ → Interaction Control) → IndexesOk g place.steps → MayReadAt g place.local (still place.steps)
        → ((c : Control) (i : ℤ) → Q c → GoodAt S (go c i) slots) → (c : Control) → Q c
        → GoodAt S (read_number p c place go) slots
    good_read_number place go idx may next = good_read place _ idx may (λ c v x vals s. good_number c v (go c) (mem slots vals) (λ i. next c i x vals s))

    pub good_read_flag : (place : Place) (go : Control → Bool → Interaction Control) → IndexesOk g place.steps → MayReadAt g place.local (still place.steps)
        → ((c : Control) (i : Bool) → Q c → GoodAt S (go c i) slots) → (c : Control) → Q c
        → GoodAt S (read_flag p c place go) slots
    good_read_flag place go idx may next = good_read place _ idx may (λ c v x vals s. good_flag c v (go c) (mem slots vals) (λ i. next c i x vals s))

    pub good_read_array : (w : Way) (place : Place) (go : Control → Spot → Vals → Interaction Control) → IndexesOk g place.steps
        → MayAt place.local (still place.steps) w
        → ((c : Control) (u : Path) (vs : Vals) (vals : Key → Val) → Q c → Sound (mem slots vals) → Begins (still place.steps) u
        → IsThere u (vals (at id place.local)) → Good S (go c (record { key = at id place.local; path = u }) vs) (mem slots vals))
        → (c : Control) → Q c → GoodAt S (read_array p c place go) slots
    good_read_array w place go idx may next = good_spot Reads place _ idx (reads w may) (λ c vals u t x s b there.
        let v = get u (vals (at id place.local)) in (
          may_read vals place.local _ u (reads w may) b,
          good_set c v (with_array c v (go c (record { key = at id place.local; path = u }))) (mem slots vals)
              (good_array c v (go c (record { key = at id place.local; path = u })) (mem slots vals) (λ vs. next c u vs vals x s b there)),
        ))
      where
        reads : (w : Way) → MayAt place.local (still place.steps) w → MayReadAt g place.local (still place.steps)
        reads Reads may = may
        reads Writes may = read_at g place.local (still place.steps) may
