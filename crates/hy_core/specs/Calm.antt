-- What may be asked of the copying memory, and done to it: nothing that overlaps what is open.
use Rattle.std.specs.Prelude.{◌≡◌, ◌≢◌, ℕ, zero, suc, None, Some}
use Rattle.hy_core.specs.Values.{Apart, Within, shape, IsThere}
use Rattle.hy_core.specs.Memory.{Key, Spot, Way, Reads, Writes, Origin, Copies, copying}
use Rattle.hy_core.specs.Runs.{Effect, Store, Change, Clear, Lend, Hand, Close, Quit, Interaction, Fetch, Inspect, Perform, Return, apply, interpret}

-- what is open from the local
abbrev pub EachOpen : Copies → Key → (Key → Origin → Type 0) → Type 0
EachOpen m k P = (c : Key) (o : Origin) → m.opened c ≡ Some o → o.base ≡ k → P c o

-- nothing is open from the local
abbrev pub IsShut : Copies → Key → Type 0
IsShut m k = EachOpen m k (λ c o. ⊥)

-- What is open from the local is open in its own body: no subscript that has not ended was lent it.
abbrev pub IsKept : Copies → Key → Type 0
IsKept m k = EachOpen m k (λ c o. c.act ≡ k.act)

-- the local was not opened for reading
abbrev pub IsWritable : Copies → Key → Type 0
IsWritable m k = (o : Origin) → m.opened k ≡ Some o → o.way ≡ Writes

-- what stands at the top of the place may be looked at: it is not within a place that is open for change
pub record MayInspect (m : Copies) (s : Spot) : Type 0 where
  pub kept : IsKept m s.key
  pub clear : EachOpen m s.key (λ c o. o.way ≡ Writes → Within o.path s.path → ⊥)

-- no place that overlaps is open for change
pub record MayRead (m : Copies) (s : Spot) : Type 0 where
  pub kept : IsKept m s.key
  pub apart : EachOpen m s.key (λ c o. o.way ≡ Writes → Apart o.path s.path)

-- The place is there, and no place that overlaps is open in any way. Nothing is changed through a local that was opened for
-- reading, be it in this body, by a caller, or in the subscript that yielded it.
pub record MayWrite (m : Copies) (s : Spot) : Type 0 where
  pub kept : IsKept m s.key
  pub writable : IsWritable m s.key
  pub there : IsThere s.path (m.value s.key)
  pub apart : EachOpen m s.key (λ c o. Apart o.path s.path)

abbrev pub MayOpen : Copies → Spot → Way → Type 0
MayOpen m s Reads = MayRead m s
MayOpen m s Writes = MayWrite m s

-- nothing opens a local that is still open, or from which a place is open
pub record MayLend (m : Copies) (k : Key) (s : Spot) (way : Way) : Type 0 where
  pub closed : m.opened k ≡ None
  pub shut : IsShut m k
  pub other : k ≢ s.key
  pub there : IsThere s.path (m.value s.key)
  pub free : MayOpen m s way

-- what a body hands to another is open, and no place is open from it
pub record MayHand (m : Copies) (k l : Key) : Type 0 where
  pub closed : m.opened k ≡ None
  pub shut : IsShut m k
  pub other : k ≢ l
  pub origin : Origin
  pub opened : m.opened l ≡ Some origin
  pub free : IsShut m l

-- nothing closes that is not open, or from which a place is open
pub record MayClose (m : Copies) (k : Key) : Type 0 where
  pub origin : Origin
  pub opened : m.opened k ≡ Some origin
  pub shut : IsShut m k

abbrev pub May : Effect → Copies → Type 0
May (Store s v) m = MayWrite m s
May (Change s v) m = MayWrite m s
May (Clear s fate) m = MayWrite m s
May (Lend k s way) m = MayLend m k s way
May (Hand k l) m = MayHand m k l
May (Close k) m = MayClose m k
May (Quit a n) m = Unit {0}

-- each question and each operation of the step is allowed
abbrev pub IsCalm : {C : Type 0} → Interaction C → Copies → Type 0
IsCalm (Fetch s go) m = MayRead m s × IsCalm (go (copying.read m s)) m
IsCalm (Inspect s go) m = MayInspect m s × IsCalm (go (shape (copying.read m s))) m
IsCalm (Perform op t) m = May op m × IsCalm t (apply copying op m)
IsCalm (Return c) m = Unit {0}

-- the copying run is calm for n steps
abbrev pub StaysCalm : {C : Type 0} → (C → Interaction C) → ℕ → C → Copies → Type 0
StaysCalm interaction zero c m = Unit {0}
StaysCalm interaction (suc n) c m = let s = interpret copying (interaction c) m in IsCalm (interaction c) m × StaysCalm interaction n s.control s.memory
