-- What a run asks of a memory, and the two memories: one that copies in and out, and one that lends references.
use Rattle.std.specs.Prelude.{ℕ, Bool, cond, ◌&&◌, ◌==◌, [], ◌++◌, Option, Some, None}
pub use Rattle.hy_core.specs.Plain.{Way, Reads, Writes}
use Rattle.hy_core.specs.Values.{Val, Unset, Path, get, put}

-- a local of an activation
pub record Key : Type 0 where
  pub act : ℕ
  pub local : ℕ

abbrev pub key_eq : Key → Key → Bool
key_eq a b = (a.act == b.act) && (a.local == b.local)

-- the function with another value at one key
abbrev pub set_at : {A : Type 0} → (Key → A) → Key → A → Key → A
set_at f k a j = cond (key_eq j k) a (f j)

-- a place in a local
pub record Spot : Type 0 where
  pub key : Key
  pub path : Path

abbrev pub whole : Key → Spot
whole k = record { key = k; path = [] }

-- a place below a place
abbrev pub below : Spot → Path → Spot
below s p = record { key = s.key; path = s.path ++ p }

-- What a memory M can do. `lend` makes a local stand for a place; `hand` makes one local stand for what another stands for,
-- in the same way; `close` ends that.
pub record Memory (M : Type 0) : Type 0 where
  pub read : M → Spot → Val
  pub store : M → Spot → Val → M
  pub lend : M → Key → Spot → Way → M
  pub hand : M → Key → Key → M
  pub close : M → Key → M

-- THE MEMORY THAT COPIES: each local has a value of its own, also one that is open.

-- where a local was opened
pub record Origin : Type 0 where
  pub base : Key
  pub path : Path
  pub way : Way

pub record Copies : Type 0 where
  pub opened : Key → Option Origin
  pub value : Key → Val

-- the values when a local that was opened there closes
abbrev pub put_back : (Key → Val) → Key → Origin → Way → Key → Val
put_back value k o Reads = value
put_back value k o Writes = set_at value o.base (put o.path (value k) (value o.base))

abbrev pub close_copy : Copies → Key → Option Origin → Copies
close_copy m k None = m
close_copy m k (Some o) = record {
  opened = set_at m.opened k None;
  value = set_at (put_back m.value k o o.way) k Unset;
}

abbrev pub lend_copy : Copies → Key → Spot → Way → Copies
lend_copy m k s way = record {
  opened = set_at m.opened k (Some (record { base = s.key; path = s.path; way = way }));
  value = set_at m.value k (get s.path (m.value s.key));
}

-- the way of a local that was opened there, or was not opened
abbrev pub way_of : Option Origin → Way
way_of None = Writes
way_of (Some o) = o.way

abbrev pub copying : Memory Copies
copying = record {
  read = λ m s. get s.path (m.value s.key);
  store = λ m s v. record { opened = m.opened; value = set_at m.value s.key (put s.path v (m.value s.key)) };
  lend = lend_copy;
  hand = λ m k l. lend_copy m k (whole l) (way_of (m.opened l));
  close = λ m k. close_copy m k (m.opened k);
}

-- THE MEMORY THAT LENDS: one store of values, and locals that are locations or references.

pub record Cells : Type 0 where
  pub refers : Key → Option Spot
  pub cell : Key → Val

abbrev pub target_of : Key → Option Spot → Spot
target_of k None = whole k
target_of k (Some s) = s

-- the place in the store that a local stands for
abbrev pub target : Cells → Key → Spot
target m k = target_of k (m.refers k)

-- the place in the store that a place of a local is
abbrev pub resolve : Cells → Spot → Spot
resolve m s = below (target m s.key) s.path

abbrev pub lend_cell : Cells → Key → Spot → Way → Cells
lend_cell m k s way = record { refers = set_at m.refers k (Some (resolve m s)); cell = m.cell }

abbrev pub lending : Memory Cells
lending = record {
  read = λ m s. let t = resolve m s in get t.path (m.cell t.key);
  store = λ m s v. let t = resolve m s in record { refers = m.refers; cell = set_at m.cell t.key (put t.path v (m.cell t.key)) };
  lend = lend_cell;
  hand = λ m k l. lend_cell m k (whole l) Reads;
  close = λ m k. record { refers = set_at m.refers k None; cell = set_at m.cell k Unset };
}

-- both begin with unset locals, and nothing open
abbrev pub no_copies : Copies
no_copies = record { opened = λ _. None; value = λ _. Unset }

abbrev pub no_cells : Cells
no_cells = record { refers = λ _. None; cell = λ _. Unset }
