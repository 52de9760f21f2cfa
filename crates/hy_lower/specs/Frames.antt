-- Where the locals of a body stand: in words of the frame, or in slots.
use Rattle.std.specs.Prelude.{◌≡◌, ℕ, zero, suc, ◌+◌, ◌-◌, ◌==◌, ◌||◌, Bool, true, false, cond, nat_lt, List, [], ◌∷◌, ◌++◌, length}
use Rattle.std.specs.Prelude.{slice_get, unwrap_or}
use Rattle.hy_types.specs.declared.kinds.TyId.{TyId}
use Rattle.hy_types.specs.Types.{Table}
use Rattle.hy_types.specs.Words.{HasWords}
use Rattle.hy_core.specs.Plain.{Step, Part, Index, Stmts, Done, Then, Stmt, Built, Set, Lend, Close, Move, Copy, Drop, Call, Project, Slide, Yield}
use Rattle.hy_core.specs.Plain.{If, While, Break, Continue, Leave, Fun, lent_types}
use Rattle.hy_core.specs.Statements.{is_counted}
pub use Rattle.hy_lower.specs.declared.body.Slots.{Slots}
pub use Rattle.hy_lower.specs.declared.body.Home.{Home}
pub use Rattle.hy_lower.specs.declared.body.Home.TheVariants.{Words, Slot}

-- SIZES: the words of each type, by its number

abbrev pub size_of : List ℕ → TyId → ℕ
size_of sizes t = unwrap_or (slice_get sizes t.at) 0

abbrev pub AreSizes : Table → List ℕ → Type 0
AreSizes types sizes = (t : TyId) (words : ℕ) → HasWords types t words → size_of sizes t ≡ words

abbrev pub words_of : List ℕ → List TyId → ℕ
words_of sizes [] = zero
words_of sizes (t ∷ ts) = size_of sizes t + words_of sizes ts

-- the words of the first so many
abbrev pub words_before : List ℕ → List TyId → ℕ → ℕ
words_before sizes [] k = zero
words_before sizes (t ∷ ts) zero = zero
words_before sizes (t ∷ ts) (suc k) = size_of sizes t + words_before sizes ts k

-- LISTS OF LOCALS

abbrev pub member : ℕ → List ℕ → Bool
member l [] = false
member l (k ∷ ks) = cond (k == l) true (member l ks)

-- its first place in a list
abbrev pub place_in : ℕ → List ℕ → ℕ
place_in l [] = zero
place_in l (k ∷ ks) = cond (k == l) zero (suc (place_in l ks))

-- how often it stands there
abbrev pub times : ℕ → List ℕ → ℕ
times l [] = zero
times l (k ∷ ks) = cond (k == l) (suc (times l ks)) (times l ks)

-- those that are not in the other list
abbrev pub missing : List ℕ → List ℕ → List ℕ
missing others [] = []
missing others (l ∷ ls) = cond (member l others) (missing others ls) (l ∷ missing others ls)

abbrev pub so_many : ℕ → ℕ → List ℕ
so_many zero l = []
so_many (suc n) l = l ∷ so_many n l

-- ACCESSES

-- the index steps, each of which opens an access to an element
abbrev pub indexes : List Step → ℕ
indexes [] = zero
indexes (Part i ∷ steps) = indexes steps
indexes (Index l s ∷ steps) = suc (indexes steps)

abbrev pub all_but_last : Bool → ℕ → ℕ
all_but_last true n = n
all_but_last false n = n - 1

-- A `Lend` opens an access for each index step, and one to its place where that does not end in an index. The last is the
-- local's; so many are opened on the way.
abbrev pub on_the_way : List Step → ℕ
on_the_way steps = all_but_last (is_counted steps) (indexes steps)

-- the list, and then the locals that a `Lend` or `Project` fills
abbrev mutual
  pub filled_after : List ℕ → Stmts → List ℕ
  filled_after out Done = out
  filled_after out (Then s ss) = filled_after (filled_one out s) ss

  pub filled_one : List ℕ → Stmt → List ℕ
  filled_one out (Built operator to from spans) = out
  filled_one out (Set to n) = out
  filled_one out (Lend to place w) = out ++ to ∷ []
  filled_one out (Close l) = out
  filled_one out (Move to from) = out
  filled_one out (Copy to from) = out
  filled_one out (Drop place) = out
  filled_one out (Call n lent owned to) = out
  filled_one out (Project n lent owned to) = out ++ to ∷ []
  filled_one out (Slide l) = out
  filled_one out (Yield l) = out
  filled_one out (If on a b) = filled_after (filled_after out a) b
  filled_one out (While head on body) = filled_after (filled_after out head) body
  filled_one out Break = out
  filled_one out Continue = out
  filled_one out (Leave from) = out

-- the list, and then the locals that are handed over, each list in order
abbrev mutual
  pub handed_after : List ℕ → Stmts → List ℕ
  handed_after out Done = out
  handed_after out (Then s ss) = handed_after (handed_one out s) ss

  pub handed_one : List ℕ → Stmt → List ℕ
  handed_one out (Built operator to from spans) = out
  handed_one out (Set to n) = out
  handed_one out (Lend to place w) = out
  handed_one out (Close l) = out
  handed_one out (Move to from) = out
  handed_one out (Copy to from) = out
  handed_one out (Drop place) = out
  handed_one out (Call n lent owned to) = out ++ lent
  handed_one out (Project n lent owned to) = out ++ lent
  handed_one out (Slide l) = out
  handed_one out (Yield l) = out
  handed_one out (If on a b) = handed_after (handed_after out a) b
  handed_one out (While head on body) = handed_after (handed_after out head) body
  handed_one out Break = out
  handed_one out Continue = out
  handed_one out (Leave from) = out

-- the list, and then the locals of the `Lend`s, each once for each access that is opened on its way
abbrev mutual
  pub inner_after : List ℕ → Stmts → List ℕ
  inner_after out Done = out
  inner_after out (Then s ss) = inner_after (inner_one out s) ss

  pub inner_one : List ℕ → Stmt → List ℕ
  inner_one out (Built operator to from spans) = out
  inner_one out (Set to n) = out
  inner_one out (Lend to place w) = out ++ so_many (on_the_way place.steps) to
  inner_one out (Close l) = out
  inner_one out (Move to from) = out
  inner_one out (Copy to from) = out
  inner_one out (Drop place) = out
  inner_one out (Call n lent owned to) = out
  inner_one out (Project n lent owned to) = out
  inner_one out (Slide l) = out
  inner_one out (Yield l) = out
  inner_one out (If on a b) = inner_after (inner_after out a) b
  inner_one out (While head on body) = inner_after (inner_after out head) body
  inner_one out Break = out
  inner_one out Continue = out
  inner_one out (Leave from) = out

-- SLOTS: first those of the locals that the body is lent. Then each list of locals that is handed over, in the order of the list,
-- and the other locals that a `Lend` or `Project` fills. Then the accesses on the way to what a `Lend` opens, and last those that
-- a statement opens and closes itself.

abbrev pub order_of : (handed filled : List ℕ) → List ℕ
order_of handed filled = handed ++ missing handed filled

abbrev pub slots_of : Fun → Slots
slots_of f = record {
  lent = length f.lent;
  filled = filled_after [] f.body;
  order = order_of (handed_after [] f.body) (filled_after [] f.body);
  inner = inner_after [] f.body;
}

-- the slot of the first access on the way, and that of the first that a statement opens itself
abbrev pub inner_slot : Slots → ℕ
inner_slot s = s.lent + length s.order

abbrev pub first_free : Slots → ℕ
first_free s = inner_slot s + length s.inner

-- HOMES

-- a local that is lent or filled stands in a slot, and each other one in words
abbrev pub is_reference : Slots → ℕ → Bool
is_reference s l = nat_lt l s.lent || member l s.filled

abbrev pub slot_home : Slots → ℕ → Home
slot_home s l = cond (nat_lt l s.lent) (Slot l 0 0) (Slot (s.lent + place_in l s.order) (inner_slot s + place_in l s.inner) (times l s.inner))

abbrev pub width : Slots → List ℕ → (local : ℕ) → TyId → ℕ
width s sizes l t = cond (is_reference s l) zero (size_of sizes t)

-- of the locals from one on, the first of which stands at that word if it is no reference
abbrev pub homes_from : Slots → List ℕ → (local word : ℕ) → List TyId → List Home
homes_from s sizes l w [] = []
homes_from s sizes l w (t ∷ ts) = cond (is_reference s l) (slot_home s l) (Words w) ∷ homes_from s sizes (suc l) (w + width s sizes l t) ts

abbrev pub words_from : Slots → List ℕ → (local : ℕ) → List TyId → ℕ
words_from s sizes l [] = zero
words_from s sizes l (t ∷ ts) = width s sizes l t + words_from s sizes (suc l) ts

-- FRAMES

-- What the segments of a body look at: the types and their sizes, the type of each local and its home, the first word that no
-- local has, and the first slot that neither a local nor a `Lend` has.
pub record Frame : Type 0 where
  pub types : Table
  pub sizes : List ℕ
  pub locals : List TyId
  pub homes : List Home
  pub scratch : ℕ
  pub slot : ℕ

abbrev pub locals_of : Fun → List TyId
locals_of f = lent_types f ++ (f.owned ++ f.locals)

abbrev pub frame_of : Table → List ℕ → Fun → Frame
frame_of types sizes f =
    let s = slots_of f in
    record {
      types = types;
      sizes = sizes;
      locals = locals_of f;
      homes = homes_from s sizes zero zero (locals_of f);
      scratch = words_from s sizes zero (locals_of f);
      slot = first_free s;
    }

-- the home of a local
abbrev pub home_of : Frame → ℕ → Home
home_of b l = unwrap_or (slice_get b.homes l) (Words 0)

-- the slot of a local that stands in one
abbrev pub slot_in : Home → ℕ
slot_in (Words w) = zero
slot_in (Slot slot first count) = slot

abbrev pub slot_of : Frame → ℕ → ℕ
slot_of b l = slot_in (home_of b l)

-- the first word of a local that stands in words
abbrev pub word_in : Home → ℕ
word_in (Words w) = w
word_in (Slot slot first count) = zero

abbrev pub word_of : Frame → ℕ → ℕ
word_of b l = word_in (home_of b l)
