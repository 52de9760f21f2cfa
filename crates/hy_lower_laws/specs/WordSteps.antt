-- Statements on whole locals of one word, numbers of type Int and truth values, and of none.
use Rattle.std.specs.Prelude.{◌≡◌, ◌⊎◌, ℕ, List, [], ◌∷◌, Option, Some, None, ℤ, pos, slice_get}
use Rattle.hy_base.specs.declared.numbers.IntegerType.TheVariants.{Int}
use Rattle.hy_core.specs.Plain.{Place, Operator, Add, Sub, Mul, Div, Rem, Neg, Convert, Eq, Lt, Le, Not, NewArray, Push, Pop, Swap, Count, FreeArray, Print}
use Rattle.hy_core.specs.Plain.{Read, Check, Done, Then, Stmt, Built, Set, Lend, Close, Move, Copy, Drop, Call, Project, Slide, Yield, If, While, Break}
use Rattle.hy_core.specs.Plain.{Continue, Leave}
use Rattle.hy_core.specs.Memory.{lending}
use Rattle.hy_core.specs.Memory as memory
use Rattle.hy_core.specs.Runs.{interpret}
use Rattle.hy_core.specs.Control.{Control, GivesUp, Setting, Work, Idle, Rest, Loop, Test, Drops, Form, Numbers, Flags, Tuples, Products, form}
use Rattle.hy_core.specs.Statements.{interaction}
use Rattle.hy_object.specs.declared.object.Object.{Object}
use Rattle.hy_object.specs.States.{State, nth}
use Rattle.hy_lower.specs.Frames.{Frame}
use Rattle.hy_lower_laws.specs.Standing.{At}
use Rattle.hy_lower_laws.specs.Following.{Body, IsBody, IsWord, IsNothing, Linked, Follows, mach}

abbrev pub whole_local : ℕ → Place
whole_local l = record { local = l; steps = [] }

-- an operation on two locals, whose result of that form goes to a third
pub record TwoWords (b : Frame) (result : Form) (to : Option Place) (from : List Place) : Type 0 where
  pub first : ℕ
  pub second : ℕ
  pub target : ℕ
  pub first_word : ℕ
  pub second_word : ℕ
  pub target_word : ℕ
  pub is_first : IsWord b first first_word
  pub is_second : IsWord b second second_word
  pub is_target : IsWord b target target_word
  pub kind : form b.types is_target.type ≡ result
  pub is_to : to ≡ Some (whole_local target)
  pub is_from : from ≡ whole_local first ∷ (whole_local second ∷ [])

-- the place is a local of one word
pub record OneWord (b : Frame) (p : Place) : Type 0 where
  pub local : ℕ
  pub word : ℕ
  pub is_word : IsWord b local word
  pub is_place : p ≡ whole_local local

-- the place is a local without words
pub record NoWords (b : Frame) (p : Place) : Type 0 where
  pub local : ℕ
  pub word : ℕ
  pub is_nothing : IsNothing b local word
  pub is_place : p ≡ whole_local local

-- a tuple or product without parts
abbrev pub HasNoParts : Form → Type 0
HasNoParts f = (f ≡ Tuples []) ⊎ ((d : ℕ) × (f ≡ Products d []))

abbrev pub One : {A : Type 0} → List A → (A → Type 0) → Type 0
One [] P = ⊥
One (x ∷ []) P = P x
One (x ∷ (y ∷ ys)) P = ⊥

-- a number for a local with numbers, and 0 or 1 for one with truth values
abbrev pub IsConstant : Form → ℤ → Type 0
IsConstant f n = (f ≡ Numbers Int) ⊎ ((f ≡ Flags) × ((n ≡ pos 0) ⊎ (n ≡ pos 1)))

abbrev pub IsWordBuilt : Frame → Operator → Option Place → List Place → List ℕ → Type 0
IsWordBuilt b Add to from spans = TwoWords b (Numbers Int) to from × One spans (λ s. Unit {0})
IsWordBuilt b Sub to from spans = TwoWords b (Numbers Int) to from × One spans (λ s. Unit {0})
IsWordBuilt b Mul to from spans = TwoWords b (Numbers Int) to from × One spans (λ s. Unit {0})
IsWordBuilt b Div to from spans = ⊥
IsWordBuilt b Rem to from spans = ⊥
IsWordBuilt b Neg to from spans = ⊥
IsWordBuilt b (Convert t) to from spans = ⊥
IsWordBuilt b Eq to from spans = ⊥
IsWordBuilt b Lt to from spans = TwoWords b Flags to from
IsWordBuilt b Le to from spans = TwoWords b Flags to from
IsWordBuilt b Not to from spans = ⊥
IsWordBuilt b NewArray to from spans = ⊥
IsWordBuilt b Push to from spans = ⊥
IsWordBuilt b Pop to from spans = ⊥
IsWordBuilt b Swap to from spans = ⊥
IsWordBuilt b Count to from spans = ⊥
IsWordBuilt b FreeArray to from spans = ⊥
IsWordBuilt b Print to from spans = (to ≡ None) × One from (OneWord b)
IsWordBuilt b Read to from spans = ⊥
IsWordBuilt b Check to from spans = ⊥

-- a statement of the forms that are followed so far
abbrev pub IsWordStmt : Frame → Stmt → Type 0
IsWordStmt b (Built operator to from spans) = IsWordBuilt b operator to from spans
IsWordStmt b (Set p n) = ((w : OneWord b p) × IsConstant (form b.types w.is_word.type) n) ⊎ ((w : NoWords b p) × HasNoParts (form b.types w.is_nothing.type))
IsWordStmt b (Lend to p w) = ⊥
IsWordStmt b (Close l) = ⊥
IsWordStmt b (Move to from) = ⊥
IsWordStmt b (Copy to from) = ⊥
IsWordStmt b (Drop p) = OneWord b p ⊎ NoWords b p
IsWordStmt b (Call n lent owned to) = ⊥
IsWordStmt b (Project n lent owned to) = ⊥
IsWordStmt b (Slide l) = ⊥
IsWordStmt b (Yield l) = ⊥
IsWordStmt b (If on x y) = (w : ℕ) × IsWord b on w
IsWordStmt b (While head on body) = Unit {0}
IsWordStmt b Break = Unit {0}
IsWordStmt b Continue = Unit {0}
IsWordStmt b (Leave from) = NoWords b from

-- what is left of the body begins with such a statement, or is at the start or the test of a loop
abbrev pub IsWordWork : Frame → Work → Type 0
IsWordWork b Idle = ⊥
IsWordWork b (Rest Done w) = Unit {0}
IsWordWork b (Rest (Then s ss) w) = IsWordStmt b s
IsWordWork b (Loop head on body w) = Unit {0}
IsWordWork b (Test head on body w) = (u : ℕ) × IsWord b on u
IsWordWork b (Drops ts w) = ⊥

-- the spans of the object are those of the core
abbrev pub SameSpans : Object → Setting → Type 0
SameSpans o p = (i : ℕ) → nth o.spans i ≡ slice_get p.core.spans i

-- Where a checked core does such a statement, the machine comes from the state that is built of the core's to that of the core's next
-- state; or both runs end, in one way; or the core halts as a ready core never does.
abbrev pub WordStepsFollow : Type 0
WordStepsFollow = (o : Object) (y : Body) → IsBody y → (p : Setting) → p.stage ≡ GivesUp → SameSpans o p → p.core.types ≡ y.frame.types
    → (c : Control) (s : memory.Cells) (pc : ℕ) (x : State) → Linked y c s x → At y.frame y.object.code pc c.now.work → IsWordWork y.frame c.now.work
    → Follows o y (interpret lending (interaction p c) s) (mach c pc x)
