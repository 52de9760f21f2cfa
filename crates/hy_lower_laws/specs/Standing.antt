-- Where the code of what is left of a body stands.
use Rattle.std.specs.Prelude.{◌≡◌, ℕ, zero, suc, ◌+◌, ◌<◌, ◌≤◌, List, [], ◌∷◌, ◌++◌, Some}
use Rattle.hy_core.specs.Plain.{Stmts, Stmt}
use Rattle.hy_core.specs.Control.{Work, Idle, Rest, Loop, Test, Drops}
use Rattle.hy_object.specs.declared.instr.Instr.{Instr}
use Rattle.hy_object.specs.declared.instr.Instr.TheVariants as instr
use Rattle.hy_object.specs.States.{nth}
use Rattle.hy_lower.specs.Frames.{Frame}
use Rattle.hy_lower.specs.Segments.{test}
use Rattle.hy_lower.specs.Code.{code_all, code_of, length_all, length_of}

-- these instructions stand at a place
abbrev pub HasAt : List Instr → ℕ → List Instr → Type 0
HasAt code pc [] = Unit {0}
HasAt code pc (i ∷ is) = (nth code pc ≡ Some i) × HasAt code (suc pc) is

-- so many jumps, each to a place further on
abbrev pub Hops : List Instr → ℕ → ℕ → ℕ → Type 0
Hops code zero pc t = pc ≡ t
Hops code (suc n) pc t = (q : ℕ) × (nth code pc ≡ Some (instr.Jump q)) × (pc < q) × Hops code n q t

pub record Goes (code : List Instr) (pc t : ℕ) : Type 0 where
  pub count : ℕ
  pub hops : Hops code count pc t

module _ (b : Frame) (code : List Instr) where
  -- Statements stand at a place: where the innermost loop goes on is known up to the place after them, and the machine goes on
  -- from there to what follows.
  pub record RestAt (pc : ℕ) (ss : Stmts) (Inside : (upto after again : ℕ) → Type 0) (Next : ℕ → Type 0) : Type 0 where
    pub after : ℕ
    pub again : ℕ
    pub has : HasAt code pc (code_all b pc after again ss)
    pub inside : Inside (pc + length_all b ss) after again
    pub end : ℕ
    pub goes : Goes code (pc + length_all b ss) end
    pub next : Next end

  -- A loop whose head stands at a place, and which ends at another: the body before the head, and the test after it.
  pub record LoopAt (pc after : ℕ) (head : Stmts) (on : ℕ) (body : Stmts) (Inside : (upto after again : ℕ) → Type 0) (Next : ℕ → Type 0) : Type 0 where
    pub first : ℕ
    pub before : first + length_all b body ≡ pc
    pub has_body : HasAt code first (code_all b first after pc body)
    pub out : ℕ
    pub over : ℕ
    pub has_head : HasAt code pc (code_all b pc out over head)
    pub inside : Inside (pc + length_all b head) out over
    pub has_test : HasAt code (pc + length_all b head) (test b on ++ instr.JumpIf b.scratch first ∷ [])
    pub is_after : pc + length_all b head + 2 ≡ after
    pub end : ℕ
    pub goes : Goes code after end
    pub next : Next end

  -- what is left of a body stands as code from a place on; and where the innermost loop around it goes on, from places before one
  abbrev mutual
    pub At : ℕ → Work → Type 0
    At pc Idle = Unit {0}
    At pc (Rest ss w) = RestAt pc ss (λ upto after again. Inside upto after again w) (λ t. At t w)
    At pc (Loop head on body w) = (after : ℕ) × LoopAt pc after head on body (λ upto after again. Inside upto after again w) (λ t. At t w)
    At pc (Test head on body w) =
        (start after : ℕ) × (start + length_all b head ≡ pc) × LoopAt start after head on body (λ upto after again. Inside upto after again w) (λ t. At t w)
    At pc (Drops ts w) = ⊥

    pub Inside : (upto after again : ℕ) → Work → Type 0
    Inside upto after again Idle = Unit {0}
    Inside upto after again (Rest ss w) = Inside upto after again w
    Inside upto after again (Loop head on body w) =
        (upto ≤ again) × LoopAt again after head on body (λ upto after again. Inside upto after again w) (λ t. At t w)
    Inside upto after again (Test head on body w) = Unit {0}
    Inside upto after again (Drops ts w) = Unit {0}

  -- a statement stands at a place, and what follows after it
  pub record StmtAt (pc : ℕ) (s : Stmt) (w : Work) : Type 0 where
    pub after : ℕ
    pub again : ℕ
    pub has : HasAt code pc (code_of b pc after again s)
    pub inside : Inside (pc + length_of b s) after again w
    pub next : At (pc + length_of b s) w
