-- Where the code of what is left of a body stands.
use Rattle.std.proofs.Common.{◌≡◌, ℕ, zero, suc, ◌+◌, ◌<◌, ◌≤◌, List, [], ◌∷◌, ◌++◌, length, Some, refl, sym, subst, arith}
use Rattle.hy_core.specs.Plain.{Stmts, Then, Stmt, If, While}
use Rattle.hy_core.specs.Control.{Work, Idle, Rest, Loop, Test, Drops}
use Rattle.hy_core.specs.Statements.{broken, continued}
use Rattle.hy_object.specs.declared.instr.Instr.{Instr}
use Rattle.hy_object.specs.declared.instr.Instr.TheVariants as instr
use Rattle.hy_object.specs.States.{nth}
use Rattle.hy_lower.specs.Frames.{Frame}
use Rattle.hy_lower.specs.Segments.{test}
use Rattle.hy_lower.specs.Code.{code_all, code_of, length_all, length_of}
pub use Rattle.hy_lower_laws.specs.Standing.{HasAt, Hops, Goes}
use Rattle.hy_lower_laws.specs.Standing as standing
use Rattle.hy_lower_laws.proofs.Lengths.{all_are, one_is}

pub has_front : (code : List Instr) (pc : ℕ) (xs ys : List Instr) → HasAt code pc (xs ++ ys) → HasAt code pc xs
has_front code pc [] ys h = tt
has_front code pc (x ∷ xs) ys h = (h.0, has_front code (suc pc) xs ys h.1)

pub has_back : (code : List Instr) (pc n : ℕ) (xs ys : List Instr) → length xs ≡ n → HasAt code pc (xs ++ ys) → HasAt code (pc + n) ys
has_back code pc n [] ys e h = let q : pc ≡ pc + n = omega (arith, e) in subst (λ k. HasAt code k ys) q h
has_back code pc zero (x ∷ xs) ys e h = absurd (cc)
has_back code pc (suc n) (x ∷ xs) ys e h =
    let f : length xs ≡ n = omega (arith, e) in
    let q : suc pc + n ≡ pc + suc n = omega arith in
    subst (λ k. HasAt code k ys) q (has_back code (suc pc) n xs ys f h.1)

pub stay : (code : List Instr) (pc t : ℕ) → pc ≡ t → Goes code pc t
stay code pc t e = record { count = zero; hops = e }

pub hop : (code : List Instr) (pc q t : ℕ) → nth code pc ≡ Some (instr.Jump q) → pc < q → Goes code q t → Goes code pc t
hop code pc q t e l g = record { count = suc g.count; hops = (q, e, l, g.hops) }

pub goes_from : (code : List Instr) (pc q t : ℕ) → pc ≡ q → Goes code pc t → Goes code q t
goes_from code pc q t e g = subst (λ n. Goes code n t) e g

module _ (b : Frame) (code : List Instr) where
  abbrev pub At : ℕ → Work → Type 0
  At pc w = standing.At b code pc w

  abbrev pub Inside : (upto after again : ℕ) → Work → Type 0
  Inside upto after again w = standing.Inside b code upto after again w

  abbrev pub LoopAt : (pc after : ℕ) (head : Stmts) (on : ℕ) (body : Stmts) (Inside : (upto after again : ℕ) → Type 0) (Next : ℕ → Type 0) → Type 0
  LoopAt pc after head on body Inside Next = standing.LoopAt b code pc after head on body Inside Next

  abbrev pub StmtAt : ℕ → Stmt → Work → Type 0
  StmtAt pc s w = standing.StmtAt b code pc s w

  pub inside_less : (upto least after again : ℕ) (w : Work) → least ≤ upto → Inside upto after again w → Inside least after again w
  inside_less upto least after again Idle l h = tt
  inside_less upto least after again (Rest ss w) l h = inside_less upto least after again w l h
  inside_less upto least after again (Loop head on body w) l h = let q = h.0 in (omega arith, h.1)
  inside_less upto least after again (Test head on body w) l h = tt
  inside_less upto least after again (Drops ts w) l h = tt

  pub first_at : (pc : ℕ) (s : Stmt) (ss : Stmts) (w : Work) → At pc (Rest (Then s ss) w) → StmtAt pc s (Rest ss w)
  first_at pc s ss w r =
      let n = length_of b s in
      let e : pc + (n + length_all b ss) ≡ pc + n + length_all b ss = omega arith in
      let inside = subst (λ k. Inside k r.after r.again w) e r.inside in
      record {
        after = r.after;
        again = r.again;
        has = has_front code pc (code_of b pc r.after r.again s) (code_all b (pc + n) r.after r.again ss) r.has;
        inside = inside_less (pc + n + length_all b ss) (pc + n) r.after r.again w (omega arith) inside;
        next = record {
          after = r.after;
          again = r.again;
          has = has_back code pc n (code_of b pc r.after r.again s) (code_all b (pc + n) r.after r.again ss) (one_is b pc r.after r.again s) r.has;
          inside = inside;
          end = r.end;
          goes = goes_from code (pc + (n + length_all b ss)) (pc + n + length_all b ss) r.end e r.goes;
          next = r.next;
        };
      }

  -- CHOICES

  -- the test, and a jump to the second part
  pub choice_test : (pc on : ℕ) (x y : Stmts) (w : Work) → StmtAt pc (If on x y) w
      → HasAt code pc (test b on ++ instr.JumpUnless b.scratch (pc + 2 + length_all b x + 1) ∷ [])
  choice_test pc on x y w r = (r.has.0, (r.has.1.0, tt))

  pub first_part : (pc on : ℕ) (x y : Stmts) (w : Work) → StmtAt pc (If on x y) w → At (pc + 2) (Rest x w)
  first_part pc on x y w r =
      let n = length_all b x in
      let m = length_all b y in
      let xs = code_all b (pc + 2) r.after r.again x in
      let ys = code_all b (pc + 2 + n + 1) r.after r.again y in
      let jump = instr.Jump (pc + 2 + n + 1 + m) in
      let e : suc (suc pc) ≡ pc + 2 = omega arith in
      let parts = subst (λ k. HasAt code k (xs ++ jump ∷ ys)) e r.has.1.1 in
      let over = has_back code (pc + 2) n xs (jump ∷ ys) (all_are b (pc + 2) r.after r.again x) parts in
      let ends : pc + 2 + n + 1 + m ≡ pc + (n + m + 3) = omega arith in
      record {
        after = r.after;
        again = r.again;
        has = has_front code (pc + 2) xs (jump ∷ ys) parts;
        inside = inside_less (pc + (n + m + 3)) (pc + 2 + n) r.after r.again w (omega arith) r.inside;
        end = pc + (n + m + 3);
        goes = hop code (pc + 2 + n) (pc + 2 + n + 1 + m) (pc + (n + m + 3)) over.0 (omega arith) (stay code _ _ ends);
        next = r.next;
      }

  pub second_part : (pc on : ℕ) (x y : Stmts) (w : Work) → StmtAt pc (If on x y) w → At (pc + 2 + length_all b x + 1) (Rest y w)
  second_part pc on x y w r =
      let n = length_all b x in
      let m = length_all b y in
      let xs = code_all b (pc + 2) r.after r.again x in
      let ys = code_all b (pc + 2 + n + 1) r.after r.again y in
      let jump = instr.Jump (pc + 2 + n + 1 + m) in
      let e : suc (suc pc) ≡ pc + 2 = omega arith in
      let parts = subst (λ k. HasAt code k (xs ++ jump ∷ ys)) e r.has.1.1 in
      let over = has_back code (pc + 2) n xs (jump ∷ ys) (all_are b (pc + 2) r.after r.again x) parts in
      let q : suc (pc + 2 + n) ≡ pc + 2 + n + 1 = omega arith in
      let ends : pc + 2 + n + 1 + m ≡ pc + (n + m + 3) = omega arith in
      record {
        after = r.after;
        again = r.again;
        has = subst (λ k. HasAt code k ys) q over.1;
        inside = subst (λ k. Inside k r.after r.again w) (sym ends) r.inside;
        end = pc + (n + m + 3);
        goes = stay code _ _ ends;
        next = r.next;
      }

  -- LOOPS

  pub loop_jump : (pc on : ℕ) (head body : Stmts) (w : Work) → StmtAt pc (While head on body) w → nth code pc ≡ Some (instr.Jump (pc + 1 + length_all b body))
  loop_jump pc on head body w r = r.has.0

  pub loop_at : (pc on : ℕ) (head body : Stmts) (w : Work) → StmtAt pc (While head on body) w → At (pc + 1 + length_all b body) (Loop head on body w)
  loop_at pc on head body w r =
      let n = length_all b body in
      let m = length_all b head in
      let start = pc + 1 + n in
      let after = start + m + 2 in
      let xs = code_all b (pc + 1) after start body in
      let ys = code_all b start r.after r.again head in
      let tests = test b on ++ instr.JumpIf b.scratch (pc + 1) ∷ [] in
      let e : suc pc ≡ pc + 1 = omega arith in
      let parts = subst (λ k. HasAt code k (xs ++ (ys ++ tests))) e r.has.1 in
      let over = has_back code (pc + 1) n xs (ys ++ tests) (all_are b (pc + 1) after start body) parts in
      let ends : after ≡ pc + (n + m + 3) = omega arith in (
        after,
        record {
          first = pc + 1;
          before = refl;
          has_body = has_front code (pc + 1) xs (ys ++ tests) parts;
          out = r.after;
          over = r.again;
          has_head = has_front code start ys tests over;
          inside = inside_less (pc + (n + m + 3)) (start + m) r.after r.again w (omega arith) r.inside;
          has_test = has_back code start m ys tests (all_are b start r.after r.again head) over;
          is_after = refl;
          end = pc + (n + m + 3);
          goes = stay code _ _ ends;
          next = r.next;
        },
      )

  pub head_at : (pc on : ℕ) (head body : Stmts) (w : Work) → At pc (Loop head on body w) → At pc (Rest head (Test head on body w))
  head_at pc on head body w (after, l) = record {
    after = l.out;
    again = l.over;
    has = l.has_head;
    inside = tt;
    end = pc + length_all b head;
    goes = stay code _ _ refl;
    next = (pc, after, refl, l);
  }

  -- the body stands before the head, and comes to it
  pub pass_at : (start after on : ℕ) (head body : Stmts) (w : Work)
      (l : LoopAt start after head on body (λ upto after again. Inside upto after again w) (λ t. At t w)) → At l.first (Rest body (Loop head on body w))
  pass_at start after on head body w l =
      let e = l.before in
      record {
        after = after;
        again = start;
        has = l.has_body;
        inside = (omega arith, l);
        end = start;
        goes = stay code _ _ l.before;
        next = (after, l);
      }

  -- where a `Break` and a `Continue` go
  pub break_at : (upto after again : ℕ) (w v : Work) → broken w ≡ Some v → Inside upto after again w
      → (end : ℕ) × (upto < after) × Goes code after end × At end v
  break_at upto after again Idle v e h = absurd (cc)
  break_at upto after again (Rest ss w) v e h = break_at upto after again w v e h
  break_at upto after again (Loop head on body w) v e (le, l) =
      let same : w ≡ v = cc in
      let q = l.is_after in
      (l.end, omega arith, l.goes, subst (λ w. At l.end w) same l.next)
  break_at upto after again (Test head on body w) v e h = absurd (cc)
  break_at upto after again (Drops ts w) v e h = absurd (cc)

  pub continue_at : (upto after again : ℕ) (w v : Work) → continued w ≡ Some v → Inside upto after again w → (upto ≤ again) × At again v
  continue_at upto after again Idle v e h = absurd (cc)
  continue_at upto after again (Rest ss w) v e h = continue_at upto after again w v e h
  continue_at upto after again (Loop head on body w) v e (le, l) =
      let same : Loop head on body w ≡ v = cc in
      (le, subst (λ w. At again w) same (after, l))
  continue_at upto after again (Test head on body w) v e h = absurd (cc)
  continue_at upto after again (Drops ts w) v e h = absurd (cc)
