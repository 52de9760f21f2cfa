-- The machine goes over the beginnings of programs, and over nothing else.
use Rattle.std.proofs.Common.{◌≡◌, ◌-◌, ◌+◌, ℕ, suc, Option, Some, None, Ok, Err, List, [], ◌∷◌, ◌++◌, length, refl, ap, ◌∙◌, arith}
use Rattle.hy_lexer.specs.declared.token.Token.{Token}
use Rattle.hy_tree.specs.Tree as T
use Rattle.hy_grammar.specs.Completion.{completion}
use Rattle.hy_grammar.specs.Machine.{step, start as initial, run}
use Rattle.hy_grammar.specs.Parses.{Begins, reached_from, reached}
use Rattle.hy_grammar.specs.Stack.{State}
use Rattle.hy_grammar_laws.proofs.Runs.{moves, stops}
use Rattle.hy_grammar_laws.proofs.Completes.{completes}
use Rattle.hy_grammar_laws.proofs.CompleteDecls.{complete}
use Rattle.hy_grammar_laws.proofs.SoundRun.{sound}

module _ (more : List Token) (total : ℕ) where
  -- how a run goes that begins with these tokens
  Runs : State → List Token → Option State → Type 0
  Runs s ts (Some end) = run total s (ts ++ more) ≡ run total end more
  Runs s ts None = (left : ℕ) × (run total s (ts ++ more) ≡ Err left)

  steps_on : (s s' : State) (t : Token) (ts : List Token) (end : Option State) → step s t (total - suc (length (ts ++ more))) ≡ Some s' → Runs s' ts end
      → Runs s (t ∷ ts) end
  unfolding Runs
  steps_on s s' t ts (Some end) h r = moves total s s' t (ts ++ more) h ∙ r
  steps_on s s' t ts None h r = (r.0, moves total s s' t (ts ++ more) h ∙ r.1)

  steps_off : (s : State) (t : Token) (ts : List Token) → step s t (total - suc (length (ts ++ more))) ≡ None → Runs s (t ∷ ts) None
  unfolding Runs
  steps_off s t ts h = (suc (length (ts ++ more)), stops total s t (ts ++ more) h)

  place_is : (n a b : ℕ) → total ≡ n + b → b ≡ suc a → total - suc a ≡ n
  place_is n a b h g = omega (arith, h, g)

  next_is : (n a b : ℕ) → total ≡ n + b → b ≡ suc a → total ≡ suc n + a
  next_is n a b h g = omega (arith, h, g)

  runs_from : (n : ℕ) (s : State) (t : Token) (ts : List Token) (o : Option State) → step s t n ≡ o → total - suc (length (ts ++ more)) ≡ n
      → ((s' : State) → Runs s' ts (reached (suc n) s' ts))
      → Runs s (t ∷ ts) (reached_from o (λ s'. reached (suc n) s' ts))
  runs_from n s t ts None h place f = steps_off s t ts (ap (step s t) place ∙ h)
  runs_from n s t ts (Some s') h place f = steps_on s s' t ts (reached (suc n) s' ts) (ap (step s t) place ∙ h) (f s')

  runs : (ts : List Token) (n : ℕ) (s : State) → total ≡ n + length (ts ++ more) → Runs s ts (reached n s ts)
  unfolding reached Runs
  runs [] n s q = refl
  runs (t ∷ ts) n s q =
      runs_from n s t ts (step s t n) refl (place_is n (length (ts ++ more)) (length (t ∷ ts ++ more)) q refl)
      (λ s'. runs ts (suc n) s' (next_is n (length (ts ++ more)) (length (t ∷ ts ++ more)) q refl))

  runs_to : (ts : List Token) (s end : State) (o : Option State) → o ≡ Some end → Runs s ts o → run total s (ts ++ more) ≡ run total end more
  unfolding Runs
  runs_to ts s end (Some there) h r = let e : there ≡ end = cc in r ∙ ap (λ z. run total z more) e
  runs_to ts s end None h r = let q : ⊥ = cc in absurd q

  runs_out : (ts : List Token) (s : State) (o : Option State) (tree : T.Program) → o ≡ None → Runs s ts o → run total s (ts ++ more) ≡ Ok tree → ⊥
  unfolding Runs
  runs_out ts s (Some there) tree h r g = let q : ⊥ = cc in q
  runs_out ts s None tree h r g = let e = r.1 in let q : ⊥ = cc in q

none_before : (n : ℕ) → n ≡ 0 + n
none_before n = omega arith

-- what the machine goes over begins a program
pub reached_begins : (tokens : List Token) (s : State) → reached 0 initial tokens ≡ Some s → Begins tokens
reached_begins tokens s h =
    let more = completion s in
    let total = length (tokens ++ more) in
    let a = completes s total in (
      more,
      a.0,
      sound (tokens ++ more) a.0 (runs_to more total tokens initial s (reached 0 initial tokens) h
          (runs more total tokens 0 initial (none_before total)) ∙ a.1),
    )

-- and what it stops within begins none
pub refused_begins : (tokens : List Token) → reached 0 initial tokens ≡ None → Begins tokens → ⊥
refused_begins tokens h b =
    let total = length (tokens ++ b.0) in
    runs_out b.0 total tokens initial (reached 0 initial tokens) b.1 h (runs b.0 total tokens 0 initial (none_before total)) (complete (tokens ++ b.0) b.1 b.2)
