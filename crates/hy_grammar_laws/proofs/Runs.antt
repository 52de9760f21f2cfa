-- Whole runs of the machine, step by step.
use Rattle.std.proofs.Common.{◌≡◌, ◌-◌, ℕ, suc, Some, None, Ok, Err, List, [], ◌∷◌, length, ap}
use Rattle.hy_lexer.specs.declared.token.Token.{Token}
use Rattle.hy_tree.specs.Tree as T
use Rattle.hy_grammar.specs.Machine.{step, finish, accepted, go, run}
use Rattle.hy_grammar.specs.Stack.{State}

module _ (total : ℕ) where
  pub moves : (s s' : State) (t : Token) (ts : List Token) → step s t (total - suc (length ts)) ≡ Some s' → run total s (t ∷ ts) ≡ run total s' ts
  unfolding run
  moves s s' t ts h = ap (λ o. go o (λ x. run total x ts) (suc (length ts))) h

  pub stops : (s : State) (t : Token) (ts : List Token) → step s t (total - suc (length ts)) ≡ None → run total s (t ∷ ts) ≡ Err (suc (length ts))
  unfolding run
  stops s t ts h = ap (λ o. go o (λ x. run total x ts) (suc (length ts))) h

  -- states that go on alike at a token
  pub alike : (s s' : State) (t : Token) (ts : List Token) → step s t (total - suc (length ts)) ≡ step s' t (total - suc (length ts))
      → run total s (t ∷ ts) ≡ run total s' (t ∷ ts)
  unfolding run
  alike s s' t ts h = ap (λ o. go o (λ x. run total x ts) (suc (length ts))) h

  pub ends : (s : State) (tree : T.Program) → finish s total ≡ Some tree → run total s [] ≡ Ok tree
  unfolding run
  ends s tree h = ap accepted h
