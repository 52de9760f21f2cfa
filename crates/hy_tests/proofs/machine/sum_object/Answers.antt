use Rattle.std.proofs.Common.{◌≡◌, ℕ, zero, suc, List, [], ◌∷◌, Some, pos, refl, sym, ap, ◌∙◌, subst, lit<, lit≤}
use Rattle.std.proofs.lemmas.Result.{IfOk-weaker}
use Rattle.hy_object.specs.declared.object.Fun.{Fun}
use Rattle.hy_object.specs.declared.object.Object.{Object}
use Rattle.hy_object.specs.declared.instr.Instr.{Instr}
use Rattle.hy_object.specs.declared.instr.Instr.TheVariants as instr
use Rattle.hy_object.specs.declared.instr.Shown.TheVariants as shown
use Rattle.hy_object.specs.Grammar.{IsInGrammar, IsFun}
use Rattle.hy_object.specs.Runs.{IsSafe}
use Rattle.hy_object.specs.States.{State, Ended, Stuck}
use Rattle.hy_object.specs.Steps.{begin, steps}
use Rattle.hy_object.proofs.OneEnd.{ended_stays}
use Rattle.hy_machine.specs.Built.{IsBuilt}
use Rattle.hy_tests.proofs.machine.sum_object.Goals as goal

abbrev sum_code : List Instr
sum_code = instr.Const 0 (pos 40) ∷ instr.Const 1 (pos 2) ∷ instr.Add 0 0 1 0 ∷ instr.Print 0 shown.Int ∷ instr.Return 0 ∷ []

abbrev sum : Object
sum = record {
  spans = record { from = 29; to = 34 } ∷ [];
  funs = record { accesses = 0; owned = 0; result = 0; words = 3; slots = 0; code = sum_code } ∷ [];
}

abbrev sum_main : Fun
sum_main = record { accesses = 0; owned = 0; result = 0; words = 3; slots = 0; code = sum_code }

main_fits : IsFun 1 1 sum_main
main_fits = record {
  accesses = lit≤ tt;
  owned = lit≤ tt;
  result = lit< tt;
  words = lit< tt;
  slots = lit< tt;
  places = lit< tt;
  instrs = (
    (lit≤ tt, (refl, tt)),
    (
      (lit≤ tt, (refl, tt)),
      (
        (lit≤ tt, (lit≤ tt, (lit≤ tt, (lit< tt, tt)))),
        (
          (lit≤ tt, (lit< tt, tt)),
          ((lit≤ tt, tt), tt),
        ),
      ),
    ),
  );
  ends = refl;
}

in_grammar : IsInGrammar sum
in_grammar = record {
  span_count = lit< tt;
  spans = (record { in_order = lit≤ tt; to = lit< tt }, tt);
  fun_count = lit< tt;
  funs = (main_fits, tt);
  main = record { accesses = refl; owned = refl; result = refl };
}

is_built : IsBuilt sum
is_built = record { main = sum_main; only = refl; code = (tt, (tt, (tt, (tt, (tt, tt))))) }

-- an ended run is not stuck
not_stuck : (j : ℕ) (s : State) (e : _) (why : _) (at : _) → s.stop ≡ Some (Ended e) → (steps sum j s).stop ≡ Some (Stuck why at) → ⊥
not_stuck j s e why at h stuck = let same : Some (Ended e) ≡ Some (Stuck why at) = sym h ∙ ap (λ t. t.stop) (sym (ended_stays sum j s (Ended e) h))
    ∙ stuck in cc

is_safe : IsSafe sum
is_safe input cut zero k why at h = not_stuck k (begin sum input cut zero) _ why at refl h
is_safe input cut (suc n) zero why at h = cc
is_safe input cut (suc n) (suc zero) why at h = cc
is_safe input cut (suc n) (suc (suc zero)) why at h = cc
is_safe input cut (suc n) (suc (suc (suc zero))) why at h = cc
is_safe input cut (suc n) (suc (suc (suc (suc zero)))) why at h = cc
is_safe input cut (suc n) (suc (suc (suc (suc (suc j))))) why at h = not_stuck j (steps sum 5 (begin sum input cut (suc n))) _ why at refl h

pub returns-clause-grammar : goal.returns-clause-grammar
returns-clause-grammar c =
    IfOk-weaker c.object_of.result (λ o. o ≡ sum) (λ o. IsInGrammar o) (λ o e. subst (λ o. IsInGrammar o) (sym e) in_grammar) c.object_of.ensures

pub returns-clause-built : goal.returns-clause-built
returns-clause-built c = IfOk-weaker c.object_of.result (λ o. o ≡ sum) (λ o. IsBuilt o) (λ o e. subst (λ o. IsBuilt o) (sym e) is_built) c.object_of.ensures

pub returns-clause-safe : goal.returns-clause-safe
returns-clause-safe c = IfOk-weaker c.object_of.result (λ o. o ≡ sum) (λ o. IsSafe o) (λ o e. subst (λ o. IsSafe o) (sym e) is_safe) c.object_of.ensures
