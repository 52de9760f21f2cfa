-- What is known of the instruction that the machine is about to do.
use Rattle.std.proofs.Common.{◌≡◌, ◌<◌, ◌≤◌, ◌+◌, ◌-◌, ◌^◌, ℕ, zero, suc, Bool, List, [], ◌∷◌, length, Some, None}
use Rattle.std.proofs.Common.{slice_get, refl, sym, ap, subst, ◌∙◌, arith}
use Rattle.std.specs.List.{AllByRecursion}
use Rattle.hy_base.specs.declared.run.Counts.{Counts}
use Rattle.hy_object.specs.declared.instr.Instr.{Instr}
use Rattle.hy_object.specs.declared.object.Fun.{Fun}
use Rattle.hy_object.specs.declared.object.Object.{Object}
use Rattle.hy_object.specs.Grammar.{IsFun, IsInGrammar, IsInstr, bounds_of}
use Rattle.hy_object.specs.States.{State, nth}
use Rattle.hy_object.specs.Steps.{begin, fun_of, main_of}
use Rattle.hy_store.specs.Calls.{no_ghosts}
use Rattle.hy_store.specs.Represents.{RepresentsSome, Represents}
use Rattle.hy_store.proofs.Rows.{nth_get, nth_in}
use Rattle.hy_checked.specs.declared.machine.Machine.{Machine}
use Rattle.hy_checked.specs.Simulates.{IsAt, IsRunningAs, SimulatesSome, Simulates}

pub some_same : {A : Type 0} (x y : A) → Some x ≡ Some y → x ≡ y
some_same x y h = cc

pub none_some : {A : Type 0} (x : A) → None ≡ Some x → ◌≡◌ {A = ℕ} 0 1
none_some x h = cc

-- what holds of all holds of each
pub in_all : {A : Type 0} (P : A → Type 0) (xs : List A) (i : ℕ) (x : A) → AllByRecursion P xs → nth xs i ≡ Some x → P x
in_all P [] i x all h = absurd (cc)
in_all P (y ∷ xs) zero x all h = subst P (some_same y x h) all.0
in_all P (y ∷ xs) (suc i) x all h = in_all P xs i x all.1 h

pub fun_in : (object : Object) (number : ℕ) (fun : Fun) → IsInGrammar object → nth object.funs number ≡ Some fun
    → IsFun (length object.spans) (length object.funs) fun
fun_in object number fun grammar h = in_all (IsFun (length object.spans) (length object.funs)) object.funs number fun grammar.funs h

-- the function of the running activation is the one that is found
pub same_fun : (object : Object) (m : Machine) (s : State) (fun : Fun) → Simulates object m s → nth object.funs m.number ≡ Some fun → s.now.fun ≡ fun
same_fun object m s fun st h = some_same s.now.fun fun (sym st.fun ∙ ap (nth object.funs) st.number ∙ h)

pub represents_fun : (object : Object) (m : Machine) (s : State) (fun : Fun) (st : Simulates object m s) → nth object.funs m.number ≡ Some fun
    → Represents st.ghosts m.store fun s
represents_fun object m s fun st h = subst (λ (f : Fun). Represents st.ghosts m.store f s) (same_fun object m s fun st h) st.represents

module _ (object : Object) (m : Machine) (fun : Fun) (i : Instr) (at : IsAt object m fun i) where
  pub of_grammar : IsFun (length object.spans) (length object.funs) fun
  of_grammar = fun_in object m.number fun at.grammar at.fun_is

  pub allowed : IsInstr (bounds_of (length object.spans) (length object.funs) fun) i
  allowed = in_all (IsInstr (bounds_of (length object.spans) (length object.funs) fun)) fun.code m.place i of_grammar.instrs at.instr_is

  pub represented : RepresentsSome m.store fun
  represented = (at.simulates.ghosts, at.state, represents_fun object m at.state fun at.simulates at.fun_is)

  pub place_fits : m.place + 1 < 2 ^ 32
  place_fits =
      let below : m.place < length fun.code = nth_in fun.code m.place i at.instr_is in
      let few : length fun.code < 2 ^ 32 = of_grammar.places in
      behind_fits m.place (length fun.code) below few
    where
      behind_fits : (place all : ℕ) → place < all → all < 2 ^ 32 → place + 1 < 2 ^ 32
      behind_fits place all a b = omega arith

  pub turns_fit : m.store.counts.turns < 2 ^ 64 - 1
  turns_fit = few m.store.counts.turns at.state.counts.turns at.state.left (ap (λ (c : Counts). c.turns) at.simulates.represents.counts) at.simulates.turns
    where
      few : (turns now left : ℕ) → turns ≡ now → now + left ≤ 2 ^ 32 → turns < 2 ^ 64 - 1
      few turns now left e h = omega arith

-- THE START

pub main_is : (object : Object) (main : Fun) → slice_get object.funs 0 ≡ Some main → main_of object ≡ main
main_is object main h = ap fun_of (sym (nth_get object.funs 0) ∙ h)

pub main_words : (object : Object) (main : Fun) → IsInGrammar object → slice_get object.funs 0 ≡ Some main → main.words < 2 ^ 32
main_words object main grammar h = (fun_in object 0 main grammar (sym (nth_get object.funs 0) ∙ h)).words

pub begun : (object : Object) (m : Machine) (main : Fun) (input : List ℕ) (cut : Bool) (n left : ℕ) → slice_get object.funs 0 ≡ Some main
    → Represents no_ghosts m.store main (begin object input cut (suc left)) → n ≡ suc left → n ≤ 2 ^ 32
    → m.number ≡ 0 → m.place ≡ 0 → m.left ≡ n - 1 → IsRunningAs m.acts m.running None (begin object input cut (suc left)).now
    → m.suspended_ids.items ≡ []
    → length m.acts ≡ 1 → Simulates object m (begin object input cut (suc left))
begun object m main input cut n left h represents e few number place all running suspended_ids size = record {
  ghosts = no_ghosts;
  represents = subst (λ (f : Fun). Represents no_ghosts m.store f (begin object input cut (suc left))) (sym (main_is object main h)) represents;
  fun = sym (nth_get object.funs 0) ∙ h ∙ ap (λ (f : Fun). Some f) (sym (main_is object main h));
  number = sym number;
  place = sym place;
  left = omega arith;
  turns = omega arith;
  going = refl;
  caller = None;
  running = running;
  callers = refl;
  suspended = suspended_ids;
  all = size;
  handed = tt;
  sliding = tt;
}

-- the running activation has a function
pub no_fun_missing : (object : Object) (m : Machine) → SimulatesSome object m → slice_get object.funs m.number ≡ None → ⊥
no_fun_missing object m (s, st) h = absurd (different s.now.fun (sym h ∙ nth_get object.funs m.number ∙ ap (nth object.funs) (sym st.number) ∙ st.fun))
  where
    different : (f : Fun) → None ≡ Some f → ⊥
    different f e = cc

pub is_at : (object : Object) (m : Machine) (fun : Fun) (i : Instr) → IsInGrammar object → SimulatesSome object m
    → slice_get object.funs m.number ≡ Some fun → slice_get fun.code m.place ≡ Some i → IsAt object m fun i
is_at object m fun i grammar simulates f c = record {
  grammar = grammar;
  state = simulates.0;
  simulates = simulates.1;
  fun_is = sym (nth_get object.funs m.number) ∙ f;
  instr_is = sym (nth_get fun.code m.place) ∙ c;
}
