-- The object of a tree does what the tree means.
use Rattle.std.proofs.Common.{◌≡◌, ℕ, zero, suc, ◌-◌, Option, Some, None, ◌<◌, Bool, true, false, ℤ, List, [], length, refl, sym, ap, ◌∙◌, subst, arith}
use Rattle.std.specs.Prelude.{◌+ℤ◌, count_by}
use Rattle.hy_base.specs.declared.position.Span.{Span}
use Rattle.hy_base.specs.declared.run.End.{End}
use Rattle.hy_base.specs.declared.run.End.TheVariants as end
use Rattle.hy_tree.specs.Tree as T
use Rattle.hy_tree.specs.Tree.{Program}
use Rattle.hy_meaning.specs.Forms.{first_of, links_of, printed, target_of, main_of}
use Rattle.hy_meaning.specs.Meaning as M
use Rattle.hy_meaning.specs.Meaning.{Env, Value, Outcome, Gives, Stops, Flow, Next, Over, then_do, and_then, fits, checked, operand_value, add_all}
use Rattle.hy_meaning.specs.Meaning.{eval, declare, put, write, print_value, exec, block, report, reported, start, mean}
use Rattle.hy_object.specs.Grammar.{IsInGrammar}
use Rattle.hy_object.specs.Runs.{Run, Runs, after, seen, frees, IsSafe, IsBalanced}
use Rattle.hy_object.specs.States.{State, Ended, Stuck}
use Rattle.hy_base.specs.Counted.{no_counts}
use Rattle.hy_object.proofs.OneEnd.{one_run}
use Rattle.hy_machine.specs.Built.{IsBuilt}
use Rattle.hy_machine.specs.Machine.{IsSeen}
use Rattle.hy_machine.proofs.Simulates.{runs}
use Rattle.hy_driver.specs.Compiled.{Agrees, IsCompiled}
use Rattle.hy_driver.specs.Lower.{lowered}
use Rattle.hy_driver.proofs.Leads.{done_run, run_of, first_state, main_runs}
use Rattle.hy_driver.proofs.Known.{IsNamed}

-- WHAT A RUN LEAVES ALONE

record Same (s t : M.State) : Type 0 where
  input : t.input ≡ s.input
  turns : t.turns ≡ s.turns
  opened : t.opened ≡ s.opened

-- no block takes a turn, input or a place, and none ends a run as done
abbrev Plain : M.State → Flow → Type 0
Plain s (Next env t) = Same s t
Plain s (Over e t) = Same s t × (e ≡ end.Done → ⊥)

abbrev PlainOutcome : M.State → Outcome → Type 0
PlainOutcome s (Gives v env t) = Same s t
PlainOutcome s (Stops e t) = Same s t × (e ≡ end.Done → ⊥)

plain_then : (s : M.State) (o : Outcome) (f : Value → Env → M.State → Flow) → PlainOutcome s o
    → ((v : Value) (env : Env) (t : M.State) → Same s t → Plain s (f v env t)) → Plain s (then_do o f)
plain_then s (Gives v env t) f h on = on v env t h
plain_then s (Stops e t) f h on = h

plain_and : (s : M.State) (q : Flow) (f : Env → M.State → Flow) → Plain s q → ((env : Env) (t : M.State) → Same s t → Plain s (f env t))
    → Plain s (and_then q f)
plain_and s (Next env t) f h on = on env t h
plain_and s (Over e t) f h on = h

plain_checked : (b : Bool) (n : ℤ) (span : Span) (env : Env) (s : M.State) (go : ℤ → Outcome) → PlainOutcome s (go n)
    → PlainOutcome s (checked b n span env s go)
plain_checked true n span env s go h = h
plain_checked false n span env s go h = (record { input = refl; turns = refl; opened = refl }, λ e. cc)

plain_more : (n : ℤ) (links : T.Links) (env : Env) (s : M.State) → PlainOutcome s (add_all n links env s)
plain_more n T.NoLink env s = record { input = refl; turns = refl; opened = refl }
plain_more n (T.ThenLink operator token operand at links) env s =
    let sum : ℤ = n +ℤ operand_value env operand in
    plain_checked (fits sum) sum at.span env s (λ n. add_all n links env s) (plain_more sum links env s)

plain_value : (value : T.Expr) (env : Env) (s : M.State) → PlainOutcome s (eval value env s)
plain_value value env s = plain_more (operand_value env (first_of value)) (links_of value) env s

plain_print : (value : Option T.Expr) (env : Env) (s : M.State) → Plain s (print_value value env s)
plain_print None env s = record { input = refl; turns = refl; opened = refl }
plain_print (Some value) env s = plain_then s (eval value env s) (λ v env s. Next env (write s (M.line_of v))) (plain_value value env s) (λ v env t h.
    record { input = h.input; turns = h.turns; opened = h.opened })

plain_stmt : (m : T.Stmt) (env : Env) (s : M.State) → Plain s (exec m env s)
plain_stmt (T.Binding introducer name written value at) env s =
    plain_then s (eval value env s) (λ v env s. Next (declare env name.text v) s) (plain_value value env s) (λ v env t h. h)
plain_stmt (T.Assign target value at) env s =
    plain_then s (eval value env s) (λ v env s. Next (put env (target_of target) v) s) (plain_value value env s) (λ v env t h. h)
plain_stmt (T.Evaluate e at) env s = plain_print (printed e) env s
plain_stmt m env s = record { input = refl; turns = refl; opened = refl }

plain_from : (s t : M.State) (q : Flow) → Same s t → Plain t q → Plain s q
plain_from s t (Next env u) h k = record { input = k.input ∙ h.input; turns = k.turns ∙ h.turns; opened = k.opened ∙ h.opened }
plain_from s t (Over e u) h k = let k' : Same t u = k.0 in
    (record { input = k'.input ∙ h.input; turns = k'.turns ∙ h.turns; opened = k'.opened ∙ h.opened }, k.1)

plain_block : (stmts : T.Stmts) (env : Env) (s : M.State) → Plain s (block stmts env s)
plain_block T.NoStmt env s = record { input = refl; turns = refl; opened = refl }
plain_block (T.ThenStmt m stmts) env s = plain_and s (exec m env s) (block stmts) (plain_stmt m env s) (λ env t h.
    plain_from s t (block stmts env t) h (plain_block stmts env t))

-- THE THEOREM

abbrev spent_run : List ℕ → Run
spent_run input = record { output = []; stop = Ended end.Spent; taken = length input - length input; counts = no_counts; journal = [] }

abbrev run_in : Program → List ℕ → ℕ → Run
run_in tree input zero = spent_run input
run_in tree input (suc left) = run_of input (block (main_of tree.decls) [] (first_state input left))

seen_in : (tree : Program) → IsNamed [] (main_of tree.decls) → (input : List ℕ) (n : ℕ) → IsSeen (lowered tree) input n (run_in tree input n)
seen_in tree named input zero = (zero, refl)
seen_in tree named input (suc left) = main_runs tree named input left

agrees_flow : (input : List ℕ) (left : ℕ) (q : Flow) → Plain (first_state input left) q → Agrees (run_of input q) (reported input (suc left) q)
agrees_flow input left (Next env t) h =
    let turns = h.turns in
    record { output = refl; stop = refl; taken = ap (λ left. length input - length left) (sym h.input); turns = omega arith; opened = sym h.opened }
agrees_flow input left (Over e t) h =
    let same : Same (first_state input left) t = h.0 in
    let turns = same.turns in
    record { output = refl; stop = refl; taken = ap (λ left. length input - length left) (sym same.input); turns = omega arith; opened = sym same.opened }

agrees : (tree : Program) (input : List ℕ) (cut : Bool) (n : ℕ) → Agrees (run_in tree input n) (mean tree input cut n)
agrees tree input cut zero = record { output = refl; stop = refl; taken = refl; turns = omega arith; opened = refl }
agrees tree input cut (suc left) =
    agrees_flow input left (block (main_of tree.decls) [] (first_state input left)) (plain_block (main_of tree.decls) [] (first_state input left))

ended_flow : (input : List ℕ) (q : Flow) → (e : End) × ((run_of input q).stop ≡ Ended e)
ended_flow input (Next env t) = (end.Done, refl)
ended_flow input (Over e t) = (e, refl)

ended : (tree : Program) (input : List ℕ) (n : ℕ) → (e : End) × ((run_in tree input n).stop ≡ Ended e)
ended tree input zero = (end.Spent, refl)
ended tree input (suc left) = ended_flow input (block (main_of tree.decls) [] (first_state input left))

-- it comes to its end in each run, so it is stuck in none
safe : (tree : Program) → ((input : List ℕ) (cut : Bool) (n : ℕ) → Runs (lowered tree) input cut n (run_in tree input n)) → IsSafe (lowered tree)
safe tree runs_in input cut n k why at h =
    let s : State = after (lowered tree) input cut n k in
    let stuck : Run = record { output = s.output; stop = Stuck why at; taken = length input - length s.input; counts = s.counts; journal = s.journal } in
    let same : run_in tree input n ≡ stuck = one_run (lowered tree) input cut n (run_in tree input n) stuck (runs_in input cut n) (k, ap (seen input s) h) in
    let e = ended tree input n in
    let both : Ended e.0 ≡ Stuck why at = sym e.1 ∙ ap (λ run. run.stop) same in
    cc

balanced_flow : (input : List ℕ) (s : M.State) (q : Flow) → Plain s q → (run_of input q).stop ≡ Ended end.Done → IsBalanced (run_of input q)
balanced_flow input s (Next env t) h done = record { freed = once; closed = refl }
  where
    once : (name : ℕ) → name < 1 → count_by (frees name) (done_run input t.output).journal ≡ 1
    once zero lt = refl
    once (suc name) lt = absurd (omega arith)
balanced_flow input s (Over e t) h done = absurd (h.1 (let same : Ended e ≡ Ended end.Done = done in cc))

balanced_in : (tree : Program) (input : List ℕ) (n : ℕ) → (run_in tree input n).stop ≡ Ended end.Done → IsBalanced (run_in tree input n)
balanced_in tree input zero done = let spent : Ended end.Spent ≡ Ended end.Done = done in cc
balanced_in tree input (suc left) done = balanced_flow input (first_state input left) (block (main_of tree.decls) [] (first_state input left))
    (plain_block (main_of tree.decls) [] (first_state input left)) done

pub compiles : (tree : Program) → IsNamed [] (main_of tree.decls) → IsInGrammar (lowered tree) → IsBuilt (lowered tree) → IsCompiled tree (lowered tree)
compiles tree named grammar built =
    let runs_in : (input : List ℕ) (cut : Bool) (n : ℕ) → Runs (lowered tree) input cut n (run_in tree input n) = λ input cut n.
    runs (lowered tree) grammar built input cut n (run_in tree input n) (seen_in tree named input n) in
    record {
      in_grammar = grammar;
      same = λ input cut n most. (run_in tree input n, runs_in input cut n, agrees tree input cut n);
      safe = safe tree runs_in;
      balanced = λ input cut n run is done.
          let same : run_in tree input n ≡ run = one_run (lowered tree) input cut n (run_in tree input n) run (runs_in input cut n) is in
          subst IsBalanced same (balanced_in tree input n (ap (λ run. run.stop) same ∙ done));
    }
