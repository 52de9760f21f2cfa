-- The statuses that tell how a source and its run end.
use Rattle.std.proofs.Common.{◌≡◌, ℕ, suc, zero, Bool, false, List, [], Option, Some, None, ℤ, ◌+ℤ◌, true, refl, sym, ◌∙◌, ap, arith}
use Rattle.hy_base.specs.declared.run.End.{End}
use Rattle.hy_base.specs.declared.run.End.TheVariants as end
use Rattle.hy_base.specs.declared.run.RunCause.{RunCause}
use Rattle.hy_base.specs.declared.run.RunCause.TheVariants as cause
use Rattle.hy_base.specs.First.{Refusal, IsFirst}
use Rattle.hy_tree.specs.Tree as T
use Rattle.hy_tree.specs.Tree.{Program}
use Rattle.hy_meaning.specs.Forms.{first_of, links_of, printed, main_of}
use Rattle.hy_front.specs.Phases.{IsTree, Breaks}
use Rattle.hy_meaning.specs.Meaning.{Value, Env, State, Outcome, Gives, Stops, Flow, Next, Over, fits, checked, operand_value, add_all, eval}
use Rattle.hy_meaning.specs.Meaning.{print_value, exec, block, then_do, and_then, turn, start, reported, mean}
use Rattle.hy_driver.specs.Call.{Answer, Call, Filed, Streams, IsSource, IsInput, IsQuiet}
use Rattle.hy_driver.specs.Course as w
use Rattle.hy_driver.specs.Course.{RunMayAnswer, SourceMayAnswer, CallMayAnswer}
use Rattle.hy_driver.specs.Headline.{turns, status_of, Means, IsTrap, RefusesTheFirst, RunsAsItMeans, Answers0, Answers1, Answers3, Answers4}
use Rattle.hy_driver.specs.Kept.{cause_status}
use Rattle.hy_driver.proofs.Clauses as clauses
use Rattle.hy_driver.proofs.Clauses.{SourceCourse, failed, no_memory, went_on}

-- THE MEANING NEVER ASKS FOR MORE INPUT, since no form that is built reads

abbrev GoesOn : Outcome → Type 0
GoesOn (Gives v env s) = Unit {0}
GoesOn (Stops e s) = e ≡ end.Asks → ⊥

abbrev GoesPast : Flow → Type 0
GoesPast (Next env s) = Unit {0}
GoesPast (Over e s) = e ≡ end.Asks → ⊥

sum_goes_on : (links : T.Links) (n : ℤ) (env : Env) (s : State) → GoesOn (add_all n links env s)
sum_goes_on T.NoLink n env s = tt
sum_goes_on (T.ThenLink operator token operand at links) n env s =
    let sum : ℤ = n +ℤ operand_value env operand in
    let on : GoesOn (add_all sum links env s) = sum_goes_on links sum env s in
    elim (fits sum) as (λ b. GoesOn (checked b sum at.span env s (λ n. add_all n links env s))) [ true ↦ on | false ↦ λ e. cc ]

value_goes_on : (value : T.Expr) (env : Env) (s : State) → GoesOn (eval value env s)
value_goes_on value env s = sum_goes_on (links_of value) (operand_value env (first_of value)) env s

then_goes_past : (o : Outcome) (f : Value → Env → State → Flow) → GoesOn o → ((v : Value) (env : Env) (s : State) → GoesPast (f v env s))
    → GoesPast (then_do o f)
then_goes_past (Gives v env s) f on past = past v env s
then_goes_past (Stops e s) f on past = on

print_goes_past : (value : Option T.Expr) (env : Env) (s : State) → GoesPast (print_value value env s)
print_goes_past None env s = tt
print_goes_past (Some value) env s = then_goes_past (eval value env s) _ (value_goes_on value env s) (λ v env s. tt)

stmt_goes_past : (m : T.Stmt) (env : Env) (s : State) → GoesPast (exec m env s)
stmt_goes_past (T.Binding introducer name written value at) env s = then_goes_past (eval value env s) _ (value_goes_on value env s) (λ v env s. tt)
stmt_goes_past (T.Assign target value at) env s = then_goes_past (eval value env s) _ (value_goes_on value env s) (λ v env s. tt)
stmt_goes_past (T.Evaluate e at) env s = print_goes_past (printed e) env s
stmt_goes_past m env s = tt

and_goes_past : (o : Flow) (f : Env → State → Flow) → GoesPast o → ((env : Env) (s : State) → GoesPast (f env s)) → GoesPast (and_then o f)
and_goes_past (Next env s) f on past = past env s
and_goes_past (Over e s) f on past = on

block_goes_past : (stmts : T.Stmts) (env : Env) (s : State) → GoesPast (block stmts env s)
block_goes_past T.NoStmt env s = tt
block_goes_past (T.ThenStmt m stmts) env s = and_goes_past (exec m env s) (block stmts) (stmt_goes_past m env s) (block_goes_past stmts)

reported_past : (input : List ℕ) (n : ℕ) (flow : Flow) → GoesPast flow → (reported input n flow).end ≡ end.Asks → ⊥
reported_past input n (Next env s) past e = cc
reported_past input n (Over f s) past e = past e

turn_past : (n : ℕ) (s : State) (go : State → Flow) → ((s : State) → GoesPast (go s)) → GoesPast (turn n s go)
turn_past zero s go past = λ e. cc
turn_past (suc n) s go past = past _

never_asks : (tree : Program) (input : List ℕ) (cut : Bool) (n : ℕ) → (mean tree input cut n).end ≡ end.Asks → ⊥
never_asks tree input cut n =
    reported_past input n (turn n (start input n) (block (main_of tree.decls) []))
    (turn_past n (start input n) (block (main_of tree.decls) []) (block_goes_past (main_of tree.decls) []))

-- STATUSES

not_one_end : (e : End) → status_of e ≡ 1 → ⊥
not_one_end end.Done h = omega arith
not_one_end (end.Trap kind span) h = omega arith
not_one_end end.Spent h = omega arith
not_one_end end.Asks h = omega arith

not_one_cause : (by : RunCause) → cause_status by ≡ 1 → ⊥
not_one_cause cause.Input h = omega arith
not_one_cause cause.Output h = omega arith
not_one_cause cause.NoMemory h = omega arith

done_0 : (e : End) → (e ≡ end.Asks → ⊥) → status_of e ≡ 0 → e ≡ end.Done
done_0 end.Done asks h = refl
done_0 (end.Trap kind span) asks h = absurd (omega arith)
done_0 end.Spent asks h = absurd (omega arith)
done_0 end.Asks asks h = absurd (omega arith)

trap_3 : (e : End) → (e ≡ end.Asks → ⊥) → status_of e ≡ 3 → IsTrap e
trap_3 end.Done asks h = absurd (omega arith)
trap_3 (end.Trap kind span) asks h = (kind, span, refl)
trap_3 end.Spent asks h = absurd (omega arith)
trap_3 end.Asks asks h = absurd (omega arith)

pub spent_4 : (e : End) → (e ≡ end.Asks → ⊥) → status_of e ≡ 4 → e ≡ end.Spent
spent_4 end.Done asks h = absurd (omega arith)
spent_4 (end.Trap kind span) asks h = absurd (omega arith)
spent_4 end.Spent asks h = refl
spent_4 end.Asks asks h = absurd (asks refl)

module _ (words : List (List ℕ)) (files_before files_after : Filed) (before after : Streams) where
  abbrev c : Answer → Call
  c it = clauses.c words files_before files_after before after it

  tree_followed : (file bytes : List ℕ) (it : Answer) → (it.status ≡ 1 → ⊥) → (it.status ≡ 8 → ⊥) → SourceMayAnswer file bytes before after it
      → (tree : Program) × IsTree bytes tree
  tree_followed file bytes it not_1 not_8 (w.refused first idle) = absurd (not_1 refl)
  tree_followed file bytes it not_1 not_8 (w.not_compiled idle) = absurd (not_8 refl)
  tree_followed file bytes it not_1 not_8 (w.executed {tree = tree} made executes) = (tree, made.tree_of_it)

  tree_from : (file bytes : List ℕ) (it : Answer) → (it.status ≡ 1 → ⊥) → (it.status ≡ 8 → ⊥) → files_after.faults ≡ files_before.faults
      → SourceCourse file bytes files_before files_after before after it
      → (tree : Program) × IsTree bytes tree
  tree_from file bytes it not_1 not_8 same (failed rose idle) = absurd (omega (arith, rose, same))
  tree_from file bytes it not_1 not_8 same (no_memory files idle) = absurd (not_8 refl)
  tree_from file bytes it not_1 not_8 same (went_on files follows) = tree_followed file bytes it not_1 not_8 follows

  first_executed : (file bytes : List ℕ) (object : _) (it : Answer) → it.status ≡ 1 → RunMayAnswer file bytes object before after it → ⊥
  first_executed file bytes object it is (w.ended {ending = ending} run) = not_one_end ending.end is
  first_executed file bytes object it is (w.ended_without_message run) = omega arith
  first_executed file bytes object it is (w.cut_off {fault = fault} cut) = not_one_cause fault.cause is

  first_followed : (file bytes : List ℕ) (it : Answer) → it.status ≡ 1 → SourceMayAnswer file bytes before after it → (f : Refusal)
      × IsFirst (Breaks bytes) (Some f)
  first_followed file bytes it is (w.refused {f = f} first idle) = (f, first)
  first_followed file bytes it is (w.not_compiled idle) = absurd (omega arith)
  first_followed file bytes it is (w.executed {object = object} made executes) = absurd (first_executed file bytes object it is executes)

  first_from : (file bytes : List ℕ) (it : Answer) → it.status ≡ 1 → SourceCourse file bytes files_before files_after before after it
      → (f : Refusal) × IsFirst (Breaks bytes) (Some f)
  first_from file bytes it is (failed rose idle) = absurd (omega arith)
  first_from file bytes it is (no_memory files idle) = absurd (omega arith)
  first_from file bytes it is (went_on files follows) = first_followed file bytes it is follows

  module _ (it : Answer) (way : CallMayAnswer words files_before files_after before after it) where
    means : (status : ℕ) (Is : End → Type 0) → ((e : End) → (e ≡ end.Asks → ⊥) → status_of e ≡ status → Is e) → (status ≡ 1 → ⊥) → RunsAsItMeans (c it)
        → (file bytes left : List ℕ) → IsSource (c it) file bytes → IsInput (c it) left → IsQuiet (c it) → it.status ≡ status → Means bytes left Is
    means status Is forth not_1 runs file bytes left source input quiet is =
        let found = tree_from file bytes it (λ h. not_1 (sym is ∙ h)) (λ h. quiet.memory h) quiet.files
        (clauses.from_source words files_before files_after before after file bytes it source way) in (
          found.0,
          found.1,
          forth (mean found.0 left false turns).end (never_asks found.0 left false turns)
              (sym (runs file bytes left found.0 source input quiet found.1).status ∙ is),
        )

    meant : (status : ℕ) (Is : End → Type 0) → ((e : End) → Is e → status_of e ≡ status) → RunsAsItMeans (c it)
        → (file bytes left : List ℕ) → IsSource (c it) file bytes → IsInput (c it) left → IsQuiet (c it) → Means bytes left Is → it.status ≡ status
    meant status Is back runs file bytes left source input quiet (tree, is_tree, is) = (runs file bytes left tree source input quiet is_tree).status
        ∙ back (mean tree left false turns).end is

    pub answers_0 : RunsAsItMeans (c it) → Answers0 (c it)
    answers_0 runs file bytes left source input quiet = (
      means 0 (λ e. e ≡ end.Done) done_0 (λ h. omega arith) runs file bytes left source input quiet,
      meant 0 (λ e. e ≡ end.Done) (λ e h.
          ap status_of h) runs file bytes left source input quiet,
    )

    pub answers_3 : RunsAsItMeans (c it) → Answers3 (c it)
    answers_3 runs file bytes left source input quiet = (
      means 3 IsTrap trap_3 (λ h. omega arith) runs file bytes left source input quiet,
      meant 3 IsTrap (λ e h. ap status_of h.2) runs file bytes
          left source input quiet,
    )

    pub answers_4 : RunsAsItMeans (c it) → Answers4 (c it)
    answers_4 runs file bytes left source input quiet = (
      means 4 (λ e. e ≡ end.Spent) spent_4 (λ h. omega arith) runs file bytes left source input quiet,
      meant 4 (λ e. e ≡ end.Spent) (λ e h.
          ap status_of h) runs file bytes left source input quiet,
    )

    pub answers_1 : RefusesTheFirst (c it) → Answers1 (c it)
    answers_1 refuses file bytes source quiet = (
      (λ is. first_from file bytes it is (clauses.from_source words files_before files_after before after file bytes it source way)),
      (λ (f, first). (clauses.unless_prevented words files_before files_after before after it _ quiet (refuses file bytes f source first).answer).0),
    )
