-- The run of the code of a tree leads where the tree's meaning says.
use Rattle.std.proofs.Common.{◌≡◌, ℕ, zero, suc, ◌+◌, ◌-◌, ◌<◌, ◌≤◌, Bool, true, false, ℤ, List, [], ◌∷◌, ◌++◌, length, take, drop, set, Option, Some}
use Rattle.std.proofs.Common.{None, slice_get, Contains, refl, sym, ap, ◌∙◌, subst, arith}
use Rattle.std.specs.Prelude.{if◌then◌else◌, ◌&&◌, nat_lt, nat_le, ◌+ℤ◌}
use Rattle.std.proofs.lemmas.Bool.{le-leb, le-ltb}
use Rattle.std.proofs.lemmas.List.{length-append}
use Rattle.std.proofs.lemmas.Option.{slice_get_within}
use Rattle.hy_base.specs.declared.position.Span.{Span}
use Rattle.hy_base.specs.declared.run.Counts.{Counts}
use Rattle.hy_base.specs.declared.run.End.{End}
use Rattle.hy_base.specs.declared.run.End.TheVariants as end
use Rattle.hy_base.specs.declared.run.TrapKind.TheVariants as trap
use Rattle.hy_tree.specs.Tree as T
use Rattle.hy_tree.specs.Tree.{Program}
use Rattle.hy_meaning.specs.Forms.{first_of, links_of, printed, target_of, main_of}
use Rattle.hy_driver.specs.Scopes.{Scope, is_known, with_name}
use Rattle.hy_meaning.specs.Meaning as M
use Rattle.hy_meaning.specs.Meaning.{Env, Value, Int, look, put, declare, number_in, operand_value, Outcome, Gives, Stops, Flow, Next, Over, then_do}
use Rattle.hy_meaning.specs.Meaning.{and_then, checked, add_all, eval, print_value, exec, block, write}
use Rattle.hy_object.specs.declared.object.Object.{Object}
use Rattle.hy_object.specs.declared.instr.Instr.{Instr}
use Rattle.hy_object.specs.declared.instr.Instr.TheVariants as instr
use Rattle.hy_object.specs.declared.instr.Shown.TheVariants as shown
use Rattle.hy_machine.specs.declared.frame.Cell.{Cell}
use Rattle.hy_machine.specs.declared.frame.Cell.TheVariants.{Unset, Word}
use Rattle.hy_object.specs.declared.stuck.Kind.{Kind}
use Rattle.hy_object.specs.declared.stuck.Kind.TheVariants as kind
use Rattle.hy_object.specs.Checks.{span_of}
use Rattle.hy_object.specs.Runs.{Run}
use Rattle.hy_object.specs.States.{Ended, Allocated, Freed}
use Rattle.hy_machine.specs.Machine.{State, check, reach, all_set, with_window, goes_on, fits, add, overlap, does, code, fetched, step, steps, seen, IsSeen}
use Rattle.hy_driver.specs.Lower.{place_of, variable, own, load, more_code, sum_code, store, print_code, stmt_code, spans_after, printed_links}
use Rattle.hy_driver.specs.Lower.{links_in, declares, block_code, more_spans, stmt_spans, block_spans, declared, lowered}
use Rattle.hy_driver.proofs.Frames.{names, cells, names_put, names_declare, known, assigned, length_scope, added, length_cells, window_one, put_one}
use Rattle.hy_driver.proofs.Known.{Knows, KnowsAll, KnowsSum, KnowsPrinted, IsNamedStmt, IsNamed}

-- what stands at a place of a list, and after it
pub found : {A : Type 0} (xs : List A) (p : ℕ) (x : A) (rest : List A) → drop p xs ≡ x ∷ rest → slice_get xs p ≡ Some x
found [] zero x rest h = cc
found [] (suc p) x rest h = cc
found (y ∷ xs) zero x rest h = let e : y ≡ x = cc in ap Some e
found (y ∷ xs) (suc p) x rest h = found xs p x rest h

pub next_one : {A : Type 0} (xs : List A) (p : ℕ) (x : A) (rest : List A) → drop p xs ≡ x ∷ rest → drop (suc p) xs ≡ rest
next_one [] zero x rest h = cc
next_one [] (suc p) x rest h = cc
next_one (y ∷ xs) zero x rest h = cc
next_one (y ∷ xs) (suc p) x rest h = next_one xs p x rest h

pub after_it : {A : Type 0} (xs : List A) (p : ℕ) (x : A) (rest : List A) → drop p xs ≡ x ∷ rest → drop (p + 1) xs ≡ rest
after_it xs p x rest h = let e : p + 1 ≡ suc p = omega arith in ap (λ q. drop q xs) e ∙ next_one xs p x rest h

-- the spans after those of a sum
pub spans_left : (spans : List Span) (links : T.Links) (span : ℕ) (rest : List Span) → drop span spans ≡ more_spans links rest
    → drop (spans_after span links) spans ≡ rest
spans_left spans T.NoLink span rest h = h
spans_left spans (T.ThenLink operator token operand at links) span rest h =
    spans_left spans links (suc span) rest (next_one spans span at.span (more_spans links rest) h)

-- the counts of `main` while it runs
abbrev pub running : Counts
running = record { turns = 1; blocks = 1; freed = 0; opened = 0; closed = 0 }

-- a run of `main` that ends where it stands
abbrev pub stopped_run : List ℕ → End → List ℕ → Run
stopped_run input e output = record { output = output; stop = Ended e; taken = length input - length input; counts = running; journal = Allocated 0 ∷ [] }

-- a run of `main` to its end
abbrev pub done_run : List ℕ → List ℕ → Run
done_run input output = record {
  output = output;
  stop = Ended end.Done;
  taken = length input - length input;
  counts = record running { freed = 1 };
  journal = Allocated 0 ∷ (Freed 0 ∷ []);
}

abbrev pub run_of : List ℕ → Flow → Run
run_of input (Next env s) = done_run input s.output
run_of input (Over e s) = stopped_run input e s.output

-- names are only added
with_name_grows : (scope : Scope) (name : List ℕ) → length scope ≤ length (with_name scope name)
with_name_grows scope name = by (is_known scope name)
  where
    by : (b : Bool) → length scope ≤ length (if b then scope else scope ++ name ∷ [])
    by true = omega arith
    by false = let f = length-append scope (name ∷ []) in omega arith

declares_grows : (scope : Scope) (m : T.Stmt) → length scope ≤ length (declares scope m)
declares_grows scope (T.Binding introducer name written value at) = with_name_grows scope name.text
declares_grows scope m = omega arith

declared_grows : (scope : Scope) (stmts : T.Stmts) → length scope ≤ length (declared scope stmts)
declared_grows scope T.NoStmt = omega arith
declared_grows scope (T.ThenStmt m stmts) = let e = declared_grows (declares scope m) stmts in let f = declares_grows scope m in omega arith

module _ (object : Object) (input : List ℕ) (left : ℕ) (r : Run) where
  abbrev here : List Cell → ℕ → List ℕ → State
  here frame place output = record {
    frame = frame;
    place = place;
    input = input;
    output = output;
    left = left;
    counts = running;
    journal =
        Allocated 0 ∷ [];
    stop = None;
  }

  -- the run from this state ends as `r` is
  record Ends (s : State) : Type 0 where
    count : ℕ
    same : seen input (steps object count s) (steps object count s).stop ≡ Some r

  before : (s : State) → Ends (step object s) → Ends s
  before s h = record { count = suc h.count; same = h.same }

  runs : (frame : List Cell) (place : ℕ) (output : List ℕ) (i : Instr) → slice_get (code object) place ≡ Some i
      → Ends (does object (here frame place output) i) → Ends (here frame place output)
  runs frame place output i is h = before (here frame place output) (subst (λ o. Ends (fetched object (here frame place output) o)) (sym is) h)

  passes : (s : State) (kind : Kind) (b : Bool) (next : State) → b ≡ true → Ends next → Ends (check s kind b next)
  passes s kind b next is h = subst (λ b. Ends (check s kind b next)) (sym is) h

  -- a variable goes to the accumulator, or to the word after it
  copy_first : (a t : Cell) (xs : List Cell) (place p : ℕ) (output : List ℕ) (n : ℤ) → slice_get xs p ≡ Some (Word n)
      → Ends (here (Word n ∷ t ∷ xs) (place + 1) output) →
      Ends (does object (here (a ∷ t ∷ xs) place output) (instr.Copy (own 0) (own (variable p)) 1))
  copy_first a t xs place p output n is h =
      let s : State = here (a ∷ t ∷ xs) place output in
      let lt : p < length xs = slice_get_within xs p (Word n) is in
      let go : List Cell → State = λ w. check s kind.Unset (all_set w) (goes_on s (with_window (a ∷ t ∷ xs) 0 w)) in
      passes s kind.Range (nat_le 1 (suc (suc (length xs)))) (reach s (own (variable p)) 1 (go (take 1 (drop p xs))))
      (le-leb 1 (suc (suc (length xs))) (omega arith))
      (passes s kind.Range (nat_le (suc (suc p) + 1) (suc (suc (length xs)))) (go (take 1 (drop p xs)))
      (le-leb (suc (suc p) + 1) (suc (suc (length xs))) (omega arith))
      (subst (λ w. Ends (go w)) (sym (window_one xs p (Word n) is)) h))

  copy_second : (a t : Cell) (xs : List Cell) (place p : ℕ) (output : List ℕ) (n : ℤ) → slice_get xs p ≡ Some (Word n)
      → Ends (here (a ∷ Word n ∷ xs) (place + 1) output) →
      Ends (does object (here (a ∷ t ∷ xs) place output) (instr.Copy (own 1) (own (variable p)) 1))
  copy_second a t xs place p output n is h =
      let s : State = here (a ∷ t ∷ xs) place output in
      let lt : p < length xs = slice_get_within xs p (Word n) is in
      let go : List Cell → State = λ w. check s kind.Unset (all_set w) (goes_on s (with_window (a ∷ t ∷ xs) 1 w)) in
      passes s kind.Range (nat_le 2 (suc (suc (length xs)))) (reach s (own (variable p)) 1 (go (take 1 (drop p xs))))
      (le-leb 2 (suc (suc (length xs))) (omega arith))
      (passes s kind.Range (nat_le (suc (suc p) + 1) (suc (suc (length xs)))) (go (take 1 (drop p xs)))
      (le-leb (suc (suc p) + 1) (suc (suc (length xs))) (omega arith))
      (subst (λ w. Ends (go w)) (sym (window_one xs p (Word n) is)) h))

  -- the accumulator goes to a variable
  stores : (n : ℤ) (t : Cell) (xs : List Cell) (place p : ℕ) (output : List ℕ) → p < length xs
      → Ends (here (Unset ∷ t ∷ set xs p (Word n)) (place + 1) output) →
      Ends (does object (here (Word n ∷ t ∷ xs) place output) (store p))
  stores n t xs place p output lt h =
      let s : State = here (Word n ∷ t ∷ xs) place output in
      let go : State = goes_on s (with_window (Unset ∷ t ∷ xs) (variable p) (Word n ∷ [])) in
      let apart : (if overlap (variable p) 0 1 then false else true) ≡ true =
      ap (λ b. if b && nat_lt 0 (suc (suc p) + 1) then false else true) (le-ltb (suc (suc p)) 1 (omega arith)) in
      passes s kind.Range (nat_le (suc (suc p) + 1) (suc (suc (length xs))))
      (reach s (own 0) 1 (check s kind.Range (if overlap (variable p) 0 1 then false else true) go))
      (le-leb (suc (suc p) + 1) (suc (suc (length xs))) (omega arith))
      (passes s kind.Range (nat_le 1 (suc (suc (length xs)))) (check s kind.Range (if overlap (variable p) 0 1 then false else true) go)
      (le-leb 1 (suc (suc (length xs))) (omega arith))
      (passes s kind.Range (if overlap (variable p) 0 1 then false else true) go apart
      (subst (λ frame. Ends (goes_on s frame)) (sym (put_one Unset t xs p (Word n) lt)) h)))

  -- What an outcome asks of the run: that what follows leads to the run, or that the run is this end.
  abbrev Follows : (ℤ → Env → M.State → Type 0) → Outcome → Type 0
  Follows G (Gives v env s) = G (number_in v) env s
  Follows G (Stops e s) = stopped_run input e s.output ≡ r

  abbrev Flows : (Env → M.State → Type 0) → Flow → Type 0
  Flows N (Next env s) = N env s
  Flows N (Over e s) = stopped_run input e s.output ≡ r

  then_follows : (N : Env → M.State → Type 0) (o : Outcome) (f : Value → Env → M.State → Flow) → Flows N (then_do o f)
      → Follows (λ n env s. Flows N (f (Int n) env s)) o
  then_follows N (Gives (Int n) env s) f h = h
  then_follows N (Stops e s) f h = h

  and_follows : (N : Env → M.State → Type 0) (q : Flow) (f : Env → M.State → Flow) → Flows N (and_then q f) → Flows (λ env s. Flows N (f env s)) q
  and_follows N (Next env s) f h = h
  and_follows N (Over e s) f h = h

  more : (G G' : ℤ → Env → M.State → Type 0) (o : Outcome) → ((n : ℤ) (env : Env) (s : M.State) → G n env s → G' n env s) → Follows G o → Follows G' o
  more G G' (Gives v env s) f h = f (number_in v) env s h
  more G G' (Stops e s) f h = h

  more_flow : (N N' : Env → M.State → Type 0) (q : Flow) → ((env : Env) (s : M.State) → N env s → N' env s) → Flows N q → Flows N' q
  more_flow N N' (Next env s) f h = f env s h
  more_flow N N' (Over e s) f h = h

  module _ (scope : Scope) (env : Env) (k : ℕ) (same : names env ≡ scope) where
    -- an operand goes to the accumulator, or to the word after it
    load_first : (o : T.Expr) → Knows scope o → (a t : Cell) (place : ℕ) (output : List ℕ)
        → Ends (here (Word (operand_value env o) ∷ t ∷ cells env k) (place + 1) output) →
        Ends (does object (here (a ∷ t ∷ cells env k) place output) (load scope 0 o))
    load_first (T.Named name at) there a t place output h =
        copy_first a t (cells env k) place (place_of scope name.text) output (number_in (look env name.text)) (known scope env k same name.text there) h
    load_first (T.Number n at) there a t place output h = h
    load_first o there a t place output h = h

    load_second : (o : T.Expr) → Knows scope o → (a t : Cell) (place : ℕ) (output : List ℕ)
        → Ends (here (a ∷ Word (operand_value env o) ∷ cells env k) (place + 1) output) →
        Ends (does object (here (a ∷ t ∷ cells env k) place output) (load scope 1 o))
    load_second (T.Named name at) there a t place output h =
        copy_second a t (cells env k) place (place_of scope name.text) output (number_in (look env name.text)) (known scope env k same name.text there) h
    load_second (T.Number n at) there a t place output h = h
    load_second o there a t place output h = h

    -- from where the sum stands in the accumulator the run leads on
    abbrev Lands : List Instr → ℤ → Env → M.State → Type 0
    Lands rest n env' s' = env' ≡ env → (t : Cell) (place : ℕ) → drop place (code object) ≡ rest → Ends (here (Word n ∷ t ∷ cells env k) place s'.output)

    add_at : (b : Bool) (n : ℤ) (span : Span) (go : ℤ → Outcome) (a m : ℤ) (place : ℕ) (s : M.State) (G : ℤ → Env → M.State → Type 0)
        → Follows G (checked b n span env s go) →
        (Follows G (go n) → Ends (here (Word n ∷ Word m ∷ cells env k) (place + 1) s.output)) →
        Ends (if b then here (Word n ∷ Word m ∷ cells env k) (place + 1) s.output else record (here (Word a ∷ Word m ∷ cells env k) place s.output)
        { stop = Some (Ended (end.Trap trap.Overflow span)) })
    add_at true n span go a m place s G h on = on h
    add_at false n span go a m place s G h on = record { count = zero; same = ap Some h }

    more_ok : (links : T.Links) (span : ℕ) (n : ℤ) (s : M.State) (rest : List Instr) (rest_spans : List Span) (t : Cell) (place : ℕ) → KnowsAll scope links →
        drop place (code object) ≡ more_code scope span links rest → drop span object.spans ≡ more_spans links rest_spans →
        Follows (Lands rest) (add_all n links env s) → Ends (here (Word n ∷ t ∷ cells env k) place s.output)
    more_ok T.NoLink span n s rest rest_spans t place knows is spans h = h refl t place is
    more_ok (T.ThenLink operator token operand at links) span n s rest rest_spans t place knows is spans h =
        let m : ℤ = operand_value env operand in
        let after_load = after_it (code object) place (load scope 1 operand) (instr.Add 0 0 1 span ∷ more_code scope (suc span) links rest) is in
        runs (Word n ∷ t ∷ cells env k) place s.output (load scope 1 operand)
        (found (code object) place (load scope 1 operand) (instr.Add 0 0 1 span ∷ more_code scope (suc span) links rest) is)
        (load_second operand knows.0 (Word n) t place s.output
        (runs (Word n ∷ Word m ∷ cells env k) (place + 1) s.output (instr.Add 0 0 1 span)
        (found (code object) (place + 1) (instr.Add 0 0 1 span) (more_code scope (suc span) links rest) after_load)
        (subst (λ o. Ends (add (here (Word n ∷ Word m ∷ cells env k) (place + 1) s.output) 0 (span_of o) (n +ℤ m)))
        (sym (found object.spans span at.span (more_spans links rest_spans) spans))
        (add_at (fits (n +ℤ m)) (n +ℤ m) at.span (λ n. add_all n links env s) n m (place + 1) s (Lands rest) h
        (more_ok links (suc span) (n +ℤ m) s rest rest_spans (Word m) (place + 1 + 1) knows.1
        (after_it (code object) (place + 1) (instr.Add 0 0 1 span) (more_code scope (suc span) links rest) after_load)
        (next_one object.spans span at.span (more_spans links rest_spans) spans))))))

    sum_ok : (value : T.Expr) (span : ℕ) (s : M.State) (rest : List Instr) (rest_spans : List Span) (a t : Cell) (place : ℕ) → KnowsSum scope value →
        drop place (code object) ≡ sum_code scope span value rest → drop span object.spans ≡ more_spans (links_of value) rest_spans →
        Follows (Lands rest) (eval value env s) → Ends (here (a ∷ t ∷ cells env k) place s.output)
    sum_ok value span s rest rest_spans a t place knows is spans h =
        let it : Instr = load scope 0 (first_of value) in
        runs (a ∷ t ∷ cells env k) place s.output it (found (code object) place it (more_code scope span (links_of value) rest) is)
        (load_first (first_of value) knows.0 a t place s.output
        (more_ok (links_of value) span (operand_value env (first_of value)) s rest rest_spans t (place + 1) knows.1
        (after_it (code object) place it (more_code scope span (links_of value) rest) is) spans h))

  -- from where a statement is done, the run leads on
  abbrev Nexts : ℕ → Scope → List Instr → Env → M.State → Type 0
  Nexts total scope rest env s =
      names env ≡ scope → (k : ℕ) → length scope + k ≡ total → (a t : Cell) (place : ℕ) → drop place (code object) ≡ rest
      → Ends (here (a ∷ t ∷ cells env k) place s.output)

  -- where nothing is done
  nothing_ok : (total : ℕ) (scope : Scope) (env : Env) (k : ℕ) (same : names env ≡ scope) (s : M.State) (rest : List Instr) (a t : Cell) (place : ℕ) →
      length scope + k ≡ total → drop place (code object) ≡ rest → Flows (Nexts total scope rest) (Next env s)
      → Ends (here (a ∷ t ∷ cells env k) place s.output)
  nothing_ok total scope env k same s rest a t place room is h = h same k room a t place is

  binding_ok : (total : ℕ) (name : List ℕ) (value : T.Expr) (scope : Scope) (env : Env) (k : ℕ) (same : names env ≡ scope) (span : ℕ) (s : M.State)
      (rest : List Instr) (rest_spans : List Span) (a t : Cell) (place : ℕ) →
      length scope + k ≡ total → length (scope ++ name ∷ []) ≤ total → KnowsSum scope value →
      drop place (code object) ≡ sum_code scope span value (store (length scope) ∷ rest) → drop span object.spans ≡ more_spans (links_of value) rest_spans →
      Flows (Nexts total (scope ++ name ∷ []) rest) (then_do (eval value env s) (λ v env s. Next (declare env name v) s))
      → Ends (here (a ∷ t ∷ cells env k) place s.output)
  binding_ok total name value scope env zero same span s rest rest_spans a t place room most named is spans h =
      absurd (let e = length-append scope (name ∷ []) in omega arith)
  binding_ok total name value scope env (suc k) same span s rest rest_spans a t place room most named is spans h =
      let N : Env → M.State → Type 0 = Nexts total (scope ++ name ∷ []) rest in
      let it : Instr = store (length scope) in
      sum_ok scope env (suc k) same value span s (it ∷ rest) rest_spans a t place named is spans
      (more (λ n env1 s1. N (declare env1 name (Int n)) s1) (Lands scope env (suc k) same (it ∷ rest)) (eval value env s)
      (λ n env1 s1 h1 same1 t1 place1 is1.
      runs (Word n ∷ t1 ∷ cells env (suc k)) place1 s1.output it (found (code object) place1 it rest is1)
      (stores n t1 (cells env (suc k)) place1 (length scope) s1.output (let e = length_cells env (suc k) in let f = length_scope scope env k same in
      omega arith)
      (subst (λ xs. Ends (here (Unset ∷ t1 ∷ xs) (place1 + 1) s1.output)) (sym (added scope env k same name (Int n)))
      (subst (λ env1. N (declare env1 name (Int n)) s1) same1 h1 (names_declare env name (Int n) ∙ ap (λ scope. scope ++ name ∷ []) same) k
      (let e = length-append scope (name ∷ []) in omega arith) Unset t1 (place1 + 1) (after_it (code object) place1 it rest is1)))))
      (then_follows N (eval value env s) (λ v env s. Next (declare env name v) s) h))

  assign_ok : (total : ℕ) (name : List ℕ) (value : T.Expr) (scope : Scope) (env : Env) (k : ℕ) (same : names env ≡ scope) (span : ℕ) (s : M.State)
      (rest : List Instr) (rest_spans : List Span) (a t : Cell) (place : ℕ) →
      length scope + k ≡ total → Contains scope name → KnowsSum scope value →
      drop place (code object) ≡ sum_code scope span value (store (place_of scope name) ∷ rest)
      → drop span object.spans ≡ more_spans (links_of value) rest_spans →
      Flows (Nexts total scope rest) (then_do (eval value env s) (λ v env s. Next (put env name v) s)) → Ends (here (a ∷ t ∷ cells env k) place s.output)
  assign_ok total name value scope env k same span s rest rest_spans a t place room there named is spans h =
      let N : Env → M.State → Type 0 = Nexts total scope rest in
      let it : Instr = store (place_of scope name) in
      sum_ok scope env k same value span s (it ∷ rest) rest_spans a t place named is spans
      (more (λ n env1 s1. N (put env1 name (Int n)) s1) (Lands scope env k same (it ∷ rest)) (eval value env s)
      (λ n env1 s1 h1 same1 t1 place1 is1.
      runs (Word n ∷ t1 ∷ cells env k) place1 s1.output it (found (code object) place1 it rest is1)
      (stores n t1 (cells env k) place1 (place_of scope name) s1.output
      (slice_get_within (cells env k) (place_of scope name) (Word (number_in (look env name))) (known scope env k same name there))
      (subst (λ xs. Ends (here (Unset ∷ t1 ∷ xs) (place1 + 1) s1.output)) (sym (assigned scope env k same name (Int n) there))
      (subst (λ env1. N (put env1 name (Int n)) s1) same1 h1 (names_put env name (Int n) ∙ same) k room Unset t1 (place1 + 1)
      (after_it (code object) place1 it rest is1)))))
      (then_follows N (eval value env s) (λ v env s. Next (put env name v) s) h))

  print_ok : (total : ℕ) (value : Option T.Expr) (scope : Scope) (env : Env) (k : ℕ) (same : names env ≡ scope) (span : ℕ) (s : M.State)
      (rest : List Instr) (rest_spans : List Span) (a t : Cell) (place : ℕ) →
      length scope + k ≡ total → KnowsPrinted scope value →
      drop place (code object) ≡ print_code scope span value rest → drop span object.spans ≡ more_spans (printed_links value) rest_spans →
      Flows (Nexts total scope rest) (print_value value env s) → Ends (here (a ∷ t ∷ cells env k) place s.output)
  print_ok total None scope env k same span s rest rest_spans a t place room named is spans h = nothing_ok total scope env k same s rest a t place room is h
  print_ok total (Some value) scope env k same span s rest rest_spans a t place room named is spans h =
      let N : Env → M.State → Type 0 = Nexts total scope rest in
      let it : Instr = instr.Print 0 shown.Int in
      sum_ok scope env k same value span s (it ∷ rest) rest_spans a t place named is spans
      (more (λ n env1 s1. N env1 (write s1 (M.line_of (Int n)))) (Lands scope env k same (it ∷ rest)) (eval value env s)
      (λ n env1 s1 h1 same1 t1 place1 is1.
      runs (Word n ∷ t1 ∷ cells env k) place1 s1.output it (found (code object) place1 it rest is1)
      (subst (λ env1. N env1 (write s1 (M.line_of (Int n)))) same1 h1 same k room (Word n) t1 (place1 + 1) (after_it (code object) place1 it rest is1)))
      (then_follows N (eval value env s) (λ v env s. Next env (write s (M.line_of v))) h))

  stmt_ok : (total : ℕ) (m : T.Stmt) (scope : Scope) (env : Env) (k : ℕ) (same : names env ≡ scope) (span : ℕ) (s : M.State) (rest : List Instr)
      (rest_spans : List Span) (a t : Cell) (place : ℕ) →
      length scope + k ≡ total → length (declares scope m) ≤ total → IsNamedStmt scope m →
      drop place (code object) ≡ stmt_code scope span m rest → drop span object.spans ≡ stmt_spans m rest_spans →
      Flows (Nexts total (declares scope m) rest) (exec m env s) → Ends (here (a ∷ t ∷ cells env k) place s.output)
  stmt_ok total (T.Binding introducer name written value at) scope env k same span s rest rest_spans a t place room most named is spans h =
      binding_ok total name.text value scope env k same span s rest rest_spans a t place room
      (subst (λ (later : Scope). length later ≤ total) named.0 most) named.1 is spans
      (subst (λ (later : Scope). Flows (Nexts total later rest) (exec (T.Binding introducer name written value at) env s)) named.0 h)
  stmt_ok total (T.Assign target value at) scope env k same span s rest rest_spans a t place room most named is spans h =
      assign_ok total (target_of target) value scope env k same span s rest rest_spans a t place room named.0 named.1 is spans h
  stmt_ok total (T.Evaluate e at) scope env k same span s rest rest_spans a t place room most named is spans h =
      print_ok total (printed e) scope env k same span s rest rest_spans a t place room named is spans h
  stmt_ok total m scope env k same span s rest rest_spans a t place room most named is spans h = nothing_ok total scope env k same s rest a t place room is h

  block_ok : (total : ℕ) (stmts : T.Stmts) (scope : Scope) (env : Env) (k : ℕ) (same : names env ≡ scope) (span : ℕ) (s : M.State) (rest : List Instr)
      (rest_spans : List Span) (a t : Cell) (place : ℕ) →
      length scope + k ≡ total → length (declared scope stmts) ≤ total → IsNamed scope stmts →
      drop place (code object) ≡ block_code scope span stmts rest → drop span object.spans ≡ block_spans stmts rest_spans →
      Flows (λ env s. (frame : List Cell) (place : ℕ) → drop place (code object) ≡ rest → Ends (here frame place s.output)) (block stmts env s)
      → Ends (here (a ∷ t ∷ cells env k) place s.output)
  block_ok total T.NoStmt scope env k same span s rest rest_spans a t place room most named is spans h = h (a ∷ t ∷ cells env k) place is
  block_ok total (T.ThenStmt m stmts) scope env k same span s rest rest_spans a t place room most named is spans h =
      let D : Env → M.State → Type 0 = λ env s. (frame : List Cell) (place : ℕ) → drop place (code object) ≡ rest → Ends (here frame place s.output) in
      let rest1 : List Instr = block_code (declares scope m) (spans_after span (links_in m)) stmts rest in
      stmt_ok total m scope env k same span s rest1 (block_spans stmts rest_spans) a t place room (let e = declared_grows (declares scope m) stmts in
      omega arith) named.0 is spans
      (more_flow (λ env s. Flows D (block stmts env s)) (Nexts total (declares scope m) rest1) (exec m env s)
      (λ env1 s1 h1 same1 k1 room1 a1 t1 place1 is1.
      block_ok total stmts (declares scope m) env1 k1 same1 (spans_after span (links_in m)) s1 rest rest_spans a1 t1 place1 room1 most named.1 is1
      (spans_left object.spans (links_in m) span (block_spans stmts rest_spans) spans) h1)
      (and_follows D (exec m env s) (block stmts) h))

  -- the run that a flow asks for
  flows_of : (q : Flow) → run_of input q ≡ r → Flows (λ env s. done_run input s.output ≡ r) q
  flows_of (Next env s) h = h
  flows_of (Over e s) h = h

  returns : (frame : List Cell) (place : ℕ) (output : List ℕ) → drop place (code object) ≡ instr.Return 0 ∷ [] → done_run input output ≡ r
      → Ends (here frame place output)
  returns frame place output is h = runs frame place output (instr.Return 0) (found (code object) place (instr.Return 0) [] is)
      (record { count = zero; same = ap Some h })

-- the state in which a block of `main` is run
abbrev pub first_state : List ℕ → ℕ → M.State
first_state input left = record { input = input; output = []; turns = left; opened = 0 }

-- a run with a turn ends as the meaning of the block says
pub main_runs : (tree : Program) → IsNamed [] (main_of tree.decls) → (input : List ℕ) (left : ℕ)
    → IsSeen (lowered tree) input (suc left) (run_of input (block (main_of tree.decls) [] (first_state input left)))
main_runs tree named input left =
    let q : Flow = block (main_of tree.decls) [] (first_state input left) in
    let r : Run = run_of input q in
    let total : ℕ = length (declared [] (main_of tree.decls)) in
    let end : List Instr = instr.Return 0 ∷ [] in
    let D : Env → M.State → Type 0 = λ env s. (frame : List Cell) (place : ℕ) → drop place (code (lowered tree)) ≡ end
    → Ends (lowered tree) input left r (here (lowered tree) input left r frame place s.output) in
    let e = block_ok (lowered tree) input left r total (main_of tree.decls) [] [] total refl 0 (first_state input left) end [] Unset Unset 0
    (omega arith) (omega arith) named refl refl
    (more_flow (lowered tree) input left r (λ env s. done_run input s.output ≡ r) D q (λ env s h frame place is.
    returns (lowered tree) input left r frame place s.output is h) (flows_of (lowered tree) input left r q refl)) in
    (e.count, e.same)
