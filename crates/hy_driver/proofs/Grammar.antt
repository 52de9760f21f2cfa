-- The object of a tree is in the grammar, and is one that the machine runs.
use Rattle.std.proofs.Common.{◌≡◌, ℕ, suc, ◌<◌, ◌≤◌, List, [], ◌∷◌, length, drop, Option, Some, None, refl, arith}
use Rattle.std.specs.Prelude.{All}
use Rattle.std.specs.List.{AllByRecursion}
use Rattle.std.proofs.lemmas.List.Elements.{recursion_from_All}
use Rattle.std.proofs.lemmas.Option.{slice_get_within}
use Rattle.hy_base.specs.declared.position.Span.{Span}
use Rattle.hy_tree.specs.Tree as T
use Rattle.hy_tree.specs.Tree.{Program}
use Rattle.hy_meaning.specs.Forms.{first_of, links_of, printed, target_of, main_of}
use Rattle.hy_driver.specs.Scopes.{Scope}
use Rattle.hy_object.specs.declared.object.Fun.{Fun}
use Rattle.hy_object.specs.declared.instr.Shown.TheVariants as shown
use Rattle.hy_object.specs.declared.instr.Instr.{Instr}
use Rattle.hy_object.specs.declared.instr.Instr.TheVariants as instr
use Rattle.hy_object.specs.Grammar.{IsCount, IsInstr, IsFun, IsSpan, IsInGrammar, Ends, bounds_of}
use Rattle.hy_machine.specs.Built.{IsBuilt, IsBuiltInstr}
use Rattle.hy_driver.specs.Lower.{place_of, load, more_code, sum_code, store, print_code, stmt_code, spans_after, printed_links, links_in, declares}
use Rattle.hy_driver.specs.Lower.{block_code, more_spans, stmt_spans, block_spans, main_code, main_fun, lowered, IsSized}
use Rattle.hy_driver.proofs.Leads.{found, next_one, spans_left}

ends_cons : (i : Instr) (code : List Instr) → Ends code → Ends (i ∷ code)
ends_cons i [] h = absurd h
ends_cons i (j ∷ code) h = h

-- What holds of the code of a tree, if it holds of its last instruction and stays when an instruction that is allowed is put in front.
module _ (spans : List Span) (fun : Fun) (wide : 2 ≤ fun.words) (P : List Instr → Type 0)
    (cons : (i : Instr) (code : List Instr) → (IsSized i → IsInstr (bounds_of (length spans) 1 fun) i) → IsBuiltInstr i → P code → P (i ∷ code)) where
  put_load : (scope : Scope) (to : ℕ) (o : T.Expr) (code : List Instr) → to < 2 → P code → P (load scope to o ∷ code)
  put_load scope to (T.Named name at) code lt h =
      cons (load scope to (T.Named name at)) code (λ sized. (omega arith, (sized.0, (omega arith, (sized.1, (omega arith, tt)))))) (refl, refl) h
  put_load scope to (T.Number n at) code lt h = cons (load scope to (T.Number n at)) code (λ sized. (omega arith, (sized, tt))) tt h
  put_load scope to o code lt h = cons (load scope to o) code (λ sized. (omega arith, (sized, tt))) tt h

  put_store : (place : ℕ) (code : List Instr) → P code → P (store place ∷ code)
  put_store place code h = cons (store place) code (λ sized. (omega arith, (sized.0, (omega arith, (sized.1, (omega arith, tt)))))) (refl, refl) h

  more_holds : (scope : Scope) (links : T.Links) (span : ℕ) (rest : List Instr) (rest_spans : List Span)
      → drop span spans ≡ more_spans links rest_spans → P rest → P (more_code scope span links rest)
  more_holds scope T.NoLink span rest rest_spans is h = h
  more_holds scope (T.ThenLink operator token operand at links) span rest rest_spans is h =
      let lt : span < length spans = slice_get_within spans span at.span (found spans span at.span (more_spans links rest_spans) is) in
      put_load scope 1 operand (instr.Add 0 0 1 span ∷ more_code scope (suc span) links rest) (omega arith)
      (cons (instr.Add 0 0 1 span) (more_code scope (suc span) links rest) (λ sized. (omega arith, (omega arith, (omega arith, (lt, tt))))) tt
      (more_holds scope links (suc span) rest rest_spans (next_one spans span at.span (more_spans links rest_spans) is) h))

  sum_holds : (scope : Scope) (value : T.Expr) (span : ℕ) (rest : List Instr) (rest_spans : List Span)
      → drop span spans ≡ more_spans (links_of value) rest_spans → P rest → P (sum_code scope span value rest)
  sum_holds scope value span rest rest_spans is h =
      put_load scope 0 (first_of value) (more_code scope span (links_of value) rest) (omega arith)
      (more_holds scope (links_of value) span rest rest_spans is h)

  print_holds : (scope : Scope) (value : Option T.Expr) (span : ℕ) (rest : List Instr) (rest_spans : List Span)
      → drop span spans ≡ more_spans (printed_links value) rest_spans → P rest → P (print_code scope span value rest)
  print_holds scope None span rest rest_spans is h = h
  print_holds scope (Some value) span rest rest_spans is h =
      sum_holds scope value span (instr.Print 0 shown.Int ∷ rest) rest_spans is
      (cons (instr.Print 0 shown.Int) rest (λ sized. (omega arith, (omega arith, tt))) tt h)

  stmt_holds : (scope : Scope) (m : T.Stmt) (span : ℕ) (rest : List Instr) (rest_spans : List Span) → drop span spans ≡ stmt_spans m rest_spans
      → P rest → P (stmt_code scope span m rest)
  stmt_holds scope (T.Binding introducer name written value at) span rest rest_spans is h =
      sum_holds scope value span (store (length scope) ∷ rest) rest_spans is (put_store (length scope) rest h)
  stmt_holds scope (T.Assign target value at) span rest rest_spans is h =
      sum_holds scope value span (store (place_of scope (target_of target)) ∷ rest) rest_spans is (put_store (place_of scope (target_of target)) rest h)
  stmt_holds scope (T.Evaluate e at) span rest rest_spans is h = print_holds scope (printed e) span rest rest_spans is h
  stmt_holds scope m span rest rest_spans is h = h

  block_holds : (scope : Scope) (stmts : T.Stmts) (span : ℕ) (rest : List Instr) (rest_spans : List Span)
      → drop span spans ≡ block_spans stmts rest_spans → P rest → P (block_code scope span stmts rest)
  block_holds scope T.NoStmt span rest rest_spans is h = h
  block_holds scope (T.ThenStmt m stmts) span rest rest_spans is h =
      let span1 : ℕ = spans_after span (links_in m) in
      stmt_holds scope m span (block_code (declares scope m) span1 stmts rest) (block_spans stmts rest_spans) is
      (block_holds (declares scope m) stmts span1 rest rest_spans (spans_left spans (links_in m) span (block_spans stmts rest_spans) is) h)

-- the sizes of what is put
pub record AreSizes (code : List Instr) (spans : List Span) (words : ℕ) : Type 0 where
  pub code_count : IsCount (length code)
  pub span_count : IsCount (length spans)
  pub words_count : IsCount words
  pub instrs : All IsSized code
  pub in_order : All IsSpan spans

pub in_grammar : (tree : Program)
    → AreSizes (main_code (main_of tree.decls)) (block_spans (main_of tree.decls) []) (main_fun (main_of tree.decls)).words → IsInGrammar (lowered tree)
in_grammar tree sizes =
    let stmts : T.Stmts = main_of tree.decls in
    let all : List Span = block_spans stmts [] in
    let fun : Fun = main_fun stmts in
    let end : List Instr = instr.Return 0 ∷ [] in
    let Allowed : Instr → Type 0 = IsInstr (bounds_of (length all) 1 fun) in
    let P : List Instr → Type 0 = λ code. AllByRecursion IsSized code → AllByRecursion Allowed code in
    let instrs : P (main_code stmts) = block_holds all fun (omega arith) P (λ i code allowed built h sized. (allowed sized.0, h sized.1)) [] stmts 0
    end [] refl (λ sized. ((omega arith, tt), tt)) in
    let last : Ends (main_code stmts) = block_holds all fun (omega arith) Ends (λ i code allowed built h. ends_cons i code h) [] stmts 0 end [] refl refl in
    let main : IsFun (length all) 1 fun = record {
      accesses = omega arith;
      owned = omega arith;
      result = omega arith;
      words = sizes.words_count;
      slots = omega arith;
      places = sizes.code_count;
      instrs = instrs (recursion_from_All IsSized (main_code stmts) sizes.instrs);
      ends = last;
    } in
    record {
      span_count = sizes.span_count;
      spans = recursion_from_All IsSpan all sizes.in_order;
      fun_count = omega arith;
      funs = (main, tt);
      main = record { accesses = refl; owned = refl; result = refl };
    }

pub is_built : (tree : Program) → IsBuilt (lowered tree)
is_built tree = record {
  main = main_fun (main_of tree.decls);
  only = refl;
  code = block_holds (block_spans (main_of tree.decls) []) (main_fun (main_of tree.decls)) (omega arith) (AllByRecursion IsBuiltInstr)
      (λ i code allowed built h. (built, h)) [] (main_of tree.decls) 0 (instr.Return 0 ∷ []) [] refl (tt, tt);
}
