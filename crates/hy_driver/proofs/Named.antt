-- Where no rule on names is broken and no form is unbuilt, each variable of `main` is declared once, and before its first use.
use Rattle.std.proofs.Common.{◌≡◌, inl, ℕ, ◌+◌, List, [], ◌∷◌, ◌++◌, Option, Some, None, Bool, true, false, ◌||◌, cond, not, refl, sym, ap, subst}
use Rattle.std.proofs.Common.{◌∙◌, arith, Contains, slice_get}
use Rattle.std.specs.Prelude.{if◌then◌else◌, codes}
use Rattle.std.specs.List.{list_any}
use Rattle.std.specs.Option.{unwrap_or}
use Rattle.std.specs.Str.{bytes_eq}
use Rattle.std.proofs.lemmas.List.Folds.{list_any-append}
use Rattle.hy_base.specs.First.{IsFirst}
use Rattle.hy_base.specs.declared.position.Span.{Span}
use Rattle.hy_base.specs.declared.refusal.Rule.{Rule}
use Rattle.hy_base.specs.declared.refusal.Rule.TheVariants.{N2, N5, X1}
use Rattle.hy_meaning.specs.Forms.{printed, target_of, main_of, stmts_of, body_of, stmts_in}
use Rattle.hy_tree.specs.FileNames.{File, is_reserved, predeclared, with_decl, with_decls}
use Rattle.hy_tree.specs.Findings as F
use Rattle.hy_tree.specs.Findings.{Around, Alone, Called, Finding, Broken, find_as, find_expr, find_links, find_stmt, find_stmts, find_variant}
use Rattle.hy_tree.specs.Findings.{find_variants, find_body, find_block, find_decl, find_decls, find_main, twice_decls, declares as declares_names}
use Rattle.hy_tree.specs.Findings.{found_name, stands_for, is_main, has_main, meanings, findings, nodes}
use Rattle.hy_tree.specs.Names.{Names, no_names, with_name as with_meaning, is_there, or}
use Rattle.hy_tree.specs.Numbers.{number_type, number_expr, number_links, number_stmt, number_stmts, number_block, number_variant, number_callable}
use Rattle.hy_tree.specs.Numbers.{number_decl_kind, number_decl, number_program, number_all, count_expr, count_links, count_stmt, count_stmts}
use Rattle.hy_tree.specs.Numbers.{count_block, count_variant, count_callable, count_all, count_decl_kind, count_decl, count_type}
use Rattle.hy_tree.specs.Tree as T
use Rattle.hy_tree.specs.declared.meant.Meant.{Meant}
use Rattle.hy_tree.specs.declared.meant.Meant.TheVariants as meaning
use Rattle.hy_tree.specs.declared.name.Name.{Name}
use Rattle.hy_front.specs.Unbuilt as X
use Rattle.hy_driver.specs.Lower.{declares}
use Rattle.hy_driver.specs.Scopes.{Scope, is_known, with_name}
use Rattle.hy_driver.proofs.Extents.{expr_within, links_within, stmt_within, stmts_within, variants_within, decls_within, all_twice_within, at_file}
use Rattle.hy_driver.proofs.Extents.{main_is, first_variant, decl_free}
use Rattle.hy_driver.proofs.Found.{In, within_none, within_broken, within_name, wider, meant_there, Part, narrow, before, later_part, whole}
use Rattle.hy_driver.proofs.Free.{none_first, none_last, not_when, first_false, last_false, known_is, some_type, bound_value, assigned_value}
use Rattle.hy_driver.proofs.Free.{IsPrinted, is_printed, printed_steps, bare_main, declares_main, variants_free}
use Rattle.hy_driver.proofs.Keys.{found}
use Rattle.hy_driver.proofs.Known.{Knows, KnowsAll, KnowsSum, KnowsPrinted, IsNamedStmt, IsNamed}

-- NAMES OF A FILE

-- no variable is among them
abbrev HasNoLocal : Names → Type 0
HasNoLocal names = (name : List ℕ) (k : ℕ) → names name ≡ Some (meaning.Local k) → ⊥

no_local : (declared : List ℕ) (m : Meant) (names : Names) → ((k : ℕ) → m ≡ meaning.Local k → ⊥)
    → HasNoLocal names → HasNoLocal (with_meaning declared m names)
no_local declared m names other none name k h = by (bytes_eq name declared) h
  where
    by : (b : Bool) → cond b (Some m) (names name) ≡ Some (meaning.Local k) → ⊥
    by true h = other k (cc)
    by false h = none name k h

record IsFile (file : File) : Type 0 where
  types : HasNoLocal file.types
  traits : HasNoLocal file.traits

nothing_local : HasNoLocal no_names
nothing_local name k h = cc

predeclared_file : IsFile predeclared
predeclared_file = record {
  types = no_local _ _ _ (λ k h. cc) (no_local _ _ _ (λ k h. cc) (no_local _ _ _ (λ k h. cc)
      (no_local _ _ _ (λ k h. cc) (no_local _ _ _ (λ k h. cc) (no_local _ _ _ (λ k h. cc)
      (no_local _ _ _ (λ k h. cc) (no_local _ _ _ (λ k h. cc) (no_local _ _ _ (λ k h. cc) nothing_local))))))));
  traits = no_local _ _ _ (λ k h. cc) (no_local _ _ _ (λ k h. cc) (no_local _ _ _ (λ k h. cc) nothing_local));
}

decl_file : (file : File) (kind : T.DeclKind) → IsFile file → IsFile (with_decl file kind)
decl_file file (T.DeclCallable c) is = record { types = is.types; traits = is.traits }
decl_file file (T.DeclProduct p) is = record { types = no_local p.name.text (meaning.Product p.at.node) file.types (λ k h. cc) is.types; traits = is.traits }
decl_file file (T.DeclTrait t) is = record { types = is.types; traits = no_local t.name.text (meaning.Trait t.at.node) file.traits (λ k h. cc) is.traits }
decl_file file (T.DeclConform c) is = record { types = is.types; traits = is.traits }

decls_file : (file : File) (decls : List T.Decl) → IsFile file → IsFile (with_decls file decls)
decls_file file [] is = is
decls_file file (d ∷ more) is = decls_file (with_decl file d.kind) more (decl_file file d.kind is)

-- NAMES OF A BLOCK

-- the names of the block are those that are declared so far
abbrev Agrees : Names → Scope → Type 0
Agrees block scope = (name : List ℕ) → is_there (block name) ≡ is_known scope name

abbrev blocks : Names → List Names
blocks block = block ∷ no_names ∷ []

agrees_more : (block : Names) (scope : Scope) (name : List ℕ) (m : Meant) → Agrees block scope → with_name scope name ≡ scope ++ name ∷ []
    → Agrees (with_meaning name m block) (with_name scope name)
agrees_more block scope name m agrees new asked =
    by (bytes_eq asked name) (block asked) (is_known scope asked) (agrees asked) ∙ sym (list_any-append (bytes_eq asked) scope (name ∷ []))
    ∙ ap (list_any (bytes_eq asked)) (sym new)
  where
    by : (b : Bool) (o : Option Meant) (known : Bool) → is_there o ≡ known → is_there (cond b (Some m) o) ≡ (known || (b || false))
    by true o true h = refl
    by true o false h = refl
    by false o true h = h
    by false o false h = h

new_name : (b : Bool) (scope more : Scope) → b ≡ false → (if b then scope else more) ≡ more
new_name true scope more h = absurd (cc)
new_name false scope more h = refl

local_is : (o : Option Meant) → X.is_local o ≡ true → (k : ℕ) × (o ≡ Some (meaning.Local k))
local_is (Some (meaning.Local k)) h = (k, refl)
local_is o h = absurd (cc)

not_broken : (t : Bool) (span : Span) → ((rule : Rule) (at : Span) → In (Broken rule at) (F.when t (Broken N2 span)) → ⊥) → t ≡ false
not_broken true span h = absurd (h N2 span (inl refl))
not_broken false span h = refl

module _ (meant : X.Table) (file : File) (is : IsFile file) where
  in_block : (block : Names) (name : List ℕ) (k : ℕ) → stands_for (at_file file) (blocks block) name Alone ≡ Some (meaning.Local k)
      → is_there (block name) ≡ true
  in_block block name k h = by (block name) (file.types name) (file.traits name) (is.types name k) (is.traits name k) h
    where
      by : (o t r : Option Meant) → (t ≡ Some (meaning.Local k) → ⊥) → (r ≡ Some (meaning.Local k) → ⊥)
          → or (or o None) (or t r) ≡ Some (meaning.Local k) → is_there o ≡ true
      by (Some m) t r type trait h = refl
      by None (Some m) r type trait h = absurd (type h)
      by None None r type trait h = absurd (trait h)

  module _ (block : Names) (scope : Scope) (agrees : Agrees block scope) where
    knows : (n : ℕ) (e : T.Expr) → X.in_expr meant (number_expr n e) ≡ []
        → Part meant n (n + count_expr e) (find_expr (at_file file) (blocks block) (number_expr n e)) → Knows scope (number_expr n e)
    knows n (T.Named name at) free part =
        let local = local_is (slice_get meant n) (known_is (X.is_variable meant n) (not_when (not (X.is_variable meant n)) name.span free)) in
        let stood = stands_for (at_file file) (blocks block) name.text Alone in
        let there = meant_there file name n n (meaning.Local local.0) stood (part.found n local.0 (omega arith) (omega arith) local.1) in
        found name.text scope (sym (agrees name.text) ∙ in_block block name.text local.0 there)
    knows n e free part = tt

    knows_all : (n : ℕ) (links : T.Links) → X.in_links meant (number_links n links) ≡ []
        → Part meant n (n + count_links links) (find_links (at_file file) (blocks block) (number_links n links)) → KnowsAll scope (number_links n links)
    knows_all n T.NoLink free part = tt
    knows_all n (T.ThenLink operator token operand at more) free part =
        let right = number_expr (n + 1) operand in
        let rest = number_links (n + 1 + count_expr operand) more in
        let one = X.when (not (X.is_plus operator)) at.span ++ (X.in_operand right ++ X.in_expr meant right) in
        let here = none_last (X.in_operand right) (X.in_expr meant right)
        (none_last (X.when (not (X.is_plus operator)) at.span) (X.in_operand right ++ X.in_expr meant right)
        (none_first one (X.in_links meant rest) free)) in
        let later = none_last one (X.in_links meant rest) free in
        let mid = n + 1 + count_expr operand in
        let all = n + (1 + count_expr operand + count_links more) in
        let fs = find_expr (at_file file) (blocks block) right in
        let gs = find_links (at_file file) (blocks block) rest in (
          knows (n + 1) operand here (narrow n mid (n + 1) (n + 1 + count_expr operand) (omega arith) (omega arith)
              (before n mid all fs gs (omega arith) (wider mid (mid + count_links more) mid all gs (omega arith) (omega arith)
              (links_within meant (at_file file) (blocks block) mid more later)) part)),
          knows_all mid more later (narrow mid all mid (mid + count_links more) (omega arith) (omega arith)
              (later_part n mid all fs gs (omega arith) (wider (n + 1) (n + 1 + count_expr operand) n mid fs (omega arith) (omega arith)
              (expr_within meant (at_file file) (blocks block) Alone (n + 1) operand here)) part)),
        )

    knows_sum : (n : ℕ) (e : T.Expr) → X.in_expr meant (number_expr n e) ≡ []
        → Part meant n (n + count_expr e) (find_expr (at_file file) (blocks block) (number_expr n e)) → KnowsSum scope (number_expr n e)
    knows_sum n (T.Chain first links at) free part =
        let left = number_expr (n + 1) first in
        let rest = number_links (n + 1 + count_expr first) links in
        let inner = none_last (X.in_operand left) (X.in_expr meant left ++ X.in_links meant rest) free in
        let here = none_first (X.in_expr meant left) (X.in_links meant rest) inner in
        let later = none_last (X.in_expr meant left) (X.in_links meant rest) inner in
        let mid = n + 1 + count_expr first in
        let all = n + (1 + count_expr first + count_links links) in
        let fs = find_expr (at_file file) (blocks block) left in
        let gs = find_links (at_file file) (blocks block) rest in (
          knows (n + 1) first here (narrow n mid (n + 1) (n + 1 + count_expr first) (omega arith) (omega arith)
              (before n mid all fs gs (omega arith) (wider mid (mid + count_links links) mid all gs (omega arith) (omega arith)
              (links_within meant (at_file file) (blocks block) mid links later)) part)),
          knows_all mid links later (narrow mid all mid (mid + count_links links) (omega arith) (omega arith)
              (later_part n mid all fs gs (omega arith) (wider (n + 1) (n + 1 + count_expr first) n mid fs (omega arith) (omega arith)
              (expr_within meant (at_file file) (blocks block) Alone (n + 1) first here)) part)),
        )
    knows_sum n (T.Named name at) free part = (knows n (T.Named name at) free part, tt)
    knows_sum n (T.Number number at) free part = (tt, tt)
    knows_sum n e free part = absurd (cc)

    knows_printed : (n : ℕ) (e : T.Expr) (span : Span) → X.in_printed meant (number_expr n e) span (printed (number_expr n e)) ≡ []
        → Part meant n (n + count_expr e) (find_expr (at_file file) (blocks block) (number_expr n e)) → KnowsPrinted scope (printed (number_expr n e))
    knows_printed n (T.Postfix (T.Named name at) steps end) span free part =
        by steps (bytes_eq name.text (codes "print")) refl (printed_steps meant (n + 1 + 1) steps (bytes_eq name.text (codes "print"))
        (number_expr n (T.Postfix (T.Named name at) steps end)) span free) part
      where
        by : (steps : T.Steps) (print : Bool) → bytes_eq name.text (codes "print") ≡ print → IsPrinted meant (n + 1 + 1) steps print
            → Part meant n (n + count_expr (T.Postfix (T.Named name at) steps end))
            (find_expr (at_file file) (blocks block) (number_expr n (T.Postfix (T.Named name at) steps end)))
            → KnowsPrinted scope (printed (number_expr n (T.Postfix (T.Named name at) steps end)))
        by _ _ is (is_printed value at2 here) part =
            let it = number_expr (n + 1 + 1 + 1) value in
            let all = n + (1 + 1 + (1 + (count_expr value + 0) + 0)) in
            let end_of = n + 1 + 1 + 1 + count_expr value in
            let callee = found_name file name (n + 1) (stands_for (at_file file) (blocks block) name.text (Called (None ∷ []))) in
            let argument = find_expr (at_file file) (blocks block) it in
            let in_steps = later_part n (n + 1 + 1) all callee ((argument ++ []) ++ []) (omega arith)
            (wider (n + 1) (n + 1 + 1) n (n + 1 + 1) callee (omega arith) (omega arith)
            (within_name file name (n + 1) (stands_for (at_file file) (blocks block) name.text (Called (None ∷ []))))) part in
            let in_call = before (n + 1 + 1) all all (argument ++ []) [] (omega arith) (within_none all all) in_steps in
            let in_value = before (n + 1 + 1) all all argument [] (omega arith) (within_none all all) in_call in
            subst (λ b. KnowsPrinted scope (if b then Some it else None)) (sym is)
            (knows_sum (n + 1 + 1 + 1) value here (narrow (n + 1 + 1) all (n + 1 + 1 + 1) end_of (omega arith) (omega arith) in_value))
    knows_printed n e span free part = absurd (cc)

    knows_target : (n : ℕ) (target : T.Expr) → X.is_name (number_expr n target) ≡ true → X.in_expr meant (number_expr n target) ≡ []
        → Part meant n (n + count_expr target) (find_expr (at_file file) (blocks block) (number_expr n target))
        → Contains scope (target_of (number_expr n target))
    knows_target n (T.Named name at) named free part = knows n (T.Named name at) free part
    knows_target n e named free part = absurd (cc)

    named_stmt : (n : ℕ) (s : T.Stmt) → X.in_stmt meant (number_stmt n s) ≡ []
        → Part meant n (n + count_stmt s) (find_stmt (at_file file) (blocks block) (number_stmt n s)) → IsNamedStmt scope (number_stmt n s)
    named_stmt n (T.Binding introducer name None value at) h part =
        let it = number_expr (n + 1 + 0) value in
        let free = bound_value meant introducer it (none_last (X.when (not (X.is_plain introducer None)) at.span) (X.in_bound meant introducer it) h) in
        let fs = find_expr (at_file file) (blocks block) it in
        let gs = declares_names block name in
        let mid = n + 1 + 0 + count_expr value in
        let all = n + (1 + 0 + count_expr value) in
        let value_part = before n all all fs gs (omega arith)
        (within_broken all all (is_there (block name.text) || is_reserved name.text) N2 name.span) part in
        let name_part = later_part n all all fs gs (omega arith)
        (wider (n + 1 + 0) mid n all fs (omega arith) (omega arith) (expr_within meant (at_file file) (blocks block) Alone (n + 1 + 0) value free)) part in
        let fresh = first_false (is_there (block name.text)) (is_reserved name.text)
        (not_broken (is_there (block name.text) || is_reserved name.text) name.span name_part.sound) in (
          new_name (is_known scope name.text) scope (scope ++ name.text ∷ []) (sym (agrees name.text) ∙ fresh),
          knows_sum (n + 1 + 0) value free
              (narrow n all (n + 1 + 0) mid (omega arith) (omega arith) value_part),
        )
    named_stmt n (T.Binding introducer name (Some written) value at) h part =
        let it = number_expr (n + 1 + count_type written) value in
        let typed = X.in_type (number_type (n + 1) written) in
        absurd (some_type (number_type (n + 1) written)
        (none_first typed (X.in_bound meant introducer it)
        (none_last (X.when (not (X.is_plain introducer (Some (number_type (n + 1) written)))) at.span) (typed ++ X.in_bound meant introducer it) h)))
    named_stmt n (T.Assign target value at) h part =
        let to = number_expr (n + 1) target in
        let it = number_expr (n + 1 + count_expr target) value in
        let mid = n + 1 + count_expr target in
        let all = n + (1 + count_expr target + count_expr value) in
        let named = known_is (X.is_name to)
        (not_when (not (X.is_name to)) at.span (none_first (X.when (not (X.is_name to)) at.span) (X.in_expr meant to ++ X.in_value meant it) h)) in
        let both = none_last (X.when (not (X.is_name to)) at.span) (X.in_expr meant to ++ X.in_value meant it) h in
        let free_to = none_first (X.in_expr meant to) (X.in_value meant it) both in
        let free = assigned_value meant it (none_last (X.in_expr meant to) (X.in_value meant it) both) in
        let fs = find_expr (at_file file) (blocks block) to in
        let gs = find_expr (at_file file) (blocks block) it in (
          knows_target (n + 1) target named free_to (narrow n mid (n + 1) (n + 1 + count_expr target) (omega arith) (omega arith)
              (before n mid all fs gs (omega arith) (wider mid (mid + count_expr value) mid all gs (omega arith) (omega arith)
              (expr_within meant (at_file file) (blocks block) Alone mid value free)) part)),
          knows_sum mid value free (narrow mid all mid (mid + count_expr value) (omega arith) (omega arith)
              (later_part n mid all fs gs (omega arith) (wider (n + 1) (n + 1 + count_expr target) n mid fs (omega arith) (omega arith)
              (expr_within meant (at_file file) (blocks block) Alone (n + 1) target free_to)) part)),
        )
    named_stmt n (T.Evaluate e at) h part =
        knows_printed (n + 1) e at.span h (narrow n (n + (1 + count_expr e)) (n + 1) (n + 1 + count_expr e) (omega arith) (omega arith) part)
    named_stmt n s h part = absurd (cc)

    -- the names after a statement
    names_after : (n : ℕ) (s : T.Stmt) → X.in_stmt meant (number_stmt n s) ≡ [] → IsNamedStmt scope (number_stmt n s)
        → (next : Names) × (F.behind (blocks block) (number_stmt n s) ≡ blocks next) × Agrees next (declares scope (number_stmt n s))
    names_after n (T.Binding introducer name written value at) h named =
        (with_meaning name.text (meaning.Local n) block, refl, agrees_more block scope name.text (meaning.Local n) agrees named.0)
    names_after n (T.Declare name written at) h named = absurd (cc)
    names_after n s h named = (block, refl, agrees)

  named_stmts : (block : Names) (scope : Scope) → Agrees block scope → (n : ℕ) (stmts : T.Stmts) → X.in_stmts meant (number_stmts n stmts) ≡ []
      → Part meant n (n + count_stmts stmts) (find_stmts (at_file file) (blocks block) (number_stmts n stmts)) → IsNamed scope (number_stmts n stmts)
  named_stmts block scope agrees n T.NoStmt free part = tt
  named_stmts block scope agrees n (T.ThenStmt s more) free part =
      let it = number_stmt n s in
      let mid = n + count_stmt s in
      let rest = number_stmts mid more in
      let all = n + (count_stmt s + count_stmts more) in
      let here = none_first (X.in_stmt meant it) (X.in_stmts meant rest) free in
      let later = none_last (X.in_stmt meant it) (X.in_stmts meant rest) free in
      let fs = find_stmt (at_file file) (blocks block) it in
      let gs = find_stmts (at_file file) (F.behind (blocks block) it) rest in
      let stmt_part = before n mid all fs gs (omega arith) (wider mid (mid + count_stmts more) mid all gs (omega arith) (omega arith)
      (stmts_within meant (at_file file) (F.behind (blocks block) it) mid more later)) part in
      let rest_part = later_part n mid all fs gs (omega arith) (stmt_within meant (at_file file) (blocks block) n s here) part in
      let named = named_stmt block scope agrees n s here stmt_part in
      let next = names_after block scope agrees n s here named in (
        named,
        named_stmts next.0 (declares scope it) next.2 mid more later
            (subst (λ names. Part meant mid (mid + count_stmts more) (find_stmts (at_file file) names rest)) next.1
            (narrow mid all mid (mid + count_stmts more) (omega arith) (omega arith) rest_part)),
      )

  block_named : (n : ℕ) (block : T.Block) → X.in_block meant (number_block n block) ≡ []
      → Part meant n (n + count_block block) (find_block (at_file file) (no_names ∷ []) (number_block n block)) → IsNamed [] (stmts_in (number_block n block))
  block_named n (T.Braces stmts at) free part =
      named_stmts no_names [] (λ name. refl) (n + 1) stmts free (narrow n (n + (1 + count_stmts stmts)) (n + 1) (n + 1 + count_stmts stmts)
      (omega arith) (omega arith) part)

  body_named : (n : ℕ) (v : T.Variant) (value : Option Name) → is_there value ≡ false → X.in_block meant (number_block (n + 1) v.block) ≡ []
      → Part meant n (n + count_variant v) (find_body (at_file file) (no_names ∷ []) (number_variant n v) value)
      → IsNamed [] (stmts_in (number_block (n + 1) v.block))
  body_named n v None none free part =
      block_named (n + 1) v.block free (narrow n (n + (1 + count_block v.block)) (n + 1) (n + 1 + count_block v.block) (omega arith) (omega arith) part)
  body_named n v (Some value) none free part = absurd (cc)

  variants_named : (n : ℕ) (variants : List T.Variant) → X.in_variants meant (number_all count_variant number_variant n variants) ≡ []
      → Part meant n (n + count_all count_variant variants)
      (find_variants (at_file file) (no_names ∷ []) no_names (number_all count_variant number_variant n variants))
      → IsNamed [] (body_of (number_all count_variant number_variant n variants))
  variants_named n [] free part = tt
  variants_named n (v ∷ more) free part =
      let it = number_variant n v in
      let mid = n + count_variant v in
      let rest = number_all count_variant number_variant mid more in
      let all = n + (count_variant v + count_all count_variant more) in
      let one = X.when (X.is_special it) it.at.span ++ X.in_block meant it.block in
      let here = none_first one (X.in_variants meant rest) free in
      let plain = last_false (is_there v.keyword) (is_there v.value)
      (not_when (X.is_special it) it.at.span (none_first (X.when (X.is_special it) it.at.span) (X.in_block meant it.block) here)) in
      let words = with_meaning (F.word_of it.mode) meaning.Nothing no_names in
      let twice = F.when false (Broken N2 (unwrap_or it.keyword it.at.span)) in
      let body = find_body (at_file file) (no_names ∷ []) it it.value in
      let gs = find_variants (at_file file) (no_names ∷ []) words rest in
      let first = before n mid all (twice ++ body) gs (omega arith) (wider mid (mid + count_all count_variant more) mid all gs (omega arith) (omega arith)
      (variants_within meant (at_file file) (no_names ∷ []) words mid more (none_last one (X.in_variants meant rest) free))) part in
      body_named n v v.value plain (none_last (X.when (X.is_special it) it.at.span) (X.in_block meant it.block) here) first

  kind_named : (n : ℕ) (kind : T.DeclKind) → is_main (number_decl_kind n kind) ≡ true → X.in_decl_kind meant (number_decl_kind n kind) ≡ []
      → Part meant n (n + count_decl_kind kind) (find_decl file (number_decl_kind n kind))
      → IsNamed [] (stmts_of (number_decl_kind n kind))
  kind_named n (T.DeclCallable c) main free part =
      let it = number_callable n c in
      let from = first_variant n c in
      variants_named from c.variants (variants_free meant (is_main (T.DeclCallable it)) it free)
      (narrow n (n + count_callable c) from (from + count_all count_variant c.variants) (omega arith) (omega arith)
      (subst (Part meant n (n + count_callable c)) (main_is file it (bare_main it main)) part))
  kind_named n kind main free part = absurd (cc)

  decls_named : (n : ℕ) (decls : List T.Decl) → X.in_decls meant (number_all count_decl number_decl n decls) ≡ []
      → Part meant n (n + count_all count_decl decls) (find_decls file (number_all count_decl number_decl n decls))
      → IsNamed [] (main_of (number_all count_decl number_decl n decls))
  decls_named n [] free part = tt
  decls_named n (d ∷ more) free part =
      let it = number_decl n d in
      let mid = n + count_decl d in
      let rest = number_all count_decl number_decl mid more in
      let all = n + (count_decl d + count_all count_decl more) in
      let here = none_first (X.in_decl meant it) (X.in_decls meant rest) free in
      let gs = find_decls file rest in
      let first = before n mid all (find_decl file it.kind) gs (omega arith)
      (wider mid (mid + count_all count_decl more) mid all gs (omega arith) (omega arith)
      (decls_within meant file mid more (none_last (X.in_decl meant it) (X.in_decls meant rest) free))) part in
      kind_named (n + 1) d.kind (declares_main meant it here) (decl_free meant n d here)
      (narrow n mid (n + 1) (n + 1 + count_decl_kind d.kind) (omega arith) (omega arith) first)

-- where X1 is broken nowhere, there is no place of it
nothing : (p : T.Program) → IsFirst (X.Breaks p) None → X.unbuilt (meanings p) p ≡ []
nothing p none = by (X.unbuilt (meanings p) p) (λ span there. none (record { rule = X1; span = span }) (refl, there))
  where
    by : (spans : List Span) → ((span : Span) → Contains spans span → ⊥) → spans ≡ []
    by [] none = refl
    by (span ∷ spans) none = absurd (none span (0, omega arith, refl))

numbered_named : (plain : T.Program) → IsFirst (F.Breaks (number_program plain)) None → IsFirst (X.Breaks (number_program plain)) None
    → IsNamed [] (main_of (number_program plain).decls)
numbered_named plain names forms =
    let p = number_program plain in
    let file = with_decls predeclared p.decls in
    let size = count_all count_decl plain.decls in
    let free = nothing p forms in
    let all = whole (findings p) (nodes p) 1 (1 + size) (λ rule span there. names (record { rule = rule; span = span }) there) in
    let inside = later_part 1 1 (1 + size) (twice_decls predeclared p.decls) (find_decls file p.decls ++ find_main p.decls) (omega arith)
    (all_twice_within (meanings p) 1 1 predeclared p.decls free) all in
    let decls = before 1 (1 + size) (1 + size) (find_decls file p.decls) (find_main p.decls) (omega arith)
    (within_broken (1 + size) (1 + size) (not (has_main p.decls)) N5 (record { from = 0; to = 0 })) inside in
    decls_named (meanings p) file (decls_file predeclared p.decls predeclared_file) 1 plain.decls free decls

-- In a tree of a source, of which the phases before lowering say so, each variable is declared once and before its first use.
pub named : (tree plain : T.Program) → tree ≡ number_program plain → IsFirst (F.Breaks tree) None → IsFirst (X.Breaks tree) None
    → IsNamed [] (main_of tree.decls)
named tree plain is names forms =
    subst (λ (tree : T.Program). IsNamed [] (main_of tree.decls)) (sym is)
    (numbered_named plain (subst (λ (tree : T.Program). IsFirst (F.Breaks tree) None) is names)
    (subst (λ (tree : T.Program). IsFirst (X.Breaks tree) None) is forms))
