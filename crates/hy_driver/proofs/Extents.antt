-- What is found in a part that is built stands at the nodes of that part.
use Rattle.std.proofs.Common.{◌≡◌, ℕ, ◌+◌, List, [], ◌∷◌, ◌++◌, Some, None, Bool, true, false, ◌||◌, not, sym, subst, arith}
use Rattle.std.specs.Prelude.{codes}
use Rattle.std.specs.Str.{bytes_eq}
use Rattle.hy_base.specs.declared.position.Span.{Span}
use Rattle.hy_base.specs.declared.refusal.Rule.TheVariants.{N2}
use Rattle.hy_tree.specs.FileNames.{File, is_reserved, with_decl}
use Rattle.hy_tree.specs.Findings as F
use Rattle.hy_tree.specs.Findings.{Around, Use, Alone, Called, Finding, find_as, find_expr, find_links, find_stmt, find_stmts, find_block, find_body}
use Rattle.hy_tree.specs.Findings.{find_variant, find_variants, find_written, find_generics, find_params, find_callable, find_decl, find_decls}
use Rattle.hy_tree.specs.Findings.{twice_decl, twice_decls, with_generics, with_params, declares, here, found_name, stands_for, is_main}
use Rattle.hy_tree.specs.Names.{Names, no_names, with_name, is_there}
use Rattle.hy_tree.specs.Numbers.{number_type, number_expr, number_links, number_stmt, number_stmts, number_block, number_variant, number_callable}
use Rattle.hy_tree.specs.Numbers.{number_decl_kind, number_decl, number_all, count_expr, count_links, count_stmt, count_stmts, count_block}
use Rattle.hy_tree.specs.Numbers.{count_generic, count_param, count_type, count_optional, count_variant, count_callable, count_all, count_decl_kind}
use Rattle.hy_tree.specs.Numbers.{count_decl}
use Rattle.hy_tree.specs.Tree as T
use Rattle.hy_tree.specs.declared.meant.Meant.TheVariants as meaning
use Rattle.hy_front.specs.Unbuilt as X
use Rattle.hy_meaning.specs.Forms.{printed}
use Rattle.hy_driver.proofs.Found.{Within, within_none, wider, within_both, within_broken, within_name}
use Rattle.hy_driver.proofs.Free.{none_first, none_last, not_when, last_false, some_type, bound_value, assigned_value, IsPrinted, is_printed}
use Rattle.hy_driver.proofs.Free.{printed_steps, IsBare, bare_main, declares_main, variants_free}

-- around `main`
abbrev pub at_file : File → Around
at_file file = record { file = file; fields = no_names; generics = no_names; own = None }

-- what is found in `main` is found in its body
pub main_is : (file : File) (c : T.Callable) → IsBare c → find_decl file (T.DeclCallable c) ≡ find_variants (at_file file) (no_names ∷ []) no_names c.variants
main_is file c bare = λ i.
    find_generics file no_names 0 (bare.generics i)
    ++ (find_params (record (at_file file) { generics = with_generics no_names 0 (bare.generics i) }) no_names (bare.params i)
    ++ (find_written (record (at_file file) { generics = with_generics no_names 0 (bare.generics i) }) (bare.result i)
    ++ find_variants (record (at_file file) { generics = with_generics no_names 0 (bare.generics i) }) (with_params no_names (bare.params i) ∷ [])
    no_names c.variants))

-- the number of the first variant
abbrev pub first_variant : ℕ → T.Callable → ℕ
first_variant n c = n + 1 + count_all count_generic c.generics + count_all count_param c.params + count_optional count_type c.result

module _ (meant : X.Table) where
  mutual
    pub expr_within : (around : Around) (blocks : List Names) (used : Use) (n : ℕ) (e : T.Expr) → X.in_expr meant (number_expr n e) ≡ []
        → Within n (n + count_expr e) (find_as around blocks used (number_expr n e))
    expr_within around blocks used n (T.Chain first links at) h =
        let parts = none_last (X.in_operand (number_expr (n + 1) first))
        (X.in_expr meant (number_expr (n + 1) first) ++ X.in_links meant (number_links (n + 1 + count_expr first) links)) h in
        let left = find_as around blocks Alone (number_expr (n + 1) first) in
        let right = find_links around blocks (number_links (n + 1 + count_expr first) links) in
        within_both n (n + (1 + count_expr first + count_links links)) left right
        (wider (n + 1) (n + 1 + count_expr first) n (n + (1 + count_expr first + count_links links)) left (omega arith) (omega arith)
        (expr_within around blocks Alone (n + 1) first
        (none_first (X.in_expr meant (number_expr (n + 1) first)) (X.in_links meant (number_links (n + 1 + count_expr first) links)) parts)))
        (wider (n + 1 + count_expr first) (n + 1 + count_expr first + count_links links) n (n + (1 + count_expr first + count_links links)) right
        (omega arith) (omega arith)
        (links_within around blocks (n + 1 + count_expr first) links
        (none_last (X.in_expr meant (number_expr (n + 1) first)) (X.in_links meant (number_links (n + 1 + count_expr first) links)) parts)))
    expr_within around blocks used n (T.Named name at) h = within_name around.file name n (stands_for around blocks name.text used)
    expr_within around blocks used n (T.Number number at) h = within_none n (n + 1)
    expr_within around blocks used n e h = absurd (cc)

    pub links_within : (around : Around) (blocks : List Names) (n : ℕ) (links : T.Links) → X.in_links meant (number_links n links) ≡ []
        → Within n (n + count_links links) (find_links around blocks (number_links n links))
    links_within around blocks n T.NoLink h = within_none n (n + 0)
    links_within around blocks n (T.ThenLink operator token operand at more) h =
        let right = number_expr (n + 1) operand in
        let rest = number_links (n + 1 + count_expr operand) more in
        let one = X.when (not (X.is_plus operator)) at.span ++ (X.in_operand right ++ X.in_expr meant right) in
        let all = n + (1 + count_expr operand + count_links more) in
        let here = none_last (X.in_operand right) (X.in_expr meant right)
        (none_last (X.when (not (X.is_plus operator)) at.span) (X.in_operand right ++ X.in_expr meant right) (none_first one (X.in_links meant rest) h)) in
        within_both n all (find_as around blocks Alone right) (find_links around blocks rest)
        (wider (n + 1) (n + 1 + count_expr operand) n all (find_as around blocks Alone right) (omega arith) (omega arith)
        (expr_within around blocks Alone (n + 1) operand here))
        (wider (n + 1 + count_expr operand) (n + 1 + count_expr operand + count_links more) n all (find_links around blocks rest) (omega arith) (omega arith)
        (links_within around blocks (n + 1 + count_expr operand) more (none_last one (X.in_links meant rest) h)))

  pub printed_within : (around : Around) (blocks : List Names) (n : ℕ) (e : T.Expr) (span : Span)
      → X.in_printed meant (number_expr n e) span (printed (number_expr n e)) ≡ [] → Within n (n + count_expr e) (find_expr around blocks (number_expr n e))
  printed_within around blocks n (T.Postfix (T.Named name at) steps end) span h =
      by steps (bytes_eq name.text (codes "print")) (printed_steps meant (n + 1 + 1) steps (bytes_eq name.text (codes "print"))
      (number_expr n (T.Postfix (T.Named name at) steps end)) span h)
    where
      by : (steps : T.Steps) (print : Bool) → IsPrinted meant (n + 1 + 1) steps print
          → Within n (n + count_expr (T.Postfix (T.Named name at) steps end)) (find_expr around blocks (number_expr n (T.Postfix (T.Named name at) steps end)))
      by _ _ (is_printed value at2 free) =
          let all = n + (1 + 1 + (1 + (count_expr value + 0) + 0)) in
          let callee = found_name around.file name (n + 1) (stands_for around blocks name.text (Called (None ∷ []))) in
          let argument = find_as around blocks Alone (number_expr (n + 1 + 1 + 1) value) in
          within_both n all callee ((argument ++ []) ++ [])
          (wider (n + 1) (n + 1 + 1) n all callee (omega arith) (omega arith)
          (within_name around.file name (n + 1) (stands_for around blocks name.text (Called (None ∷ [])))))
          (within_both n all (argument ++ []) []
          (within_both n all argument [] (wider (n + 1 + 1 + 1) (n + 1 + 1 + 1 + count_expr value) n all argument (omega arith) (omega arith)
          (expr_within around blocks Alone (n + 1 + 1 + 1) value free)) (within_none n all)) (within_none n all))
  printed_within around blocks n e span h = absurd (cc)

  pub stmt_within : (around : Around) (blocks : List Names) (n : ℕ) (s : T.Stmt) → X.in_stmt meant (number_stmt n s) ≡ []
      → Within n (n + count_stmt s) (find_stmt around blocks (number_stmt n s))
  stmt_within around blocks n (T.Binding introducer name None value at) h =
      let it = number_expr (n + 1 + 0) value in
      let all = n + (1 + 0 + count_expr value) in
      let free = bound_value meant introducer it (none_last (X.when (not (X.is_plain introducer None)) at.span) (X.in_bound meant introducer it) h) in
      within_both n all (find_expr around blocks it) (declares (here blocks) name)
      (wider (n + 1 + 0) (n + 1 + 0 + count_expr value) n all (find_expr around blocks it) (omega arith) (omega arith)
      (expr_within around blocks Alone (n + 1 + 0) value free))
      (within_broken n all (is_there (here blocks name.text) || is_reserved name.text) N2 name.span)
  stmt_within around blocks n (T.Binding introducer name (Some written) value at) h =
      let it = number_expr (n + 1 + count_type written) value in
      let typed = X.in_type (number_type (n + 1) written) in
      absurd (some_type (number_type (n + 1) written)
      (none_first typed (X.in_bound meant introducer it)
      (none_last (X.when (not (X.is_plain introducer (Some (number_type (n + 1) written)))) at.span) (typed ++ X.in_bound meant introducer it) h)))
  stmt_within around blocks n (T.Assign target value at) h =
      let to = number_expr (n + 1) target in
      let it = number_expr (n + 1 + count_expr target) value in
      let all = n + (1 + count_expr target + count_expr value) in
      let both = none_last (X.when (not (X.is_name to)) at.span) (X.in_expr meant to ++ X.in_value meant it) h in
      within_both n all (find_expr around blocks to) (find_expr around blocks it)
      (wider (n + 1) (n + 1 + count_expr target) n all (find_expr around blocks to) (omega arith) (omega arith)
      (expr_within around blocks Alone (n + 1) target (none_first (X.in_expr meant to) (X.in_value meant it) both)))
      (wider (n + 1 + count_expr target) (n + 1 + count_expr target + count_expr value) n all (find_expr around blocks it) (omega arith) (omega arith)
      (expr_within around blocks Alone (n + 1 + count_expr target) value
      (assigned_value meant it (none_last (X.in_expr meant to) (X.in_value meant it) both))))
  stmt_within around blocks n (T.Evaluate e at) h =
      wider (n + 1) (n + 1 + count_expr e) n (n + (1 + count_expr e)) (find_expr around blocks (number_expr (n + 1) e)) (omega arith) (omega arith)
      (printed_within around blocks (n + 1) e at.span h)
  stmt_within around blocks n s h = absurd (cc)

  pub stmts_within : (around : Around) (blocks : List Names) (n : ℕ) (stmts : T.Stmts) → X.in_stmts meant (number_stmts n stmts) ≡ []
      → Within n (n + count_stmts stmts) (find_stmts around blocks (number_stmts n stmts))
  stmts_within around blocks n T.NoStmt h = within_none n (n + 0)
  stmts_within around blocks n (T.ThenStmt s more) h =
      let it = number_stmt n s in
      let rest = number_stmts (n + count_stmt s) more in
      let all = n + (count_stmt s + count_stmts more) in
      within_both n all (find_stmt around blocks it) (find_stmts around (F.behind blocks it) rest)
      (wider n (n + count_stmt s) n all (find_stmt around blocks it) (omega arith) (omega arith)
      (stmt_within around blocks n s (none_first (X.in_stmt meant it) (X.in_stmts meant rest) h)))
      (wider (n + count_stmt s) (n + count_stmt s + count_stmts more) n all (find_stmts around (F.behind blocks it) rest) (omega arith) (omega arith)
      (stmts_within around (F.behind blocks it) (n + count_stmt s) more (none_last (X.in_stmt meant it) (X.in_stmts meant rest) h)))

  pub block_within : (around : Around) (blocks : List Names) (n : ℕ) (block : T.Block) → X.in_block meant (number_block n block) ≡ []
      → Within n (n + count_block block) (find_block around blocks (number_block n block))
  block_within around blocks n (T.Braces stmts at) h =
      wider (n + 1) (n + 1 + count_stmts stmts) n (n + (1 + count_stmts stmts)) (find_stmts around (no_names ∷ blocks) (number_stmts (n + 1) stmts))
      (omega arith) (omega arith) (stmts_within around (no_names ∷ blocks) (n + 1) stmts h)

  body_within : (around : Around) (blocks : List Names) (n : ℕ) (v : T.Variant) (value : _) → is_there value ≡ false
      → X.in_block meant (number_block (n + 1) v.block) ≡ [] → Within n (n + count_variant v) (find_body around blocks (number_variant n v) value)
  body_within around blocks n v None none free =
      wider (n + 1) (n + 1 + count_block v.block) n (n + (1 + count_block v.block)) (find_block around blocks (number_block (n + 1) v.block))
      (omega arith) (omega arith) (block_within around blocks (n + 1) v.block free)
  body_within around blocks n v (Some value) none free = absurd (cc)

  pub variants_within : (around : Around) (blocks : List Names) (words : Names) (n : ℕ) (variants : List T.Variant)
      → X.in_variants meant (number_all count_variant number_variant n variants) ≡ []
      → Within n (n + count_all count_variant variants) (find_variants around blocks words (number_all count_variant number_variant n variants))
  variants_within around blocks words n [] h = within_none n (n + 0)
  variants_within around blocks words n (v ∷ more) h =
      let it = number_variant n v in
      let rest = number_all count_variant number_variant (n + count_variant v) more in
      let all = n + (count_variant v + count_all count_variant more) in
      let here = none_first (X.when (X.is_special it) it.at.span ++ X.in_block meant it.block) (X.in_variants meant rest) h in
      let plain = last_false (is_there v.keyword) (is_there v.value)
      (not_when (X.is_special it) it.at.span (none_first (X.when (X.is_special it) it.at.span) (X.in_block meant it.block) here)) in
      let words_after = with_name (F.word_of it.mode) meaning.Nothing words in
      within_both n all (find_variant around blocks words it) (find_variants around blocks words_after rest)
      (wider n (n + count_variant v) n all (find_variant around blocks words it) (omega arith) (omega arith)
      (within_both n (n + count_variant v) (F.when (is_there (words (F.word_of it.mode))) _) (find_body around blocks it it.value)
      (within_broken n (n + count_variant v) (is_there (words (F.word_of it.mode))) N2 _)
      (body_within around blocks n v v.value plain (none_last (X.when (X.is_special it) it.at.span) (X.in_block meant it.block) here))))
      (wider (n + count_variant v) (n + count_variant v + count_all count_variant more) n all (find_variants around blocks words_after rest)
      (omega arith) (omega arith)
      (variants_within around blocks words_after (n + count_variant v) more
      (none_last (X.when (X.is_special it) it.at.span ++ X.in_block meant it.block) (X.in_variants meant rest) h)))

  kind_within : (file : File) (n : ℕ) (kind : T.DeclKind) → is_main (number_decl_kind n kind) ≡ true
      → X.in_decl_kind meant (number_decl_kind n kind) ≡ [] → Within n (n + count_decl_kind kind) (find_decl file (number_decl_kind n kind))
  kind_within file n (T.DeclCallable c) main h =
      let it = number_callable n c in
      let found = find_variants (at_file file) (no_names ∷ []) no_names it.variants in
      subst (Within n (n + count_callable c)) (sym (main_is file it (bare_main it main)))
      (wider (first_variant n c) (first_variant n c + count_all count_variant c.variants) n (n + count_callable c) found (omega arith) (omega arith)
      (variants_within (at_file file) (no_names ∷ []) no_names (first_variant n c) c.variants (variants_free meant (is_main (T.DeclCallable it)) it h)))
  kind_within file n kind main h = absurd (cc)

  pub decl_free : (n : ℕ) (d : T.Decl) → X.in_decl meant (number_decl n d) ≡ [] → X.in_decl_kind meant (number_decl_kind (n + 1) d.kind) ≡ []
  decl_free n d h = none_last (X.when (d.public || not (is_main (number_decl_kind (n + 1) d.kind))) d.at.span)
      (X.in_decl_kind meant (number_decl_kind (n + 1) d.kind)) h

  pub decls_within : (file : File) (n : ℕ) (decls : List T.Decl) → X.in_decls meant (number_all count_decl number_decl n decls) ≡ []
      → Within n (n + count_all count_decl decls) (find_decls file (number_all count_decl number_decl n decls))
  decls_within file n [] h = within_none n (n + 0)
  decls_within file n (d ∷ more) h =
      let it = number_decl n d in
      let rest = number_all count_decl number_decl (n + count_decl d) more in
      let all = n + (count_decl d + count_all count_decl more) in
      let here = none_first (X.in_decl meant it) (X.in_decls meant rest) h in
      within_both n all (find_decl file it.kind) (find_decls file rest)
      (wider (n + 1) (n + 1 + count_decl_kind d.kind) n all (find_decl file it.kind) (omega arith) (omega arith)
      (kind_within file (n + 1) d.kind (declares_main meant it here) (decl_free n d here)))
      (wider (n + count_decl d) (n + count_decl d + count_all count_decl more) n all (find_decls file rest) (omega arith) (omega arith)
      (decls_within file (n + count_decl d) more (none_last (X.in_decl meant it) (X.in_decls meant rest) h)))

  twice_within : (a b : ℕ) (file : File) (kind : T.DeclKind) → is_main kind ≡ true → Within a b (twice_decl file kind)
  twice_within a b file (T.DeclCallable c) main = within_broken a b _ N2 _
  twice_within a b file kind main = absurd (cc)

  pub all_twice_within : (a b : ℕ) (file : File) (decls : List T.Decl) → X.in_decls meant decls ≡ [] → Within a b (twice_decls file decls)
  all_twice_within a b file [] h = within_none a b
  all_twice_within a b file (d ∷ more) h =
      within_both a b (twice_decl file d.kind) (twice_decls (with_decl file d.kind) more)
      (twice_within a b file d.kind (declares_main meant d (none_first (X.in_decl meant d) (X.in_decls meant more) h)))
      (all_twice_within a b (with_decl file d.kind) more (none_last (X.in_decl meant d) (X.in_decls meant more) h))
