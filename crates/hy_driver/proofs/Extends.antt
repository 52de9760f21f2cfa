-- What is appended to what is there.
use Rattle.std.proofs.Common.{◌≡◌, ℕ, zero, suc, ◌+◌, ◌<◌, true, false, not, cond, List, [], ◌∷◌, ◌++◌, length, drop, get_or, nat_lt, ◌≤◌, Bool, None}
use Rattle.std.proofs.Common.{Some, refl, sym, ap, ◌∙◌, subst, arith}
use Rattle.std.specs.Prelude.{if◌then◌else◌, position, bytes_eq}
use Rattle.std.specs.List.{position_or_len}
use Rattle.std.proofs.lemmas.List.{append-nil, length-append, drop_more}
use Rattle.std.proofs.lemmas.Option.{cond_some}
use Rattle.std.proofs.lemmas.Slice.Eq.{bytes_eq-Decides}
use Rattle.std.proofs.lemmas.Bool.Decides.{same_from_decides}
use Rattle.hy_base.specs.declared.position.Span.{Span}
use Rattle.hy_tree.specs.Denotes.{links_of, stmt_of, stmts_of, expr_of}
use Rattle.hy_tree.specs.Tree as T
use Rattle.hy_tree.specs.Tree.{Program}
use Rattle.hy_tree.specs.declared.expression.Link.{Link}
use Rattle.hy_tree.specs.declared.statement.Stmt.{Stmt}
use Rattle.hy_meaning.specs.Forms.{main_of}
use Rattle.hy_driver.specs.Scopes.{Scope}
use Rattle.hy_object.specs.declared.object.Fun.{Fun}
use Rattle.hy_object.specs.declared.instr.Instr.{Instr}
use Rattle.hy_object.specs.declared.instr.Instr.TheVariants as instr
use Rattle.hy_machine.specs.Built.{IsBuilt}
use Rattle.hy_driver.specs.Lower.{Extends, place_of, load, more_code, spans_after, links_in, declares, stmt_code, block_code, more_spans, stmt_spans}
use Rattle.hy_driver.specs.Lower.{block_spans, declared, variable, main_code, main_fun, lowered}
use Rattle.hy_driver.specs.Compiled.{IsCompiled}
use Rattle.hy_driver.proofs.Compiles.{compiles}
use Rattle.hy_driver.proofs.Grammar.{AreSizes, in_grammar, is_built}
use Rattle.hy_driver.proofs.Known.{IsNamed}

-- LOOK-UPS

either_way : (x y : List ℕ) → bytes_eq x y ≡ bytes_eq y x
either_way x y = same_from_decides {P = x ≡ y} (bytes_eq x y) (bytes_eq y x) (bytes_eq-Decides x y) (
  λ h. sym ((bytes_eq-Decides y x).0 h),
  λ h.
      (bytes_eq-Decides y x).1 (sym h),
)

first_place : (name : List ℕ) (scope : Scope) → position_or_len (bytes_eq name) scope ≡ place_of scope name
first_place name [] = refl
first_place name (x ∷ scope) =
    ap (λ b. cond (not b) (1 + position_or_len (bytes_eq name) scope) 0) (either_way name x)
    ∙ elim (bytes_eq x name) as (λ b. cond (not b) (1 + position_or_len (bytes_eq name) scope) 0 ≡ (if b then zero else suc (place_of scope name)))
    [ true ↦ refl | false ↦ (let e = first_place name scope in omega arith) ]

pub placed : (name : List ℕ) (scope : Scope) (place : ℕ) → Some place ≡ position (bytes_eq name) scope → place ≡ place_of scope name
placed name scope place h =
    let p : ℕ = position_or_len (bytes_eq name) scope in
    sym (cond_some (nat_lt p (length scope)) p place (sym h)).1 ∙ first_place name scope

-- a name that is not there would stand after all
missing : (p n : ℕ) → cond (nat_lt p n) (Some p) None ≡ None → n ≤ p
missing p n h = by (nat_lt p n) refl
  where
    by : (b : Bool) → nat_lt p n ≡ b → n ≤ p
    by true e = let g : cond true (Some p) None ≡ None = ap (λ b. cond b (Some p) None) (sym e) ∙ h in absurd (cc)
    by false e = grind arith

at_most : (name : List ℕ) (scope : Scope) → place_of scope name ≤ length scope
at_most name [] = omega arith
at_most name (x ∷ scope) = elim (bytes_eq x name) as (λ b. (if b then zero else suc (place_of scope name)) ≤ suc (length scope)) [
  | true ↦ omega arith
  | false ↦ (let e = at_most name scope in omega arith)
]

pub not_placed : (name : List ℕ) (scope : Scope) → None ≡ position (bytes_eq name) scope → length scope ≡ place_of scope name
not_placed name scope h =
    let more = missing (position_or_len (bytes_eq name) scope) (length scope) (sym h) in
    let same = first_place name scope in
    let less = at_most name scope in
    omega (arith, more, same, less)

-- LISTS

-- the item that a loop is at
pub at_item : {A : Type 0} (xs : List A) (i : ℕ) (x : A) → i < length xs → x ≡ get_or xs i x → drop i xs ≡ x ∷ drop (i + 1) xs
at_item xs i x lt is = drop_more xs i x lt ∙ ap (λ y. y ∷ drop (i + 1) xs) (sym is)

pub one_longer : {A : Type 0} (old new : List A) (x : A) → Extends old new (λ rest. x ∷ rest) → length new ≡ suc (length old)
one_longer old new x h =
    let e : length new ≡ length old + 1 = ap length (sym (append-nil new)) ∙ ap length (h []) ∙ length-append old (x ∷ []) in
    omega arith

pub spans_counted_all : (links : T.Links) (old new : List Span) → Extends old new (more_spans links) → spans_after (length old) links ≡ length new
spans_counted_all links old new h =
    let e : length new ≡ length old + length (more_spans links []) = ap length (sym (append-nil new)) ∙ ap length (h [])
    ∙ length-append old (more_spans links []) in
    counted links (length old) ∙ sym e
  where
    counted : (links : T.Links) (n : ℕ) → spans_after n links ≡ n + length (more_spans links [])
    counted T.NoLink n = omega arith
    counted (T.ThenLink operator token operand at links) n = let f = counted links (suc n) in omega arith

-- LOOPS. `done` is what is wanted, as a function of what comes after.

pub item_put : (scope : Scope) (i : ℕ) (xs : List Link) (x : Link) (next : Instr) (span : ℕ) (c1 c2 c3 : List Instr) (s1 s2 : List Span)
    (code : List Instr → List Instr) (spans : List Span → List Span) →
    drop i xs ≡ x ∷ drop (i + 1) xs → next ≡ load scope 1 (expr_of x.operand) → span ≡ length s1 →
    Extends c1 c2 (λ rest. next ∷ rest) → Extends c2 c3 (λ rest. instr.Add 0 0 1 span ∷ rest) → Extends s1 s2 (λ rest. x.span ∷ rest) →
    ((rest : List Instr) → c1 ++ more_code scope (length s1) (links_of (drop i xs)) rest ≡ code rest)
    → ((rest : List Span) → s1 ++ more_spans (links_of (drop i xs)) rest ≡ spans rest) →
    ((rest : List Instr) → c3 ++ more_code scope (length s2) (links_of (drop (i + 1) xs)) rest ≡ code rest)
    × ((rest : List Span) → s2 ++ more_spans (links_of (drop (i + 1) xs)) rest ≡ spans rest)
item_put scope i xs x next span c1 c2 c3 s1 s2 code spans at is same first second third so_far spans_so_far =
    let ys : List Link = drop (i + 1) xs in
    let longer = one_longer s1 s2 x.span third in (
      λ rest.
          let more : List Instr = more_code scope (length s2) (links_of ys) rest in
          second more ∙ first (instr.Add 0 0 1 span ∷ more) ∙ (λ j. c1 ++ (is j ∷ instr.Add 0 0 1 (same j) ∷ more_code scope (longer j) (links_of ys) rest))
          ∙ ap (λ zs. c1 ++ more_code scope (length s1) (links_of zs) rest) (sym at) ∙ so_far rest,
      λ rest. third (more_spans (links_of ys) rest) ∙ ap (λ zs. s1 ++ more_spans (links_of zs) rest) (sym at) ∙ spans_so_far rest,
    )

pub stmt_put : (i : ℕ) (xs : List Stmt) (x : Stmt) (scope scope1 last : Scope) (c1 c2 : List Instr) (s1 s2 : List Span) (code : List Instr
    → List Instr) (spans : List Span → List Span) →
    drop i xs ≡ x ∷ drop (i + 1) xs → scope1 ≡ declares scope (stmt_of x) → Extends c1 c2 (stmt_code scope (length s1) (stmt_of x))
    → Extends s1 s2 (stmt_spans (stmt_of x)) →
    declared scope (stmts_of (drop i xs)) ≡ last → ((rest : List Instr) → c1 ++ block_code scope (length s1) (stmts_of (drop i xs)) rest ≡ code rest)
    → ((rest : List Span) → s1 ++ block_spans (stmts_of (drop i xs)) rest ≡ spans rest) →
    (declared scope1 (stmts_of (drop (i + 1) xs)) ≡ last)
    × ((rest : List Instr) → c2 ++ block_code scope1 (length s2) (stmts_of (drop (i + 1) xs)) rest ≡ code rest)
    × ((rest : List Span) → s2 ++ block_spans (stmts_of (drop (i + 1) xs)) rest ≡ spans rest)
stmt_put i xs x scope scope1 last c1 c2 s1 s2 code spans at is first second names so_far spans_so_far =
    let ys : List Stmt = drop (i + 1) xs in
    let m : T.Stmt = stmt_of x in
    let longer : spans_after (length s1) (links_in m) ≡ length s2 = spans_counted_all (links_in m) s1 s2 second in (
      ap (λ scope. declared scope (stmts_of ys)) is ∙ ap (λ zs. declared scope (stmts_of zs)) (sym at) ∙ names,
      λ rest.
          (λ j. c2 ++ block_code (is j) (sym longer j) (stmts_of ys) rest)
          ∙ first (block_code (declares scope m) (spans_after (length s1) (links_in m)) (stmts_of ys) rest)
          ∙ ap (λ zs. c1 ++ block_code scope (length s1) (stmts_of zs) rest) (sym at) ∙ so_far rest,
      λ rest. second (block_spans (stmts_of ys) rest) ∙ ap (λ zs. s1 ++ block_spans (stmts_of zs) rest) (sym at) ∙ spans_so_far rest,
    )

-- THE OBJECT

pub compiles_as_put : (tree : Program) (stmts : T.Stmts) (scope0 scope : Scope) (code0 code1 code : List Instr) (spans0 spans : List Span) (words : ℕ)
    (funs : List Fun) →
    IsNamed [] (main_of tree.decls) → stmts ≡ main_of tree.decls → scope0 ≡ [] → code0 ≡ [] → spans0 ≡ [] → scope ≡ declared scope0 stmts →
    Extends code0 code1 (block_code scope0 (length spans0) stmts) → Extends code1 code (λ rest. instr.Return 0 ∷ rest)
    → Extends spans0 spans (block_spans stmts) →
    words ≡ variable (length scope) → funs ≡ record { accesses = 0; owned = 0; result = 0; words = words; slots = 0; code = code } ∷ []
    → AreSizes code spans words →
    IsCompiled tree (record { spans = spans; funs = funs }) × IsBuilt (record { spans = spans; funs = funs })
compiles_as_put tree stmts scope0 scope code0 code1 code spans0 spans words funs named same no_scope no_code no_spans names first last written
    words_is funs_is sizes =
    let end : List Instr = instr.Return 0 ∷ [] in
    let code_is : code ≡ main_code (main_of tree.decls) = sym (append-nil code) ∙ last [] ∙ first end
    ∙ (λ i. no_code i ++ block_code (no_scope i) (length (no_spans i)) (same i) end) in
    let spans_is : spans ≡ block_spans (main_of tree.decls) [] = sym (append-nil spans) ∙ written [] ∙ (λ i. no_spans i ++ block_spans (same i) []) in
    let words_are : words ≡ variable (length (declared [] (main_of tree.decls))) = words_is ∙ ap (λ scope. variable (length scope)) names
    ∙ (λ i. variable (length (declared (no_scope i) (same i)))) in
    let funs_are : funs ≡ main_fun (main_of tree.decls) ∷ [] = funs_is
    ∙ (λ i. record { accesses = 0; owned = 0; result = 0; words = words_are i; slots = 0; code = code_is i } ∷ []) in
    let object : record { spans = spans; funs = funs } ≡ lowered tree = λ i. record { spans = spans_is i; funs = funs_are i } in
    let Sized : ℕ → Type 0 = AreSizes (main_code (main_of tree.decls)) (block_spans (main_of tree.decls) []) in
    let sized : Sized (main_fun (main_of tree.decls)).words =
    subst Sized words_are (subst (λ spans. AreSizes (main_code (main_of tree.decls)) spans words) spans_is
    (subst (λ code. AreSizes code spans words) code_is sizes)) in
    let built : IsBuilt (lowered tree) = is_built tree in
    subst (λ o. IsCompiled tree o × IsBuilt o) (sym object) (compiles tree named (in_grammar tree sized) built, built)
