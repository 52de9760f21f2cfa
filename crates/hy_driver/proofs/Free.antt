-- Where a part of a tree has no form that is not built, its own parts have none.
use Rattle.std.proofs.Common.{◌≡◌, ℕ, ◌+◌, List, [], ◌∷◌, ◌++◌, Option, Some, None, Bool, true, false, ◌||◌, ◌&&◌, not, refl}
use Rattle.std.specs.Prelude.{if◌then◌else◌, codes}
use Rattle.std.specs.Str.{bytes_eq}
use Rattle.hy_base.specs.declared.position.Span.{Span}
use Rattle.hy_tree.specs.Findings.{is_main, is_function, none}
use Rattle.hy_tree.specs.Names.{is_there, base_text}
use Rattle.hy_tree.specs.Numbers.{number_expr, number_steps}
use Rattle.hy_tree.specs.Tree as T
use Rattle.hy_tree.specs.declared.operator.Introducer.{Introducer}
use Rattle.hy_tree.specs.declared.operator.Introducer.TheVariants as introducer
use Rattle.hy_meaning.specs.Forms.{only_call}
use Rattle.hy_front.specs.Unbuilt as X

-- EMPTY LISTS

pub none_first : {A : Type 0} (xs ys : List A) → xs ++ ys ≡ [] → xs ≡ []
none_first [] ys h = refl
none_first (x ∷ xs) ys h = absurd (cc)

pub none_last : {A : Type 0} (xs ys : List A) → xs ++ ys ≡ [] → ys ≡ []
none_last [] ys h = h
none_last (x ∷ xs) ys h = absurd (cc)

pub not_when : (b : Bool) (span : Span) → X.when b span ≡ [] → b ≡ false
not_when true span h = absurd (cc)
not_when false span h = refl

pub some_none : {A : Type 0} (x : A) (xs : List A) → x ∷ xs ≡ [] → ⊥
some_none x xs h = cc

pub first_false : (a b : Bool) → (a || b) ≡ false → a ≡ false
first_false true b h = h
first_false false b h = refl

pub last_false : (a b : Bool) → (a || b) ≡ false → b ≡ false
last_false true b h = absurd (cc)
last_false false b h = h

pub known_is : (b : Bool) → not b ≡ false → b ≡ true
known_is true h = refl
known_is false h = absurd (cc)

last_true : (a b : Bool) → (a && b) ≡ true → b ≡ true
last_true true b h = h
last_true false b h = absurd (cc)

first_true : (a b : Bool) → (a && b) ≡ true → a ≡ true
first_true true b h = refl
first_true false b h = absurd (cc)

-- STATEMENTS

-- no type is built
pub some_type : (written : T.TypeExp) → X.in_type written ≡ [] → ⊥
some_type (T.NamedType name at) h = cc
some_type (T.SelfType token at) h = cc
some_type (T.ArrayType element at) h = cc
some_type (T.TupleType parts at) h = cc

pub bound_value : (meant : X.Table) (introducer : Introducer) (value : T.Expr) → X.in_bound meant introducer value ≡ [] → X.in_expr meant value ≡ []
bound_value meant introducer.Var value h = none_last (X.when (X.is_place value) (T.at_expr value).span) (X.in_expr meant value) h
bound_value meant introducer.Let value h = h
bound_value meant introducer.Inout value h = h

pub assigned_value : (meant : X.Table) (value : T.Expr) → X.in_value meant value ≡ [] → X.in_expr meant value ≡ []
assigned_value meant value h = none_last (X.when (X.is_place value) (T.at_expr value).span) (X.in_expr meant value) h

-- the steps of a call of `print`, where `print` says that the name is that
pub data IsPrinted (meant : X.Table) (m : ℕ) : T.Steps → Bool → Type 0 where
  is_printed : (value : T.Expr) (at : T.At) → X.in_expr meant (number_expr (m + 1) value) ≡ []
      → IsPrinted meant m (T.ThenStep (T.CallStep (T.ThenArg None value T.NoArg) at) T.NoStep) true

pub printed_steps : (meant : X.Table) (m : ℕ) (steps : T.Steps) (print : Bool) (e : T.Expr) (span : Span)
    → X.in_printed meant e span (if print then only_call (number_steps m steps) else None) ≡ [] → IsPrinted meant m steps print
printed_steps meant m (T.ThenStep (T.CallStep (T.ThenArg None value T.NoArg) at) T.NoStep) true e span h =
    is_printed value at (none_last (X.when (X.is_discarded e span) span) (X.in_expr meant (number_expr (m + 1) value)) h)
printed_steps meant m T.NoStep true e span h = absurd (some_none span (X.in_expr meant e) h)
printed_steps meant m (T.ThenStep step (T.ThenStep other more)) true e span h = absurd (some_none span (X.in_expr meant e) h)
printed_steps meant m (T.ThenStep (T.MemberStep name at) T.NoStep) true e span h = absurd (some_none span (X.in_expr meant e) h)
printed_steps meant m (T.ThenStep (T.PartStep number at) T.NoStep) true e span h = absurd (some_none span (X.in_expr meant e) h)
printed_steps meant m (T.ThenStep (T.IndexStep args at) T.NoStep) true e span h = absurd (some_none span (X.in_expr meant e) h)
printed_steps meant m (T.ThenStep (T.CallStep T.NoArg at) T.NoStep) true e span h = absurd (some_none span (X.in_expr meant e) h)
printed_steps meant m (T.ThenStep (T.CallStep (T.ThenArg (Some label) value more) at) T.NoStep) true e span h = absurd (some_none span (X.in_expr meant e) h)
printed_steps meant m (T.ThenStep (T.CallStep (T.ThenArg None value (T.ThenArg label other more)) at) T.NoStep) true e span h =
    absurd (some_none span (X.in_expr meant e) h)
printed_steps meant m steps false e span h = absurd (some_none span (X.in_expr meant e) h)

-- DECLARATIONS

empty_list : {A : Type 0} (xs : List A) → none xs ≡ true → xs ≡ []
empty_list [] h = refl
empty_list (x ∷ xs) h = absurd (cc)

pub nothing_there : {A : Type 0} (o : Option A) → is_there o ≡ false → o ≡ None
nothing_there None h = refl
nothing_there (Some a) h = absurd (cc)

-- `main` has no type parameters, no parameters and no result
pub record IsBare (c : T.Callable) : Type 0 where
  pub generics : c.generics ≡ []
  pub params : c.params ≡ []
  pub result : c.result ≡ None

pub bare_main : (c : T.Callable) → is_main (T.DeclCallable c) ≡ true → IsBare c
bare_main c h =
    let name = bytes_eq (base_text c.name) (codes "main") in
    let after_kind = last_true (is_function c.kind) (name && (none c.generics && (none c.params && not (is_there c.result)))) h in
    let after_name = last_true name (none c.generics && (none c.params && not (is_there c.result))) after_kind in
    let after_generics = last_true (none c.generics) (none c.params && not (is_there c.result)) after_name in
    record {
      generics = empty_list c.generics (first_true (none c.generics) (none c.params && not (is_there c.result)) after_name);
      params = empty_list c.params (first_true (none c.params) (not (is_there c.result)) after_generics);
      result = nothing_there c.result (not_true (is_there c.result) (last_true (none c.params) (not (is_there c.result)) after_generics));
    }
  where
    not_true : (b : Bool) → not b ≡ true → b ≡ false
    not_true true h = absurd (cc)
    not_true false h = refl

-- each declaration is `main`
pub declares_main : (meant : X.Table) (decl : T.Decl) → X.in_decl meant decl ≡ [] → is_main decl.kind ≡ true
declares_main meant decl h =
    known_is (is_main decl.kind)
    (last_false decl.public (not (is_main decl.kind))
    (not_when (decl.public || not (is_main decl.kind)) decl.at.span (none_first (X.when (decl.public || not (is_main decl.kind)) decl.at.span)
    (X.in_decl_kind meant decl.kind) h)))

pub variants_free : (meant : X.Table) (main : Bool) (c : T.Callable) → X.in_callable meant main c ≡ [] → X.in_variants meant c.variants ≡ []
variants_free meant main c h =
    let generics = X.in_generics c.generics in
    let params = X.in_params c.params in
    let written = X.in_written c.result in
    let variants = X.in_variants meant c.variants in
    none_last written variants
    (none_last params (written ++ variants)
    (none_last generics (params ++ (written ++ variants)) (none_last (X.when (not main) c.at.span) (generics ++ (params ++ (written ++ variants))) h)))
