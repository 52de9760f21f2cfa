-- Parts in parentheses, of which one alone is itself.
use Rattle.std.proofs.Common.{◌≡◌, ℕ, List, [], ◌∷◌, ◌++◌, length, map, Option, Some, None, MatchOption, refl, sym, ap, subst, ◌∙◌, arith}
use Rattle.std.proofs.lemmas.List.{length-append}
use Rattle.hy_base.specs.declared.position.Span.{Span}
use Rattle.hy_tree.specs.Denotes.{placed, type_kind_of, type_of, types_of, expr_kind_of, expr_of, exprs_of, step_of}
use Rattle.hy_tree.specs.declared.expression.Expr.{Expr}
use Rattle.hy_tree.specs.declared.expression.ExprKind.TheVariants as E
use Rattle.hy_tree.specs.declared.expression.Step.{Step}
use Rattle.hy_tree.specs.declared.written.TypeExp.{TypeExp}
use Rattle.hy_tree.specs.declared.written.TypeKind.TheVariants as Y
use Rattle.hy_tree.specs.Tree as T
use Rattle.hy_tree.proofs.Equations.{tuple_type_is, tuple_is, postfix_is}
use Rattle.hy_grammar.specs.Nodes as node
use Rattle.hy_phrases.proofs.Widened.{widened_type, widened, expr_at}

pub only_one : {A : Type 0} (rest parts : List A) (last : A) → length parts ≡ 1 → parts ≡ rest ++ last ∷ [] → parts ≡ last ∷ []
only_one [] parts last h e = e
only_one (x ∷ rest) parts last h e = let l = ap length e in let m = length-append rest (last ∷ []) in absurd (omega (arith, l, m, h))

pub popped_is : {A : Type 0} (old new : List A) (found : Option A) (one : A) → MatchOption found ((old ≡ []) × (new ≡ [])) (λ last. old ≡ new ++ last ∷ [])
    → found ≡ Some one → old ≡ new ++ one ∷ []
popped_is old new None one h e = let w : ⊥ = cc in absurd w
popped_is old new (Some last) one h e = let same : last ≡ one = cc in subst (λ x. old ≡ new ++ x ∷ []) same h

pub type_alone : (bracket close : Span) (rest parts : List TypeExp) (one : TypeExp) → length parts ≡ 1 → parts ≡ rest ++ one ∷ []
    → type_kind_of one.kind (placed (record { from = bracket.from; to = close.to }) one.node) ≡ node.types bracket (map type_of parts) close
unfolding node.types
type_alone bracket close rest parts one h e =
    widened_type one.kind (record { from = bracket.from; to = close.to }) one.span one.node
    ∙ ap (λ l. node.types bracket (map type_of l) close) (sym (only_one rest parts one h e))

several_types : (bracket close : Span) (parts : List TypeExp) → (length parts ≡ 1 → ⊥)
    → T.TupleType (types_of parts) (node.at bracket.from close.to) ≡ node.types bracket (map type_of parts) close
unfolding node.types
several_types bracket close [] h = refl
several_types bracket close (x ∷ []) h = absurd (h (omega arith))
several_types bracket close (x ∷ y ∷ more) h = refl

pub type_tuple : (bracket close : Span) (parts : List TypeExp) → (length parts ≡ 1 → ⊥)
    → type_kind_of (Y.Tuple parts) (node.at bracket.from close.to) ≡ node.types bracket (map type_of parts) close
type_tuple bracket close parts h = tuple_type_is parts (node.at bracket.from close.to) ∙ several_types bracket close parts h

pub expr_alone : (bracket close : Span) (rest parts : List Expr) (one : Expr) → length parts ≡ 1 → parts ≡ rest ++ one ∷ []
    → expr_kind_of one.kind (placed (record { from = bracket.from; to = close.to }) one.node) ≡ node.parts bracket (map expr_of parts) close
unfolding node.parts
expr_alone bracket close rest parts one h e =
    widened one.kind (record { from = bracket.from; to = close.to }) one.span one.node
    ∙ ap (λ l. node.parts bracket (map expr_of l) close) (sym (only_one rest parts one h e))

several : (bracket close : Span) (parts : List Expr) → (length parts ≡ 1 → ⊥)
    → T.Tuple (exprs_of parts) (node.at bracket.from close.to) ≡ node.parts bracket (map expr_of parts) close
unfolding node.parts
several bracket close [] h = refl
several bracket close (x ∷ []) h = absurd (h (omega arith))
several bracket close (x ∷ y ∷ more) h = refl

pub expr_tuple : (bracket close : Span) (parts : List Expr) → (length parts ≡ 1 → ⊥)
    → expr_kind_of (E.Tuple parts) (node.at bracket.from close.to) ≡ node.parts bracket (map expr_of parts) close
expr_tuple bracket close parts h = tuple_is parts (node.at bracket.from close.to) ∙ several bracket close parts h

pub with_steps : (primary : Expr) (steps : List Step) (to : ℕ) → (steps ≡ [] → ⊥)
    → expr_kind_of (E.Postfix primary steps) (node.at primary.span.from to) ≡ node.postfix (expr_of primary) (map step_of steps) to
unfolding node.postfix
with_steps primary [] to h = absurd (h refl)
with_steps primary (s ∷ more) to h = postfix_is primary (s ∷ more) (node.at primary.span.from to)
    ∙ ap (λ at. T.Postfix (expr_of primary) (T.steps (map step_of (s ∷ more))) (node.at at.span.from to)) (sym (expr_at primary))
