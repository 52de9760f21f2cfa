-- Parentheses around a type or an expression: only its span is another.
use Rattle.std.proofs.Common.{◌≡◌, ℕ, refl, sym, ap, subst, ◌∙◌}
use Rattle.hy_base.specs.declared.position.Span.{Span}
use Rattle.hy_tree.specs.Denotes.{placed, type_kind_of, type_of, expr_kind_of, expr_of}
use Rattle.hy_tree.specs.declared.expression.Expr.{Expr}
use Rattle.hy_tree.specs.declared.expression.ExprKind as X
use Rattle.hy_tree.specs.declared.expression.ExprKind.{ExprKind, roll-ExprKind, out-ExprKind, roll-out-ExprKind}
use Rattle.hy_tree.specs.declared.expression.ExprKind.TheOpen as G
use Rattle.hy_tree.specs.declared.expression.ExprKind.TheVariants as E
use Rattle.hy_tree.specs.declared.written.TypeExp.{TypeExp}
use Rattle.hy_tree.specs.declared.written.TypeKind as W
use Rattle.hy_tree.specs.declared.written.TypeKind.{TypeKind, roll-TypeKind, out-TypeKind, roll-out-TypeKind}
use Rattle.hy_tree.specs.declared.written.TypeKind.TheOpen as F
use Rattle.hy_tree.specs.declared.written.TypeKind.TheVariants.{rolls-Name, rolls-SelfType, rolls-Array, rolls-Tuple}
use Rattle.hy_tree.specs.Tree as T
use Rattle.hy_tree.proofs.Equations.{named_type_is, self_type_is, array_type_is, tuple_type_is, chain_is, unary_is, marked_is, postfix_is, number_is}
use Rattle.hy_tree.proofs.Equations.{truth_is, named_is, self_is, empty_array_is, tuple_is, array_is, if_else_is}

abbrev TypeWidens : Span → Span → ℕ → TypeKind → Type 0
TypeWidens outer span node kind = type_kind_of kind (placed outer node) ≡ T.enclosed_type outer (type_kind_of kind (placed span node))

pub widened_type : (kind : TypeKind) (outer span : Span) (node : ℕ)
    → type_kind_of kind (placed outer node) ≡ T.enclosed_type outer (type_kind_of kind (placed span node))
widened_type kind outer span node =
    subst (TypeWidens outer span node) (roll-out-TypeKind kind) (elim (out-TypeKind kind) as (λ layer. TypeWidens outer span node (roll-TypeKind layer)) [
      | F.Name name ↦ subst (TypeWidens outer span node) (sym (rolls-Name name)) (named_type_is name (placed outer node)
          ∙ sym (ap (T.enclosed_type outer) (named_type_is name (placed span node))))
      | F.SelfType token ↦ subst (TypeWidens outer span node) (sym (rolls-SelfType token)) (self_type_is token (placed outer node)
          ∙ sym (ap (T.enclosed_type outer) (self_type_is token (placed span node))))
      | F.Array element ↦ subst (TypeWidens outer span node) (sym (rolls-Array element)) (array_type_is element (placed outer node)
          ∙ sym (ap (T.enclosed_type outer) (array_type_is element (placed span node))))
      | F.Tuple parts ↦ subst (TypeWidens outer span node) (sym (rolls-Tuple parts)) (tuple_type_is parts (placed outer node)
          ∙ sym (ap (T.enclosed_type outer) (tuple_type_is parts (placed span node))))
    ])

abbrev ExprWidens : Span → Span → ℕ → ExprKind → Type 0
ExprWidens outer span node kind = expr_kind_of kind (placed outer node) ≡ T.enclosed outer (expr_kind_of kind (placed span node))

pub widened : (kind : ExprKind) (outer span : Span) (node : ℕ)
    → expr_kind_of kind (placed outer node) ≡ T.enclosed outer (expr_kind_of kind (placed span node))
widened kind outer span node =
    subst (ExprWidens outer span node) (roll-out-ExprKind kind) (elim (out-ExprKind kind) as (λ layer. ExprWidens outer span node (roll-ExprKind layer)) [
      | G.Chain first links ↦ subst (ExprWidens outer span node) (sym (E.rolls-Chain first links)) (chain_is first links (placed outer node)
          ∙ sym (ap (T.enclosed outer) (chain_is first links (placed span node))))
      | G.Unary operator operand ↦ subst (ExprWidens outer span node) (sym (E.rolls-Unary operator operand)) (unary_is operator operand (placed outer node)
          ∙ sym (ap (T.enclosed outer) (unary_is operator operand (placed span node))))
      | G.Marked operand ↦ subst (ExprWidens outer span node) (sym (E.rolls-Marked operand)) (marked_is operand (placed outer node)
          ∙ sym (ap (T.enclosed outer) (marked_is operand (placed span node))))
      | G.Postfix primary steps ↦ subst (ExprWidens outer span node) (sym (E.rolls-Postfix primary steps)) (postfix_is primary steps (placed outer node)
          ∙ sym (ap (T.enclosed outer) (postfix_is primary steps (placed span node))))
      | G.Number value ↦ subst (ExprWidens outer span node) (sym (E.rolls-Number value)) (number_is value (placed outer node)
          ∙ sym (ap (T.enclosed outer) (number_is value (placed span node))))
      | G.Bool value ↦ subst (ExprWidens outer span node) (sym (E.rolls-Bool value)) (truth_is value (placed outer node)
          ∙ sym (ap (T.enclosed outer) (truth_is value (placed span node))))
      | G.Name name ↦ subst (ExprWidens outer span node) (sym (E.rolls-Name name)) (named_is name (placed outer node)
          ∙ sym (ap (T.enclosed outer) (named_is name (placed span node))))
      | G.SelfValue token ↦ subst (ExprWidens outer span node) (sym (E.rolls-SelfValue token)) (self_is token (placed outer node)
          ∙ sym (ap (T.enclosed outer) (self_is token (placed span node))))
      | G.EmptyArray element ↦ subst (ExprWidens outer span node) (sym (E.rolls-EmptyArray element)) (empty_array_is element (placed outer node)
          ∙ sym (ap (T.enclosed outer) (empty_array_is element (placed span node))))
      | G.Tuple parts ↦ subst (ExprWidens outer span node) (sym (E.rolls-Tuple parts)) (tuple_is parts (placed outer node)
          ∙ sym (ap (T.enclosed outer) (tuple_is parts (placed span node))))
      | G.Array elements ↦ subst (ExprWidens outer span node) (sym (E.rolls-Array elements)) (array_is elements (placed outer node)
          ∙ sym (ap (T.enclosed outer) (array_is elements (placed span node))))
      | G.If choices otherwise ↦ subst (ExprWidens outer span node) (sym (E.rolls-If choices otherwise)) (if_else_is choices otherwise (placed outer node)
          ∙ sym (ap (T.enclosed outer) (if_else_is choices otherwise (placed span node))))
    ])

-- WHERE A NODE STANDS

at_kind : (kind : ExprKind) (at : T.At) → T.at_expr (expr_kind_of kind at) ≡ at
unfolding expr_kind_of
at_kind (X.Chain' _ first _ links) at = refl
at_kind (X.Unary' operator _ operand) at = refl
at_kind (X.Marked' _ operand) at = refl
at_kind (X.Postfix' _ primary _ steps) at = refl
at_kind (X.Number number) at = refl
at_kind (X.Bool truth) at = refl
at_kind (X.Name name) at = refl
at_kind (X.SelfValue token) at = refl
at_kind (X.EmptyArray element) at = refl
at_kind (X.Tuple' _ parts) at = refl
at_kind (X.Array' _ elements) at = refl
at_kind (X.If' _ choices _ otherwise) at = refl

pub expr_at : (e : Expr) → T.at_expr (expr_of e) ≡ placed e.span e.node
expr_at e = at_kind e.kind (placed e.span e.node)

at_type_kind : (kind : TypeKind) (at : T.At) → T.at_type (type_kind_of kind at) ≡ at
unfolding type_kind_of
at_type_kind (W.Name name) at = refl
at_type_kind (W.SelfType token) at = refl
at_type_kind (W.Array' _ element) at = refl
at_type_kind (W.Tuple' _ parts) at = refl

pub type_at : (written : TypeExp) → T.at_type (type_of written) ≡ placed written.span written.node
type_at written = at_type_kind written.kind (placed written.span written.node)
