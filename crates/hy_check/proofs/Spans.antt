-- Where the plain tree of an expression stands.
use Rattle.std.proofs.Common.{◌≡◌, refl}
use Rattle.hy_tree.specs.Denotes.{placed, expr_kind_of, expr_of}
use Rattle.hy_tree.specs.Tree as T
use Rattle.hy_tree.specs.declared.expression.Expr.{Expr}
use Rattle.hy_tree.specs.declared.expression.ExprKind as E
use Rattle.hy_tree.specs.declared.expression.ExprKind.{ExprKind}

at_kind : (kind : ExprKind) (at : T.At) → T.at_expr (expr_kind_of kind at) ≡ at
unfolding expr_kind_of
at_kind (E.Chain' _ first _ links) at = refl
at_kind (E.Unary' operator _ operand) at = refl
at_kind (E.Marked' _ operand) at = refl
at_kind (E.Postfix' _ primary _ steps) at = refl
at_kind (E.Number number) at = refl
at_kind (E.Bool truth) at = refl
at_kind (E.Name name) at = refl
at_kind (E.SelfValue token) at = refl
at_kind (E.EmptyArray element) at = refl
at_kind (E.Tuple' _ parts) at = refl
at_kind (E.Array' _ elements) at = refl
at_kind (E.If' _ choices _ otherwise) at = refl

pub expr_at : (e : Expr) → T.at_expr (expr_of e) ≡ placed e.span e.node
expr_at e = at_kind e.kind (placed e.span e.node)
