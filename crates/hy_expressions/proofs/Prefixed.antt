-- Operators before an operand.
use Rattle.std.proofs.Common.{◌≡◌, List, [], ◌∷◌, ◌++◌, map, refl, ap}
use Rattle.hy_tree.specs.Tree as T
use Rattle.hy_expressions.specs.declared.expressions.Prefix.{Prefix}
use Rattle.hy_grammar.specs.ExprSteps.{prefixed}
use Rattle.hy_grammar.specs.Nodes as node
use Rattle.hy_expressions.specs.ReadsExpressions.{prefix_at}

pub prefixed_last : (front : List Prefix) (p : Prefix) (e : T.Expr)
    → prefixed (map prefix_at (front ++ p ∷ [])) e ≡ prefixed (map prefix_at front) (node.unary p.operator p.token e)
unfolding prefixed
prefixed_last [] p e = refl
prefixed_last (q ∷ more) p e = ap (node.unary q.operator q.token) (prefixed_last more p e)

pub prefixed_none : (prefixes : List Prefix) (e : T.Expr) → prefixes ≡ [] → e ≡ prefixed (map prefix_at prefixes) e
unfolding prefixed
prefixed_none [] e h = refl
prefixed_none (q ∷ more) e h = let w : ⊥ = cc in absurd w
