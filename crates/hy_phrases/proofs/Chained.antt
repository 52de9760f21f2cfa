-- Chains of operators that end with an operand.
use Rattle.std.proofs.Common.{◌≡◌, List, [], ◌∷◌, ◌++◌, map, refl, sym, ap, ◌∙◌}
use Rattle.std.proofs.lemmas.List.{map-append}
use Rattle.hy_base.specs.declared.position.Span.{Span}
use Rattle.hy_tree.specs.Denotes.{placed, expr_kind_of, expr_of, link_of}
use Rattle.hy_tree.specs.declared.expression.Expr.{Expr}
use Rattle.hy_tree.specs.declared.expression.ExprKind.TheVariants as E
use Rattle.hy_tree.specs.declared.expression.Link.{Link}
use Rattle.hy_tree.specs.Tree as T
use Rattle.hy_tree.proofs.Equations.{chain_is}
use Rattle.hy_grammar.specs.Nodes as node
use Rattle.hy_phrases.proofs.Widened.{expr_at}

-- a chain that has a link
chain_ends : (first : T.Expr) (links : List T.Link) (l : T.Link) (last : T.Expr)
    → T.Chain first (T.links (links ++ l ∷ [])) (node.at (node.from first) (node.to last)) ≡ node.chain first (links ++ l ∷ []) last
unfolding node.chain
chain_ends first [] l last = refl
chain_ends first (x ∷ more) l last = refl

-- a list to which a part was pushed, as plain data
pub pushed : {A B : Type 0} (plain : A → B) (old new : List A) (one : A) (part : B) → new ≡ old ++ one ∷ [] → plain one ≡ part
    → map plain new ≡ map plain old ++ part ∷ []
pushed plain old new one part h e = ap (map plain) h ∙ map-append plain old (one ∷ []) ∙ ap (λ z. map plain old ++ z ∷ []) e

pub first_from : (e : Expr) → node.from (expr_of e) ≡ e.span.from
first_from e = ap (λ at. at.span.from) (expr_at e)

pub joins : (first boxed operand : Expr) (links old : List Link) (l : Link) (made : T.Link) (span : Span) → boxed ≡ first → links ≡ old ++ l ∷ []
    → link_of l ≡ made → span ≡ record { from = first.span.from; to = operand.span.to }
    → expr_kind_of (E.Chain boxed links) (placed span 0) ≡ node.chain (expr_of first) (map link_of old ++ made ∷ []) (expr_of operand)
joins first boxed operand links old l made span b h e s =
    ap (λ x. expr_kind_of (E.Chain x links) (placed span 0)) b
    ∙ chain_is first links (placed span 0)
    ∙ ap (λ x. T.Chain (expr_of first) (T.links x) (placed span 0)) (pushed link_of old links l made h e)
    ∙ ap (λ x. T.Chain (expr_of first) (T.links (map link_of old ++ made ∷ [])) (placed x 0)) s
    ∙ ap (λ x. T.Chain (expr_of first) (T.links (map link_of old ++ made ∷ [])) (node.at x operand.span.to)) (sym (first_from first))
    ∙ ap (λ x. T.Chain (expr_of first) (T.links (map link_of old ++ made ∷ [])) (node.at (node.from (expr_of first)) x))
    (sym (ap (λ at. at.span.to) (expr_at operand)))
    ∙ chain_ends (expr_of first) (map link_of old) made (expr_of operand)
