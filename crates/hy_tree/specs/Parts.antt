-- Parts of the tree that several passes ask for.
use Rattle.std.specs.Prelude.{ℕ, Bool, true, false, ◌||◌, List, [], ◌∷◌, Option, Some, None}
use Rattle.hy_base.specs.declared.position.Span.{Span}
use Rattle.hy_tree.specs.declared.declaration.CallableKind.{CallableKind}
use Rattle.hy_tree.specs.declared.declaration.CallableKind.TheVariants.{Function, Subscript, Deinit, Requirement}
use Rattle.hy_tree.specs.declared.declaration.Label.{Label}
use Rattle.hy_tree.specs.declared.declaration.Label.TheVariants.{Text, Nothing, Same}
use Rattle.hy_tree.specs.declared.name.Name.{Name}
use Rattle.hy_tree.specs.Tree.{Expr, Chain, Unary, Marked, Postfix, Number, Truth, Named, SelfValue}
use Rattle.hy_tree.specs.Tree.{EmptyArray, Tuple, Array, IfElse, Param, Variant, Callable}

abbrev label_text : Label → List ℕ → Option (List ℕ)
label_text (Text text) name = Some text
label_text Nothing name = None
label_text Same name = Some name

-- the label that a call writes before the argument
abbrev pub label_of : Param → Option (List ℕ)
label_of p = label_text p.label p.name.text

abbrev is_there : {A : Type 0} → Option A → Bool
is_there None = false
is_there (Some part) = true

abbrev pub any_keyword : List Variant → Bool
any_keyword [] = false
any_keyword (v ∷ more) = is_there v.keyword || any_keyword more

-- whether its bodies have keywords
abbrev pub is_bundle : Callable → Bool
is_bundle c = any_keyword c.variants

abbrev or_else : Option Name → Span → Span
or_else None keyword = keyword
or_else (Some name) keyword = name.span

-- where a refusal names it: its name, or its keyword where it has none
abbrev pub name_span : Callable → Span
name_span c = or_else c.name c.keyword

abbrev plain_head : CallableKind → Callable → Span
plain_head Function c = name_span c
plain_head Subscript c = c.keyword
plain_head Deinit c = c.keyword
plain_head Requirement c = name_span c

abbrev head_or : Option Span → Span → Span
head_or None plain = plain
head_or (Some keyword) plain = keyword

-- where a refusal names one of its bodies: the body's keyword; for a plain body the name of a function, and the word `subscript` or `deinit`
abbrev pub head_of : Callable → Variant → Span
head_of c v = head_or v.keyword (plain_head c.kind c)

-- the expression without the `&` before it
abbrev pub unmarked : Expr → Expr
unmarked (Marked operand at) = operand
unmarked (Chain first links at) = Chain first links at
unmarked (Unary operator operand at) = Unary operator operand at
unmarked (Postfix primary steps at) = Postfix primary steps at
unmarked (Number number at) = Number number at
unmarked (Truth truth at) = Truth truth at
unmarked (Named name at) = Named name at
unmarked (SelfValue token at) = SelfValue token at
unmarked (EmptyArray element at) = EmptyArray element at
unmarked (Tuple parts at) = Tuple parts at
unmarked (Array elements at) = Array elements at
unmarked (IfElse choices otherwise at) = IfElse choices otherwise at
