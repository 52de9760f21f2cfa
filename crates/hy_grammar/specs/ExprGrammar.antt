-- The grammar of expressions. Each relation has the tokens before a part, the part, and the tokens after it.
use Rattle.std.specs.Prelude.{◌≡◌, ℕ, ℤ, true, false, List, [], ◌∷◌, ◌++◌, Some, None}
use Rattle.hy_lexer.specs.declared.token.Token.{Token}
use Rattle.hy_lexer.specs.declared.token.TokenKind.TheVariants as k
use Rattle.hy_tree.specs.Tree as T
use Rattle.hy_tree.specs.declared.operator.Operator.{Operator}
use Rattle.hy_tree.specs.declared.operator.UnaryOperator.{UnaryOperator}
use Rattle.hy_grammar.specs.Kinds.{Is, Level, Disjunction, Conjunction, Comparison, Addition, Multiplication, tier, infix_of, prefix_of}
use Rattle.hy_grammar.specs.Nodes as node
use Rattle.hy_grammar.specs.TypeGrammar.{HasType}

-- A chain of comparisons has one operator at most.
abbrev pub MayGoOn : Level → List T.Link → Type 0
MayGoOn Comparison links = links ≡ []
MayGoOn _ links = Unit {0}

mutual
  -- primary = NUMBER | "true" | "false" | NAME | "self" | "Array" "<" type ">" "(" ")"
  --         | "(" [ expr { "," expr } ] ")" | "[" expr { "," expr } "]" | choices "else" "{" expr "}"
  pub data HasPrimary : List Token → T.Expr → List Token → Type 0 where
    number : {t : Token} {n : ℤ} {new : List Token} → Is t (k.Number n) → HasPrimary (t ∷ new) (node.number n t.span) new
    truth : {t : Token} {new : List Token} → Is t k.True → HasPrimary (t ∷ new) (node.truth true t.span) new
    untruth : {t : Token} {new : List Token} → Is t k.False → HasPrimary (t ∷ new) (node.truth false t.span) new
    named : {t : Token} {text : List ℕ} {new : List Token} → Is t (k.Name text) → HasPrimary (t ∷ new) (node.named text t.span) new
    self_value : {t : Token} {new : List Token} → Is t k.SelfValue → HasPrimary (t ∷ new) (node.self_value t.span) new
    empty_array : {a l g o c : Token} {element : T.TypeExp} {old new : List Token} → Is a k.Array → Is l k.Less → HasType old element (g ∷ o ∷ c ∷ new)
        → Is g k.Greater → Is o k.LeftParen → Is c k.RightParen
        → HasPrimary (a ∷ l ∷ old) (node.empty_array a.span element c.span) new
    no_parts : {o c : Token} {new : List Token} → Is o k.LeftParen → Is c k.RightParen → HasPrimary (o ∷ c ∷ new) (node.parts o.span [] c.span) new
    parts : {o c : Token} {es : List T.Expr} {old new : List Token} → Is o k.LeftParen → HasExprs old es (c ∷ new) → Is c k.RightParen
        → HasPrimary (o ∷ old) (node.parts o.span es c.span) new
    array : {o c : Token} {es : List T.Expr} {old new : List Token} → Is o k.LeftBracket → HasExprs old es (c ∷ new) → Is c k.RightBracket
        → HasPrimary (o ∷ old) (node.array o.span es c.span) new
    if_else : {e o c : Token} {from : ℕ} {choices : List T.Choice} {value : T.Expr} {old mid new : List Token} → HasChoices old from choices (e ∷ o ∷ mid)
        → Is e k.Else → Is o k.LeftBrace → HasExpr Disjunction mid value (c ∷ new) → Is c k.RightBrace
        → HasPrimary old (node.if_else from choices value c.span) new

  -- choices = "if" expr "{" expr "}" { "else" "if" expr "{" expr "}" }; with them, where the first `if` begins
  pub data HasChoices : List Token → ℕ → List T.Choice → List Token → Type 0 where
    first_choice : {i o c : Token} {condition value : T.Expr} {old mid new : List Token} → Is i k.If → HasExpr Disjunction old condition (o ∷ mid)
        → Is o k.LeftBrace → HasExpr Disjunction mid value (c ∷ new) → Is c k.RightBrace
        → HasChoices (i ∷ old) i.span.from (node.choice i.span condition value ∷ []) new
    next_choice : {e i o c : Token} {from : ℕ} {choices : List T.Choice} {condition value : T.Expr} {old mid end new : List Token}
        → HasChoices old from choices (e ∷ i ∷ mid) → Is e k.Else → Is i k.If
        → HasExpr Disjunction mid condition (o ∷ end) → Is o k.LeftBrace → HasExpr Disjunction end value (c ∷ new) → Is c k.RightBrace
        → HasChoices old from (choices ++ node.choice i.span condition value ∷ []) new

  -- expr { "," expr }
  pub data HasExprs : List Token → List T.Expr → List Token → Type 0 where
    one_expr : {e : T.Expr} {old new : List Token} → HasExpr Disjunction old e new → HasExprs old (e ∷ []) new
    more_exprs : {c : Token} {es : List T.Expr} {e : T.Expr} {old mid new : List Token} → HasExprs old es (c ∷ mid) → Is c k.Comma
        → HasExpr Disjunction mid e new → HasExprs old (es ++ e ∷ []) new

  -- postfix = primary { "." NAME | "." NUMBER | "(" [args] ")" | "[" [args] "]" }
  -- A `(` or `[` that is the first on its line does not go on with an expression. With the steps, where the last one ends.
  pub data HasPostfix : List Token → T.Expr → List T.Step → ℕ → List Token → Type 0 where
    no_step : {primary : T.Expr} {old new : List Token} → HasPrimary old primary new → HasPostfix old primary [] 0 new
    member_step : {d t : Token} {text : List ℕ} {primary : T.Expr} {steps : List T.Step} {to : ℕ} {old new : List Token}
        → HasPostfix old primary steps to (d ∷ t ∷ new) → Is d k.Dot → Is t (k.Name text)
        → HasPostfix old primary (steps ++ node.member_step primary text t.span ∷ []) t.span.to new
    part_step : {d t : Token} {n : ℤ} {primary : T.Expr} {steps : List T.Step} {to : ℕ} {old new : List Token}
        → HasPostfix old primary steps to (d ∷ t ∷ new) → Is d k.Dot → Is t (k.Number n)
        → HasPostfix old primary (steps ++ node.part_step primary n t.span ∷ []) t.span.to new
    call_step : {o c : Token} {args : List T.Arg} {primary : T.Expr} {steps : List T.Step} {to : ℕ} {old mid new : List Token}
        → HasPostfix old primary steps to (o ∷ mid) → Is o k.LeftParen → o.first ≡ false → HasArgs mid args (c ∷ new) → Is c k.RightParen
        → HasPostfix old primary (steps ++ node.call_step primary args c.span ∷ []) c.span.to new
    index_step : {o c : Token} {args : List T.Arg} {primary : T.Expr} {steps : List T.Step} {to : ℕ} {old mid new : List Token}
        → HasPostfix old primary steps to (o ∷ mid) → Is o k.LeftBracket → o.first ≡ false → HasArgs mid args (c ∷ new) → Is c k.RightBracket
        → HasPostfix old primary (steps ++ node.index_step primary args c.span ∷ []) c.span.to new

  -- [ args ]
  pub data HasArgs : List Token → List T.Arg → List Token → Type 0 where
    no_args : {old : List Token} → HasArgs old [] old
    some_args : {args : List T.Arg} {old new : List Token} → HasSomeArgs old args new → HasArgs old args new

  -- args = arg { "," arg }
  pub data HasSomeArgs : List Token → List T.Arg → List Token → Type 0 where
    one_arg : {a : T.Arg} {old new : List Token} → HasArg old a new → HasSomeArgs old (a ∷ []) new
    more_args : {c : Token} {args : List T.Arg} {a : T.Arg} {old mid new : List Token} → HasSomeArgs old args (c ∷ mid) → Is c k.Comma → HasArg mid a new
        → HasSomeArgs old (args ++ a ∷ []) new

  -- arg = [NAME ":"] expr
  pub data HasArg : List Token → T.Arg → List Token → Type 0 where
    value_alone : {e : T.Expr} {old new : List Token} → HasExpr Disjunction old e new → HasArg old (node.arg None e) new
    labelled : {n c : Token} {text : List ℕ} {e : T.Expr} {old new : List Token} → Is n (k.Name text) → Is c k.Colon → HasExpr Disjunction old e new
        → HasArg (n ∷ c ∷ old) (node.arg (Some text) e) new

  -- unary = ("-" | "!") unary | "&" postfix | postfix
  pub data HasUnary : List Token → T.Expr → List Token → Type 0 where
    prefixed : {t : Token} {operator : UnaryOperator} {e : T.Expr} {old new : List Token} → prefix_of t.kind ≡ Some operator → HasUnary old e new
        → HasUnary (t ∷ old) (node.unary operator t.span e) new
    marked : {t : Token} {primary : T.Expr} {steps : List T.Step} {to : ℕ} {old new : List Token} → Is t k.Ampersand → HasPostfix old primary steps to new
        → HasUnary (t ∷ old) (node.marked t.span (node.postfix primary steps to)) new
    postfix : {primary : T.Expr} {steps : List T.Step} {to : ℕ} {old new : List Token} → HasPostfix old primary steps to new
        → HasUnary old (node.postfix primary steps to) new

  -- an operand of a level: an expression of the next tighter one
  pub data HasOperand : Level → List Token → T.Expr → List Token → Type 0 where
    of_disjunction : {e : T.Expr} {old new : List Token} → HasExpr Conjunction old e new → HasOperand Disjunction old e new
    of_conjunction : {e : T.Expr} {old new : List Token} → HasExpr Comparison old e new → HasOperand Conjunction old e new
    of_comparison : {e : T.Expr} {old new : List Token} → HasExpr Addition old e new → HasOperand Comparison old e new
    of_addition : {e : T.Expr} {old new : List Token} → HasExpr Multiplication old e new → HasOperand Addition old e new
    of_multiplication : {e : T.Expr} {old new : List Token} → HasUnary old e new → HasOperand Multiplication old e new

  -- operand { operator operand }, with operators of one level; the first operand, the links, the last operand
  pub data HasOperands : Level → List Token → T.Expr → List T.Link → T.Expr → List Token → Type 0 where
    one_operand : {level : Level} {e : T.Expr} {old new : List Token} → HasOperand level old e new → HasOperands level old e [] e new
    more_operands : {level : Level} {o : Token} {operator : Operator} {first last e : T.Expr} {links : List T.Link} {old mid new : List Token}
        → HasOperands level old first links last (o ∷ mid) → infix_of o.kind ≡ tier level operator → MayGoOn level links → HasOperand level mid e new
        → HasOperands level old first (links ++ node.link first operator o.span e ∷ []) e new

  -- an expression of a level; of the loosest one it is any
  -- expr = and { "||" and }, and = cmp { "&&" cmp }, cmp = sum [ comparison sum ], sum = prod { ("+" | "-") prod },
  -- prod = unary { ("*" | "/" | "%") unary }
  pub data HasExpr : Level → List Token → T.Expr → List Token → Type 0 where
    chain : {level : Level} {first last : T.Expr} {links : List T.Link} {old new : List Token} → HasOperands level old first links last new
        → HasExpr level old (node.chain first links last) new
