-- How the machine goes on at operands and operators.
use Rattle.std.proofs.Common.{◌≡◌, ◌+◌, ℕ, ℤ, true, false, Option, Some, None, Err, List, [], ◌∷◌, ◌++◌, length, refl, sym, ap, ◌∙◌, arith}
use Rattle.std.proofs.lemmas.List.{length-append}
use Rattle.hy_base.specs.declared.position.Span.{Span}
use Rattle.hy_lexer.specs.declared.token.Token.{Token}
use Rattle.hy_lexer.specs.declared.token.TokenKind.{TokenKind}
use Rattle.hy_lexer.specs.declared.token.TokenKind.TheVariants as k
use Rattle.hy_tree.specs.Tree as T
use Rattle.hy_tree.specs.declared.operator.UnaryOperator.{UnaryOperator}
use Rattle.hy_grammar.specs.ExprSteps.{joined, operate, next_operand, at_infix}
use Rattle.hy_grammar.specs.Kinds.{Infix, Disjunction, infix_of, prefix_of}
use Rattle.hy_grammar.specs.Machine.{step, finish, Unexpected, TooDeep, most_levels, walk}
use Rattle.hy_grammar.specs.Nodes as node
use Rattle.hy_grammar.specs.OperandSteps.{no_prefixes, beginning, at_operand}
use Rattle.hy_expressions.specs.ReadsExpressions.{PostfixSpot, before_postfix}
use Rattle.hy_grammar.specs.Stack as stack
use Rattle.hy_grammar.specs.Stack.{Prefixes, Tiers, Spot, State, Use, InExpr, NoChain, OpenChain, ForElement, ForCondition, Operand, Postfixed, Operated}
use Rattle.hy_grammar.specs.Stack.{Valued, PartsOpened, ArrayWord, depth, depth_spot, depth_use}
use Rattle.hy_phrases.specs.Wanted.{Sees}
use Rattle.hy_phrases.proofs.Walks.{fits, over, deep, halts, lacks, alike, Follows}

-- PRIMARY EXPRESSIONS

no_primary : (found : TokenKind) (t : Span) (spot : Spot) → (before_postfix found ≡ true → at_operand found t spot ≡ None)
    → ((n : ℤ) → found ≡ k.Number n → ⊥) → (found ≡ k.True → ⊥) → (found ≡ k.False → ⊥) → (found ≡ k.SelfValue → ⊥)
    → ((text : List ℕ) → found ≡ k.Name text → ⊥) → (found ≡ k.Array → ⊥) → (found ≡ k.LeftParen → ⊥) → (found ≡ k.LeftBracket → ⊥) → (found ≡ k.If → ⊥)
    → at_operand found t spot ≡ None
no_primary (k.Number n) t spot x a b c d e f g h i = absurd (a n refl)
no_primary k.True t spot x a b c d e f g h i = absurd (b refl)
no_primary k.False t spot x a b c d e f g h i = absurd (c refl)
no_primary k.SelfValue t spot x a b c d e f g h i = absurd (d refl)
no_primary (k.Name text) t spot x a b c d e f g h i = absurd (e text refl)
no_primary k.Array t spot x a b c d e f g h i = absurd (f refl)
no_primary k.LeftParen t spot x a b c d e f g h i = absurd (g refl)
no_primary k.LeftBracket t spot x a b c d e f g h i = absurd (h refl)
no_primary k.If t spot x a b c d e f g h i = absurd (i refl)
no_primary k.Minus t spot x a b c d e f g h i = x refl
no_primary k.Not t spot x a b c d e f g h i = x refl
no_primary k.Ampersand t spot x a b c d e f g h i = x refl
no_primary _ t spot x a b c d e f g h i = refl

pub no_operand_left : (total : ℕ) (spot : Spot) (old : List Token) → old ≡ [] → walk total (Operand spot) old ≡ Err (Unexpected (length old))
unfolding finish
no_operand_left total spot old h = lacks total (Operand spot) old h (λ place. refl)

module _ (total : ℕ) (spot : Spot) (t : Token) (old new : List Token) (front : old ≡ t ∷ new) where
  pub no_primary_there : (before_postfix t.kind ≡ true → at_operand t.kind t.span spot ≡ None) → ((n : ℤ) → t.kind ≡ k.Number n → ⊥) → (t.kind ≡ k.True → ⊥)
      → (t.kind ≡ k.False → ⊥) → (t.kind ≡ k.SelfValue → ⊥)
      → ((text : List ℕ) → t.kind ≡ k.Name text → ⊥) → (t.kind ≡ k.Array → ⊥) → (t.kind ≡ k.LeftParen → ⊥) → (t.kind ≡ k.LeftBracket → ⊥)
      → (t.kind ≡ k.If → ⊥) → walk total (Operand spot) old ≡ Err (Unexpected (length old))
  unfolding step
  no_primary_there x a b c d e f g h i = halts total (Operand spot) t old new front (λ place. no_primary t.kind t.span spot x a b c d e f g h i)

  module _ (levels : ℕ) (l : levels + depth_spot spot ≡ most_levels) where
    pub over_number : (n : ℤ) → t.kind ≡ k.Number n → walk total (Operand spot) old ≡ walk total (Postfixed (node.number n t.span) [] 0 spot) new
    unfolding step
    over_number n h =
        over total (Operand spot) (Postfixed (node.number n t.span) [] 0 spot) t old new front (λ place. rw (h, step) refl)
        (fits levels (depth_spot spot) l)

    pub over_true : t.kind ≡ k.True → walk total (Operand spot) old ≡ walk total (Postfixed (node.truth true t.span) [] 0 spot) new
    unfolding step
    over_true h =
        over total (Operand spot) (Postfixed (node.truth true t.span) [] 0 spot) t old new front (λ place. rw (h, step) refl)
        (fits levels (depth_spot spot) l)

    pub over_false : t.kind ≡ k.False → walk total (Operand spot) old ≡ walk total (Postfixed (node.truth false t.span) [] 0 spot) new
    unfolding step
    over_false h =
        over total (Operand spot) (Postfixed (node.truth false t.span) [] 0 spot) t old new front (λ place. rw (h, step) refl)
        (fits levels (depth_spot spot) l)

    pub over_self_value : t.kind ≡ k.SelfValue → walk total (Operand spot) old ≡ walk total (Postfixed (node.self_value t.span) [] 0 spot) new
    unfolding step
    over_self_value h =
        over total (Operand spot) (Postfixed (node.self_value t.span) [] 0 spot) t old new front (λ place. rw (h, step) refl)
        (fits levels (depth_spot spot) l)

    pub over_named : (text : List ℕ) → t.kind ≡ k.Name text → walk total (Operand spot) old ≡ walk total (Postfixed (node.named text t.span) [] 0 spot) new
    unfolding step
    over_named text h =
        over total (Operand spot) (Postfixed (node.named text t.span) [] 0 spot) t old new front (λ place. rw (h, step) refl)
        (fits levels (depth_spot spot) l)

    pub over_array : t.kind ≡ k.Array → walk total (Operand spot) old ≡ walk total (ArrayWord t.span spot) new
    unfolding step
    over_array h = over total (Operand spot) (ArrayWord t.span spot) t old new front (λ place. rw (h, step) refl) (fits levels (depth_spot spot) l)

  pub over_paren : (inner : ℕ) → inner + (depth_spot spot + 1) ≡ most_levels → t.kind ≡ k.LeftParen
      → walk total (Operand spot) old ≡ walk total (PartsOpened t.span spot) new
  unfolding step
  over_paren inner l h = over total (Operand spot) (PartsOpened t.span spot) t old new front (λ place. rw (h, step) refl) (fits inner (depth_spot spot + 1) l)

  pub over_bracket : (inner : ℕ) → inner + (depth_spot spot + 1) ≡ most_levels → t.kind ≡ k.LeftBracket
      → walk total (Operand spot) old ≡ walk total (Operand (beginning (ForElement t.span [] spot))) new
  unfolding step
  over_bracket inner l h =
      over total (Operand spot) (Operand (beginning (ForElement t.span [] spot))) t old new front (λ place. rw (h, step) refl) (omega arith)

  pub over_if : (inner : ℕ) → inner + (depth_spot spot + 1) ≡ most_levels → t.kind ≡ k.If
      → walk total (Operand spot) old ≡ walk total (Operand (beginning (ForCondition t.span.from [] t.span spot))) new
  unfolding step
  over_if inner l h =
      over total (Operand spot) (Operand (beginning (ForCondition t.span.from [] t.span spot))) t old new front (λ place. rw (h, step) refl) (omega arith)

  module _ (full : depth_spot spot ≡ most_levels) where
    pub paren_too_deep : t.kind ≡ k.LeftParen → walk total (Operand spot) old ≡ Err (TooDeep (length old))
    unfolding step
    paren_too_deep h = deep total (Operand spot) (PartsOpened t.span spot) t old new front (λ place. rw (h, step) refl) (omega arith)

    pub bracket_too_deep : t.kind ≡ k.LeftBracket → walk total (Operand spot) old ≡ Err (TooDeep (length old))
    unfolding step
    bracket_too_deep h = deep total (Operand spot) (Operand (beginning (ForElement t.span [] spot))) t old new front (λ place. rw (h, step) refl) (omega arith)

    pub if_too_deep : t.kind ≡ k.If → walk total (Operand spot) old ≡ Err (TooDeep (length old))
    unfolding step
    if_too_deep h =
        deep total (Operand spot) (Operand (beginning (ForCondition t.span.from [] t.span spot))) t old new front (λ place. rw (h, step) refl) (omega arith)

-- OPERATORS BEFORE AN OPERAND

abbrev pub with_operators : List stack.Prefix → Option Span → Prefixes
with_operators operators mark = record { operators = operators; mark = mark }

abbrev pub one_more : List stack.Prefix → UnaryOperator → Span → List stack.Prefix
one_more operators operator token = operators ++ record { operator = operator; token = token } ∷ []

module _ (operators : List stack.Prefix) (tiers : Tiers) (u : Use) where
  prefix_step : (found : TokenKind) (t : Span) (operator : UnaryOperator) → prefix_of found ≡ Some operator
      → at_operand found t (InExpr (with_operators operators None) tiers u) ≡ Some
      (Operand (InExpr (with_operators (one_more operators operator t) None) tiers u))
  prefix_step k.Minus t operator h =
      ap (λ o. elim o as (λ _. Option State) [ None ↦ None | Some op ↦ Some (Operand (InExpr (with_operators (one_more operators op t) None) tiers u)) ]) h
  prefix_step k.Not t operator h =
      ap (λ o. elim o as (λ _. Option State) [ None ↦ None | Some op ↦ Some (Operand (InExpr (with_operators (one_more operators op t) None) tiers u)) ]) h
  prefix_step _ t operator h = cc

  module _ (total : ℕ) (t : Token) (old new : List Token) (front : old ≡ t ∷ new) (operator : UnaryOperator) (is : prefix_of t.kind ≡ Some operator) where
    pub over_prefix : (inner : ℕ) → inner + 1 + (depth_use u + length operators) ≡ most_levels
        → walk total (Operand (InExpr (with_operators operators None) tiers u)) old ≡ walk total
        (Operand (InExpr (with_operators (one_more operators operator t.span) None) tiers u)) new
    unfolding step
    over_prefix inner l =
        over total (Operand (InExpr (with_operators operators None) tiers u))
        (Operand (InExpr (with_operators (one_more operators operator t.span) None) tiers u)) t old new front
        (λ place. prefix_step t.kind t.span operator is) (let n = length-append operators (record { operator = operator; token = t.span } ∷ []) in
        omega (arith, n, l))

    pub prefix_too_deep : depth_use u + length operators ≡ most_levels
        → walk total (Operand (InExpr (with_operators operators None) tiers u)) old ≡ Err (TooDeep (length old))
    unfolding step
    prefix_too_deep l =
        deep total (Operand (InExpr (with_operators operators None) tiers u))
        (Operand (InExpr (with_operators (one_more operators operator t.span) None) tiers u)) t old new front
        (λ place. prefix_step t.kind t.span operator is) (let n = length-append operators (record { operator = operator; token = t.span } ∷ []) in
        omega (arith, n, l))

  pub over_mark : Follows k.Ampersand (Operand (InExpr (with_operators operators None) tiers u))
      (λ t. Operand (InExpr (with_operators operators (Some t)) tiers u))
  unfolding step
  over_mark = record { takes = λ t place h. rw (h, step) refl }

  pub marked_alone : (found : TokenKind) (t mark : Span) → before_postfix found ≡ true
      → at_operand found t (InExpr (with_operators operators (Some mark)) tiers u) ≡ None
  marked_alone k.Minus t mark h = refl
  marked_alone k.Not t mark h = refl
  marked_alone k.Ampersand t mark h = refl
  marked_alone _ t mark h = cc

  pub plain_alone : (found : TokenKind) (t : Span) → prefix_of found ≡ None → (found ≡ k.Ampersand → ⊥) → before_postfix found ≡ true
      → at_operand found t (InExpr (with_operators operators None) tiers u) ≡ None
  plain_alone k.Minus t h g b = cc
  plain_alone k.Not t h g b = cc
  plain_alone k.Ampersand t h g b = absurd (g refl)
  plain_alone _ t h g b = cc

  abbrev pub marked_spot : (old : List Token) (mark : Span) → PostfixSpot old
  marked_spot old mark = record { spot = InExpr (with_operators operators (Some mark)) tiers u; begins = λ t more front b. marked_alone t.kind t.span mark b }

  pub sees_it : (kind : TokenKind) (old more : List Token) (t : Token) → old ≡ t ∷ more → (Sees kind old → ⊥) → t.kind ≡ kind → ⊥
  sees_it kind [] more t h g e = let w : ⊥ = cc in w
  sees_it kind (x ∷ old) more t h g e = let same : x ≡ t = cc in g (ap (λ y. y.kind) same ∙ e)

  abbrev pub plain_spot : (old : List Token) → ((t : Token) (more : List Token) → old ≡ t ∷ more → prefix_of t.kind ≡ None) → (Sees k.Ampersand old → ⊥)
      → PostfixSpot old
  plain_spot old h g = record {
    spot = InExpr (with_operators operators None) tiers u;
    begins =
        λ t more front b. plain_alone t.kind t.span (h t more front) (sees_it k.Ampersand old more t front g) b;
  }

-- OPERATORS BETWEEN OPERANDS

module _ (total : ℕ) (e : T.Expr) (tiers : Tiers) (u : Use) where
  pub operated_left : (old : List Token) → old ≡ [] → walk total (Operated e tiers u) old ≡ walk total (Valued (joined Disjunction e tiers) u) old
  unfolding finish
  operated_left old h = lacks total (Operated e tiers u) old h (λ place. refl)
      ∙ sym (lacks total (Valued (joined Disjunction e tiers) u) old h (λ place. refl))

  module _ (t : Token) (old new : List Token) (front : old ≡ t ∷ new) where
    pub operated_ends : infix_of t.kind ≡ None → walk total (Operated e tiers u) old ≡ walk total (Valued (joined Disjunction e tiers) u) old
    unfolding step
    operated_ends h = alike total (Operated e tiers u) (Valued (joined Disjunction e tiers) u) t old new front (λ place. ap (λ o. at_infix o e tiers u t) h)

    pub over_operator : (found : Infix) (made : Tiers) (levels : ℕ) → infix_of t.kind ≡ Some found
        → operate found.level e found.operator t.span tiers ≡ Some made → levels + depth_use u ≡ most_levels
        → walk total (Operated e tiers u) old ≡ walk total (Operand (InExpr no_prefixes made u)) new
    unfolding step
    over_operator found made levels h g l =
        over total (Operated e tiers u) (Operand (InExpr no_prefixes made u)) t old new front (λ place. ap (λ o. at_infix o e tiers u t) h
        ∙ ap (λ o. next_operand o u) g) (omega (arith, l))

    pub no_second_comparison : (found : Infix) → infix_of t.kind ≡ Some found → operate found.level e found.operator t.span tiers ≡ None
        → walk total (Operated e tiers u) old ≡ Err (Unexpected (length old))
    unfolding step
    no_second_comparison found h g = halts total (Operated e tiers u) t old new front (λ place. ap (λ o. at_infix o e tiers u t) h
        ∙ ap (λ o. next_operand o u) g)

pub one_front : (old : List Token) (one other : Token) (more behind : List Token) → old ≡ one ∷ more → old ≡ other ∷ behind → one ≡ other
one_front old one other more behind h g = cc
