-- How the machine goes on within primary expressions of several tokens.
use Rattle.std.proofs.Common.{◌≡◌, ℕ, None, Err, List, [], ◌∷◌, ◌++◌, length, refl}
use Rattle.hy_base.specs.declared.position.Span.{Span}
use Rattle.hy_lexer.specs.declared.token.Token.{Token}
use Rattle.hy_lexer.specs.declared.token.TokenKind.{TokenKind}
use Rattle.hy_lexer.specs.declared.token.TokenKind.TheVariants as k
use Rattle.hy_tree.specs.Tree as T
use Rattle.hy_phrases.specs.Wanted.{Sees}
use Rattle.hy_grammar.specs.ExprSteps.{at_parts_opened, at_parts_read, at_elements_read, at_choice_else}
use Rattle.hy_grammar.specs.Machine.{step, finish, Unexpected, walk}
use Rattle.hy_grammar.specs.Nodes as node
use Rattle.hy_grammar.specs.OperandSteps.{beginning, at_operand}
use Rattle.hy_grammar.specs.Stack.{Spot, ForPart, ForElement, ForCondition, ForChoice, ForOtherwise, ForEmptyArray, Operand, Postfixed, Valued, PartsOpened}
use Rattle.hy_grammar.specs.Stack.{PartsRead, ElementsRead, ArrayWord, ArrayType, ArrayClosed, ArrayOpened, ChoiceRead, ChoiceElse, TypeWanted}
use Rattle.hy_phrases.proofs.Walks.{halts, lacks, alike_without, same_walk, Follows, Wants}
use Rattle.hy_phrases.proofs.WantedKinds.{no_less, no_greater, no_left_paren, no_right_paren, no_left_brace, no_right_brace, no_else}

-- EMPTY ARRAYS

module _ (word : Span) (spot : Spot) where
  pub wants_type : Wants k.Less (ArrayWord word spot) (λ t. TypeWanted (ForEmptyArray word spot))
  unfolding step finish
  wants_type = record { takes = λ t place h. rw (h, step) refl; refuses_others = λ t place h. no_less t.kind _ h; unfinished = λ place. refl }

  module _ (element : T.TypeExp) where
    pub wants_type_end : Wants k.Greater (ArrayType word element spot) (λ t. ArrayClosed word element spot)
    unfolding step finish
    wants_type_end = record { takes = λ t place h. rw (h, step) refl; refuses_others = λ t place h. no_greater t.kind _ h; unfinished = λ place. refl }

    pub wants_open : Wants k.LeftParen (ArrayClosed word element spot) (λ t. ArrayOpened word element spot)
    unfolding step finish
    wants_open = record { takes = λ t place h. rw (h, step) refl; refuses_others = λ t place h. no_left_paren t.kind _ h; unfinished = λ place. refl }

    pub wants_close : Wants k.RightParen (ArrayOpened word element spot) (λ t. Postfixed (node.empty_array word element t) [] 0 spot)
    unfolding step finish
    wants_close = record { takes = λ t place h. rw (h, step) refl; refuses_others = λ t place h. no_right_paren t.kind _ h; unfinished = λ place. refl }

-- PARENTHESES

parts_go_on : (kind : TokenKind) (t bracket : Span) (spot : Spot) → (kind ≡ k.RightParen → ⊥)
    → at_parts_opened kind t bracket spot ≡ at_operand kind t (beginning (ForPart bracket [] spot))
parts_go_on k.RightParen t bracket spot h = absurd (h refl)
parts_go_on _ t bracket spot h = refl

parts_stop : (kind : TokenKind) (t bracket : Span) (es : List T.Expr) (spot : Spot) → (kind ≡ k.Comma → ⊥) → (kind ≡ k.RightParen → ⊥)
    → at_parts_read kind t bracket es spot ≡ None
parts_stop k.Comma t bracket es spot h g = absurd (h refl)
parts_stop k.RightParen t bracket es spot h g = absurd (g refl)
parts_stop _ t bracket es spot h g = refl

elements_stop : (kind : TokenKind) (t bracket : Span) (es : List T.Expr) (spot : Spot) → (kind ≡ k.Comma → ⊥) → (kind ≡ k.RightBracket → ⊥)
    → at_elements_read kind t bracket es spot ≡ None
elements_stop k.Comma t bracket es spot h g = absurd (h refl)
elements_stop k.RightBracket t bracket es spot h g = absurd (g refl)
elements_stop _ t bracket es spot h g = refl

module _ (bracket : Span) (spot : Spot) where
  pub parts_at_once : Follows k.RightParen (PartsOpened bracket spot) (λ t. Postfixed (node.parts bracket [] t) [] 0 spot)
  unfolding step
  parts_at_once = record { takes = λ t place h. rw (h, step) refl }

  pub first_of_parts : (total : ℕ) (old : List Token) → (Sees k.RightParen old → ⊥)
      → walk total (PartsOpened bracket spot) old ≡ walk total (Operand (beginning (ForPart bracket [] spot))) old
  unfolding step finish
  first_of_parts total old h =
      alike_without total k.RightParen (PartsOpened bracket spot) (Operand (beginning (ForPart bracket [] spot))) old h
      (λ t place g. parts_go_on t.kind t.span bracket spot g) (λ place. refl)

  module _ (es : List T.Expr) where
    pub part_read : (total : ℕ) (e : T.Expr) (old : List Token)
        → walk total (Valued e (ForPart bracket es spot)) old ≡ walk total (PartsRead bracket (es ++ e ∷ []) spot) old
    unfolding step finish
    part_read total e old = same_walk total (Valued e (ForPart bracket es spot)) (PartsRead bracket (es ++ e ∷ []) spot) old (λ t place. refl) (λ place. refl)

    pub part_next : Follows k.Comma (PartsRead bracket es spot) (λ t. Operand (beginning (ForPart bracket es spot)))
    unfolding step
    part_next = record { takes = λ t place h. rw (h, step) refl }

    pub parts_end : Follows k.RightParen (PartsRead bracket es spot) (λ t. Postfixed (node.parts bracket es t) [] 0 spot)
    unfolding step
    parts_end = record { takes = λ t place h. rw (h, step) refl }

    pub parts_unclosed : (total : ℕ) (old : List Token) → (Sees k.Comma old → ⊥) → (Sees k.RightParen old → ⊥)
        → walk total (PartsRead bracket es spot) old ≡ Err (Unexpected (length old))
    unfolding step finish
    parts_unclosed total [] h g = lacks total (PartsRead bracket es spot) [] refl (λ place. refl)
    parts_unclosed total (t ∷ ts) h g = halts total (PartsRead bracket es spot) t (t ∷ ts) ts refl (λ place. parts_stop t.kind t.span bracket es spot h g)

    pub element_read : (total : ℕ) (e : T.Expr) (old : List Token)
        → walk total (Valued e (ForElement bracket es spot)) old ≡ walk total (ElementsRead bracket (es ++ e ∷ []) spot) old
    unfolding step finish
    element_read total e old =
        same_walk total (Valued e (ForElement bracket es spot)) (ElementsRead bracket (es ++ e ∷ []) spot) old (λ t place. refl) (λ place. refl)

    pub element_next : Follows k.Comma (ElementsRead bracket es spot) (λ t. Operand (beginning (ForElement bracket es spot)))
    unfolding step
    element_next = record { takes = λ t place h. rw (h, step) refl }

    pub elements_end : Follows k.RightBracket (ElementsRead bracket es spot) (λ t. Postfixed (node.array bracket es t) [] 0 spot)
    unfolding step
    elements_end = record { takes = λ t place h. rw (h, step) refl }

    pub elements_unclosed : (total : ℕ) (old : List Token) → (Sees k.Comma old → ⊥) → (Sees k.RightBracket old → ⊥)
        → walk total (ElementsRead bracket es spot) old ≡ Err (Unexpected (length old))
    unfolding step finish
    elements_unclosed total [] h g = lacks total (ElementsRead bracket es spot) [] refl (λ place. refl)
    elements_unclosed total (t ∷ ts) h g =
        halts total (ElementsRead bracket es spot) t (t ∷ ts) ts refl (λ place. elements_stop t.kind t.span bracket es spot h g)

-- CHOICES

choices_stop : (kind : TokenKind) (t : Span) (from : ℕ) (choices : List T.Choice) (spot : Spot) → (kind ≡ k.If → ⊥) → (kind ≡ k.LeftBrace → ⊥)
    → at_choice_else kind t from choices spot ≡ None
choices_stop k.If t from choices spot h g = absurd (h refl)
choices_stop k.LeftBrace t from choices spot h g = absurd (g refl)
choices_stop _ t from choices spot h g = refl

module _ (from : ℕ) (choices : List T.Choice) (spot : Spot) where
  pub wants_value : (word : Span) (condition : T.Expr)
      → Wants k.LeftBrace (Valued condition (ForCondition from choices word spot)) (λ t. Operand (beginning (ForChoice from choices word condition spot)))
  unfolding step finish
  wants_value word condition = record {
    takes = λ t place h. rw (h, step) refl;
    refuses_others = λ t place h. no_left_brace t.kind _ h;
    unfinished =
        λ place. refl;
  }

  pub wants_value_end : (word : Span) (condition value : T.Expr)
      → Wants k.RightBrace (Valued value (ForChoice from choices word condition spot))
      (λ t. ChoiceRead from (choices ++ node.choice word condition value ∷ []) spot)
  unfolding step finish
  wants_value_end word condition value = record {
    takes = λ t place h. rw (h, step) refl;
    refuses_others =
        λ t place h. no_right_brace t.kind _ h;
    unfinished = λ place. refl;
  }

  pub wants_else : Wants k.Else (ChoiceRead from choices spot) (λ t. ChoiceElse from choices spot)
  unfolding step finish
  wants_else = record { takes = λ t place h. rw (h, step) refl; refuses_others = λ t place h. no_else t.kind _ h; unfinished = λ place. refl }

  pub next_choice : Follows k.If (ChoiceElse from choices spot) (λ t. Operand (beginning (ForCondition from choices t spot)))
  unfolding step
  next_choice = record { takes = λ t place h. rw (h, step) refl }

  pub last_choice : Follows k.LeftBrace (ChoiceElse from choices spot) (λ t. Operand (beginning (ForOtherwise from choices spot)))
  unfolding step
  last_choice = record { takes = λ t place h. rw (h, step) refl }

  pub no_choice : (total : ℕ) (old : List Token) → (Sees k.If old → ⊥) → (Sees k.LeftBrace old → ⊥)
      → walk total (ChoiceElse from choices spot) old ≡ Err (Unexpected (length old))
  unfolding step finish
  no_choice total [] h g = lacks total (ChoiceElse from choices spot) [] refl (λ place. refl)
  no_choice total (t ∷ ts) h g = halts total (ChoiceElse from choices spot) t (t ∷ ts) ts refl (λ place. choices_stop t.kind t.span from choices spot h g)

  pub wants_last_end : (value : T.Expr)
      → Wants k.RightBrace (Valued value (ForOtherwise from choices spot)) (λ t. Postfixed (node.if_else from choices value t) [] 0 spot)
  unfolding step finish
  wants_last_end value = record { takes = λ t place h. rw (h, step) refl; refuses_others = λ t place h. no_right_brace t.kind _ h; unfinished = λ place. refl }
