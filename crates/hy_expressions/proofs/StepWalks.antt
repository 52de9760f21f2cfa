-- How the machine goes on after a primary expression, and among arguments.
use Rattle.std.proofs.Common.{◌≡◌, ◌+◌, ℕ, ℤ, true, false, Option, Some, None, Err, List, [], ◌∷◌, ◌++◌, length, refl, sym, ◌∙◌, arith}
use Rattle.hy_base.specs.declared.position.Span.{Span}
use Rattle.hy_lexer.specs.declared.token.Token.{Token}
use Rattle.hy_lexer.specs.declared.token.TokenKind.{TokenKind}
use Rattle.hy_lexer.specs.declared.token.TokenKind.TheVariants as k
use Rattle.hy_tree.specs.Tree as T
use Rattle.hy_expressions.specs.declared.expressions.Brackets.{Brackets}
use Rattle.hy_expressions.specs.declared.expressions.Brackets.TheVariants as b
use Rattle.hy_grammar.specs.ExprSteps.{closes, or_else, with_arguments, callee, at_argument, at_arguments_read, at_argument_name, at_postfixed}
use Rattle.hy_grammar.specs.ExprSteps.{at_postfix_end, at_dotted}
use Rattle.hy_grammar.specs.Machine.{step, finish, Unexpected, TooDeep, most_levels, walk}
use Rattle.hy_phrases.specs.Marks.{kind_of}
use Rattle.hy_grammar.specs.Nodes as node
use Rattle.hy_grammar.specs.OperandSteps.{beginning, at_operand}
use Rattle.hy_expressions.specs.ReadsExpressions.{operated, brackets_of, closing, IsOpening}
use Rattle.hy_grammar.specs.Stack.{Callee, Spot, State, InExpr, ForArgument, Operand, Postfixed, Valued, Dotted, ArgumentsOpened, ArgumentWanted}
use Rattle.hy_grammar.specs.Stack.{ArgumentName, ArgumentsRead, depth_spot}
use Rattle.hy_phrases.specs.Wanted.{Sees}
use Rattle.hy_phrases.proofs.Walks.{fits, over, deep, halts, lacks, alike, alike_without, same_walk, Follows}
use Rattle.hy_phrases.proofs.WantedKinds.{no_right_paren, no_right_bracket}

-- ARGUMENTS

opens_none : {A : Type 0} (o : Option A) (other : Option A) → o ≡ None → or_else o other ≡ other
opens_none o other h = rw h refl

no_closing : {A : Type 0} (brackets : Brackets) (found : TokenKind) (a : A) → (found ≡ kind_of (closing brackets) → ⊥)
    → closes (brackets_of brackets) found a ≡ None
no_closing b.Round found a h = no_right_paren found a h
no_closing b.Square found a h = no_right_bracket found a h

read_on : (brackets : Brackets) (found : TokenKind) (t : Span) (primary : T.Expr) (steps : List T.Step) (args : List T.Arg) (spot : Spot)
    → (found ≡ k.Comma → ⊥) → (found ≡ kind_of (closing brackets) → ⊥)
    → at_arguments_read found t (callee primary steps (brackets_of brackets)) args spot ≡ None
read_on brackets k.Comma t primary steps args spot h g = absurd (h refl)
read_on b.Round k.RightParen t primary steps args spot h g = absurd (g refl)
read_on b.Square k.RightBracket t primary steps args spot h g = absurd (g refl)
read_on b.Round _ t primary steps args spot h g = refl
read_on b.Square _ t primary steps args spot h g = refl

module _ (primary : T.Expr) (steps : List T.Step) (brackets : Brackets) (spot : Spot) where
  abbrev pub callee_here : Callee
  callee_here = callee primary steps (brackets_of brackets)

  pub arguments_at_once : Follows (kind_of (closing brackets)) (ArgumentsOpened callee_here spot) (λ t. with_arguments callee_here [] t spot)
  unfolding step
  arguments_at_once =
      elim brackets as (λ b. Follows (kind_of (closing b)) (ArgumentsOpened (callee primary steps (brackets_of b)) spot)
      (λ t. with_arguments (callee primary steps (brackets_of b)) [] t spot)) [
        | b.Round ↦ record { takes = λ t place h. rw (h, step) refl }
        | b.Square ↦ record { takes = λ t place h. rw (h, step) refl }
      ]

  pub first_argument : (total : ℕ) (old : List Token) → (Sees (kind_of (closing brackets)) old → ⊥)
      → walk total (ArgumentsOpened callee_here spot) old ≡ walk total (ArgumentWanted callee_here [] spot) old
  unfolding step finish
  first_argument total old h = alike_without total (kind_of (closing brackets)) (ArgumentsOpened callee_here spot) (ArgumentWanted callee_here [] spot) old h
      (λ t place g. opens_none (closes (brackets_of brackets) t.kind (with_arguments callee_here [] t.span spot))
      (at_argument t.kind t.span callee_here [] spot) (no_closing brackets t.kind (with_arguments callee_here [] t.span spot) g)) (λ place. refl)

  module _ (args : List T.Arg) where
    pub argument_next : Follows k.Comma (ArgumentsRead callee_here args spot) (λ t. ArgumentWanted callee_here args spot)
    unfolding step
    argument_next = record { takes = λ t place h. rw (h, step) refl }

    pub arguments_end : Follows (kind_of (closing brackets)) (ArgumentsRead callee_here args spot) (λ t. with_arguments callee_here args t spot)
    unfolding step
    arguments_end =
        elim brackets as (λ b. Follows (kind_of (closing b)) (ArgumentsRead (callee primary steps (brackets_of b)) args spot)
        (λ t. with_arguments (callee primary steps (brackets_of b)) args t spot)) [
          | b.Round ↦ record { takes = λ t place h. rw (h, step) refl }
          | b.Square ↦ record { takes = λ t place h. rw (h, step) refl }
        ]

    pub arguments_unclosed : (total : ℕ) (old : List Token) → (Sees k.Comma old → ⊥) → (Sees (kind_of (closing brackets)) old → ⊥)
        → walk total (ArgumentsRead callee_here args spot) old ≡ Err (Unexpected (length old))
    unfolding step finish
    arguments_unclosed total [] h g = lacks total (ArgumentsRead callee_here args spot) [] refl (λ place. refl)
    arguments_unclosed total (t ∷ ts) h g =
        halts total (ArgumentsRead callee_here args spot) t (t ∷ ts) ts refl (λ place. read_on brackets t.kind t.span primary steps args spot h g)

pub argument_read : (total : ℕ) (c : Callee) (args : List T.Arg) (label : Option (List ℕ)) (spot : Spot) (e : T.Expr) (old : List Token)
    → walk total (Valued e (ForArgument c args label spot)) old ≡ walk total (ArgumentsRead c (args ++ node.arg label e ∷ []) spot) old
unfolding step finish
argument_read total c args label spot e old =
    same_walk total (Valued e (ForArgument c args label spot)) (ArgumentsRead c (args ++ node.arg label e ∷ []) spot) old (λ t place. refl) (λ place. refl)

-- LABELS

no_name : (found : TokenKind) (t : Span) (c : Callee) (args : List T.Arg) (spot : Spot) → ((text : List ℕ) → found ≡ k.Name text → ⊥)
    → at_argument found t c args spot ≡ at_operand found t (beginning (ForArgument c args None spot))
no_name (k.Name text) t c args spot h = absurd (h text refl)
no_name _ t c args spot h = refl

no_colon_behind : (found : TokenKind) (t : Token) (c : Callee) (args : List T.Arg) (text : List ℕ) (token : Span) (spot : Spot) → (found ≡ k.Colon → ⊥)
    → at_argument_name found t c args text token spot ≡ at_postfixed found t (node.named text token) [] 0 (beginning (ForArgument c args None spot))
no_colon_behind k.Colon t c args text token spot h = absurd (h refl)
no_colon_behind _ t c args text token spot h = refl

module _ (total : ℕ) (c : Callee) (args : List T.Arg) (spot : Spot) where
  abbrev unlabelled : State
  unlabelled = Operand (beginning (ForArgument c args None spot))

  pub no_label_left : (old : List Token) → old ≡ [] → walk total (ArgumentWanted c args spot) old ≡ walk total unlabelled old
  unfolding finish
  no_label_left old h = lacks total (ArgumentWanted c args spot) old h (λ place. refl) ∙ sym (lacks total unlabelled old h (λ place. refl))

  pub no_label_name : (t : Token) (old new : List Token) → old ≡ t ∷ new → ((text : List ℕ) → t.kind ≡ k.Name text → ⊥)
      → walk total (ArgumentWanted c args spot) old ≡ walk total unlabelled old
  unfolding step
  no_label_name t old new front h = alike total (ArgumentWanted c args spot) unlabelled t old new front (λ place. no_name t.kind t.span c args spot h)

  module _ (levels : ℕ) (l : levels + (depth_spot spot + 1) ≡ most_levels) (t : Token) (text : List ℕ) (is_name : t.kind ≡ k.Name text)
      (old new : List Token) (front : old ≡ t ∷ new) where
    over_name_there : walk total (ArgumentWanted c args spot) old ≡ walk total (ArgumentName c args text t.span spot) new
    unfolding step
    over_name_there =
        over total (ArgumentWanted c args spot) (ArgumentName c args text t.span spot) t old new front (λ place. rw (is_name, step) refl) (omega arith)

    over_name_value : walk total unlabelled old ≡ walk total (Postfixed (node.named text t.span) [] 0 (beginning (ForArgument c args None spot))) new
    unfolding step
    over_name_value =
        over total unlabelled (Postfixed (node.named text t.span) [] 0 (beginning (ForArgument c args None spot))) t old new front
        (λ place. rw (is_name, step) refl) (omega arith)

    behind_name : (Sees k.Colon new → ⊥)
        → walk total (ArgumentName c args text t.span spot) new ≡ walk total
        (Postfixed (node.named text t.span) [] 0 (beginning (ForArgument c args None spot))) new
    unfolding step finish
    behind_name h =
        alike_without total k.Colon (ArgumentName c args text t.span spot)
        (Postfixed (node.named text t.span) [] 0 (beginning (ForArgument c args None spot))) new h
        (λ x place g. no_colon_behind x.kind x c args text t.span spot g) (λ place. refl)

    pub no_label_colon : (Sees k.Colon new → ⊥) → walk total (ArgumentWanted c args spot) old ≡ walk total unlabelled old
    no_label_colon h = over_name_there ∙ behind_name h ∙ sym over_name_value

    pub over_label : (x : Token) (more : List Token) → new ≡ x ∷ more → x.kind ≡ k.Colon
        → walk total (ArgumentWanted c args spot) old ≡ walk total (Operand (beginning (ForArgument c args (Some text) spot))) more
    unfolding step
    over_label x more next h = over_name_there
        ∙ over total (ArgumentName c args text t.span spot) (Operand (beginning (ForArgument c args (Some text) spot))) x new more next
        (λ place. rw (h, step) refl) (omega arith)

-- STEPS

no_dotted : (found : TokenKind) (t : Span) (primary : T.Expr) (steps : List T.Step) (spot : Spot) → ((text : List ℕ) → found ≡ k.Name text → ⊥)
    → ((n : ℤ) → found ≡ k.Number n → ⊥) → at_dotted found t primary steps spot ≡ None
no_dotted (k.Name text) t primary steps spot h g = absurd (h text refl)
no_dotted (k.Number n) t primary steps spot h g = absurd (g n refl)
no_dotted _ t primary steps spot h g = refl

ends_here : (found : TokenKind) (t : Token) (primary : T.Expr) (steps : List T.Step) (to : ℕ) (spot : Spot) → (found ≡ k.Dot → ⊥)
    → (found ≡ k.LeftParen → ⊥) → (found ≡ k.LeftBracket → ⊥)
    → at_postfixed found t primary steps to spot ≡ at_postfix_end (node.postfix primary steps to) spot t
ends_here k.Dot t primary steps to spot d p q = absurd (d refl)
ends_here k.LeftParen t primary steps to spot d p q = absurd (p refl)
ends_here k.LeftBracket t primary steps to spot d p q = absurd (q refl)
ends_here _ t primary steps to spot d p q = refl

module _ (total : ℕ) (primary : T.Expr) (steps : List T.Step) where
  module _ (spot : Spot) (t : Token) (old new : List Token) (front : old ≡ t ∷ new) (levels : ℕ) (l : levels + depth_spot spot ≡ most_levels) where
    pub over_member : (text : List ℕ) → t.kind ≡ k.Name text
        → walk total (Dotted primary steps spot) old ≡ walk total (Postfixed primary (steps ++ node.member_step primary text t.span ∷ []) t.span.to spot)
        new
    unfolding step
    over_member text h =
        over total (Dotted primary steps spot) (Postfixed primary (steps ++ node.member_step primary text t.span ∷ []) t.span.to spot) t old new front
        (λ place. rw (h, step) refl) (fits levels (depth_spot spot) l)

    pub over_part : (n : ℤ) → t.kind ≡ k.Number n
        → walk total (Dotted primary steps spot) old ≡ walk total (Postfixed primary (steps ++ node.part_step primary n t.span ∷ []) t.span.to spot) new
    unfolding step
    over_part n h =
        over total (Dotted primary steps spot) (Postfixed primary (steps ++ node.part_step primary n t.span ∷ []) t.span.to spot) t old new front
        (λ place. rw (h, step) refl) (fits levels (depth_spot spot) l)

    pub over_dot : (to : ℕ) → t.kind ≡ k.Dot → walk total (Postfixed primary steps to spot) old ≡ walk total (Dotted primary steps spot) new
    unfolding step
    over_dot to h =
        over total (Postfixed primary steps to spot) (Dotted primary steps spot) t old new front (λ place. rw (h, step) refl)
        (fits levels (depth_spot spot) l)

  pub undotted : (spot : Spot) (t : Token) (old new : List Token) → old ≡ t ∷ new → ((text : List ℕ) → t.kind ≡ k.Name text → ⊥)
      → ((n : ℤ) → t.kind ≡ k.Number n → ⊥) → walk total (Dotted primary steps spot) old ≡ Err (Unexpected (length old))
  unfolding step
  undotted spot t old new front h g = halts total (Dotted primary steps spot) t old new front (λ place. no_dotted t.kind t.span primary steps spot h g)

  pub nothing_dotted : (spot : Spot) (old : List Token) → old ≡ [] → walk total (Dotted primary steps spot) old ≡ Err (Unexpected (length old))
  unfolding finish
  nothing_dotted spot old h = lacks total (Dotted primary steps spot) old h (λ place. refl)

  opened_at : (to : ℕ) (spot : Spot) (brackets : Brackets) (t : Token) (place : ℕ) → IsOpening t.kind brackets → t.first ≡ false
      → step (Postfixed primary steps to spot) t place ≡ Some (ArgumentsOpened (callee primary steps (brackets_of brackets)) spot)
  unfolding step
  opened_at to spot b.Round t place h g = rw (h, g, step) refl
  opened_at to spot b.Square t place h g = rw (h, g, step) refl

  module _ (to : ℕ) (spot : Spot) (brackets : Brackets) (t : Token) (old new : List Token) (front : old ≡ t ∷ new) (is : IsOpening t.kind brackets)
      (not_first : t.first ≡ false) where
    pub over_opening : (inner : ℕ) → inner + (depth_spot spot + 1) ≡ most_levels
        → walk total (Postfixed primary steps to spot) old ≡ walk total (ArgumentsOpened (callee primary steps (brackets_of brackets)) spot) new
    over_opening inner l =
        over total (Postfixed primary steps to spot) (ArgumentsOpened (callee primary steps (brackets_of brackets)) spot) t old new front
        (λ place. opened_at to spot brackets t place is not_first) (fits inner (depth_spot spot + 1) l)

    pub opening_too_deep : depth_spot spot ≡ most_levels → walk total (Postfixed primary steps to spot) old ≡ Err (TooDeep (length old))
    opening_too_deep l =
        deep total (Postfixed primary steps to spot) (ArgumentsOpened (callee primary steps (brackets_of brackets)) spot) t old new front
        (λ place. opened_at to spot brackets t place is not_first) (omega arith)

  pub postfix_left : (to : ℕ) (spot : Spot) (old : List Token) → old ≡ []
      → walk total (Postfixed primary steps to spot) old ≡ walk total (operated (node.postfix primary steps to) spot) old
  unfolding finish
  postfix_left to (InExpr prefixes tiers u) old h =
      lacks total (Postfixed primary steps to (InExpr prefixes tiers u)) old h (λ place. refl)
      ∙ sym (lacks total (operated (node.postfix primary steps to) (InExpr prefixes tiers u)) old h (λ place. refl))

  pub postfix_ends : (to : ℕ) (spot : Spot) (t : Token) (old new : List Token) → old ≡ t ∷ new → (t.kind ≡ k.Dot → ⊥) → (t.kind ≡ k.LeftParen → ⊥)
      → (t.kind ≡ k.LeftBracket → ⊥)
      → walk total (Postfixed primary steps to spot) old ≡ walk total (operated (node.postfix primary steps to) spot) old
  unfolding step
  postfix_ends to (InExpr prefixes tiers u) t old new front d p q =
      alike total (Postfixed primary steps to (InExpr prefixes tiers u)) (operated (node.postfix primary steps to) (InExpr prefixes tiers u)) t old new
      front (λ place. ends_here t.kind t primary steps to (InExpr prefixes tiers u) d p q)

  first_on_line : (to : ℕ) (spot : Spot) (brackets : Brackets) (t : Token) (place : ℕ) → IsOpening t.kind brackets → t.first ≡ true
      → step (Postfixed primary steps to spot) t place ≡ step (operated (node.postfix primary steps to) spot) t place
  unfolding step
  first_on_line to (InExpr prefixes tiers u) b.Round t place h g = rw (h, g, step) refl
  first_on_line to (InExpr prefixes tiers u) b.Square t place h g = rw (h, g, step) refl

  pub postfix_ends_line : (to : ℕ) (spot : Spot) (brackets : Brackets) (t : Token) (old new : List Token) → old ≡ t ∷ new → IsOpening t.kind brackets
      → t.first ≡ true
      → walk total (Postfixed primary steps to spot) old ≡ walk total (operated (node.postfix primary steps to) spot) old
  postfix_ends_line to spot brackets t old new front h g =
      alike total (Postfixed primary steps to spot) (operated (node.postfix primary steps to) spot) t old new front
      (λ place. first_on_line to spot brackets t place h g)
