-- What the grammar has the machine goes over: types and expressions.
use Rattle.std.proofs.Common.{◌≡◌, ℕ, ℤ, true, false, Option, Some, None, List, [], ◌∷◌, ◌++◌, refl, sym, ap, subst, ◌∙◌}
use Rattle.hy_base.specs.declared.position.Span.{Span}
use Rattle.hy_lexer.specs.declared.token.Token.{Token}
use Rattle.hy_lexer.specs.declared.token.TokenKind.{TokenKind}
use Rattle.hy_lexer.specs.declared.token.TokenKind.TheVariants as k
use Rattle.hy_tree.specs.Tree as T
use Rattle.hy_tree.specs.declared.operator.Operator.{Operator}
use Rattle.hy_tree.specs.declared.operator.UnaryOperator.{UnaryOperator}
use Rattle.hy_grammar.specs.Kinds.{Level, Is, tier, infix_of, prefix_of, Disjunction, Conjunction, Comparison, Addition, Multiplication}
use Rattle.hy_grammar.specs.Nodes as node
use Rattle.hy_grammar.specs.TypeSteps.{typed}
use Rattle.hy_grammar.specs.OperandSteps.{no_prefixes, no_chains, beginning}
use Rattle.hy_grammar.specs.ExprSteps.{prefixed, operand_of, join, extend, at_infix, callee}
use Rattle.hy_grammar.specs.Machine.{step, finish}
use Rattle.hy_grammar.specs.TypeGrammar as y
use Rattle.hy_grammar.specs.TypeGrammar.{HasType, HasTypes}
use Rattle.hy_grammar.specs.ExprGrammar as e
use Rattle.hy_grammar.specs.ExprGrammar.{HasPrimary, HasExprs, HasPostfix, HasSomeArgs, HasArg, HasArgs, HasUnary, HasOperand, HasOperands, HasExpr}
use Rattle.hy_grammar.specs.ExprGrammar.{HasChoices, MayGoOn}
use Rattle.hy_grammar.specs.Stack.{Prefix, Tier, Tiers, Callee, Use, Spot, TypeUse, State, NoChain, OpenChain, Round, Square, ForPart, ForElement}
use Rattle.hy_grammar.specs.Stack.{ForArgument, ForCondition, ForChoice, ForOtherwise, InExpr, ForElementType, ForTypePart, ForEmptyArray, Operand}
use Rattle.hy_grammar.specs.Stack.{Postfixed, Operated, Valued, Dotted, PartsOpened, PartsRead, ElementsRead, ArgumentsOpened, ArgumentWanted, ArgumentName}
use Rattle.hy_grammar.specs.Stack.{ArgumentsRead, ArrayWord, ArrayType, ArrayClosed, ArrayOpened, ChoiceRead, ChoiceElse, TypeWanted, ArrayTypeWord}
use Rattle.hy_grammar.specs.Stack.{ArrayTypeElement, TypesOpened, TypesRead}
use Rattle.hy_grammar_laws.proofs.Sound.{prefixed_append}
use Rattle.hy_grammar_laws.proofs.Ends.{Goes, OnFront, not_more, thens, eats, alike, starts_operand, begins, begins_exprs, PostfixEnds, LevelEnds, ExprEnds}
use Rattle.hy_grammar_laws.proofs.Ends.{expr_ends, level_ends, on_level, on_begins, is_colon, is_name, NoLabel, no_label, ArgEnds, arg_ends, on_args}
use Rattle.hy_grammar_laws.proofs.Ends.{no_colon_front, begins_args, round_kind, square_kind, no_colon_kind, colon_free, tiers_at, OperandEnds}
use Rattle.hy_grammar_laws.proofs.Ends.{own_operator, on_operand, as_level, as_postfix, operates, chain_ends, ChainRead, may_go_on, with_unary, Listing}
use Rattle.hy_grammar_laws.proofs.Ends.{starts_type, begins_types, opened_kind, parts_kind, every, chain_joins, not_empty}

module _ {total : ℕ} where
  -- TYPES

  first_type : {o : Span} {u : TypeUse} {ts : List Token} → begins starts_type ts ≡ true → Goes total (TypesOpened o u) ts (TypeWanted (ForTypePart o [] u)) ts
  unfolding step finish
  first_type {o = o} {u = u} {ts = ts} h = alike refl (on_begins starts_type _ (λ t h n. opened_kind t.kind t.span o u h) ts h)

  named_type : {t : Token} {text : List ℕ} {ts : List Token} {u : TypeUse} → Is t (k.Name text)
      → Goes total (TypeWanted u) (t ∷ ts) (typed (node.named_type text t.span) u) ts
  unfolding step
  named_type h = eats (rw (h, step) refl)

  self_type : {t : Token} {ts : List Token} {u : TypeUse} → Is t k.SelfType → Goes total (TypeWanted u) (t ∷ ts) (typed (node.self_type t.span) u) ts
  unfolding step
  self_type h = eats (rw (h, step) refl)

  array_type_word : {t : Token} {ts : List Token} {u : TypeUse} → Is t k.Array → Goes total (TypeWanted u) (t ∷ ts) (ArrayTypeWord t.span u) ts
  unfolding step
  array_type_word h = eats (rw (h, step) refl)

  array_type_less : {t : Token} {ts : List Token} {word : Span} {u : TypeUse} → Is t k.Less
      → Goes total (ArrayTypeWord word u) (t ∷ ts) (TypeWanted (ForElementType word u)) ts
  unfolding step
  array_type_less h = eats (rw (h, step) refl)

  array_type_greater : {t : Token} {ts : List Token} {word : Span} {written : T.TypeExp} {u : TypeUse} → Is t k.Greater
      → Goes total (ArrayTypeElement word written u) (t ∷ ts) (typed (node.array_type word written t.span) u) ts
  unfolding step
  array_type_greater h = eats (rw (h, step) refl)

  types_paren : {t : Token} {ts : List Token} {u : TypeUse} → Is t k.LeftParen → Goes total (TypeWanted u) (t ∷ ts) (TypesOpened t.span u) ts
  unfolding step
  types_paren h = eats (rw (h, step) refl)

  no_types_close : {t : Token} {ts : List Token} {o : Span} {u : TypeUse} → Is t k.RightParen
      → Goes total (TypesOpened o u) (t ∷ ts) (typed (node.types o [] t.span) u) ts
  unfolding step
  no_types_close h = eats (rw (h, step) refl)

  types_comma : {t : Token} {ts : List Token} {o : Span} {parts : List T.TypeExp} {u : TypeUse} → Is t k.Comma
      → Goes total (TypesRead o parts u) (t ∷ ts) (TypeWanted (ForTypePart o parts u)) ts
  unfolding step
  types_comma h = eats (rw (h, step) refl)

  types_close : {t : Token} {ts : List Token} {o : Span} {parts : List T.TypeExp} {u : TypeUse} → Is t k.RightParen
      → Goes total (TypesRead o parts u) (t ∷ ts) (typed (node.types o parts t.span) u) ts
  unfolding step
  types_close h = eats (rw (h, step) refl)

  mutual
    pub c_type : {written : T.TypeExp} {old new : List Token} → HasType old written new → (u : TypeUse) → Goes total (TypeWanted u) old (typed written u) new
    c_type (y.named_type h) u = named_type h
    c_type (y.self_type h) u = self_type h
    c_type (y.array_type {a = a} h l t g) u =
        thens (array_type_word h) (thens (array_type_less l) (thens (c_type t (ForElementType a.span u)) (array_type_greater g)))
    c_type (y.no_types h c) u = thens (types_paren h) (no_types_close c)
    c_type (y.types {o = o} h t c) u = thens (types_paren h) (thens (first_type (begins_types t)) (thens (c_types t o.span u) (types_close c)))

    c_types : {parts : List T.TypeExp} {old new : List Token} → HasTypes old parts new → (o : Span) (u : TypeUse)
        → Goes total (TypeWanted (ForTypePart o [] u)) old (TypesRead o parts u) new
    c_types (y.one_type t) o u = c_type t (ForTypePart o [] u)
    c_types (y.more_types {parts = parts} h c t) o u = thens (c_types h o u) (thens (types_comma c) (c_type t (ForTypePart o parts u)))

  -- EXPRESSIONS: tokens of a primary expression

  number : {t : Token} {n : ℤ} {ts : List Token} {spot : Spot} → Is t (k.Number n)
      → Goes total (Operand spot) (t ∷ ts) (Postfixed (node.number n t.span) [] 0 spot) ts
  unfolding step
  number h = eats (rw (h, step) refl)

  truth : {t : Token} {ts : List Token} {spot : Spot} → Is t k.True → Goes total (Operand spot) (t ∷ ts) (Postfixed (node.truth true t.span) [] 0 spot) ts
  unfolding step
  truth h = eats (rw (h, step) refl)

  untruth : {t : Token} {ts : List Token} {spot : Spot} → Is t k.False → Goes total (Operand spot) (t ∷ ts) (Postfixed (node.truth false t.span) [] 0 spot) ts
  unfolding step
  untruth h = eats (rw (h, step) refl)

  named : {t : Token} {text : List ℕ} {ts : List Token} {spot : Spot} → Is t (k.Name text)
      → Goes total (Operand spot) (t ∷ ts) (Postfixed (node.named text t.span) [] 0 spot) ts
  unfolding step
  named h = eats (rw (h, step) refl)

  self_value : {t : Token} {ts : List Token} {spot : Spot} → Is t k.SelfValue
      → Goes total (Operand spot) (t ∷ ts) (Postfixed (node.self_value t.span) [] 0 spot) ts
  unfolding step
  self_value h = eats (rw (h, step) refl)

  array_word : {t : Token} {ts : List Token} {spot : Spot} → Is t k.Array → Goes total (Operand spot) (t ∷ ts) (ArrayWord t.span spot) ts
  unfolding step
  array_word h = eats (rw (h, step) refl)

  array_less : {t : Token} {ts : List Token} {word : Span} {spot : Spot} → Is t k.Less
      → Goes total (ArrayWord word spot) (t ∷ ts) (TypeWanted (ForEmptyArray word spot)) ts
  unfolding step
  array_less h = eats (rw (h, step) refl)

  array_greater : {t : Token} {ts : List Token} {word : Span} {written : T.TypeExp} {spot : Spot} → Is t k.Greater
      → Goes total (ArrayType word written spot) (t ∷ ts) (ArrayClosed word written spot) ts
  unfolding step
  array_greater h = eats (rw (h, step) refl)

  array_paren : {t : Token} {ts : List Token} {word : Span} {written : T.TypeExp} {spot : Spot} → Is t k.LeftParen
      → Goes total (ArrayClosed word written spot) (t ∷ ts) (ArrayOpened word written spot) ts
  unfolding step
  array_paren h = eats (rw (h, step) refl)

  array_close : {t : Token} {ts : List Token} {word : Span} {written : T.TypeExp} {spot : Spot} → Is t k.RightParen
      → Goes total (ArrayOpened word written spot) (t ∷ ts) (Postfixed (node.empty_array word written t.span) [] 0 spot) ts
  unfolding step
  array_close h = eats (rw (h, step) refl)

  parts_paren : {t : Token} {ts : List Token} {spot : Spot} → Is t k.LeftParen → Goes total (Operand spot) (t ∷ ts) (PartsOpened t.span spot) ts
  unfolding step
  parts_paren h = eats (rw (h, step) refl)

  no_parts_close : {t : Token} {ts : List Token} {o : Span} {spot : Spot} → Is t k.RightParen
      → Goes total (PartsOpened o spot) (t ∷ ts) (Postfixed (node.parts o [] t.span) [] 0 spot) ts
  unfolding step
  no_parts_close h = eats (rw (h, step) refl)

  first_part : {o : Span} {spot : Spot} {ts : List Token} → begins starts_operand ts ≡ true
      → Goes total (PartsOpened o spot) ts (Operand (beginning (ForPart o [] spot))) ts
  unfolding step finish
  first_part {o = o} {spot = spot} {ts = ts} h = alike refl (on_begins starts_operand _ (λ t h n. parts_kind t.kind t.span o spot h) ts h)

  parts_close : {t : Token} {ts : List Token} {o : Span} {es : List T.Expr} {spot : Spot} → Is t k.RightParen
      → Goes total (PartsRead o es spot) (t ∷ ts) (Postfixed (node.parts o es t.span) [] 0 spot) ts
  unfolding step
  parts_close h = eats (rw (h, step) refl)

  array_bracket : {t : Token} {ts : List Token} {spot : Spot} → Is t k.LeftBracket
      → Goes total (Operand spot) (t ∷ ts) (Operand (beginning (ForElement t.span [] spot))) ts
  unfolding step
  array_bracket h = eats (rw (h, step) refl)

  elements_close : {t : Token} {ts : List Token} {o : Span} {es : List T.Expr} {spot : Spot} → Is t k.RightBracket
      → Goes total (ElementsRead o es spot) (t ∷ ts) (Postfixed (node.array o es t.span) [] 0 spot) ts
  unfolding step
  elements_close h = eats (rw (h, step) refl)

  part_listing : (o : Span) (spot : Spot) → Listing total (λ es. ForPart o es spot) (λ es. PartsRead o es spot)
  unfolding step finish
  part_listing o spot = record { joins = λ es it ts. alike refl (every _ (λ t n. refl) ts); comma = λ c es ts h. eats (rw (h, step) refl) }

  element_listing : (o : Span) (spot : Spot) → Listing total (λ es. ForElement o es spot) (λ es. ElementsRead o es spot)
  unfolding step finish
  element_listing o spot = record { joins = λ es it ts. alike refl (every _ (λ t n. refl) ts); comma = λ c es ts h. eats (rw (h, step) refl) }

  -- an `if`
  if_word_first : {t : Token} {ts : List Token} {spot : Spot} → Is t k.If
      → Goes total (Operand spot) (t ∷ ts) (Operand (beginning (ForCondition t.span.from [] t.span spot))) ts
  unfolding step
  if_word_first h = eats (rw (h, step) refl)

  if_brace : {t : Token} {ts : List Token} {from : ℕ} {choices : List T.Choice} {word : Span} {condition : T.Expr} {spot : Spot} → Is t k.LeftBrace
      → Goes total (Valued condition (ForCondition from choices word spot)) (t ∷ ts) (Operand (beginning (ForChoice from choices word condition spot))) ts
  unfolding step
  if_brace h = eats (rw (h, step) refl)

  choice_close : {t : Token} {ts : List Token} {from : ℕ} {choices : List T.Choice} {word : Span} {condition value : T.Expr} {spot : Spot} → Is t k.RightBrace
      → Goes total (Valued value (ForChoice from choices word condition spot)) (t ∷ ts)
      (ChoiceRead from (choices ++ node.choice word condition value ∷ []) spot) ts
  unfolding step
  choice_close h = eats (rw (h, step) refl)

  choice_else : {t : Token} {ts : List Token} {from : ℕ} {choices : List T.Choice} {spot : Spot} → Is t k.Else
      → Goes total (ChoiceRead from choices spot) (t ∷ ts) (ChoiceElse from choices spot) ts
  unfolding step
  choice_else h = eats (rw (h, step) refl)

  else_if : {t : Token} {ts : List Token} {from : ℕ} {choices : List T.Choice} {spot : Spot} → Is t k.If
      → Goes total (ChoiceElse from choices spot) (t ∷ ts) (Operand (beginning (ForCondition from choices t.span spot))) ts
  unfolding step
  else_if h = eats (rw (h, step) refl)

  else_brace : {t : Token} {ts : List Token} {from : ℕ} {choices : List T.Choice} {spot : Spot} → Is t k.LeftBrace
      → Goes total (ChoiceElse from choices spot) (t ∷ ts) (Operand (beginning (ForOtherwise from choices spot))) ts
  unfolding step
  else_brace h = eats (rw (h, step) refl)

  otherwise_close : {t : Token} {ts : List Token} {from : ℕ} {choices : List T.Choice} {value : T.Expr} {spot : Spot} → Is t k.RightBrace
      → Goes total (Valued value (ForOtherwise from choices spot)) (t ∷ ts) (Postfixed (node.if_else from choices value t.span) [] 0 spot) ts
  unfolding step
  otherwise_close h = eats (rw (h, step) refl)

  -- STEPS

  dot : {t : Token} {ts : List Token} {primary : T.Expr} {steps : List T.Step} {to : ℕ} {spot : Spot} → Is t k.Dot
      → Goes total (Postfixed primary steps to spot) (t ∷ ts) (Dotted primary steps spot) ts
  unfolding step
  dot h = eats (rw (h, step) refl)

  member : {t : Token} {text : List ℕ} {ts : List Token} {primary : T.Expr} {steps : List T.Step} {spot : Spot} → Is t (k.Name text)
      → Goes total (Dotted primary steps spot) (t ∷ ts) (Postfixed primary (steps ++ node.member_step primary text t.span ∷ []) t.span.to spot) ts
  unfolding step
  member h = eats (rw (h, step) refl)

  part : {t : Token} {n : ℤ} {ts : List Token} {primary : T.Expr} {steps : List T.Step} {spot : Spot} → Is t (k.Number n)
      → Goes total (Dotted primary steps spot) (t ∷ ts) (Postfixed primary (steps ++ node.part_step primary n t.span ∷ []) t.span.to spot) ts
  unfolding step
  part h = eats (rw (h, step) refl)

  round : {t : Token} {ts : List Token} {primary : T.Expr} {steps : List T.Step} {to : ℕ} {spot : Spot} → Is t k.LeftParen → t.first ≡ false
      → Goes total (Postfixed primary steps to spot) (t ∷ ts) (ArgumentsOpened (callee primary steps Round) spot) ts
  unfolding step
  round h f = eats (rw (h, f, step) refl)

  square : {t : Token} {ts : List Token} {primary : T.Expr} {steps : List T.Step} {to : ℕ} {spot : Spot} → Is t k.LeftBracket → t.first ≡ false
      → Goes total (Postfixed primary steps to spot) (t ∷ ts) (ArgumentsOpened (callee primary steps Square) spot) ts
  unfolding step
  square h f = eats (rw (h, f, step) refl)

  no_args_round : {t : Token} {ts : List Token} {primary : T.Expr} {steps : List T.Step} {spot : Spot} → Is t k.RightParen
      → Goes total (ArgumentsOpened (callee primary steps Round) spot) (t ∷ ts)
      (Postfixed primary (steps ++ node.call_step primary [] t.span ∷ []) t.span.to spot) ts
  unfolding step
  no_args_round h = eats (rw (h, step) refl)

  no_args_square : {t : Token} {ts : List Token} {primary : T.Expr} {steps : List T.Step} {spot : Spot} → Is t k.RightBracket
      → Goes total (ArgumentsOpened (callee primary steps Square) spot) (t ∷ ts)
      (Postfixed primary (steps ++ node.index_step primary [] t.span ∷ []) t.span.to spot) ts
  unfolding step
  no_args_square h = eats (rw (h, step) refl)

  args_round : {t : Token} {ts : List Token} {primary : T.Expr} {steps : List T.Step} {args : List T.Arg} {spot : Spot} → Is t k.RightParen
      → Goes total (ArgumentsRead (callee primary steps Round) args spot) (t ∷ ts)
      (Postfixed primary (steps ++ node.call_step primary args t.span ∷ []) t.span.to spot) ts
  unfolding step
  args_round h = eats (rw (h, step) refl)

  args_square : {t : Token} {ts : List Token} {primary : T.Expr} {steps : List T.Step} {args : List T.Arg} {spot : Spot} → Is t k.RightBracket
      → Goes total (ArgumentsRead (callee primary steps Square) args spot) (t ∷ ts)
      (Postfixed primary (steps ++ node.index_step primary args t.span ∷ []) t.span.to spot) ts
  unfolding step
  args_square h = eats (rw (h, step) refl)

  args_comma : {t : Token} {ts : List Token} {c : Callee} {args : List T.Arg} {spot : Spot} → Is t k.Comma
      → Goes total (ArgumentsRead c args spot) (t ∷ ts) (ArgumentWanted c args spot) ts
  unfolding step
  args_comma h = eats (rw (h, step) refl)

  argument_read : (c : Callee) (args : List T.Arg) (label : Option (List ℕ)) (it : T.Expr) (spot : Spot) (ts : List Token)
      → Goes total (Valued it (ForArgument c args label spot)) ts (ArgumentsRead c (args ++ node.arg label it ∷ []) spot) ts
  unfolding step finish
  argument_read c args label it spot ts = alike refl (every _ (λ t n. refl) ts)

  label_name : {t : Token} {text : List ℕ} {ts : List Token} {c : Callee} {args : List T.Arg} {spot : Spot} → Is t (k.Name text)
      → Goes total (ArgumentWanted c args spot) (t ∷ ts) (ArgumentName c args text t.span spot) ts
  unfolding step
  label_name h = eats (rw (h, step) refl)

  label_colon : {t : Token} {text : List ℕ} {ts : List Token} {c : Callee} {args : List T.Arg} {token : Span} {spot : Spot} → Is t k.Colon
      → Goes total (ArgumentName c args text token spot) (t ∷ ts) (Operand (beginning (ForArgument c args (Some text) spot))) ts
  unfolding step
  label_colon h = eats (rw (h, step) refl)

  first_round : {primary : T.Expr} {steps : List T.Step} {spot : Spot} {ts : List Token} → begins starts_operand ts ≡ true
      → Goes total (ArgumentsOpened (callee primary steps Round) spot) ts (ArgumentWanted (callee primary steps Round) [] spot) ts
  unfolding step finish
  first_round {primary = primary} {steps = steps} {spot = spot} {ts = ts} h =
      alike refl (on_begins starts_operand _ (λ t h n. round_kind t.kind t.span primary steps spot h) ts h)

  first_square : {primary : T.Expr} {steps : List T.Step} {spot : Spot} {ts : List Token} → begins starts_operand ts ≡ true
      → Goes total (ArgumentsOpened (callee primary steps Square) spot) ts (ArgumentWanted (callee primary steps Square) [] spot) ts
  unfolding step finish
  first_square {primary = primary} {steps = steps} {spot = spot} {ts = ts} h =
      alike refl (on_begins starts_operand _ (λ t h n. square_kind t.kind t.span primary steps spot h) ts h)

  -- a name that is no label
  name_is_value : (c : Callee) (args : List T.Arg) (text : List ℕ) (token : Span) (spot : Spot) (ts : List Token) → begins is_colon ts ≡ false
      → Goes total (ArgumentName c args text token spot) ts (Postfixed (node.named text token) [] 0 (beginning (ForArgument c args None spot))) ts
  unfolding step finish
  name_is_value c args text token spot ts h = alike refl (colon_free _ (λ t h n. no_colon_kind t.kind t c args text token spot h) ts h)

  at_value : (kind : TokenKind) (c : Callee) (args : List T.Arg) (spot : Spot) (t : Token) (ts : List Token) → t.kind ≡ kind
      → (is_name kind ≡ true → begins is_colon ts ≡ false)
      → Goes total (ArgumentWanted c args spot) (t ∷ ts) (Operand (beginning (ForArgument c args None spot))) (t ∷ ts)
  unfolding step finish
  at_value (k.Name text) c args spot t ts h g =
      let there = thens (label_name {ts = ts} {c = c} {args = args} {spot = spot} h) (name_is_value c args text t.span spot ts (g refl)) in
      record { same = there.same ∙ sym (named {ts = ts} {spot = beginning (ForArgument c args None spot)} h).same; less = not_more (t ∷ ts) }
  at_value _ c args spot t ts h g = alike refl (λ n. rw (h, step) refl)

  a_value : (c : Callee) (args : List T.Arg) (spot : Spot) (ts : List Token) → NoLabel ts
      → Goes total (ArgumentWanted c args spot) ts (Operand (beginning (ForArgument c args None spot))) ts
  unfolding finish
  a_value c args spot [] h = alike refl tt
  a_value c args spot (t ∷ ts) h = at_value t.kind c args spot t ts refl h

  postfix_ends : {ops : List Prefix} {tiers : Tiers} {u : Use} (primary : T.Expr) (steps : List T.Step) (to : ℕ) (mark : Option Span) (ts : List Token)
      → OnFront PostfixEnds ts
      → Goes total (Postfixed primary steps to (InExpr (record { operators = ops; mark = mark }) tiers u)) ts
      (Operated (operand_of (record { operators = ops; mark = mark }) (node.postfix primary steps to)) tiers u) ts
  unfolding step finish
  postfix_ends primary steps to mark [] h = alike refl tt
  postfix_ends {ops = ops} {tiers = tiers} {u = u} primary steps to mark (t ∷ ts) h =
      alike refl (λ n. h primary steps to (InExpr (record { operators = ops; mark = mark }) tiers u))

  unary_step : {t : Token} {operator : UnaryOperator} {ts : List Token} {operators : List Prefix} {tiers : Tiers} {u : Use} → prefix_of t.kind ≡ Some operator
      → Goes total (Operand (InExpr (record { operators = operators; mark = None }) tiers u)) (t ∷ ts)
      (Operand (InExpr (record { operators = operators ++ record { operator = operator; token = t.span } ∷ []; mark = None }) tiers u)) ts
  unfolding step
  unary_step {t = t} {operator = operator} {operators = operators} {tiers = tiers} {u = u} h = eats (with_unary t.kind operator t.span operators tiers u h)

  mark_step : {t : Token} {ts : List Token} {operators : List Prefix} {tiers : Tiers} {u : Use} → Is t k.Ampersand
      → Goes total (Operand (InExpr (record { operators = operators; mark = None }) tiers u)) (t ∷ ts)
      (Operand (InExpr (record { operators = operators; mark = Some t.span }) tiers u)) ts
  unfolding step
  mark_step h = eats (rw (h, step) refl)

  operator_step : (d c p a : Tier) {level : Level} {operator : Operator} {o : Token} {ts : List Token} {chain : Tier} {last : T.Expr} {u : Use}
      → (level ≡ Comparison → chain ≡ NoChain) → infix_of o.kind ≡ tier level operator
      → Goes total (Operated last (tiers_at level chain d c p a) u) (o ∷ ts)
      (Operand (InExpr no_prefixes (tiers_at level (extend chain last operator o.span) d c p a) u)) ts
  unfolding step
  operator_step d c p a {level = level} {operator = operator} {o = o} {chain = chain} {last = last} {u = u} f h =
      eats (ap (λ i. at_infix i last (tiers_at level chain d c p a) u o) h ∙ operates level chain d c p a last operator u o f)

  level_close : (level : Level) (chain d c p a : Tier) (last : T.Expr) (u : Use) (ts : List Token) → OnFront (LevelEnds level) ts
      → Goes total (Operated last (tiers_at level chain d c p a) u) ts (Operated (join chain last) (tiers_at level NoChain d c p a) u) ts
  unfolding step finish
  level_close level chain d c p a last u [] h = alike refl tt
  level_close level chain d c p a last u (t ∷ ts) h = alike refl (λ n. chain_ends level (infix_of t.kind) chain d c p a last u t h.infix')

  -- the whole is read
  whole_close : (it : T.Expr) (u : Use) (ts : List Token) → OnFront ExprEnds ts → Goes total (Operated it no_chains u) ts (Valued it u) ts
  unfolding step finish
  whole_close it u [] h = alike refl tt
  whole_close it u (t ∷ ts) h = alike refl (λ n. ap (λ i. at_infix i it no_chains u t) h.no_infix)

  whole : {it : T.Expr} {u : Use} {old new : List Token} → Goes total (Operand (beginning u)) old (Operated it no_chains u) new → OnFront ExprEnds new
      → Goes total (Operand (beginning u)) old (Valued it u) new
  whole {it = it} {u = u} {new = new} g x = thens g (whole_close it u new x)

  chained : {level : Level} {old new : List Token} {first last : T.Expr} {links : List T.Link} (d c p a : Tier) (u : Use)
      → ChainRead total level old first links last new d c p a u → OnFront (LevelEnds level) new
      → Goes total (Operand (InExpr no_prefixes (tiers_at level NoChain d c p a) u)) old
      (Operated (node.chain first links last) (tiers_at level NoChain d c p a) u) new
  chained {level = level} {old = old} {new = new} {last = last} d c p a u r x =
      subst (λ z. Goes total (Operand (InExpr no_prefixes (tiers_at level NoChain d c p a) u)) old (Operated z (tiers_at level NoChain d c p a) u) new)
      r.joins (thens r.goes (level_close level r.chain d c p a last u new x))

  one_read : {level : Level} {old new : List Token} {it : T.Expr} {d c p a : Tier} {u : Use}
      → Goes total (Operand (InExpr no_prefixes (tiers_at level NoChain d c p a) u)) old (Operated it (tiers_at level NoChain d c p a) u) new
      → ChainRead total level old it [] it new d c p a u
  unfolding node.chain
  one_read g = record { chain = NoChain; goes = g; joins = refl; extends = λ operator token. refl; none = λ h. refl }

  more_read : {level : Level} {o : Token} {operator : Operator} {old mid new : List Token} {first last it : T.Expr} {links : List T.Link} (d c p a : Tier)
      (u : Use) → ChainRead total level old first links last (o ∷ mid) d c p a u → infix_of o.kind ≡ tier level operator → MayGoOn level links
      → Goes total (Operand (InExpr no_prefixes (tiers_at level (OpenChain first links operator o.span) d c p a) u)) mid
      (Operated it (tiers_at level (OpenChain first links operator o.span) d c p a) u) new
      → ChainRead total level old first (links ++ node.link first operator o.span it ∷ []) it new d c p a u
  more_read {level = level} {o = o} {operator = operator} {old = old} {mid = mid} {first = first} {links = links} d c p a u r h m g = record {
    chain = OpenChain first links operator o.span;
    goes = thens (subst (λ z. Goes total (Operand (InExpr no_prefixes (tiers_at level NoChain d c p a) u)) old
        (Operand (InExpr no_prefixes (tiers_at level z d c p a) u)) mid) (r.extends operator o.span)
        (thens r.goes (operator_step d c p a (λ q. r.none (may_go_on level links m q)) h))) g;
    joins = chain_joins first links operator o.span _;
    extends = λ next token. refl;
    none = λ q. not_empty links _ _ q;
  }

  no_operators : {it : T.Expr} {tiers : Tiers} {u : Use} {old new : List Token}
      → Goes total (Operand (InExpr (record { operators = []; mark = None }) tiers u)) old (Operated (prefixed [] it) tiers u) new
      → Goes total (Operand (InExpr no_prefixes tiers u)) old (Operated it tiers u) new
  unfolding prefixed
  no_operators g = g

  mutual
    c_primary : {it : T.Expr} {old new : List Token} → HasPrimary old it new → (spot : Spot) → Goes total (Operand spot) old (Postfixed it [] 0 spot) new
    c_primary (e.number h) spot = number h
    c_primary (e.truth h) spot = truth h
    c_primary (e.untruth h) spot = untruth h
    c_primary (e.named h) spot = named h
    c_primary (e.self_value h) spot = self_value h
    c_primary (e.empty_array {a = a} h l t g o c) spot =
        thens (array_word h)
        (thens (array_less l) (thens (c_type t (ForEmptyArray a.span spot)) (thens (array_greater g) (thens (array_paren o) (array_close c)))))
    c_primary (e.no_parts h c) spot = thens (parts_paren h) (no_parts_close c)
    c_primary (e.parts {o = o} {c = c} h x y) spot =
        thens (parts_paren h)
        (thens (first_part (begins_exprs x)) (thens (c_exprs x (part_listing o.span spot) (expr_ends k.RightParen c refl refl y)) (parts_close y)))
    c_primary (e.array {o = o} {c = c} h x y) spot =
        thens (array_bracket h) (thens (c_exprs x (element_listing o.span spot) (expr_ends k.RightBracket c refl refl y)) (elements_close y))
    c_primary (e.if_else {c = c} x h o v y) spot =
        thens (c_choices x spot)
        (thens (choice_else h)
        (thens (else_brace o)
        (thens (whole (c_expr v NoChain NoChain NoChain NoChain _ (level_ends Disjunction c (expr_ends k.RightBrace c refl refl y)))
        (expr_ends k.RightBrace c refl refl y)) (otherwise_close y))))

    c_choices : {from : ℕ} {choices : List T.Choice} {old new : List Token} → HasChoices old from choices new → (spot : Spot)
        → Goes total (Operand spot) old (ChoiceRead from choices spot) new
    c_choices (e.first_choice {o = o} {c = c} h x hb v hc) spot = thens (if_word_first h)
        (thens (whole (c_expr x NoChain NoChain NoChain NoChain _ (level_ends Disjunction o (expr_ends k.LeftBrace o refl refl hb)))
        (expr_ends k.LeftBrace o refl refl hb))
        (thens (if_brace hb)
        (thens (whole (c_expr v NoChain NoChain NoChain NoChain _ (level_ends Disjunction c (expr_ends k.RightBrace c refl refl hc)))
        (expr_ends k.RightBrace c refl refl hc)) (choice_close hc))))
    c_choices (e.next_choice {o = o} {c = c} y h i x hb v hc) spot = thens (c_choices y spot) (thens (choice_else h) (thens (else_if i)
        (thens (whole (c_expr x NoChain NoChain NoChain NoChain _ (level_ends Disjunction o (expr_ends k.LeftBrace o refl refl hb)))
        (expr_ends k.LeftBrace o refl refl hb))
        (thens (if_brace hb)
        (thens (whole (c_expr v NoChain NoChain NoChain NoChain _ (level_ends Disjunction c (expr_ends k.RightBrace c refl refl hc)))
        (expr_ends k.RightBrace c refl refl hc)) (choice_close hc))))))

    c_exprs : {es : List T.Expr} {make : List T.Expr → Use} {read : List T.Expr → State} {old new : List Token} → HasExprs old es new
        → Listing total make read → OnFront ExprEnds new → Goes total (Operand (beginning (make []))) old (read es) new
    c_exprs (e.one_expr {e = it} {new = new} x) l f =
        thens (whole (c_expr x NoChain NoChain NoChain NoChain _ (on_level Disjunction new f)) f) (l.joins [] it new)
    c_exprs (e.more_exprs {c = c} {es = es} {e = it} {mid = mid} {new = new} y h x) l f =
        thens (c_exprs y l (expr_ends k.Comma c refl refl h))
        (thens (l.comma c es mid h) (thens (whole (c_expr x NoChain NoChain NoChain NoChain _ (on_level Disjunction new f)) f) (l.joins es it new)))

    c_postfix : {primary : T.Expr} {steps : List T.Step} {to : ℕ} {old new : List Token} → HasPostfix old primary steps to new → (spot : Spot)
        → Goes total (Operand spot) old (Postfixed primary steps to spot) new
    c_postfix (e.no_step x) spot = c_primary x spot
    c_postfix (e.member_step x d n) spot = thens (c_postfix x spot) (thens (dot d) (member n))
    c_postfix (e.part_step x d n) spot = thens (c_postfix x spot) (thens (dot d) (part n))
    c_postfix (e.call_step {c = c} {args = args} {primary = primary} {steps = steps} x o f a y) spot =
        thens (c_postfix x spot) (thens (round o f) (c_round a primary steps spot c refl y))
    c_postfix (e.index_step {c = c} {args = args} {primary = primary} {steps = steps} x o f a y) spot =
        thens (c_postfix x spot) (thens (square o f) (c_square a primary steps spot c refl y))

    c_round : {args : List T.Arg} {old new : List Token} → HasArgs old args new
        → (primary : T.Expr) (steps : List T.Step) (spot : Spot) (c : Token) {ts : List Token} → new ≡ c ∷ ts → Is c k.RightParen
        → Goes total (ArgumentsOpened (callee primary steps Round) spot) old
        (Postfixed primary (steps ++ node.call_step primary args c.span ∷ []) c.span.to spot) ts
    c_round e.no_args primary steps spot c {ts = ts} q h =
        subst (λ z. Goes total (ArgumentsOpened (callee primary steps Round) spot) z
        (Postfixed primary (steps ++ node.call_step primary [] c.span ∷ []) c.span.to spot) ts) (sym q) (no_args_round h)
    c_round (e.some_args {args = args} {old = old} x) primary steps spot c {ts = ts} q h =
        thens (thens (first_round (begins_args x)) (c_some_args x (callee primary steps Round) spot
        (subst (OnFront ArgEnds) (sym q) (arg_ends k.RightParen c refl refl refl h))))
        (subst (λ z. Goes total (ArgumentsRead (callee primary steps Round) args spot) z
        (Postfixed primary (steps ++ node.call_step primary args c.span ∷ []) c.span.to spot) ts) (sym q) (args_round h))

    c_square : {args : List T.Arg} {old new : List Token} → HasArgs old args new
        → (primary : T.Expr) (steps : List T.Step) (spot : Spot) (c : Token) {ts : List Token} → new ≡ c ∷ ts → Is c k.RightBracket
        → Goes total (ArgumentsOpened (callee primary steps Square) spot) old
        (Postfixed primary (steps ++ node.index_step primary args c.span ∷ []) c.span.to spot) ts
    c_square e.no_args primary steps spot c {ts = ts} q h =
        subst (λ z. Goes total (ArgumentsOpened (callee primary steps Square) spot) z
        (Postfixed primary (steps ++ node.index_step primary [] c.span ∷ []) c.span.to spot) ts) (sym q) (no_args_square h)
    c_square (e.some_args {args = args} {old = old} x) primary steps spot c {ts = ts} q h =
        thens (thens (first_square (begins_args x)) (c_some_args x (callee primary steps Square) spot
        (subst (OnFront ArgEnds) (sym q) (arg_ends k.RightBracket c refl refl refl h))))
        (subst (λ z. Goes total (ArgumentsRead (callee primary steps Square) args spot) z
        (Postfixed primary (steps ++ node.index_step primary args c.span ∷ []) c.span.to spot) ts) (sym q) (args_square h))

    c_some_args : {args : List T.Arg} {old new : List Token} → HasSomeArgs old args new → (c : Callee) (spot : Spot) → OnFront ArgEnds new
        → Goes total (ArgumentWanted c [] spot) old (ArgumentsRead c args spot) new
    c_some_args (e.one_arg a) c spot f = c_arg a c [] spot f
    c_some_args (e.more_args {c = comma} {args = args} y h a) c spot f =
        thens (c_some_args y c spot (arg_ends k.Comma comma refl refl refl h)) (thens (args_comma h) (c_arg a c args spot f))

    c_arg : {it : T.Arg} {old new : List Token} → HasArg old it new → (c : Callee) (args : List T.Arg) (spot : Spot) → OnFront ArgEnds new
        → Goes total (ArgumentWanted c args spot) old (ArgumentsRead c (args ++ it ∷ []) spot) new
    c_arg (e.value_alone {e = it} {old = old} {new = new} x) c args spot f = thens (a_value c args spot old (no_label x (no_colon_front new f)))
        (thens (whole (c_expr x NoChain NoChain NoChain NoChain _ (on_level Disjunction new (on_args new f))) (on_args new f))
        (argument_read c args None it spot new))
    c_arg (e.labelled {text = text} {e = it} {new = new} n y x) c args spot f = thens (label_name n) (thens (label_colon y)
        (thens (whole (c_expr x NoChain NoChain NoChain NoChain _ (on_level Disjunction new (on_args new f))) (on_args new f))
        (argument_read c args (Some text) it spot new)))

    c_unary : {it : T.Expr} {old new : List Token} → HasUnary old it new → (operators : List Prefix) (tiers : Tiers) (u : Use) → OnFront PostfixEnds new
        → Goes total (Operand (InExpr (record { operators = operators; mark = None }) tiers u)) old (Operated (prefixed operators it) tiers u) new
    c_unary (e.prefixed {t = t} {operator = operator} {e = it} {old = old} {new = new} h x) operators tiers u f =
        subst (λ z. Goes total (Operand (InExpr (record { operators = operators; mark = None }) tiers u)) (t ∷ old) (Operated z tiers u) new)
        (prefixed_append operators (record { operator = operator; token = t.span }) it)
        (thens (unary_step h) (c_unary x (operators ++ record { operator = operator; token = t.span } ∷ []) tiers u f))
    c_unary (e.marked {t = t} {primary = primary} {steps = steps} {to = to} {new = new} h x) operators tiers u f =
        thens (mark_step h) (thens (c_postfix x _) (postfix_ends primary steps to (Some t.span) new f))
    c_unary (e.postfix {primary = primary} {steps = steps} {to = to} {new = new} x) operators tiers u f =
        thens (c_postfix x _) (postfix_ends primary steps to None new f)

    c_operand : {level : Level} {it : T.Expr} {old new : List Token} → HasOperand level old it new → (chain d c p a : Tier) (u : Use)
        → OnFront (OperandEnds level) new
        → Goes total (Operand (InExpr no_prefixes (tiers_at level chain d c p a) u)) old (Operated it (tiers_at level chain d c p a) u) new
    c_operand (e.of_disjunction {new = new} x) chain d c p a u f = c_expr x chain c p a u (as_level Disjunction Conjunction new (λ found h. h) f)
    c_operand (e.of_conjunction {new = new} x) chain d c p a u f = c_expr x d chain p a u (as_level Conjunction Comparison new (λ found h. h) f)
    c_operand (e.of_comparison {new = new} x) chain d c p a u f = c_expr x d c chain a u (as_level Comparison Addition new (λ found h. h) f)
    c_operand (e.of_addition {new = new} x) chain d c p a u f = c_expr x d c p chain u (as_level Addition Multiplication new (λ found h. h) f)
    c_operand (e.of_multiplication {new = new} x) chain d c p a u f =
        no_operators (c_unary x [] (tiers_at Multiplication chain d c p a) u (as_postfix Multiplication new f))

    c_operands : {level : Level} {first last : T.Expr} {links : List T.Link} {old new : List Token} → HasOperands level old first links last new
        → (d c p a : Tier) (u : Use) → OnFront (OperandEnds level) new → ChainRead total level old first links last new d c p a u
    c_operands (e.one_operand x) d c p a u f = one_read (c_operand x NoChain d c p a u f)
    c_operands (e.more_operands {level = level} {o = o} {operator = operator} {first = first} {links = links} y h m x) d c p a u f =
        more_read d c p a u (c_operands y d c p a u (own_operator level o operator h)) h m (c_operand x (OpenChain first links operator o.span) d c p a u f)

    c_expr : {level : Level} {it : T.Expr} {old new : List Token} → HasExpr level old it new → (d c p a : Tier) (u : Use) → OnFront (LevelEnds level) new
        → Goes total (Operand (InExpr no_prefixes (tiers_at level NoChain d c p a) u)) old (Operated it (tiers_at level NoChain d c p a) u) new
    c_expr (e.chain {level = level} {new = new} x) d c p a u f = chained d c p a u (c_operands x d c p a u (on_operand level new f)) f

  -- an expression, up to a token at which it ends
  pub expression : {it : T.Expr} {old new : List Token} → HasExpr Disjunction old it new → (u : Use) → OnFront ExprEnds new
      → Goes total (Operand (beginning u)) old (Valued it u) new
  expression {new = new} x u f = whole (c_expr x NoChain NoChain NoChain NoChain u (on_level Disjunction new f)) f
