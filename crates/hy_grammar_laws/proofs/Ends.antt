-- Where expressions begin and end, and runs of the machine over their tokens.
use Rattle.std.proofs.Common.{◌≡◌, ◌≤◌, ◌-◌, ℕ, suc, Bool, true, false, Option, Some, None, List, [], ◌∷◌, ◌++◌, length, refl, sym, ap, subst, ◌∙◌, arith}
use Rattle.hy_base.specs.declared.position.Span.{Span}
use Rattle.hy_lexer.specs.declared.token.Token.{Token}
use Rattle.hy_lexer.specs.declared.token.TokenKind.{TokenKind}
use Rattle.hy_lexer.specs.declared.token.TokenKind.TheVariants as k
use Rattle.hy_tree.specs.Tree as T
use Rattle.hy_tree.specs.declared.operator.Operator.{Operator}
use Rattle.hy_tree.specs.declared.operator.UnaryOperator.{UnaryOperator}
use Rattle.hy_grammar.specs.Kinds.{Level, Infix, Is, tier, infix_of, prefix_of, Disjunction, Conjunction, Comparison, Addition, Multiplication}
use Rattle.hy_grammar.specs.Nodes as node
use Rattle.hy_grammar.specs.TypeSteps.{at_type, at_types_opened}
use Rattle.hy_grammar.specs.OperandSteps.{no_prefixes, beginning, at_operand}
use Rattle.hy_grammar.specs.ExprSteps.{join, extend, operate, next_operand, at_argument, at_arguments_opened, at_parts_opened, at_infix, at_postfix_end}
use Rattle.hy_grammar.specs.ExprSteps.{callee, at_postfixed, at_argument_name}
use Rattle.hy_grammar.specs.Machine.{step, finish, accepted, go, run}
use Rattle.hy_grammar.specs.TypeGrammar as y
use Rattle.hy_grammar.specs.TypeGrammar.{HasType, HasTypes}
use Rattle.hy_grammar.specs.ExprGrammar as e
use Rattle.hy_grammar.specs.ExprGrammar.{HasPrimary, HasExprs, HasPostfix, HasSomeArgs, HasArg, HasArgs, HasUnary, HasOperand, HasOperands, HasExpr}
use Rattle.hy_grammar.specs.ExprGrammar.{HasChoices, MayGoOn}
use Rattle.hy_grammar.specs.Stack.{Prefix, Tier, Tiers, Callee, Use, Spot, TypeUse, State, NoChain, OpenChain, Round, Square, ForPart, ForArgument, InExpr}
use Rattle.hy_grammar.specs.Stack.{ForTypePart, Operand, Operated, Valued}

-- WHOLE RUNS

-- The machine goes from a state over tokens to another state, whatever stands after.
pub record Goes (total : ℕ) (s : State) (old : List Token) (s' : State) (new : List Token) : Type 0 where
  pub same : run total s old ≡ run total s' new
  pub less : length new ≤ length old

-- what is wanted of the next token, if there is one
abbrev pub OnFront : (Token → Type 0) → List Token → Type 0
OnFront P [] = Unit {0}
OnFront P (t ∷ ts) = P t

pub shorter : (a b c : ℕ) → a ≤ b → b ≤ c → a ≤ c
shorter a b c h g = omega (arith, h, g)

pub one_less : (t : Token) (ts : List Token) → length ts ≤ length (t ∷ ts)
one_less t ts = omega arith

pub not_more : (ts : List Token) → length ts ≤ length ts
not_more ts = omega arith

module _ {total : ℕ} where
  pub thens : {s s' s'' : State} {old mid new : List Token} → Goes total s old s' mid → Goes total s' mid s'' new → Goes total s old s'' new
  thens {old = old} {mid = mid} {new = new} g h = record { same = g.same ∙ h.same; less = shorter (length new) (length mid) (length old) h.less g.less }

  pub eats : {s s' : State} {t : Token} {ts : List Token} → step s t (total - suc (length ts)) ≡ Some s' → Goes total s (t ∷ ts) s' ts
  unfolding run
  eats {t = t} {ts = ts} h = record { same = ap (λ o. go o (λ x. run total x ts) (suc (length ts))) h; less = one_less t ts }

  pub stays : {s : State} {ts : List Token} → Goes total s ts s ts
  stays {ts = ts} = record { same = refl; less = not_more ts }

  -- states that go on alike
  pub alike : {s s' : State} {ts : List Token} → finish s total ≡ finish s' total
      → OnFront (λ t. (n : ℕ) → step s t n ≡ step s' t n) ts → Goes total s ts s' ts
  unfolding run
  alike {ts = []} f g = record { same = ap accepted f; less = not_more [] }
  alike {ts = t ∷ ts} f g = record { same = ap (λ o. go o (λ x. run total x ts) (suc (length ts))) (g (total - suc (length ts))); less = not_more (t ∷ ts) }

-- WHAT PARTS BEGIN WITH

abbrev pub starts_operand : TokenKind → Bool
starts_operand (k.Number n) = true
starts_operand k.True = true
starts_operand k.False = true
starts_operand (k.Name text) = true
starts_operand k.SelfValue = true
starts_operand k.Array = true
starts_operand k.LeftParen = true
starts_operand k.LeftBracket = true
starts_operand k.If = true
starts_operand k.Minus = true
starts_operand k.Not = true
starts_operand k.Ampersand = true
starts_operand _ = false

-- the tokens begin with one of which a test holds
abbrev pub begins : (TokenKind → Bool) → List Token → Bool
begins p [] = false
begins p (t ∷ ts) = p t.kind

pub prefix_starts : (kind : TokenKind) (operator : UnaryOperator) → prefix_of kind ≡ Some operator → starts_operand kind ≡ true
prefix_starts k.Minus operator h = refl
prefix_starts k.Not operator h = refl
prefix_starts _ operator h = cc

mutual
  pub begins_primary : {it : T.Expr} {old new : List Token} → HasPrimary old it new → begins starts_operand old ≡ true
  begins_primary (e.number h) = ap starts_operand h
  begins_primary (e.truth h) = ap starts_operand h
  begins_primary (e.untruth h) = ap starts_operand h
  begins_primary (e.named h) = ap starts_operand h
  begins_primary (e.self_value h) = ap starts_operand h
  begins_primary (e.empty_array h l t g o c) = ap starts_operand h
  begins_primary (e.no_parts h c) = ap starts_operand h
  begins_primary (e.parts h x c) = ap starts_operand h
  begins_primary (e.array h x c) = ap starts_operand h
  begins_primary (e.if_else x h o v c) = begins_choices x

  pub begins_choices : {from : ℕ} {choices : List T.Choice} {old new : List Token} → HasChoices old from choices new → begins starts_operand old ≡ true
  begins_choices (e.first_choice h a o b c) = ap starts_operand h
  begins_choices (e.next_choice x h i a o b c) = begins_choices x

  pub begins_postfix : {primary : T.Expr} {steps : List T.Step} {to : ℕ} {old new : List Token} → HasPostfix old primary steps to new
      → begins starts_operand old ≡ true
  begins_postfix (e.no_step x) = begins_primary x
  begins_postfix (e.member_step x d n) = begins_postfix x
  begins_postfix (e.part_step x d n) = begins_postfix x
  begins_postfix (e.call_step x o f a c) = begins_postfix x
  begins_postfix (e.index_step x o f a c) = begins_postfix x

  pub begins_unary : {it : T.Expr} {old new : List Token} → HasUnary old it new → begins starts_operand old ≡ true
  begins_unary (e.prefixed {t = t} {operator = operator} h x) = prefix_starts t.kind operator h
  begins_unary (e.marked h x) = ap starts_operand h
  begins_unary (e.postfix x) = begins_postfix x

  pub begins_operand : {level : Level} {it : T.Expr} {old new : List Token} → HasOperand level old it new → begins starts_operand old ≡ true
  begins_operand (e.of_disjunction x) = begins_expr x
  begins_operand (e.of_conjunction x) = begins_expr x
  begins_operand (e.of_comparison x) = begins_expr x
  begins_operand (e.of_addition x) = begins_expr x
  begins_operand (e.of_multiplication x) = begins_unary x

  pub begins_operands : {level : Level} {first last : T.Expr} {links : List T.Link} {old new : List Token} → HasOperands level old first links last new
      → begins starts_operand old ≡ true
  begins_operands (e.one_operand x) = begins_operand x
  begins_operands (e.more_operands x i m y) = begins_operands x

  pub begins_expr : {level : Level} {it : T.Expr} {old new : List Token} → HasExpr level old it new → begins starts_operand old ≡ true
  begins_expr (e.chain x) = begins_operands x

pub begins_exprs : {es : List T.Expr} {old new : List Token} → HasExprs old es new → begins starts_operand old ≡ true
begins_exprs (e.one_expr x) = begins_expr x
begins_exprs (e.more_exprs x c y) = begins_exprs x

-- TOKENS BEHIND EXPRESSIONS

-- At this token a postfix expression ends.
abbrev pub PostfixEnds : Token → Type 0
PostfixEnds t = (primary : T.Expr) (steps : List T.Step) (to : ℕ) (spot : Spot)
    → at_postfixed t.kind t primary steps to spot ≡ at_postfix_end (node.postfix primary steps to) spot t

abbrev pub is_step : TokenKind → Bool
is_step k.Dot = true
is_step k.LeftParen = true
is_step k.LeftBracket = true
is_step _ = false

pub ends_kind : (kind : TokenKind) (t : Token) (primary : T.Expr) (steps : List T.Step) (to : ℕ) (spot : Spot) → is_step kind ≡ false
    → at_postfixed kind t primary steps to spot ≡ at_postfix_end (node.postfix primary steps to) spot t
ends_kind k.Dot t primary steps to spot h = cc
ends_kind k.LeftParen t primary steps to spot h = cc
ends_kind k.LeftBracket t primary steps to spot h = cc
ends_kind _ t primary steps to spot h = refl

pub ends_there : (t : Token) → is_step t.kind ≡ false → PostfixEnds t
ends_there t h primary steps to spot = ends_kind t.kind t primary steps to spot h

pub operator_ends : (kind : TokenKind) (found : Infix) → infix_of kind ≡ Some found → is_step kind ≡ false
operator_ends k.Dot found h = cc
operator_ends k.LeftParen found h = cc
operator_ends k.LeftBracket found h = cc
operator_ends _ found h = refl

-- whether the first level is looser than the second
abbrev pub looser : Level → Level → Bool
looser Disjunction Conjunction = true
looser Disjunction Comparison = true
looser Disjunction Addition = true
looser Disjunction Multiplication = true
looser Conjunction Comparison = true
looser Conjunction Addition = true
looser Conjunction Multiplication = true
looser Comparison Addition = true
looser Comparison Multiplication = true
looser Addition Multiplication = true
looser _ _ = false

abbrev pub Looser : Level → Option Infix → Type 0
Looser level None = Unit {0}
Looser level (Some found) = looser found.level level ≡ true

-- At this token an expression of a level ends.
pub record LevelEnds (level : Level) (t : Token) : Type 0 where
  pub postfix : PostfixEnds t
  pub infix' : Looser level (infix_of t.kind)

-- At this token any expression ends.
pub record ExprEnds (t : Token) : Type 0 where
  pub postfix : PostfixEnds t
  pub no_infix : infix_of t.kind ≡ None

pub expr_ends : (kind : TokenKind) (t : Token) → is_step kind ≡ false → infix_of kind ≡ None → t.kind ≡ kind → ExprEnds t
expr_ends kind t a b h = record { postfix = ends_there t (ap is_step h ∙ a); no_infix = ap infix_of h ∙ b }

pub none_looser : (level : Level) (found : Option Infix) → found ≡ None → Looser level found
none_looser level None h = tt
none_looser level (Some x) h = let q : ⊥ = cc in absurd q

pub level_ends : (level : Level) (t : Token) → ExprEnds t → LevelEnds level t
level_ends level t x = record { postfix = x.postfix; infix' = none_looser level (infix_of t.kind) x.no_infix }

pub on_level : (level : Level) (ts : List Token) → OnFront ExprEnds ts → OnFront (LevelEnds level) ts
on_level level [] x = tt
on_level level (t ∷ ts) x = level_ends level t x

pub on_begins : (p : TokenKind → Bool) (P : Token → Type 0) → ((t : Token) → p t.kind ≡ true → P t) → (ts : List Token) → begins p ts ≡ true → OnFront P ts
on_begins p P f [] h = tt
on_begins p P f (t ∷ ts) h = f t h

-- ARGUMENTS: a name with a `:` after it is a label, and else a value

abbrev pub is_colon : TokenKind → Bool
is_colon k.Colon = true
is_colon _ = false

abbrev pub is_name : TokenKind → Bool
is_name (k.Name text) = true
is_name _ = false

-- where a name comes first, no `:` comes next
abbrev pub NoLabel : List Token → Type 0
NoLabel [] = Unit {0}
NoLabel (t ∷ ts) = is_name t.kind ≡ true → begins is_colon ts ≡ false

-- an expression that ends before no `:` begins with no label
pub kind_of_name : (P : Type 0) (kind : TokenKind) → is_name kind ≡ false → is_name kind ≡ true → P
kind_of_name P kind h g = let q : ⊥ = cc in absurd q

pub infix_no_colon : (kind : TokenKind) (found : Infix) → infix_of kind ≡ Some found → is_colon kind ≡ false
infix_no_colon k.Colon found h = cc
infix_no_colon _ found h = refl

pub prefix_no_name : (kind : TokenKind) (operator : UnaryOperator) → prefix_of kind ≡ Some operator → is_name kind ≡ false
prefix_no_name k.Minus operator h = refl
prefix_no_name k.Not operator h = refl
prefix_no_name (k.Name text) operator h = cc
prefix_no_name _ operator h = cc

mutual
  pub no_label_primary : {it : T.Expr} {old new : List Token} → HasPrimary old it new → begins is_colon new ≡ false → NoLabel old
  no_label_primary (e.number {t = t} {new = new} h) c = λ q. kind_of_name (begins is_colon new ≡ false) t.kind (ap is_name h) q
  no_label_primary (e.truth {t = t} {new = new} h) c = λ q. kind_of_name (begins is_colon new ≡ false) t.kind (ap is_name h) q
  no_label_primary (e.untruth {t = t} {new = new} h) c = λ q. kind_of_name (begins is_colon new ≡ false) t.kind (ap is_name h) q
  no_label_primary (e.named h) c = λ q. c
  no_label_primary (e.self_value {t = t} {new = new} h) c = λ q. kind_of_name (begins is_colon new ≡ false) t.kind (ap is_name h) q
  no_label_primary (e.empty_array {a = a} {l = l} h hl t g o x) c = λ q. ap is_colon hl
  no_label_primary (e.no_parts h x) c = λ q. ap is_colon x
  no_label_primary (e.parts {o = o} {old = old} h x y) c = λ q. kind_of_name (begins is_colon old ≡ false) o.kind (ap is_name h) q
  no_label_primary (e.array {o = o} {old = old} h x y) c = λ q. kind_of_name (begins is_colon old ≡ false) o.kind (ap is_name h) q
  no_label_primary (e.if_else x h o v y) c = no_label_choices x

  pub no_label_choices : {from : ℕ} {choices : List T.Choice} {old new : List Token} → HasChoices old from choices new → NoLabel old
  no_label_choices (e.first_choice {i = i} {old = old} h a o b y) = λ q. kind_of_name (begins is_colon old ≡ false) i.kind (ap is_name h) q
  no_label_choices (e.next_choice x h i a o b y) = no_label_choices x

  pub no_label_postfix : {primary : T.Expr} {steps : List T.Step} {to : ℕ} {old new : List Token} → HasPostfix old primary steps to new
      → begins is_colon new ≡ false → NoLabel old
  no_label_postfix (e.no_step x) c = no_label_primary x c
  no_label_postfix (e.member_step x d n) c = no_label_postfix x (ap is_colon d)
  no_label_postfix (e.part_step x d n) c = no_label_postfix x (ap is_colon d)
  no_label_postfix (e.call_step x o f a y) c = no_label_postfix x (ap is_colon o)
  no_label_postfix (e.index_step x o f a y) c = no_label_postfix x (ap is_colon o)

  pub no_label_unary : {it : T.Expr} {old new : List Token} → HasUnary old it new → begins is_colon new ≡ false → NoLabel old
  no_label_unary (e.prefixed {t = t} {operator = operator} {old = old} h x) c =
      λ q. kind_of_name (begins is_colon old ≡ false) t.kind (prefix_no_name t.kind operator h) q
  no_label_unary (e.marked {t = t} {old = old} h x) c = λ q. kind_of_name (begins is_colon old ≡ false) t.kind (ap is_name h) q
  no_label_unary (e.postfix x) c = no_label_postfix x c

  pub no_label_operand : {level : Level} {it : T.Expr} {old new : List Token} → HasOperand level old it new → begins is_colon new ≡ false → NoLabel old
  no_label_operand (e.of_disjunction x) c = no_label x c
  no_label_operand (e.of_conjunction x) c = no_label x c
  no_label_operand (e.of_comparison x) c = no_label x c
  no_label_operand (e.of_addition x) c = no_label x c
  no_label_operand (e.of_multiplication x) c = no_label_unary x c

  pub no_label_operands : {level : Level} {first last : T.Expr} {links : List T.Link} {old new : List Token} → HasOperands level old first links last new
      → begins is_colon new ≡ false → NoLabel old
  no_label_operands (e.one_operand x) c = no_label_operand x c
  no_label_operands (e.more_operands {o = o} x i m y) c = no_label_operands x (infix_no_colon o.kind _ i)

  pub no_label : {level : Level} {it : T.Expr} {old new : List Token} → HasExpr level old it new → begins is_colon new ≡ false → NoLabel old
  no_label (e.chain x) c = no_label_operands x c

-- At this token an argument ends.
pub record ArgEnds (t : Token) : Type 0 where
  pub ends : ExprEnds t
  pub no_colon : is_colon t.kind ≡ false

pub arg_ends : (kind : TokenKind) (t : Token) → is_step kind ≡ false → infix_of kind ≡ None → is_colon kind ≡ false → t.kind ≡ kind → ArgEnds t
arg_ends kind t a b c h = record { ends = expr_ends kind t a b h; no_colon = ap is_colon h ∙ c }

pub on_args : (ts : List Token) → OnFront ArgEnds ts → OnFront ExprEnds ts
on_args [] x = tt
on_args (t ∷ ts) x = x.ends

pub no_colon_front : (ts : List Token) → OnFront ArgEnds ts → begins is_colon ts ≡ false
no_colon_front [] x = refl
no_colon_front (t ∷ ts) x = x.no_colon

pub begins_arg : {a : T.Arg} {old new : List Token} → HasArg old a new → begins starts_operand old ≡ true
begins_arg (e.value_alone x) = begins_expr x
begins_arg (e.labelled n c x) = ap starts_operand n

pub begins_args : {args : List T.Arg} {old new : List Token} → HasSomeArgs old args new → begins starts_operand old ≡ true
begins_args (e.one_arg a) = begins_arg a
begins_args (e.more_args h c a) = begins_args h

pub round_kind : (kind : TokenKind) (t : Span) (primary : T.Expr) (steps : List T.Step) (spot : Spot) → starts_operand kind ≡ true
    → at_arguments_opened kind t (callee primary steps Round) spot ≡ at_argument kind t (callee primary steps Round) [] spot
round_kind k.RightParen t primary steps spot h = cc
round_kind _ t primary steps spot h = refl

pub square_kind : (kind : TokenKind) (t : Span) (primary : T.Expr) (steps : List T.Step) (spot : Spot) → starts_operand kind ≡ true
    → at_arguments_opened kind t (callee primary steps Square) spot ≡ at_argument kind t (callee primary steps Square) [] spot
square_kind k.RightBracket t primary steps spot h = cc
square_kind _ t primary steps spot h = refl

pub no_colon_kind : (kind : TokenKind) (t : Token) (c : Callee) (args : List T.Arg) (text : List ℕ) (token : Span) (spot : Spot) → is_colon kind ≡ false
    → at_argument_name kind t c args text token spot ≡ at_postfixed kind t (node.named text token) [] 0 (beginning (ForArgument c args None spot))
no_colon_kind k.Colon t c args text token spot h = cc
no_colon_kind _ t c args text token spot h = refl

pub colon_free : (P : Token → Type 0) → ((t : Token) → is_colon t.kind ≡ false → P t) → (ts : List Token) → begins is_colon ts ≡ false → OnFront P ts
colon_free P f [] h = tt
colon_free P f (t ∷ ts) h = f t h

-- CHAINS

-- the chains around an operand of a level, of which the looser ones and its own may be open
abbrev pub tiers_at : Level → Tier → Tier → Tier → Tier → Tier → Tiers
tiers_at Disjunction x d c p a = record { disjunction = x; conjunction = NoChain; comparison = NoChain; addition = NoChain; multiplication = NoChain }
tiers_at Conjunction x d c p a = record { disjunction = d; conjunction = x; comparison = NoChain; addition = NoChain; multiplication = NoChain }
tiers_at Comparison x d c p a = record { disjunction = d; conjunction = c; comparison = x; addition = NoChain; multiplication = NoChain }
tiers_at Addition x d c p a = record { disjunction = d; conjunction = c; comparison = p; addition = x; multiplication = NoChain }
tiers_at Multiplication x d c p a = record { disjunction = d; conjunction = c; comparison = p; addition = a; multiplication = x }

-- At this token an operand of a level ends.
abbrev pub OperandLooser : Level → Option Infix → Type 0
OperandLooser Disjunction found = Looser Conjunction found
OperandLooser Conjunction found = Looser Comparison found
OperandLooser Comparison found = Looser Addition found
OperandLooser Addition found = Looser Multiplication found
OperandLooser Multiplication found = Unit {0}

pub record OperandEnds (level : Level) (t : Token) : Type 0 where
  pub postfix : PostfixEnds t
  pub infix' : OperandLooser level (infix_of t.kind)

-- an operator of the level ends an operand of it
pub own_operator : (level : Level) (o : Token) (operator : Operator) → infix_of o.kind ≡ tier level operator → OperandEnds level o
own_operator level o operator h = record { postfix = ends_there o (operator_ends o.kind _ h); infix' = subst (OperandLooser level) (sym h) (own level) }
  where
    own : (level : Level) → OperandLooser level (tier level operator)
    own Disjunction = refl
    own Conjunction = refl
    own Comparison = refl
    own Addition = refl
    own Multiplication = tt

pub looser_through : (a b c : Level) → looser a b ≡ true → looser b c ≡ true → looser a c ≡ true
looser_through Disjunction _ Conjunction h g = refl
looser_through Disjunction _ Comparison h g = refl
looser_through Disjunction _ Addition h g = refl
looser_through Disjunction _ Multiplication h g = refl
looser_through Conjunction _ Comparison h g = refl
looser_through Conjunction _ Addition h g = refl
looser_through Conjunction _ Multiplication h g = refl
looser_through Comparison _ Addition h g = refl
looser_through Comparison _ Multiplication h g = refl
looser_through Addition _ Multiplication h g = refl
looser_through _ Disjunction _ h g = cc
looser_through _ Conjunction _ h g = cc
looser_through _ Comparison _ h g = cc
looser_through _ Addition _ h g = cc
looser_through _ Multiplication _ h g = cc

pub looser_operand : (level : Level) (found : Option Infix) → Looser level found → OperandLooser level found
looser_operand Disjunction None h = tt
looser_operand Conjunction None h = tt
looser_operand Comparison None h = tt
looser_operand Addition None h = tt
looser_operand Multiplication None h = tt
looser_operand Disjunction (Some x) h = looser_through x.level Disjunction Conjunction h refl
looser_operand Conjunction (Some x) h = looser_through x.level Conjunction Comparison h refl
looser_operand Comparison (Some x) h = looser_through x.level Comparison Addition h refl
looser_operand Addition (Some x) h = looser_through x.level Addition Multiplication h refl
looser_operand Multiplication (Some x) h = tt

pub on_operand : (level : Level) (ts : List Token) → OnFront (LevelEnds level) ts → OnFront (OperandEnds level) ts
on_operand level [] x = tt
on_operand level (t ∷ ts) x = record { postfix = x.postfix; infix' = looser_operand level (infix_of t.kind) x.infix' }

-- what an operand of a level is ends where the operand does
pub as_level : (level : Level) (below : Level) (ts : List Token) → ((found : Option Infix) → OperandLooser level found → Looser below found)
    → OnFront (OperandEnds level) ts → OnFront (LevelEnds below) ts
as_level level below [] f x = tt
as_level level below (t ∷ ts) f x = record { postfix = x.postfix; infix' = f (infix_of t.kind) x.infix' }

pub as_postfix : (level : Level) (ts : List Token) → OnFront (OperandEnds level) ts → OnFront PostfixEnds ts
as_postfix level [] x = tt
as_postfix level (t ∷ ts) x = x.postfix

-- an operator of a level after the last operand of its chain
pub operates : (level : Level) (chain d c p a : Tier) (last : T.Expr) (operator : Operator) (u : Use) (o : Token) → (level ≡ Comparison → chain ≡ NoChain)
    → at_infix (tier level operator) last (tiers_at level chain d c p a) u o ≡ Some
    (Operand (InExpr no_prefixes (tiers_at level (extend chain last operator o.span) d c p a) u))
operates Disjunction chain d c p a last operator u o h = refl
operates Conjunction chain d c p a last operator u o h = refl
operates Comparison chain d c p a last operator u o h = rw (h refl) refl
operates Addition chain d c p a last operator u o h = refl
operates Multiplication chain d c p a last operator u o h = refl

-- a looser operator closes the chain
pub closes_chain : (level other : Level) (chain d c p a : Tier) (last : T.Expr) (operator : Operator) (u : Use) (t : Span) → looser other level ≡ true
    → next_operand (operate other last operator t (tiers_at level chain d c p a)) u ≡ next_operand
    (operate other (join chain last) operator t (tiers_at level NoChain d c p a)) u
closes_chain Conjunction Disjunction chain d c p a last operator u t h = refl
closes_chain Comparison Disjunction chain d c p a last operator u t h = refl
closes_chain Addition Disjunction chain d c p a last operator u t h = refl
closes_chain Multiplication Disjunction chain d c p a last operator u t h = refl
closes_chain Comparison Conjunction chain d c p a last operator u t h = refl
closes_chain Addition Conjunction chain d c p a last operator u t h = refl
closes_chain Multiplication Conjunction chain d c p a last operator u t h = refl
closes_chain Addition Comparison chain d c NoChain a last operator u t h = refl
closes_chain Addition Comparison chain d c (OpenChain first links before at) a last operator u t h = refl
closes_chain Multiplication Comparison chain d c NoChain a last operator u t h = refl
closes_chain Multiplication Comparison chain d c (OpenChain first links before at) a last operator u t h = refl
closes_chain Multiplication Addition chain d c p a last operator u t h = refl
closes_chain Disjunction Disjunction chain d c p a last operator u t h = let q : ⊥ = cc in absurd q
closes_chain Disjunction Conjunction chain d c p a last operator u t h = let q : ⊥ = cc in absurd q
closes_chain Disjunction Comparison chain d c p a last operator u t h = let q : ⊥ = cc in absurd q
closes_chain Disjunction Addition chain d c p a last operator u t h = let q : ⊥ = cc in absurd q
closes_chain Disjunction Multiplication chain d c p a last operator u t h = let q : ⊥ = cc in absurd q
closes_chain Conjunction Conjunction chain d c p a last operator u t h = let q : ⊥ = cc in absurd q
closes_chain Conjunction Comparison chain d c p a last operator u t h = let q : ⊥ = cc in absurd q
closes_chain Conjunction Addition chain d c p a last operator u t h = let q : ⊥ = cc in absurd q
closes_chain Conjunction Multiplication chain d c p a last operator u t h = let q : ⊥ = cc in absurd q
closes_chain Comparison Comparison chain d c p a last operator u t h = let q : ⊥ = cc in absurd q
closes_chain Comparison Addition chain d c p a last operator u t h = let q : ⊥ = cc in absurd q
closes_chain Comparison Multiplication chain d c p a last operator u t h = let q : ⊥ = cc in absurd q
closes_chain Addition Addition chain d c p a last operator u t h = let q : ⊥ = cc in absurd q
closes_chain Addition Multiplication chain d c p a last operator u t h = let q : ⊥ = cc in absurd q
closes_chain Multiplication Multiplication chain d c p a last operator u t h = let q : ⊥ = cc in absurd q

pub chain_ends : (level : Level) (found : Option Infix) (chain d c p a : Tier) (last : T.Expr) (u : Use) (t : Token) → Looser level found
    → at_infix found last (tiers_at level chain d c p a) u t ≡ at_infix found (join chain last) (tiers_at level NoChain d c p a) u t
chain_ends Disjunction None chain d c p a last u t h = refl
chain_ends Conjunction None chain d c p a last u t h = refl
chain_ends Comparison None chain d c p a last u t h = refl
chain_ends Addition None chain d c p a last u t h = refl
chain_ends Multiplication None chain d c p a last u t h = refl
chain_ends level (Some x) chain d c p a last u t h = closes_chain level x.level chain d c p a last x.operator u t.span h

-- operands of a level that are read, with their open chain
pub record ChainRead (total : ℕ) (level : Level) (old : List Token) (first : T.Expr) (links : List T.Link) (last : T.Expr) (new : List Token)
    (d c p a : Tier) (u : Use) : Type 0 where
  pub chain : Tier
  pub goes : Goes total (Operand (InExpr no_prefixes (tiers_at level NoChain d c p a) u)) old (Operated last (tiers_at level chain d c p a) u) new
  pub joins : join chain last ≡ node.chain first links last
  pub extends : (operator : Operator) (token : Span) → extend chain last operator token ≡ OpenChain first links operator token
  pub none : links ≡ [] → chain ≡ NoChain

pub may_go_on : (level : Level) (links : List T.Link) → MayGoOn level links → level ≡ Comparison → links ≡ []
may_go_on Comparison links m h = m
may_go_on Disjunction links m h = cc
may_go_on Conjunction links m h = cc
may_go_on Addition links m h = cc
may_go_on Multiplication links m h = cc

pub with_unary : (kind : TokenKind) (operator : UnaryOperator) (t : Span) (operators : List Prefix) (tiers : Tiers) (u : Use) → prefix_of kind ≡ Some operator
    → at_operand kind t (InExpr (record { operators = operators; mark = None }) tiers u) ≡ Some
    (Operand (InExpr (record { operators = operators ++ record { operator = operator; token = t } ∷ []; mark = None }) tiers u))
with_unary k.Minus operator t operators tiers u h = ap (λ o. with_operator_of o t operators tiers u) h
  where
    with_operator_of : Option UnaryOperator → Span → List Prefix → Tiers → Use → Option State
    with_operator_of None t operators tiers u = None
    with_operator_of (Some o) t operators tiers u =
        Some (Operand (InExpr (record { operators = operators ++ record { operator = o; token = t } ∷ []; mark = None }) tiers u))
with_unary k.Not operator t operators tiers u h = ap (λ o. with_operator_of o t operators tiers u) h
  where
    with_operator_of : Option UnaryOperator → Span → List Prefix → Tiers → Use → Option State
    with_operator_of None t operators tiers u = None
    with_operator_of (Some o) t operators tiers u =
        Some (Operand (InExpr (record { operators = operators ++ record { operator = o; token = t } ∷ []; mark = None }) tiers u))
with_unary _ operator t operators tiers u h = cc

-- expressions with commas between them
pub record Listing (total : ℕ) (make : List T.Expr → Use) (read : List T.Expr → State) : Type 0 where
  pub joins : (es : List T.Expr) (it : T.Expr) (ts : List Token) → Goes total (Valued it (make es)) ts (read (es ++ it ∷ [])) ts
  pub comma : (c : Token) (es : List T.Expr) (ts : List Token) → Is c k.Comma → Goes total (read es) (c ∷ ts) (Operand (beginning (make es))) ts

abbrev pub starts_type : TokenKind → Bool
starts_type (k.Name text) = true
starts_type k.SelfType = true
starts_type k.Array = true
starts_type k.LeftParen = true
starts_type _ = false

pub begins_type : {written : T.TypeExp} {old new : List Token} → HasType old written new → begins starts_type old ≡ true
begins_type (y.named_type h) = ap starts_type h
begins_type (y.self_type h) = ap starts_type h
begins_type (y.array_type h l t g) = ap starts_type h
begins_type (y.no_types h c) = ap starts_type h
begins_type (y.types h t c) = ap starts_type h

pub begins_types : {parts : List T.TypeExp} {old new : List Token} → HasTypes old parts new → begins starts_type old ≡ true
begins_types (y.one_type t) = begins_type t
begins_types (y.more_types h c t) = begins_types h

pub opened_kind : (kind : TokenKind) (t o : Span) (u : TypeUse) → starts_type kind ≡ true → at_types_opened kind t o u ≡ at_type kind t (ForTypePart o [] u)
opened_kind k.RightParen t o u h = cc
opened_kind _ t o u h = refl

pub parts_kind : (kind : TokenKind) (t o : Span) (spot : Spot) → starts_operand kind ≡ true
    → at_parts_opened kind t o spot ≡ at_operand kind t (beginning (ForPart o [] spot))
parts_kind k.RightParen t o spot h = cc
parts_kind _ t o spot h = refl

pub every : (P : Token → Type 0) → ((t : Token) → P t) → (ts : List Token) → OnFront P ts
every P f [] = tt
every P f (t ∷ ts) = f t

pub chain_joins : (first : T.Expr) (links : List T.Link) (operator : Operator) (token : Span) (it : T.Expr)
    → join (OpenChain first links operator token) it ≡ node.chain first (links ++ node.link first operator token it ∷ []) it
chain_joins first links operator token it = refl

pub not_empty : (links : List T.Link) (l : T.Link) (P : Type 0) → links ++ l ∷ [] ≡ [] → P
not_empty [] l P h = let q : ⊥ = cc in absurd q
not_empty (x ∷ links) l P h = let q : ⊥ = cc in absurd q
