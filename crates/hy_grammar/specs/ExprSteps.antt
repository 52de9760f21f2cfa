-- How the machine goes on at a token after an operand, and within an expression.
use Rattle.std.specs.Prelude.{ℕ, if◌then◌else◌, List, [], ◌∷◌, ◌++◌, Option, Some, None}
use Rattle.hy_base.specs.declared.position.Span.{Span}
use Rattle.hy_lexer.specs.declared.token.Token.{Token}
use Rattle.hy_lexer.specs.declared.token.TokenKind.{TokenKind}
use Rattle.hy_lexer.specs.declared.token.TokenKind.TheVariants as k
use Rattle.hy_tree.specs.Tree as T
use Rattle.hy_tree.specs.declared.operator.Arithmetic.{Arithmetic}
use Rattle.hy_tree.specs.declared.operator.Operator.{Operator}
use Rattle.hy_grammar.specs.Kinds.{Level, Disjunction, Conjunction, Comparison, Addition, Multiplication, Infix, infix_of, compound_of, left_brace}
use Rattle.hy_grammar.specs.Kinds.{right_brace, right_paren, right_bracket}
use Rattle.hy_grammar.specs.Nodes as node
use Rattle.hy_grammar.specs.OperandSteps.{no_prefixes, beginning, at_operand}
use Rattle.hy_grammar.specs.StmtSteps.{at_stmt_read}
use Rattle.hy_grammar.specs.Stack.{Prefix, Prefixes, Tier, NoChain, OpenChain, Tiers, Brackets, Round, Square, Callee, Place, InBranch, InLoop, Use}
use Rattle.hy_grammar.specs.Stack.{ForTarget, ForBinding, ForAssigned, ForCompound, ForDiscard, ForReturn, ForYield, ForBranch, ForLoop, ForPart}
use Rattle.hy_grammar.specs.Stack.{ForElement, ForArgument, ForCondition, ForChoice, ForOtherwise, Spot, InExpr, State, BlockOpened, Operand, Postfixed}
use Rattle.hy_grammar.specs.Stack.{Dotted, ArgumentsOpened, ArgumentWanted, ArgumentName, ChoiceRead}

-- OPERATORS

-- an operand with the operators before it
unfoldable pub prefixed : List Prefix → T.Expr → T.Expr
prefixed [] operand = operand
prefixed (p ∷ more) operand = node.unary p.operator p.token (prefixed more operand)

abbrev pub marked : Option Span → T.Expr → T.Expr
marked None operand = operand
marked (Some token) operand = node.marked token operand

abbrev pub operand_of : Prefixes → T.Expr → T.Expr
operand_of prefixes operand = prefixed prefixes.operators (marked prefixes.mark operand)

-- a chain that ends with an operand
abbrev pub join : Tier → T.Expr → T.Expr
join NoChain operand = operand
join (OpenChain first links operator token) operand = node.chain first (links ++ node.link first operator token operand ∷ []) operand

-- a chain that goes on after an operand
abbrev pub extend : Tier → T.Expr → Operator → Span → Tier
extend NoChain operand operator token = OpenChain operand [] operator token
extend (OpenChain first links before at) operand operator token = OpenChain first (links ++ node.link first before at operand ∷ []) operator token

-- the chains of this level and all tighter ones end with an operand
abbrev pub joined : Level → T.Expr → Tiers → T.Expr
joined Multiplication operand tiers = join tiers.multiplication operand
joined Addition operand tiers = join tiers.addition (join tiers.multiplication operand)
joined Comparison operand tiers = join tiers.comparison (join tiers.addition (join tiers.multiplication operand))
joined Conjunction operand tiers = join tiers.conjunction (join tiers.comparison (join tiers.addition (join tiers.multiplication operand)))
joined Disjunction operand tiers =
    join tiers.disjunction (join tiers.conjunction (join tiers.comparison (join tiers.addition (join tiers.multiplication operand))))

-- A comparison has one operator.
abbrev pub compare : Tier → T.Expr → Operator → Span → Tiers → Option Tiers
compare NoChain operand operator token tiers =
    Some (record tiers { comparison = OpenChain operand [] operator token; addition = NoChain; multiplication = NoChain })
compare (OpenChain first links before at) operand operator token tiers = None

-- an operator of this level after an operand
abbrev pub operate : Level → T.Expr → Operator → Span → Tiers → Option Tiers
operate Multiplication operand operator token tiers = Some (record tiers { multiplication = extend tiers.multiplication operand operator token })
operate Addition operand operator token tiers =
    Some (record tiers { addition = extend tiers.addition (joined Multiplication operand tiers) operator token; multiplication = NoChain })
operate Comparison operand operator token tiers = compare tiers.comparison (joined Addition operand tiers) operator token tiers
operate Conjunction operand operator token tiers =
    Some (record tiers {
      conjunction = extend tiers.conjunction (joined Comparison operand tiers) operator token;
      comparison = NoChain;
      addition =
          NoChain;
      multiplication = NoChain;
    })
operate Disjunction operand operator token tiers =
    Some (record {
      disjunction = extend tiers.disjunction (joined Conjunction operand tiers) operator token;
      conjunction = NoChain;
      comparison =
          NoChain;
      addition = NoChain;
      multiplication = NoChain;
    })

abbrev pub next_operand : Option Tiers → Use → Option State
next_operand None u = None
next_operand (Some tiers) u = Some (Operand (InExpr no_prefixes tiers u))

-- ARGUMENTS

abbrev pub closes : {A : Type 0} → Brackets → TokenKind → A → Option A
closes Round kind a = right_paren kind a
closes Square kind a = right_bracket kind a

abbrev pub arguments_step : Brackets → T.Expr → List T.Arg → Span → T.Step
arguments_step Round primary args close = node.call_step primary args close
arguments_step Square primary args close = node.index_step primary args close

abbrev pub with_arguments : Callee → List T.Arg → Span → Spot → State
with_arguments callee args t spot = Postfixed callee.primary (callee.steps ++ arguments_step callee.brackets callee.primary args t ∷ []) t.to spot

abbrev pub or_else : {A : Type 0} → Option A → Option A → Option A
or_else (Some a) other = Some a
or_else None other = other

abbrev pub at_argument : TokenKind → Span → Callee → List T.Arg → Spot → Option State
at_argument (k.Name text) t callee args spot = Some (ArgumentName callee args text t spot)
at_argument kind t callee args spot = at_operand kind t (beginning (ForArgument callee args None spot))

abbrev pub at_arguments_opened : TokenKind → Span → Callee → Spot → Option State
at_arguments_opened kind t callee spot = or_else (closes callee.brackets kind (with_arguments callee [] t spot)) (at_argument kind t callee [] spot)

abbrev pub at_arguments_read : TokenKind → Span → Callee → List T.Arg → Spot → Option State
at_arguments_read k.Comma t callee args spot = Some (ArgumentWanted callee args spot)
at_arguments_read kind t callee args spot = closes callee.brackets kind (with_arguments callee args t spot)

-- PARENTHESES, ARRAYS, CHOICES

abbrev pub at_parts_opened : TokenKind → Span → Span → Spot → Option State
at_parts_opened k.RightParen t bracket spot = Some (Postfixed (node.parts bracket [] t) [] 0 spot)
at_parts_opened kind t bracket spot = at_operand kind t (beginning (ForPart bracket [] spot))

abbrev pub at_parts_read : TokenKind → Span → Span → List T.Expr → Spot → Option State
at_parts_read k.Comma t bracket es spot = Some (Operand (beginning (ForPart bracket es spot)))
at_parts_read k.RightParen t bracket es spot = Some (Postfixed (node.parts bracket es t) [] 0 spot)
at_parts_read _ t bracket es spot = None

abbrev pub at_elements_read : TokenKind → Span → Span → List T.Expr → Spot → Option State
at_elements_read k.Comma t bracket es spot = Some (Operand (beginning (ForElement bracket es spot)))
at_elements_read k.RightBracket t bracket es spot = Some (Postfixed (node.array bracket es t) [] 0 spot)
at_elements_read _ t bracket es spot = None

abbrev pub at_choice_else : TokenKind → Span → ℕ → List T.Choice → Spot → Option State
at_choice_else k.If t from choices spot = Some (Operand (beginning (ForCondition from choices t spot)))
at_choice_else k.LeftBrace t from choices spot = Some (Operand (beginning (ForOtherwise from choices spot)))
at_choice_else _ t from choices spot = None

-- BEHIND AN EXPRESSION

abbrev pub at_compound : Option Arithmetic → Token → T.Expr → List T.Stmt → Place → Option State
at_compound (Some operator) t target before place = Some (Operand (beginning (ForCompound target operator before place)))
at_compound None t target before place = at_stmt_read t.kind t (before ++ node.evaluate target ∷ []) place

abbrev pub at_target : TokenKind → Token → T.Expr → List T.Stmt → Place → Option State
at_target k.Equal t target before place = Some (Operand (beginning (ForAssigned target before place)))
at_target kind t target before place = at_compound (compound_of kind) t target before place

abbrev pub at_valued : T.Expr → Use → Token → Option State
at_valued e (ForTarget before place) t = at_target t.kind t e before place
at_valued e (ForBinding introducer word name written before place) t = at_stmt_read t.kind t (before ++ node.binding introducer word name written e ∷ []) place
at_valued e (ForAssigned target before place) t = at_stmt_read t.kind t (before ++ node.assign target e ∷ []) place
at_valued e (ForCompound target operator before place) t = at_stmt_read t.kind t (before ++ node.compound target operator e ∷ []) place
at_valued e (ForDiscard word before place) t = at_stmt_read t.kind t (before ++ node.discard word e ∷ []) place
at_valued e (ForReturn word before place) t = at_stmt_read t.kind t (before ++ node.return_value word e ∷ []) place
at_valued e (ForYield word before place) t = at_stmt_read t.kind t (before ++ node.yield_value word e ∷ []) place
at_valued e (ForBranch from branches word before place) t = left_brace t.kind (BlockOpened (InBranch from branches word e t.span before place))
at_valued e (ForLoop word before place) t = left_brace t.kind (BlockOpened (InLoop word e t.span before place))
at_valued e (ForPart bracket es spot) t = at_parts_read t.kind t.span bracket (es ++ e ∷ []) spot
at_valued e (ForElement bracket es spot) t = at_elements_read t.kind t.span bracket (es ++ e ∷ []) spot
at_valued e (ForArgument callee args label spot) t = at_arguments_read t.kind t.span callee (args ++ node.arg label e ∷ []) spot
at_valued e (ForCondition from choices word spot) t = left_brace t.kind (Operand (beginning (ForChoice from choices word e spot)))
at_valued e (ForChoice from choices word condition spot) t = right_brace t.kind (ChoiceRead from (choices ++ node.choice word condition e ∷ []) spot)
at_valued e (ForOtherwise from choices spot) t = right_brace t.kind (Postfixed (node.if_else from choices e t.span) [] 0 spot)

abbrev pub at_infix : Option Infix → T.Expr → Tiers → Use → Token → Option State
at_infix None e tiers u t = at_valued (joined Disjunction e tiers) u t
at_infix (Some found) e tiers u t = next_operand (operate found.level e found.operator t.span tiers) u

-- after an operand with its operators before it
abbrev pub at_operated : T.Expr → Tiers → Use → Token → Option State
at_operated e tiers u t = at_infix (infix_of t.kind) e tiers u t

-- after a postfix expression that has come to its end
abbrev pub at_postfix_end : T.Expr → Spot → Token → Option State
at_postfix_end e (InExpr prefixes tiers u) t = at_operated (operand_of prefixes e) tiers u t

abbrev pub callee : T.Expr → List T.Step → Brackets → Callee
callee primary steps brackets = record { primary = primary; steps = steps; brackets = brackets }

-- A `(` or `[` that is the first on its line begins no arguments.
abbrev pub at_postfixed : TokenKind → Token → T.Expr → List T.Step → ℕ → Spot → Option State
at_postfixed k.Dot t primary steps to spot = Some (Dotted primary steps spot)
at_postfixed k.LeftParen t primary steps to spot =
    if t.first then at_postfix_end (node.postfix primary steps to) spot t else Some (ArgumentsOpened (callee primary steps Round) spot)
at_postfixed k.LeftBracket t primary steps to spot =
    if t.first then at_postfix_end (node.postfix primary steps to) spot t else Some (ArgumentsOpened (callee primary steps Square) spot)
at_postfixed _ t primary steps to spot = at_postfix_end (node.postfix primary steps to) spot t

abbrev pub at_argument_name : TokenKind → Token → Callee → List T.Arg → List ℕ → Span → Spot → Option State
at_argument_name k.Colon t callee args text token spot = Some (Operand (beginning (ForArgument callee args (Some text) spot)))
at_argument_name kind t callee args text token spot = at_postfixed kind t (node.named text token) [] 0 (beginning (ForArgument callee args None spot))

abbrev pub at_dotted : TokenKind → Span → T.Expr → List T.Step → Spot → Option State
at_dotted (k.Name text) t primary steps spot = Some (Postfixed primary (steps ++ node.member_step primary text t ∷ []) t.to spot)
at_dotted (k.Number n) t primary steps spot = Some (Postfixed primary (steps ++ node.part_step primary n t ∷ []) t.to spot)
at_dotted _ t primary steps spot = None
