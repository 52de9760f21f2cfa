-- What is accepted, the grammar has: a step keeps the derivations of a state. Types, expressions and statements.
use Rattle.std.proofs.Common.{◌≡◌, ℕ, Bool, true, false, if◌then◌else◌, Option, Some, None, List, [], ◌∷◌, ◌++◌, refl, sym, ap, subst, ◌∙◌}
use Rattle.hy_base.specs.declared.position.Span.{Span}
use Rattle.hy_lexer.specs.declared.token.Token.{Token}
use Rattle.hy_lexer.specs.declared.token.TokenKind.{TokenKind}
use Rattle.hy_lexer.specs.declared.token.TokenKind.TheVariants as k
use Rattle.hy_tree.specs.Tree as T
use Rattle.hy_tree.specs.declared.declaration.TypeParam.{TypeParam}
use Rattle.hy_tree.specs.declared.name.Name.{Name}
use Rattle.hy_tree.specs.declared.operator.Operator.{Operator}
use Rattle.hy_tree.specs.declared.operator.Mode.{Mode}
use Rattle.hy_tree.specs.declared.operator.UnaryOperator.{UnaryOperator}
use Rattle.hy_tree.specs.declared.operator.Arithmetic.{Arithmetic}
use Rattle.hy_tree.specs.declared.operator.Introducer.{Introducer}
use Rattle.hy_tree.specs.declared.operator.Introducer.TheVariants as introducer
use Rattle.hy_grammar.specs.Kinds.{Level, Ending, Is, tier, infix_of, prefix_of, compound_of, introducer_of, continues, right_paren, right_bracket}
use Rattle.hy_grammar.specs.Kinds.{left_brace, right_brace, if_word, Disjunction, Conjunction, Comparison, Addition, Multiplication, OpenEnd, ClosedEnd}
use Rattle.hy_grammar.specs.Nodes as node
use Rattle.hy_grammar.specs.TypeSteps.{typed, at_type, at_types_opened, at_types_read}
use Rattle.hy_grammar.specs.OperandSteps.{no_chains, beginning, with_operator, with_mark, at_operand}
use Rattle.hy_grammar.specs.StmtSteps.{callable_of, called_in, callable_read, bodied, close, at_statement, at_block_opened, at_stmt_read, at_binding_name}
use Rattle.hy_grammar.specs.StmtSteps.{at_declared, at_binding_type, at_return, at_branch_read, at_branch_else}
use Rattle.hy_grammar.specs.ExprSteps.{prefixed, operand_of, join, extend, joined, closes, with_arguments, or_else, at_argument, at_arguments_opened}
use Rattle.hy_grammar.specs.ExprSteps.{at_arguments_read, at_parts_opened, at_parts_read, at_elements_read, at_compound, at_target, at_valued}
use Rattle.hy_grammar.specs.TypeGrammar as y
use Rattle.hy_grammar.specs.TypeGrammar.{HasType, HasTypes}
use Rattle.hy_grammar.specs.ExprGrammar as e
use Rattle.hy_grammar.specs.ExprGrammar.{HasExprs, HasPostfix, HasSomeArgs, HasArg, HasArgs, HasUnary, HasOperand, HasOperands, HasExpr, HasChoices, MayGoOn}
use Rattle.hy_grammar.specs.StmtGrammar as s
use Rattle.hy_grammar.specs.StmtGrammar.{HasStmt, HasStmts, HasBlock, HasBranches}
use Rattle.hy_grammar.specs.Grammar as g
use Rattle.hy_grammar.specs.Grammar.{HasParam, HasSomeParams, HasParams, HasGenerics, HasEffect, HasResult, HasVariant, HasVariants, HasBody, HasFunction}
use Rattle.hy_grammar.specs.Grammar.{HasSubscript, Group, HasMemberKind, HasDeclKind}
use Rattle.hy_grammar.specs.Stack.{Start, Owner, Home, Sort, Head, Body, Prefix, Prefixes, Tier, Tiers, Callee, Place, Use, Spot, TypeUse, State, InFile}
use Rattle.hy_grammar.specs.Stack.{InOwner, Requirement, Subscript, ForReturn, DeclRead, MemberRead, StmtRead, in_loop}
use Rattle.hy_grammar_laws.proofs.Reading as r
use Rattle.hy_grammar_laws.proofs.Reading.{TypesBefore, ExprsBefore, ArgsBefore, ParamsBefore, VariantsBefore, ChoicesBefore, BranchesBefore, StmtsBefore}
use Rattle.hy_grammar_laws.proofs.Reading.{TierBefore, TiersBefore, OperatorsBefore, PrefixesBefore, InDecls, AtMember, FunAt, SubscriptAt, MayLack}
use Rattle.hy_grammar_laws.proofs.Reading.{HasGenericsOf, HasEffectOf, AtBody, VariantWord, BodyAt, InPlace, AtStmt, LabelBefore, InUse, InSpot, InArgs}
use Rattle.hy_grammar_laws.proofs.Reading.{Called, InType, Reading, head}

-- JOINS

with_type : {written : T.TypeExp} {parts : List T.TypeExp} {old mid new : List Token} → TypesBefore old parts mid → HasType mid written new
    → HasTypes old (parts ++ written ∷ []) new
with_type r.no_types_yet t = y.one_type t
with_type (r.types_yet h c) t = y.more_types h c t

with_expr : {it : T.Expr} {es : List T.Expr} {old mid new : List Token} → ExprsBefore old es mid → HasExpr Disjunction mid it new
    → HasExprs old (es ++ it ∷ []) new
with_expr r.no_exprs_yet t = e.one_expr t
with_expr (r.exprs_yet h c) t = e.more_exprs h c t

with_arg : {it : T.Arg} {args : List T.Arg} {old mid new : List Token} → ArgsBefore old args mid → HasArg mid it new → HasSomeArgs old (args ++ it ∷ []) new
with_arg r.no_args_yet t = e.one_arg t
with_arg (r.args_yet h c) t = e.more_args h c t

labelled : {it : T.Expr} {label : Option (List ℕ)} {old mid new : List Token} → LabelBefore old label mid → HasExpr Disjunction mid it new
    → HasArg old (node.arg label it) new
labelled r.no_label_yet t = e.value_alone t
labelled (r.label_yet n c) t = e.labelled n c t

with_choice : {from : ℕ} {choices : List T.Choice} {word : Span} {condition value : T.Expr} {o c : Token} {old mid end new : List Token}
    → ChoicesBefore old from choices word mid → HasExpr Disjunction mid condition (o ∷ end) → Is o k.LeftBrace
    → HasExpr Disjunction end value (c ∷ new) → Is c k.RightBrace → HasChoices old from (choices ++ node.choice word condition value ∷ []) new
with_choice (r.no_choice_yet i) a o b c = e.first_choice i a o b c
with_choice (r.choices_yet h x i) a o b c = e.next_choice h x i a o b c

with_branch : {loop : Bool} {from : ℕ} {branches : List T.Branch} {word : Span} {condition : T.Expr} {body : T.Block} {old mid end new : List Token}
    → BranchesBefore loop old from branches word mid → HasExpr Disjunction mid condition end
    → HasBlock loop end body new → HasBranches loop old from (branches ++ node.branch word condition body ∷ []) (node.block_to body) new
with_branch (r.no_branch_yet i) a b = s.first_branch i a b
with_branch (r.branches_yet h x i) a b = s.next_branch h x i a b

with_stmt : {loop : Bool} {before : List T.Stmt} {it : T.Stmt} {ending : Ending} {old mid new : List Token} → StmtsBefore loop old before mid
    → HasStmt loop mid it ending new → HasStmts loop old (before ++ it ∷ []) ending new
with_stmt r.no_stmts_yet t = s.one_stmt t
with_stmt (r.semicolon_yet h c) t = s.behind_semicolon h c t
with_stmt (r.line_yet h b) t = s.on_next_line h b t

pub with_parameter : {sort : Sort} {params : List T.Param} {p : T.Param} {old mid new : List Token} → ParamsBefore sort old params mid
    → HasParam sort mid p new → HasSomeParams sort old (params ++ p ∷ []) new
with_parameter r.no_params_yet t = g.one_param t
with_parameter (r.params_yet h c) t = g.more_params h c t

pub with_variant : {sort : Sort} {variants : List T.Variant} {v : T.Variant} {old mid new : List Token} → VariantsBefore sort old variants mid
    → HasVariant sort mid v new → HasVariants sort old (variants ++ v ∷ []) new
with_variant r.no_variants_yet t = g.one_variant t
with_variant (r.variants_yet h) t = g.more_variants h t

pub variant_of : {sort : Sort} {keyword : Span} {mode : Mode} {value : Option Name} {body : T.Block} {old mid new : List Token}
    → VariantWord sort old keyword mode value mid → HasBlock false mid body new → HasVariant sort old (node.variant mode keyword value body) new
variant_of (r.effect_word w) b = g.effect_variant w b
variant_of (r.set_word w o n c) b = g.set_variant w o n c b

-- operators before an operand
pub prefixed_append : (operators : List Prefix) (p : Prefix) (operand : T.Expr)
    → prefixed (operators ++ p ∷ []) operand ≡ prefixed operators (node.unary p.operator p.token operand)
unfolding prefixed
prefixed_append [] p operand = refl
prefixed_append (q ∷ operators) p operand = ap (node.unary q.operator q.token) (prefixed_append operators p operand)

with_operators : {operators : List Prefix} {it : T.Expr} {old mid new : List Token} → OperatorsBefore old operators mid → HasUnary mid it new
    → HasUnary old (prefixed operators it) new
unfolding prefixed
with_operators r.no_operators_yet h = h
with_operators {it = it} {new = new} (r.operators_yet {operators = operators} {old = old} o p) h =
    subst (λ x. HasUnary old x new) (sym (prefixed_append operators _ it)) (with_operators o (e.prefixed p h))

pub with_prefixes : {prefixes : Prefixes} {primary : T.Expr} {steps : List T.Step} {to : ℕ} {old mid new : List Token} → PrefixesBefore old prefixes mid
    → HasPostfix mid primary steps to new → HasUnary old (operand_of prefixes (node.postfix primary steps to)) new
with_prefixes (r.unmarked o) h = with_operators o (e.postfix h)
with_prefixes (r.with_mark o m) h = with_operators o (e.marked m h)

-- chains
join_tier : {level : Level} {c : Tier} {it : T.Expr} {from base new : List Token} → TierBefore level from c base → HasOperand level base it new
    → HasExpr level from (join c it) new
unfolding node.chain
join_tier r.no_chain_yet h = e.chain (e.one_operand h)
join_tier (r.chain_yet {links = []} hs i m) h = e.chain (e.more_operands hs i m h)
join_tier (r.chain_yet {links = l ∷ links} hs i m) h = e.chain (e.more_operands hs i m h)

pub extend_tier : {level : Level} {c : Tier} {operator : Operator} {it : T.Expr} {o : Token} {from base new : List Token}
    → ((links : List T.Link) → MayGoOn level links) → TierBefore level from c base → HasOperand level base it (o ∷ new)
    → infix_of o.kind ≡ tier level operator → TierBefore level from (extend c it operator o.span) new
extend_tier free r.no_chain_yet h i = r.chain_yet (e.one_operand h) i (free _)
extend_tier free (r.chain_yet hs x m) h i = r.chain_yet (e.more_operands hs x m h) i (free _)

no_tiers : {old : List Token} → TiersBefore old no_chains old
no_tiers = record {
  disjunction_to = _;
  conjunction_to = _;
  comparison_to = _;
  addition_to = _;
  disjunction = r.no_chain_yet;
  conjunction =
      r.no_chain_yet;
  comparison = r.no_chain_yet;
  addition = r.no_chain_yet;
  multiplication = r.no_chain_yet;
}

module _ {tiers : Tiers} {it : T.Expr} {from base new : List Token} (b : TiersBefore from tiers base) (u : HasUnary base it new) where
  pub has_product : HasExpr Multiplication b.addition_to (joined Multiplication it tiers) new
  has_product = join_tier b.multiplication (e.of_multiplication u)

  pub has_sum : HasExpr Addition b.comparison_to (joined Addition it tiers) new
  has_sum = join_tier b.addition (e.of_addition has_product)

  pub has_comparison : HasExpr Comparison b.conjunction_to (joined Comparison it tiers) new
  has_comparison = join_tier b.comparison (e.of_comparison has_sum)

  pub has_conjunction : HasExpr Conjunction b.disjunction_to (joined Conjunction it tiers) new
  has_conjunction = join_tier b.conjunction (e.of_conjunction has_comparison)

  pub has_whole : HasExpr Disjunction from (joined Disjunction it tiers) new
  has_whole = join_tier b.disjunction (e.of_disjunction has_conjunction)

module _ (all : List Token) where
  -- where a step may lead, the derivations are kept
  abbrev pub Steps : Option State → List Token → Type 0
  Steps o ts = (s' : State) → o ≡ Some s' → Reading all s' ts

  pub yes : {s : State} {ts : List Token} → Reading all s ts → Steps (Some s) ts
  yes {s = s} {ts = ts} h s' q = let w : s ≡ s' = cc in subst (λ z. Reading all z ts) w h

  pub no : {ts : List Token} → Steps None ts
  no s' q = let w : ⊥ = cc in absurd w

  -- TYPES

  pub typed_reads : {u : TypeUse} {written : T.TypeExp} {old new : List Token} → InType all u old → HasType old written new → Reading all (typed written u) new
  typed_reads (r.for_element_type i a l) t = r.r_array_type_element i a l t
  typed_reads (r.for_type_part i o b) t = r.r_types_read i o (with_type b t)
  typed_reads (r.for_empty_array i a l) t = r.r_array_type i a l t
  typed_reads (r.for_variable i w n c) t = r.r_binding_type i w n c t
  typed_reads (r.for_param (r.in_params h o b) n c m) t = r.r_param_read (r.params_listed h o (with_parameter b (g.param n c m t)))
  typed_reads (r.for_result i) t = r.r_result_read (r.result_done i t)
  typed_reads (r.for_field a w n c) t = r.r_member_read a (g.field w n c t)

  pub s_type : (kind : TokenKind) (t : Token) {ts : List Token} {u : TypeUse} → t.kind ≡ kind → InType all u (t ∷ ts) → Steps (at_type kind t.span u) ts
  s_type (k.Name text) t h i = yes (typed_reads i (y.named_type h))
  s_type k.SelfType t h i = yes (typed_reads i (y.self_type h))
  s_type k.Array t h i = yes (r.r_array_type_word i h)
  s_type k.LeftParen t h i = yes (r.r_types_opened i h)
  s_type _ t h i = no

  pub s_types_opened : (kind : TokenKind) (t o : Token) {ts : List Token} {u : TypeUse} → t.kind ≡ kind → InType all u (o ∷ t ∷ ts) → Is o k.LeftParen
      → Steps (at_types_opened kind t.span o.span u) ts
  s_types_opened k.RightParen t o h i p = yes (typed_reads i (y.no_types p h))
  s_types_opened kind t o h i p = s_type kind t h (r.for_type_part i p r.no_types_yet)

  pub s_types_read : (kind : TokenKind) (t o : Token) {ts : List Token} {u : TypeUse} {parts : List T.TypeExp} {old : List Token} → t.kind ≡ kind
      → InType all u (o ∷ old) → Is o k.LeftParen → HasTypes old parts (t ∷ ts) → Steps (at_types_read kind t.span o.span parts u) ts
  s_types_read k.Comma t o h i p b = yes (r.r_type_wanted (r.for_type_part i p (r.types_yet b h)))
  s_types_read k.RightParen t o h i p b = yes (typed_reads i (y.types p b h))
  s_types_read _ t o h i p b = no

  -- EXPRESSIONS

  pub beginning_of : {u : Use} {new : List Token} → InUse all u new → InSpot all (beginning u) new
  beginning_of i = r.in_expr i no_tiers (r.unmarked r.no_operators_yet)

  s_with_operator : {operator : UnaryOperator} (t : Token) {ts : List Token} {spot : Spot} → prefix_of t.kind ≡ Some operator → InSpot all spot (t ∷ ts)
      → Steps (with_operator operator t.span spot) ts
  s_with_operator t h (r.in_expr i b (r.unmarked o)) = yes (r.r_operand (r.in_expr i b (r.unmarked (r.operators_yet o h))))
  s_with_operator t h (r.in_expr i b (r.with_mark o m)) = no

  s_with_mark : (t : Token) {ts : List Token} {spot : Spot} → Is t k.Ampersand → InSpot all spot (t ∷ ts) → Steps (with_mark t.span spot) ts
  s_with_mark t h (r.in_expr i b (r.unmarked o)) = yes (r.r_operand (r.in_expr i b (r.with_mark o h)))
  s_with_mark t h (r.in_expr i b (r.with_mark o m)) = no

  pub s_operand : (kind : TokenKind) (t : Token) {ts : List Token} {spot : Spot} → t.kind ≡ kind → InSpot all spot (t ∷ ts)
      → Steps (at_operand kind t.span spot) ts
  s_operand (k.Number n) t h i = yes (r.r_postfixed i (e.no_step (e.number h)))
  s_operand k.True t h i = yes (r.r_postfixed i (e.no_step (e.truth h)))
  s_operand k.False t h i = yes (r.r_postfixed i (e.no_step (e.untruth h)))
  s_operand (k.Name text) t h i = yes (r.r_postfixed i (e.no_step (e.named h)))
  s_operand k.SelfValue t h i = yes (r.r_postfixed i (e.no_step (e.self_value h)))
  s_operand k.Array t h i = yes (r.r_array_word i h)
  s_operand k.LeftParen t h i = yes (r.r_parts_opened i h)
  s_operand k.LeftBracket t h i = yes (r.r_operand (beginning_of (r.for_element i h r.no_exprs_yet)))
  s_operand k.If t h i = yes (r.r_operand (beginning_of (r.for_condition i (r.no_choice_yet h))))
  s_operand k.Minus t h i = s_with_operator t (ap prefix_of h) i
  s_operand k.Not t h i = s_with_operator t (ap prefix_of h) i
  s_operand k.Ampersand t h i = s_with_mark t h i
  s_operand _ t h i = no

  -- STATEMENTS

  -- something callable is whole: its declaration, or the member
  pub decl_called : (front : Head) (variants : List T.Variant) (to : ℕ) {decls : List T.Decl} {start : Start} {old new : List Token} → front.start ≡ start
      → InDecls all decls start old
      → HasDeclKind old (T.DeclCallable (callable_of front variants to)) to new → Reading all (called_in (InFile decls) front variants to) new
  decl_called front variants to {decls = decls} {new = new} h d f =
      subst (λ x. Reading all (DeclRead decls x (T.DeclCallable (callable_of front variants to)) to) new) (sym h) (r.r_decl_read d f)

  pub member_called : (front : Head) (variants : List T.Variant) (to : ℕ) {owner : Owner} {members : List T.Member} {group : Group} {start : Start}
      {old new : List Token} → front.start ≡ start → AtMember all owner members group start old
      → HasMemberKind group old (T.MemberCallable (callable_of front variants to)) to new
      → Reading all (called_in (InOwner owner members) front variants to) new
  member_called front variants to {owner = owner} {members = members} {new = new} h a f =
      subst (λ x. Reading all (MemberRead owner members x (T.MemberCallable (callable_of front variants to)) to) new) (sym h) (r.r_member_read a f)

  called_reads : (front : Head) (variants : List T.Variant) (to : ℕ) {home : Home} {start : Start} {sort : Sort} {old new : List Token}
      → FunAt all home start sort old → front.start ≡ start → HasFunction sort old (callable_of front variants to) to new
      → Reading all (called_in home front variants to) new
  called_reads front variants to (r.file_fun d) h f = decl_called front variants to h d (g.function f)
  called_reads front variants to (r.member_fun a g.of_type) h f = member_called front variants to h a (g.type_method f)
  called_reads front variants to (r.member_fun a g.of_conformance) h f = member_called front variants to h a (g.conformance_method f)
  called_reads front variants to (r.trait_fun a) h f = member_called front variants to h a (g.trait_requirement f)

  subscript_reads : (front : Head) (variants : List T.Variant) (to : ℕ) {home : Home} {start : Start} {name : Option Name} {old new : List Token}
      → SubscriptAt all home start old → MayLack home name → front.start ≡ start → HasSubscript name old (callable_of front variants to) to new
      → Reading all (called_in home front variants to) new
  subscript_reads front variants to (r.file_at d) r.has_one h f = decl_called front variants to h d (g.file_subscript f)
  subscript_reads front variants to (r.member_at a g.of_type) m h f = member_called front variants to h a (g.type_subscript f)
  subscript_reads front variants to (r.member_at a g.of_conformance) m h f = member_called front variants to h a (g.conformance_subscript f)

  generics_of : {sort : Sort} {generics : List TypeParam} {old new : List Token} → HasGenericsOf sort old generics new → HasGenerics old generics new
  generics_of r.without_generics = g.no_generics
  generics_of (r.of_generics n h) = h

  pub effect_of_head : {sort : Sort} {effect : Option Mode} {to end : ℕ} {old new : List Token} → HasEffectOf sort old to effect end new
      → HasEffect old to effect end new
  effect_of_head r.without_effect = g.no_effect
  effect_of_head (r.with_effect m h) = g.an_effect h

  -- a function whose parts are read
  fun_reads : (front : Head) (variants : List T.Variant) {home : Home} {start : Start} {sort : Sort} {w n : Token} {text : List ℕ}
      {generics : List TypeParam} {params : List T.Param} {effect : Option Mode} {result : Option T.TypeExp} {close near far to : ℕ}
      {old a b c d new : List Token}
      → front ≡ head home start sort w.span (Some (node.spelled text n.span)) generics params effect result
      → FunAt all home start sort (w ∷ n ∷ old) → Is w k.Fun → Is n (k.Name text) → HasGenericsOf sort old generics a → HasParams sort a params close b
      → HasEffectOf sort b close effect near c → HasResult c near result far d → (sort ≡ Requirement → ⊥)
      → HasBody sort effect d variants to new → Reading all (callable_read front variants to) new
  fun_reads front variants {home = home} {start = start} {sort = sort} {w = w} {n = n} {text = text} {generics = generics} {params = params} {effect =
      effect} {result = result} {to = to} {new = new} q (r.file_fun d) hw hn hg hp r.without_effect hr no_requirement hb =
      subst (λ z. Reading all (callable_read z variants to) new) (sym q)
      (called_reads (head home start sort w.span (Some (node.spelled text n.span)) generics params effect result) variants to (r.file_fun d) refl
      (g.file_function hw hn (generics_of hg) hp hr hb))
  fun_reads front variants q (r.file_fun d) hw hn hg hp (r.with_effect m h) hr no_requirement hb = elim m [ ]
  fun_reads front variants {home = home} {start = start} {sort = sort} {w = w} {n = n} {text = text} {generics = generics} {params = params} {effect =
      effect} {result = result} {to = to} {new = new} q (r.member_fun a m) hw hn hg hp he hr no_requirement hb =
      subst (λ z. Reading all (callable_read z variants to) new) (sym q)
      (called_reads (head home start sort w.span (Some (node.spelled text n.span)) generics params effect result) variants to (r.member_fun a m) refl
      (g.method hw hn (generics_of hg) hp (effect_of_head he) hr hb))
  fun_reads front variants q (r.trait_fun a) hw hn hg hp he hr no_requirement hb = absurd (no_requirement refl)

  not_subscript : {home : Home} {start : Start} {sort : Sort} {old : List Token} → FunAt all home start sort old → sort ≡ Subscript → ⊥
  not_subscript (r.file_fun d) h = cc
  not_subscript (r.member_fun a m) h = cc
  not_subscript (r.trait_fun a) h = cc

  pub body_reads : (front : Head) (variants : List T.Variant) (to : ℕ) {old new : List Token} → AtBody all front old
      → HasBody front.sort front.effect old variants to new → Reading all (callable_read front variants to) new
  body_reads front variants to (r.at_body (r.no_result_done (r.effect_done (r.params_done (r.fun_headed f w n hg) hp) ns he)) nr) hb =
      fun_reads _ variants refl f w n hg hp he g.no_result nr hb
  body_reads front variants to (r.at_body (r.no_result_done (r.effect_done (r.params_done (r.subscript_headed a w n m) hp) ns he)) nr) hb = absurd (ns refl)
  body_reads front variants to (r.at_body (r.result_done (r.arrow_result (r.effect_done (r.params_done (r.fun_headed f w n hg) hp) ns he) ha) ht) nr) hb =
      fun_reads _ variants refl f w n hg hp he (g.a_result ha ht) nr hb
  body_reads front variants to (r.at_body (r.result_done (r.arrow_result (r.effect_done (r.params_done (r.subscript_headed a w n m) hp) ns he) ha) ht) nr)
      hb = absurd (ns refl)
  body_reads front variants to (r.at_body (r.result_done (r.colon_result (r.params_done (r.fun_headed f w n hg) hp) hs hc) ht) nr) hb =
      absurd (not_subscript f hs)
  body_reads front variants to (r.at_body (r.result_done (r.colon_result (r.params_done (r.subscript_headed a w n m) hp) hs hc) ht) nr) hb =
      subscript_reads front variants to a m refl (g.subscript w n hp hc ht hb)
  body_reads front variants to (r.at_deinit a w) hb = member_called front variants to refl a (g.type_deinit (g.deinit w hb))

  -- after the block of a body
  bodied_reads : {body : Body} {block : T.Block} {old new : List Token} → BodyAt all body old → HasBlock false old block new
      → Reading all (bodied block body) new
  bodied_reads (r.plain_at a) hb = body_reads _ _ _ a (g.plain_body hb)
  bodied_reads (r.variant_at (r.in_variants a m o v) w) hb = r.r_variants_read a m o (with_variant v (variant_of w hb))

  -- what stands in braces
  pub record Inside (loop : Bool) (old : List Token) (ss : List T.Stmt) (new : List Token) : Type 0 where
    pub block : (o c : Token) → Is o k.LeftBrace → Is c k.RightBrace → (ts : List Token) → new ≡ c ∷ ts
        → HasBlock loop (o ∷ old) (node.block o.span ss c.span) ts

  inside_some : {loop : Bool} {old new : List Token} {ss : List T.Stmt} {ending : Ending} → HasStmts loop old ss ending new → Inside loop old ss new
  inside_some {loop = loop} {old = old} {ss = ss} {ending = ending} h =
      record { block = λ o c ho hc ts q. s.some_stmts ho (subst (HasStmts loop old ss ending) q h) hc }

  inside_none : {loop : Bool} {old : List Token} → Inside loop old [] old
  inside_none {loop = loop} =
      record { block = λ o c ho hc ts q. subst (λ z. HasBlock loop (o ∷ z) (node.block o.span [] c.span) ts) (sym q) (s.no_stmts ho hc) }

  -- a `}` after statements
  pub close_reads : {place : Place} {ss : List T.Stmt} {base : List Token} (t : Token) {ts : List Token} → InPlace all place base
      → Inside (in_loop place) base ss (t ∷ ts) → Is t k.RightBrace → Reading all (close ss place t.span) ts
  close_reads t (r.in_body {o = o} b ho) i h = bodied_reads b (i.block o t ho h _ refl)
  close_reads t (r.in_branch {o = o} p b m c ho) i h = r.r_branch_read p b (with_branch m c (i.block o t ho h _ refl))
  close_reads t (r.in_else {o = o} p b m x ho) i h = r.r_stmt_read p (with_stmt b (s.if_block m x (i.block o t ho h _ refl)))
  close_reads t (r.in_while {o = o} p b w c ho) i h = r.r_stmt_read p (with_stmt b (s.while w c (i.block o t ho h _ refl)))

  -- A token of this kind is no operator after an expression.
  abbrev Quiet : Ending → TokenKind → Type 0
  Quiet OpenEnd kind = infix_of kind ≡ None
  Quiet ClosedEnd kind = Unit {0}

  -- what begins a statement goes on with no other
  begins_anew : (kind : TokenKind) (ending : Ending) (t : Token) (before : List T.Stmt) (place : Place) (s' : State) → Quiet ending kind
      → at_statement kind t before place ≡ Some s' → continues ending kind ≡ false
  begins_anew k.OrOr OpenEnd t before place s' q h = cc
  begins_anew k.AndAnd OpenEnd t before place s' q h = cc
  begins_anew k.EqualEqual OpenEnd t before place s' q h = cc
  begins_anew k.NotEqual OpenEnd t before place s' q h = cc
  begins_anew k.Less OpenEnd t before place s' q h = cc
  begins_anew k.LessEqual OpenEnd t before place s' q h = cc
  begins_anew k.Greater OpenEnd t before place s' q h = cc
  begins_anew k.GreaterEqual OpenEnd t before place s' q h = cc
  begins_anew k.Plus OpenEnd t before place s' q h = cc
  begins_anew k.Minus OpenEnd t before place s' q h = cc
  begins_anew k.Star OpenEnd t before place s' q h = cc
  begins_anew k.Slash OpenEnd t before place s' q h = cc
  begins_anew k.Percent OpenEnd t before place s' q h = cc
  begins_anew k.Dot OpenEnd t before place s' q h = cc
  begins_anew k.Equal OpenEnd t before place s' q h = cc
  begins_anew k.PlusEqual OpenEnd t before place s' q h = cc
  begins_anew k.MinusEqual OpenEnd t before place s' q h = cc
  begins_anew k.StarEqual OpenEnd t before place s' q h = cc
  begins_anew k.SlashEqual OpenEnd t before place s' q h = cc
  begins_anew k.PercentEqual OpenEnd t before place s' q h = cc
  begins_anew _ OpenEnd t before place s' q h = refl
  begins_anew k.Else ClosedEnd t before place s' q h = cc
  begins_anew k.Equal ClosedEnd t before place s' q h = cc
  begins_anew _ ClosedEnd t before place s' q h = refl

  s_leave : (loop : Bool) {place : Place} {before : List T.Stmt} {base : List Token} (it : T.Stmt) {old ts : List Token} → in_loop place ≡ loop
      → InPlace all place base → StmtsBefore (in_loop place) base before old → HasStmt true old it ClosedEnd ts
      → Steps (if loop then Some (StmtRead (before ++ it ∷ []) place) else None) ts
  s_leave true it {old = old} {ts = ts} h p b x = yes (r.r_stmt_read p (with_stmt b (subst (λ z. HasStmt z old it ClosedEnd ts) (sym h) x)))
  s_leave false it h p b x = no

  pub s_statement : (kind : TokenKind) (t : Token) {ts : List Token} {before : List T.Stmt} {place : Place} → t.kind ≡ kind
      → AtStmt all before place (t ∷ ts) → Steps (at_statement kind t before place) ts
  s_statement k.Var t h a = yes (r.r_binding_word a (ap introducer_of h))
  s_statement k.Let t h a = yes (r.r_binding_word a (ap introducer_of h))
  s_statement k.Inout t h a = yes (r.r_binding_word a (ap introducer_of h))
  s_statement k.Underscore t h a = yes (r.r_discard_word a h)
  s_statement k.If t h (r.at_stmt p b) = yes (r.r_operand (beginning_of (r.for_branch p b (r.no_branch_yet h))))
  s_statement k.While t h a = yes (r.r_operand (beginning_of (r.for_while a h)))
  s_statement k.Return t h a = yes (r.r_return_word a h)
  s_statement k.Break t {place = place} h (r.at_stmt p b) = s_leave (in_loop place) _ refl p b (s.leave h)
  s_statement k.Continue t {place = place} h (r.at_stmt p b) = s_leave (in_loop place) _ refl p b (s.proceed h)
  s_statement k.Yield t h a = yes (r.r_operand (beginning_of (r.for_yield a h)))
  s_statement kind t h a = s_operand kind t h (beginning_of (r.for_target a (ap if_word h)))

  pub s_block_opened : (kind : TokenKind) (t : Token) {ts : List Token} {place : Place} → t.kind ≡ kind → InPlace all place (t ∷ ts)
      → Steps (at_block_opened kind t place) ts
  s_block_opened k.RightBrace t h p = yes (close_reads t p inside_none h)
  s_block_opened kind t h p = s_statement kind t h (r.at_stmt p r.no_stmts_yet)

  -- a first token of a line
  s_line : (kind : TokenKind) (first : Bool) (t : Token) (ending : Ending) {ts : List Token} {before : List T.Stmt} {place : Place} {base : List Token}
      → t.kind ≡ kind → t.first ≡ first → Quiet ending kind → InPlace all place base → HasStmts (in_loop place) base before ending (t ∷ ts)
      → Steps (if first then at_statement kind t before place else None) ts
  s_line kind true t ending {before = before} {place = place} h f q p hs =
      λ s' e'. s_statement kind t h
      (r.at_stmt p (r.line_yet hs (record { on_next_line = f; no_more = ap (continues ending) h ∙ begins_anew kind ending t before place s' q e' }))) s' e'
  s_line kind false t ending h f q p hs = no

  pub s_stmt_read : (kind : TokenKind) (t : Token) (ending : Ending) {ts : List Token} {before : List T.Stmt} {place : Place} {base : List Token}
      → t.kind ≡ kind → Quiet ending kind → InPlace all place base → HasStmts (in_loop place) base before ending (t ∷ ts)
      → Steps (at_stmt_read kind t before place) ts
  s_stmt_read k.Semicolon t ending h q p hs = yes (r.r_stmt_wanted (r.at_stmt p (r.semicolon_yet hs h)))
  s_stmt_read k.RightBrace t ending h q p hs = yes (close_reads t p (inside_some hs) h)
  s_stmt_read kind t ending h q p hs = s_line kind t.first t ending h refl q p hs

  -- an open statement after others
  s_open : (t : Token) {ts : List Token} {before : List T.Stmt} {place : Place} {it : T.Stmt} {old : List Token} → infix_of t.kind ≡ None
      → AtStmt all before place old → HasStmt (in_loop place) old it OpenEnd (t ∷ ts) → Steps (at_stmt_read t.kind t (before ++ it ∷ []) place) ts
  s_open t q (r.at_stmt p b) x = s_stmt_read t.kind t OpenEnd refl q p (with_stmt b x)

  pub s_binding_name : (kind : TokenKind) (w n t : Token) {introducer : Introducer} {text : List ℕ} {ts : List Token} {before : List T.Stmt} {place : Place}
      → t.kind ≡ kind → AtStmt all before place (w ∷ n ∷ t ∷ ts) → introducer_of w.kind ≡ Some introducer → Is n (k.Name text)
      → Steps (at_binding_name kind introducer w.span (node.spelled text n.span) before place) ts
  s_binding_name k.Colon w n t h a i hn = yes (r.r_type_wanted (r.for_variable a i hn h))
  s_binding_name k.Equal w n t h a i hn = yes (r.r_operand (beginning_of (r.for_binding a i hn s.no_type h)))
  s_binding_name _ w n t h a i hn = no

  is_var : (kind : TokenKind) → introducer_of kind ≡ Some introducer.Var → kind ≡ k.Var
  is_var k.Var h = refl
  is_var k.Let h = cc
  is_var k.Inout h = cc
  is_var _ h = cc

  s_declared : (introducer : Introducer) (w n c t : Token) {text : List ℕ} {written : T.TypeExp} {old ts : List Token} {before : List T.Stmt}
      {place : Place} → AtStmt all before place (w ∷ n ∷ c ∷ old) → introducer_of w.kind ≡ Some introducer → Is n (k.Name text) → Is c k.Colon
      → HasType old written (t ∷ ts) → Steps (at_declared introducer t w.span (node.spelled text n.span) written before place) ts
  s_declared introducer.Var w n c t (r.at_stmt p b) i hn hc ht = s_stmt_read t.kind t ClosedEnd refl tt p (with_stmt b (s.declare (is_var w.kind i) hn hc ht))
  s_declared introducer.Let w n c t a i hn hc ht = no
  s_declared introducer.Inout w n c t a i hn hc ht = no

  pub s_binding_type : (kind : TokenKind) (introducer : Introducer) (w n c t : Token) {text : List ℕ} {written : T.TypeExp} {old ts : List Token}
      {before : List T.Stmt} {place : Place} → t.kind ≡ kind → AtStmt all before place (w ∷ n ∷ c ∷ old)
      → introducer_of w.kind ≡ Some introducer → Is n (k.Name text) → Is c k.Colon → HasType old written (t ∷ ts)
      → Steps (at_binding_type kind t introducer w.span (node.spelled text n.span) written before place) ts
  s_binding_type k.Equal introducer w n c t h a i hn hc ht = yes (r.r_operand (beginning_of (r.for_binding a i hn (s.a_type hc ht) h)))
  s_binding_type _ introducer w n c t h a i hn hc ht = s_declared introducer w n c t a i hn hc ht

  -- a `return` alone
  s_return_nothing : (kind : TokenKind) (w t : Token) {ts : List Token} {before : List T.Stmt} {place : Place} → t.kind ≡ kind
      → AtStmt all before place (w ∷ t ∷ ts) → Is w k.Return → Steps (at_stmt_read kind t (before ++ node.return_nothing w.span ∷ []) place) ts
  s_return_nothing kind w t h (r.at_stmt p b) hw = s_stmt_read kind t ClosedEnd h tt p (with_stmt b (s.return_nothing hw))

  s_return_line : (kind : TokenKind) (first : Bool) (w t : Token) {ts : List Token} {before : List T.Stmt} {place : Place} → t.kind ≡ kind → t.first ≡ first
      → AtStmt all before place (w ∷ t ∷ ts) → Is w k.Return
      → Steps (if first then at_stmt_read kind t (before ++ node.return_nothing w.span ∷ []) place else at_operand kind t.span
      (beginning (ForReturn w.span before place))) ts
  s_return_line kind true w t h f a hw = s_return_nothing kind w t h a hw
  s_return_line kind false w t h f a hw = s_operand kind t h (beginning_of (r.for_return a hw f))

  pub s_return : (kind : TokenKind) (w t : Token) {ts : List Token} {before : List T.Stmt} {place : Place} → t.kind ≡ kind
      → AtStmt all before place (w ∷ t ∷ ts) → Is w k.Return → Steps (at_return kind t w.span before place) ts
  s_return k.Semicolon w t h a hw = s_return_nothing k.Semicolon w t h a hw
  s_return k.RightBrace w t h a hw = s_return_nothing k.RightBrace w t h a hw
  s_return kind w t h a hw = s_return_line kind t.first w t h refl a hw

  pub s_branch_read : (kind : TokenKind) (t : Token) {from to : ℕ} {branches : List T.Branch} {ts : List Token} {before : List T.Stmt} {place : Place}
      {base old : List Token} → t.kind ≡ kind → InPlace all place base → StmtsBefore (in_loop place) base before old
      → HasBranches (in_loop place) old from branches to (t ∷ ts) → Steps (at_branch_read kind t from branches to before place) ts
  s_branch_read k.Else t h p b m = yes (r.r_branch_else p b m h)
  s_branch_read kind t h p b m = s_stmt_read kind t ClosedEnd h tt p (with_stmt b (s.if_only m))

  pub s_branch_else : (kind : TokenKind) (x t : Token) {from to : ℕ} {branches : List T.Branch} {ts : List Token} {before : List T.Stmt} {place : Place}
      {base old : List Token} → t.kind ≡ kind → InPlace all place base → StmtsBefore (in_loop place) base before old
      → HasBranches (in_loop place) old from branches to (x ∷ t ∷ ts) → Is x k.Else → Steps (at_branch_else kind t.span from branches before place) ts
  s_branch_else k.If x t h p b m hx = yes (r.r_operand (beginning_of (r.for_branch p b (r.branches_yet m hx h))))
  s_branch_else k.LeftBrace x t h p b m hx = yes (r.r_block_opened (r.in_else p b m hx h))
  s_branch_else _ x t h p b m hx = no

  -- BEHIND AN OPERAND

  -- a kind that is wanted
  pub s_left_brace : (kind : TokenKind) {s : State} {ts : List Token} → (kind ≡ k.LeftBrace → Reading all s ts) → Steps (left_brace kind s) ts
  s_left_brace k.LeftBrace h = yes (h refl)
  s_left_brace _ h = no

  s_right_brace : (kind : TokenKind) {s : State} {ts : List Token} → (kind ≡ k.RightBrace → Reading all s ts) → Steps (right_brace kind s) ts
  s_right_brace k.RightBrace h = yes (h refl)
  s_right_brace _ h = no

  pub s_parts_read : (kind : TokenKind) (o t : Token) {es : List T.Expr} {spot : Spot} {old ts : List Token} → t.kind ≡ kind → InSpot all spot (o ∷ old)
      → Is o k.LeftParen → HasExprs old es (t ∷ ts) → Steps (at_parts_read kind t.span o.span es spot) ts
  s_parts_read k.Comma o t h i ho x = yes (r.r_operand (beginning_of (r.for_part i ho (r.exprs_yet x h))))
  s_parts_read k.RightParen o t h i ho x = yes (r.r_postfixed i (e.no_step (e.parts ho x h)))
  s_parts_read _ o t h i ho x = no

  pub s_parts_opened : (kind : TokenKind) (o t : Token) {spot : Spot} {ts : List Token} → t.kind ≡ kind → InSpot all spot (o ∷ t ∷ ts) → Is o k.LeftParen
      → Steps (at_parts_opened kind t.span o.span spot) ts
  s_parts_opened k.RightParen o t h i ho = yes (r.r_postfixed i (e.no_step (e.no_parts ho h)))
  s_parts_opened kind o t h i ho = s_operand kind t h (beginning_of (r.for_part i ho r.no_exprs_yet))

  s_elements_read : (kind : TokenKind) (o t : Token) {es : List T.Expr} {spot : Spot} {old ts : List Token} → t.kind ≡ kind → InSpot all spot (o ∷ old)
      → Is o k.LeftBracket → HasExprs old es (t ∷ ts) → Steps (at_elements_read kind t.span o.span es spot) ts
  s_elements_read k.Comma o t h i ho x = yes (r.r_operand (beginning_of (r.for_element i ho (r.exprs_yet x h))))
  s_elements_read k.RightBracket o t h i ho x = yes (r.r_postfixed i (e.no_step (e.array ho x h)))
  s_elements_read _ o t h i ho x = no

  pub s_right_paren : (kind : TokenKind) {s : State} {ts : List Token} → (kind ≡ k.RightParen → Reading all s ts) → Steps (right_paren kind s) ts
  s_right_paren k.RightParen h = yes (h refl)
  s_right_paren _ h = no

  s_right_bracket : (kind : TokenKind) {s : State} {ts : List Token} → (kind ≡ k.RightBracket → Reading all s ts) → Steps (right_bracket kind s) ts
  s_right_bracket k.RightBracket h = yes (h refl)
  s_right_bracket _ h = no

  -- the end of arguments
  s_closes : {callee : Callee} {args : List T.Arg} {spot : Spot} {old ts : List Token} (kind : TokenKind) (t : Token) → t.kind ≡ kind
      → Called all callee spot old → HasArgs old args (t ∷ ts) → Steps (closes callee.brackets kind (with_arguments callee args t.span spot)) ts
  s_closes kind t h (r.round i p o f) a = s_right_paren kind (λ q. r.r_postfixed i (e.call_step p o f a (h ∙ q)))
  s_closes kind t h (r.square i p o f) a = s_right_bracket kind (λ q. r.r_postfixed i (e.index_step p o f a (h ∙ q)))

  s_arguments_read : (kind : TokenKind) (t : Token) {callee : Callee} {args : List T.Arg} {spot : Spot} {old ts : List Token} → t.kind ≡ kind
      → Called all callee spot old → HasSomeArgs old args (t ∷ ts) → Steps (at_arguments_read kind t.span callee args spot) ts
  s_arguments_read k.Comma t h c a = yes (r.r_argument_wanted (r.in_args c (r.args_yet a h)))
  s_arguments_read kind t h c a = s_closes kind t h c (e.some_args a)

  s_or_else : {x y : Option State} {ts : List Token} → Steps x ts → Steps y ts → Steps (or_else x y) ts
  s_or_else {x = Some s} f g = f
  s_or_else {x = None} f g = g

  pub s_argument : (kind : TokenKind) (t : Token) {callee : Callee} {args : List T.Arg} {spot : Spot} {ts : List Token} → t.kind ≡ kind
      → InArgs all callee args spot (t ∷ ts) → Steps (at_argument kind t.span callee args spot) ts
  s_argument (k.Name text) t h i = yes (r.r_argument_name i h)
  s_argument kind t h i = s_operand kind t h (beginning_of (r.for_argument i r.no_label_yet))

  pub s_arguments_opened : (kind : TokenKind) (t : Token) {callee : Callee} {spot : Spot} {ts : List Token} → t.kind ≡ kind
      → Called all callee spot (t ∷ ts) → Steps (at_arguments_opened kind t.span callee spot) ts
  s_arguments_opened kind t h c = s_or_else (s_closes kind t h c e.no_args) (s_argument kind t h (r.in_args c r.no_args_yet))

  s_compound : (found : Option Arithmetic) (t : Token) {target : T.Expr} {before : List T.Stmt} {place : Place} (x : Token) {old ts : List Token}
      → compound_of t.kind ≡ found → infix_of t.kind ≡ None → AtStmt all before place (x ∷ old) → if_word x.kind ≡ false
      → HasExpr Disjunction (x ∷ old) target (t ∷ ts)
      → Steps (at_compound found t target before place) ts
  s_compound (Some operator) t x h q a i v = yes (r.r_operand (beginning_of (r.for_compound a i v h)))
  s_compound None t x h q a i v = s_open t q a (s.evaluate v i)

  s_target : (kind : TokenKind) (t : Token) {target : T.Expr} {before : List T.Stmt} {place : Place} (x : Token) {old ts : List Token} → t.kind ≡ kind
      → infix_of t.kind ≡ None → AtStmt all before place (x ∷ old) → if_word x.kind ≡ false → HasExpr Disjunction (x ∷ old) target (t ∷ ts)
      → Steps (at_target kind t target before place) ts
  s_target k.Equal t x h q a i v = yes (r.r_operand (beginning_of (r.for_assigned a i v h)))
  s_target kind t x h q a i v = s_compound (compound_of kind) t x (ap compound_of h) q a i v

  pub s_valued : (t : Token) {it : T.Expr} {u : Use} {from ts : List Token} → infix_of t.kind ≡ None → InUse all u from
      → HasExpr Disjunction from it (t ∷ ts) → Steps (at_valued it u t) ts
  s_valued t q (r.for_target {t = x} a i) v = s_target t.kind t x refl q a i v
  s_valued t q (r.for_binding a i n w x) v = s_open t q a (s.binding i n w x v)
  s_valued t q (r.for_assigned a i w x) v = s_open t q a (s.assign w i x v)
  s_valued t q (r.for_compound a i w x) v = s_open t q a (s.compound w i x v)
  s_valued t q (r.for_discard a w x) v = s_open t q a (s.discard w x v)
  s_valued t q (r.for_return a w f) v = s_open t q a (s.return_value w f v)
  s_valued t q (r.for_yield a w) v = s_open t q a (s.yield_value w v)
  s_valued t q (r.for_branch p b m) v = s_left_brace t.kind (λ h. r.r_block_opened (r.in_branch p b m v h))
  s_valued t q (r.for_while (r.at_stmt p b) w) v = s_left_brace t.kind (λ h. r.r_block_opened (r.in_while p b w v h))
  s_valued t q (r.for_part {o = o} i ho b) v = s_parts_read t.kind o t refl i ho (with_expr b v)
  s_valued t q (r.for_element {o = o} i ho b) v = s_elements_read t.kind o t refl i ho (with_expr b v)
  s_valued t q (r.for_argument (r.in_args c b) l) v = s_arguments_read t.kind t refl c (with_arg b (labelled l v))
  s_valued t q (r.for_condition i c) v = s_left_brace t.kind (λ h. r.r_operand (beginning_of (r.for_choice i c v h)))
  s_valued t q (r.for_choice i c w o) v = s_right_brace t.kind (λ h. r.r_choice_read i (with_choice c w o v h))
  s_valued t q (r.for_otherwise i c x o) v = s_right_brace t.kind (λ h. r.r_postfixed i (e.no_step (e.if_else c x o v h)))
