-- What is accepted, the grammar has: operators, declarations, and whole runs.
use Rattle.std.proofs.Common.{◌≡◌, ◌≤◌, ◌-◌, ℕ, suc, Bool, true, false, if◌then◌else◌, Option, Some, None, Ok, List, [], ◌∷◌, ◌++◌, length, refl, sym, ap}
use Rattle.std.proofs.Common.{subst, ◌∙◌, arith}
use Rattle.hy_base.specs.declared.position.Span.{Span}
use Rattle.hy_lexer.specs.declared.token.Token.{Token}
use Rattle.hy_lexer.specs.declared.token.TokenKind.{TokenKind}
use Rattle.hy_lexer.specs.declared.token.TokenKind.TheVariants as k
use Rattle.hy_tree.specs.Tree as T
use Rattle.hy_tree.specs.declared.declaration.Label.{Label}
use Rattle.hy_tree.specs.declared.declaration.TypeParam.{TypeParam}
use Rattle.hy_tree.specs.declared.name.Name.{Name}
use Rattle.hy_tree.specs.declared.name.NameUse.{NameUse}
use Rattle.hy_tree.specs.declared.operator.Introducer.{Introducer}
use Rattle.hy_tree.specs.declared.operator.Mode.{Mode}
use Rattle.hy_tree.specs.declared.operator.Mode.TheVariants as mode
use Rattle.hy_tree.specs.declared.operator.Operator.{Operator}
use Rattle.hy_grammar.specs.Kinds as want
use Rattle.hy_grammar.specs.Kinds.{Level, Infix, Is, infix_of, introducer_of, effect_of, left_brace, Disjunction, Conjunction, Comparison, Addition}
use Rattle.hy_grammar.specs.Kinds.{Multiplication, ClosedEnd}
use Rattle.hy_grammar.specs.Nodes as node
use Rattle.hy_grammar.specs.TypeSteps.{}
use Rattle.hy_grammar.specs.OperandSteps.{}
use Rattle.hy_grammar.specs.StmtSteps.{called_in}
use Rattle.hy_grammar.specs.ExprSteps.{compare, operate, next_operand, at_choice_else, at_infix, at_postfix_end, callee, at_postfixed, at_argument_name}
use Rattle.hy_grammar.specs.ExprSteps.{at_dotted}
use Rattle.hy_grammar.specs.DeclSteps.{begins_at, head_of, sort_in, opening, at_decl, at_file, at_file_done, decl_of, at_decl_read, at_type_name}
use Rattle.hy_grammar.specs.DeclSteps.{at_trait_listed, owner_read, at_trait_member, at_type_member, at_conformance_member, at_member, at_public}
use Rattle.hy_grammar.specs.DeclSteps.{at_members, at_members_done, member_of, at_member_read, generics_of, at_function_name, unnamed, at_subscript_word}
use Rattle.hy_grammar.specs.DeclSteps.{with_generic, at_generic_name, at_bound_listed, at_param, at_params_opened, at_param_first, mode_in, at_mode}
use Rattle.hy_grammar.specs.DeclSteps.{at_param_read, plain_only, method_body, body_opened, at_callable_read, at_body, at_result, with_effect, at_effect}
use Rattle.hy_grammar.specs.DeclSteps.{at_colon, at_params_read, at_set, at_body_opened, at_body_word, at_variants_read}
use Rattle.hy_grammar.specs.Machine.{step, finish, start, accepted, go, run}
use Rattle.hy_grammar.specs.TypeGrammar as y
use Rattle.hy_grammar.specs.TypeGrammar.{HasType, HasTypes}
use Rattle.hy_grammar.specs.ExprGrammar as e
use Rattle.hy_grammar.specs.ExprGrammar.{HasExprs, HasPostfix, HasSomeArgs, HasArg, HasArgs, HasUnary, HasOperand, HasOperands, HasExpr, HasChoices, MayGoOn}
use Rattle.hy_grammar.specs.Grammar as g
use Rattle.hy_grammar.specs.Grammar.{HasVariants, HasBounds, HasGeneric, HasSomeGenerics, HasParamName, HasTraits, HasBody, HasFunction, Group, OfType}
use Rattle.hy_grammar.specs.Grammar.{OfTrait, OfConformance, MayBePublic, MayVary, HasMemberKind, HasMember, HasMembers, HasDeclKind, HasDecl, HasDecls}
use Rattle.hy_grammar.specs.Grammar.{IsProgram}
use Rattle.hy_grammar.specs.Stack.{Start, Owner, Home, Sort, Head, Tier, Tiers, Callee, Use, Spot, State, TypeSubject, ConformanceSubject, InFile, InOwner}
use Rattle.hy_grammar.specs.Stack.{FileFunction, Method, Requirement, Subscript, Deinit, Round, Square, FunctionName, ArgumentsOpened}
use Rattle.hy_grammar_laws.proofs.Reading as r
use Rattle.hy_grammar_laws.proofs.Reading.{GenericsBefore, BoundsBefore, TraitsBefore, TierBefore, TiersBefore, Starts, InDecls, InMembers, SoFar, AtMember}
use Rattle.hy_grammar_laws.proofs.Reading.{FunAt, SubscriptAt, Named, InGenerics, Headed, InParams, ParamsListed, ParamsDone, MayAffect, EffectDone}
use Rattle.hy_grammar_laws.proofs.Reading.{ResultDone, AtBody, VariantWord, InVariants, InUse, InSpot, InArgs, Reading, head}
use Rattle.hy_grammar_laws.proofs.Sound.{Steps, yes, no, with_prefixes, extend_tier, has_product, has_sum, has_comparison, has_conjunction, has_whole}
use Rattle.hy_grammar_laws.proofs.Sound.{effect_of_head, typed_reads, s_type, s_types_opened, s_types_read, beginning_of, s_operand, body_reads}
use Rattle.hy_grammar_laws.proofs.Sound.{member_called, s_statement, s_block_opened, s_stmt_read, s_binding_name, s_binding_type, s_return, s_branch_read}
use Rattle.hy_grammar_laws.proofs.Sound.{s_branch_else, s_left_brace, s_right_paren, s_parts_opened, s_argument, s_arguments_opened, s_valued}

module _ (all : List Token) where
  -- OPERATORS

  s_compare : (t : Token) (tiers : Tiers) {c : Tier} {operator : Operator} {it : T.Expr} {u : Use} {from one two base ts : List Token}
      → TierBefore Comparison two c base → HasOperand Comparison base it (t ∷ ts) → infix_of t.kind ≡ want.tier Comparison operator
      → InUse all u from → TierBefore Disjunction from tiers.disjunction one → TierBefore Conjunction one tiers.conjunction two
      → Steps all (next_operand (compare c it operator t.span tiers) u) ts
  s_compare t tiers r.no_chain_yet x h i d c =
      yes all (r.r_operand
      (r.in_expr i (record {
        disjunction_to = _;
        conjunction_to = _;
        comparison_to = _;
        addition_to = _;
        disjunction = d;
        conjunction = c;
        comparison =
            r.chain_yet (e.one_operand x) h refl;
        addition = r.no_chain_yet;
        multiplication = r.no_chain_yet;
      }) (r.unmarked r.no_operators_yet)))
  s_compare t tiers (r.chain_yet hs j m) x h i d c = no all

  s_operate : (level : Level) (operator : Operator) (t : Token) {it : T.Expr} {tiers : Tiers} {u : Use} {from base ts : List Token}
      → infix_of t.kind ≡ want.tier level operator → InUse all u from → TiersBefore from tiers base → HasUnary base it (t ∷ ts)
      → Steps all (next_operand (operate level it operator t.span tiers) u) ts
  s_operate Multiplication operator t h i b x = yes all (r.r_operand (r.in_expr i
      (record {
        disjunction_to = b.disjunction_to;
        conjunction_to = b.conjunction_to;
        comparison_to = b.comparison_to;
        addition_to =
            b.addition_to;
        disjunction = b.disjunction;
        conjunction = b.conjunction;
        comparison = b.comparison;
        addition = b.addition;
        multiplication =
            extend_tier (λ links. tt) b.multiplication (e.of_multiplication x) h;
      })
      (r.unmarked r.no_operators_yet)))
  s_operate Addition operator t h i b x = yes all (r.r_operand (r.in_expr i
      (record {
        disjunction_to = b.disjunction_to;
        conjunction_to = b.conjunction_to;
        comparison_to = b.comparison_to;
        addition_to = _;
        disjunction =
            b.disjunction;
        conjunction = b.conjunction;
        comparison = b.comparison;
        addition =
            extend_tier (λ links. tt) b.addition (e.of_addition (has_product b x)) h;
        multiplication = r.no_chain_yet;
      })
      (r.unmarked r.no_operators_yet)))
  s_operate Comparison operator t h i b x = s_compare t _ b.comparison (e.of_comparison (has_sum b x)) h i b.disjunction b.conjunction
  s_operate Conjunction operator t h i b x = yes all (r.r_operand (r.in_expr i
      (record {
        disjunction_to = b.disjunction_to;
        conjunction_to = _;
        comparison_to = _;
        addition_to = _;
        disjunction = b.disjunction;
        conjunction =
            extend_tier (λ links. tt) b.conjunction (e.of_conjunction (has_comparison b x)) h;
        comparison = r.no_chain_yet;
        addition =
            r.no_chain_yet;
        multiplication = r.no_chain_yet;
      })
      (r.unmarked r.no_operators_yet)))
  s_operate Disjunction operator t h i b x = yes all (r.r_operand (r.in_expr i
      (record {
        disjunction_to = _;
        conjunction_to = _;
        comparison_to = _;
        addition_to = _;
        disjunction =
            extend_tier (λ links. tt) b.disjunction (e.of_disjunction (has_conjunction b x)) h;
        conjunction = r.no_chain_yet;
        comparison =
            r.no_chain_yet;
        addition = r.no_chain_yet;
        multiplication = r.no_chain_yet;
      })
      (r.unmarked r.no_operators_yet)))

  pub s_infix : (found : Option Infix) (t : Token) {it : T.Expr} {tiers : Tiers} {u : Use} {from base ts : List Token} → infix_of t.kind ≡ found
      → InUse all u from → TiersBefore from tiers base → HasUnary base it (t ∷ ts) → Steps all (at_infix found it tiers u t) ts
  s_infix None t h i b x = s_valued all t h i (has_whole b x)
  s_infix (Some found) t h i b x = s_operate found.level found.operator t h i b x

  s_postfix_end : (t : Token) {primary : T.Expr} {steps : List T.Step} {to : ℕ} {spot : Spot} {base ts : List Token} → InSpot all spot base
      → HasPostfix base primary steps to (t ∷ ts) → Steps all (at_postfix_end (node.postfix primary steps to) spot t) ts
  s_postfix_end t (r.in_expr i b p) x = s_infix (infix_of t.kind) t refl i b (with_prefixes p x)

  s_round : (first : Bool) (t : Token) {primary : T.Expr} {steps : List T.Step} {to : ℕ} {spot : Spot} {base ts : List Token} → t.first ≡ first
      → Is t k.LeftParen → InSpot all spot base → HasPostfix base primary steps to (t ∷ ts)
      → Steps all (if first then at_postfix_end (node.postfix primary steps to) spot t else Some (ArgumentsOpened (callee primary steps Round) spot)) ts
  s_round true t f h i x = s_postfix_end t i x
  s_round false t f h i x = yes all (r.r_arguments_opened (r.round i x h f))

  s_square : (first : Bool) (t : Token) {primary : T.Expr} {steps : List T.Step} {to : ℕ} {spot : Spot} {base ts : List Token} → t.first ≡ first
      → Is t k.LeftBracket → InSpot all spot base → HasPostfix base primary steps to (t ∷ ts)
      → Steps all (if first then at_postfix_end (node.postfix primary steps to) spot t else Some (ArgumentsOpened (callee primary steps Square) spot)) ts
  s_square true t f h i x = s_postfix_end t i x
  s_square false t f h i x = yes all (r.r_arguments_opened (r.square i x h f))

  s_postfixed : (kind : TokenKind) (t : Token) {primary : T.Expr} {steps : List T.Step} {to : ℕ} {spot : Spot} {base ts : List Token} → t.kind ≡ kind
      → InSpot all spot base → HasPostfix base primary steps to (t ∷ ts) → Steps all (at_postfixed kind t primary steps to spot) ts
  s_postfixed k.Dot t h i x = yes all (r.r_dotted i x h)
  s_postfixed k.LeftParen t h i x = s_round t.first t refl h i x
  s_postfixed k.LeftBracket t h i x = s_square t.first t refl h i x
  s_postfixed _ t h i x = s_postfix_end t i x

  s_argument_name : (kind : TokenKind) (n t : Token) {callee : Callee} {args : List T.Arg} {text : List ℕ} {spot : Spot} {ts : List Token} → t.kind ≡ kind
      → InArgs all callee args spot (n ∷ t ∷ ts) → Is n (k.Name text) → Steps all (at_argument_name kind t callee args text n.span spot) ts
  s_argument_name k.Colon n t h i x = yes all (r.r_operand (beginning_of all (r.for_argument i (r.label_yet x h))))
  s_argument_name kind n t h i x = s_postfixed kind t h (beginning_of all (r.for_argument i r.no_label_yet)) (e.no_step (e.named x))

  s_dotted : (kind : TokenKind) (d t : Token) {primary : T.Expr} {steps : List T.Step} {to : ℕ} {spot : Spot} {base ts : List Token} → t.kind ≡ kind
      → InSpot all spot base → HasPostfix base primary steps to (d ∷ t ∷ ts) → Is d k.Dot → Steps all (at_dotted kind t.span primary steps spot) ts
  s_dotted (k.Name text) d t h i x hd = yes all (r.r_postfixed i (e.member_step x hd h))
  s_dotted (k.Number n) d t h i x hd = yes all (r.r_postfixed i (e.part_step x hd h))
  s_dotted _ d t h i x hd = no all

  s_choice_else : (kind : TokenKind) (x t : Token) {from : ℕ} {choices : List T.Choice} {spot : Spot} {base ts : List Token} → t.kind ≡ kind
      → InSpot all spot base → HasChoices base from choices (x ∷ t ∷ ts) → Is x k.Else → Steps all (at_choice_else kind t.span from choices spot) ts
  s_choice_else k.If x t h i c hx = yes all (r.r_operand (beginning_of all (r.for_condition i (r.choices_yet c hx h))))
  s_choice_else k.LeftBrace x t h i c hx = yes all (r.r_operand (beginning_of all (r.for_otherwise i c hx h)))
  s_choice_else _ x t h i c hx = no all

  -- KINDS THAT ARE WANTED

  s_name : (kind : TokenKind) {make : List ℕ → State} {ts : List Token} → ((text : List ℕ) → kind ≡ k.Name text → Reading all (make text) ts)
      → Steps all (want.name kind make) ts
  s_name (k.Name text) h = yes all (h text refl)
  s_name _ h = no all

  s_less : (kind : TokenKind) {s : State} {ts : List Token} → (kind ≡ k.Less → Reading all s ts) → Steps all (want.less kind s) ts
  s_less k.Less h = yes all (h refl)
  s_less _ h = no all

  s_greater : (kind : TokenKind) {s : State} {ts : List Token} → (kind ≡ k.Greater → Reading all s ts) → Steps all (want.greater kind s) ts
  s_greater k.Greater h = yes all (h refl)
  s_greater _ h = no all

  s_left_paren : (kind : TokenKind) {s : State} {ts : List Token} → (kind ≡ k.LeftParen → Reading all s ts) → Steps all (want.left_paren kind s) ts
  s_left_paren k.LeftParen h = yes all (h refl)
  s_left_paren _ h = no all

  s_equal : (kind : TokenKind) {s : State} {ts : List Token} → (kind ≡ k.Equal → Reading all s ts) → Steps all (want.equal kind s) ts
  s_equal k.Equal h = yes all (h refl)
  s_equal _ h = no all

  s_colon : (kind : TokenKind) {s : State} {ts : List Token} → (kind ≡ k.Colon → Reading all s ts) → Steps all (want.colon kind s) ts
  s_colon k.Colon h = yes all (h refl)
  s_colon _ h = no all

  s_else_word : (kind : TokenKind) {s : State} {ts : List Token} → (kind ≡ k.Else → Reading all s ts) → Steps all (want.else_word kind s) ts
  s_else_word k.Else h = yes all (h refl)
  s_else_word _ h = no all

  s_init_word : (kind : TokenKind) {s : State} {ts : List Token} → (kind ≡ k.Init → Reading all s ts) → Steps all (want.init_word kind s) ts
  s_init_word k.Init h = yes all (h refl)
  s_init_word _ h = no all

  -- DECLARATIONS AND MEMBERS

  -- the tokens of a declaration are those between two places
  between : (n old new : ℕ) → old ≤ n → (n - new) - (n - old) ≡ old - new
  between n old new h = omega (arith, h)

  decl_has : {start : Start} {kind : T.DeclKind} {to : ℕ} {base old new : List Token} → Starts all start base old → HasDeclKind old kind to new
      → HasDecl base (decl_of start kind (length all - length new) to) to new
  decl_has {kind = kind} {to = to} {new = new} (r.hidden_start {t = t} {ts = ts} le) h =
      subst (λ n. HasDecl (t ∷ ts) (node.decl false kind n t.span.from to) to new) (sym (between (length all) (length (t ∷ ts)) (length new) le))
      (g.hidden_decl h)
  decl_has {kind = kind} {to = to} {new = new} (r.public_start {t = t} {ts = ts} le p) h =
      subst (λ n. HasDecl (t ∷ ts) (node.decl true kind n t.span.from to) to new) (sym (between (length all) (length (t ∷ ts)) (length new) le))
      (g.public_decl p h)

  member_has : {group : Group} {start : Start} {kind : T.MemberKind} {to : ℕ} {base old new : List Token} → Starts all start base old
      → (start.public ≡ true → MayBePublic group) → HasMemberKind group old kind to new
      → HasMember group base (member_of start kind (length all - length new) to) new
  member_has {group = group} {kind = kind} {to = to} {new = new} (r.hidden_start {t = t} {ts = ts} le) m h =
      subst (λ n. HasMember group (t ∷ ts) (node.member false kind n t.span.from to) new) (sym (between (length all) (length (t ∷ ts)) (length new) le))
      (g.hidden_member h)
  member_has {group = group} {kind = kind} {to = to} {new = new} (r.public_start {t = t} {ts = ts} le p) m h =
      subst (λ n. HasMember group (t ∷ ts) (node.member true kind n t.span.from to) new) (sym (between (length all) (length (t ∷ ts)) (length new) le))
      (g.public_member (m refl) p h)

  s_decl : (kind : TokenKind) (t : Token) {decls : List T.Decl} {start : Start} {ts : List Token} → t.kind ≡ kind → InDecls all decls start (t ∷ ts)
      → Steps all (at_decl kind t.span decls start) ts
  s_decl k.Fun t h d = yes all (r.r_function_word (r.file_fun d) h)
  s_decl k.Subscript t h d = yes all (r.r_subscript_word (r.file_at d) h)
  s_decl k.Type t h d = yes all (r.r_type_word d h)
  s_decl k.Trait t h d = yes all (r.r_trait_word d h)
  s_decl k.Conformance t h d = yes all (r.r_conformance_word d h)
  s_decl _ t h d = no all

  s_file : (kind : TokenKind) (t : Token) {decls : List T.Decl} {to : ℕ} {ts : List Token} → t.kind ≡ kind → length (t ∷ ts) ≤ length all
      → HasDecls all decls to (t ∷ ts) → Steps all (at_file kind t (length all - length (t ∷ ts)) decls) ts
  s_file k.Public t h le d = yes all (r.r_public_decl (r.in_decls d (r.public_start le h)))
  s_file kind t h le d = s_decl kind t h (r.in_decls d (r.hidden_start le))

  s_file_done : (kind : TokenKind) (t : Token) {decls : List T.Decl} {d : T.Decl} {far to : ℕ} {base ts : List Token} → t.kind ≡ kind
      → length (t ∷ ts) ≤ length all → HasDecls all decls far base → HasDecl base d to (t ∷ ts)
      → Steps all (at_file_done kind t (length all - length (t ∷ ts)) (decls ++ d ∷ [])) ts
  s_file_done k.Semicolon t h le ds x = yes all (r.r_file_ready (g.next_decl_with_semicolon ds x h))
  s_file_done kind t h le ds x = s_file kind t h le (g.next_decl ds x)

  s_decl_read : (t : Token) {decls : List T.Decl} {start : Start} {kind : T.DeclKind} {to : ℕ} {old ts : List Token} → length (t ∷ ts) ≤ length all
      → InDecls all decls start old → HasDeclKind old kind to (t ∷ ts)
      → Steps all (at_decl_read t (length all - length (t ∷ ts)) decls start kind to) ts
  s_decl_read t le (r.in_decls ds s) h = s_file_done t.kind t refl le ds (decl_has s h)

  -- the owner after its last brace
  owner_reads : (t : Token) {owner : Owner} {members : List T.Member} {group : Group} {ts : List Token} → Is t k.RightBrace
      → SoFar all owner members group (t ∷ ts) → Reading all (owner_read owner members t.span) ts
  owner_reads t h (r.so_far (r.in_trait d w n o) m) = r.r_decl_read d (g.trait w n o m h)
  owner_reads t h (r.so_far (r.in_type d w n l o) m) = r.r_decl_read d (g.product w n l o m h)
  owner_reads t h (r.so_far (r.in_conformance d w n l ts o) m) = r.r_decl_read d (g.conformance w n l ts o m h)

  s_type_member : (kind : TokenKind) (t : Token) {owner : Owner} {members : List T.Member} {start : Start} {ts : List Token} → t.kind ≡ kind
      → AtMember all owner members OfType start (t ∷ ts) → Steps all (at_type_member kind t.span owner members start) ts
  s_type_member k.Var t h a = yes all (r.r_field_word a h)
  s_type_member k.Memberwise t h a = yes all (r.r_memberwise a h)
  s_type_member k.Deinit t h a = yes all (r.r_body_wanted (r.plain_at (r.at_deinit a h)))
  s_type_member k.Fun t h a = yes all (r.r_function_word (r.member_fun a g.of_type) h)
  s_type_member k.Subscript t h a = yes all (r.r_subscript_word (r.member_at a g.of_type) h)
  s_type_member _ t h a = no all

  s_trait_member : (kind : TokenKind) (t : Token) {owner : Owner} {members : List T.Member} {start : Start} {ts : List Token} → t.kind ≡ kind
      → AtMember all owner members OfTrait start (t ∷ ts) → Steps all (at_trait_member kind t.span owner members start) ts
  s_trait_member k.Fun t h a = yes all (r.r_function_word (r.trait_fun a) h)
  s_trait_member _ t h a = no all

  s_conformance_member : (kind : TokenKind) (t : Token) {owner : Owner} {members : List T.Member} {start : Start} {ts : List Token} → t.kind ≡ kind
      → AtMember all owner members OfConformance start (t ∷ ts) → Steps all (at_conformance_member kind t.span owner members start) ts
  s_conformance_member k.Fun t h a = yes all (r.r_function_word (r.member_fun a g.of_conformance) h)
  s_conformance_member k.Subscript t h a = yes all (r.r_subscript_word (r.member_at a g.of_conformance) h)
  s_conformance_member _ t h a = no all

  s_member : (kind : TokenKind) (t : Token) {owner : Owner} {members : List T.Member} {group : Group} {start : Start} {ts : List Token} → t.kind ≡ kind
      → AtMember all owner members group start (t ∷ ts) → Steps all (at_member kind t.span owner members start) ts
  s_member kind t h (r.at_member (r.so_far (r.in_trait d w n o) m) s p) = s_trait_member kind t h (r.at_member (r.so_far (r.in_trait d w n o) m) s p)
  s_member kind t h (r.at_member (r.so_far (r.in_type d w n l o) m) s p) = s_type_member kind t h (r.at_member (r.so_far (r.in_type d w n l o) m) s p)
  s_member kind t h (r.at_member (r.so_far (r.in_conformance d w n l ts o) m) s p) =
      s_conformance_member kind t h (r.at_member (r.so_far (r.in_conformance d w n l ts o) m) s p)

  s_public : (t : Token) {owner : Owner} {members : List T.Member} {group : Group} {ts : List Token} → Is t k.Public → length (t ∷ ts) ≤ length all
      → SoFar all owner members group (t ∷ ts) → Steps all (at_public owner members (begins_at true t (length all - length (t ∷ ts)))) ts
  s_public t h le (r.so_far (r.in_trait d w n o) m) = no all
  s_public t h le (r.so_far (r.in_type d w n l o) m) =
      yes all (r.r_public_member (r.at_member (r.so_far (r.in_type d w n l o) m) (r.public_start le h) (λ q. g.of_type)))
  s_public t h le (r.so_far (r.in_conformance d w n l ts o) m) =
      yes all (r.r_public_member (r.at_member (r.so_far (r.in_conformance d w n l ts o) m) (r.public_start le h) (λ q. g.of_conformance)))

  s_members : (kind : TokenKind) (t : Token) {owner : Owner} {members : List T.Member} {group : Group} {ts : List Token} → t.kind ≡ kind
      → length (t ∷ ts) ≤ length all → SoFar all owner members group (t ∷ ts)
      → Steps all (at_members kind t (length all - length (t ∷ ts)) owner members) ts
  s_members k.RightBrace t h le m = yes all (owner_reads t h m)
  s_members k.Public t h le m = s_public t h le m
  s_members kind t h le m = s_member kind t h (r.at_member m (r.hidden_start le) (λ q. cc))

  s_members_done : (kind : TokenKind) (t : Token) {owner : Owner} {members : List T.Member} {d : T.Member} {group : Group} {inside base ts : List Token}
      → t.kind ≡ kind → length (t ∷ ts) ≤ length all → InMembers all owner group inside → HasMembers group inside members base
      → HasMember group base d (t ∷ ts)
      → Steps all (at_members_done kind t (length all - length (t ∷ ts)) owner (members ++ d ∷ [])) ts
  s_members_done k.Semicolon t h le o m x = yes all (r.r_members_ready (r.so_far o (g.next_with_semicolon m x h)))
  s_members_done kind t h le o m x = s_members kind t h le (r.so_far o (g.next_member m x))

  s_member_read : (t : Token) {owner : Owner} {members : List T.Member} {group : Group} {start : Start} {kind : T.MemberKind} {to : ℕ} {old ts : List Token}
      → length (t ∷ ts) ≤ length all → AtMember all owner members group start old → HasMemberKind group old kind to (t ∷ ts)
      → Steps all (at_member_read t (length all - length (t ∷ ts)) owner members start kind to) ts
  s_member_read t le (r.at_member (r.so_far o m) s p) h = s_members_done t.kind t refl le o m (member_has s p h)

  s_type_name : (kind : TokenKind) (w n t : Token) {decls : List T.Decl} {start : Start} {text : List ℕ} {ts : List Token} → t.kind ≡ kind
      → InDecls all decls start (w ∷ n ∷ t ∷ ts) → Is w k.Type → Is n (k.Name text)
      → Steps all (at_type_name kind (opening decls start w.span) (node.spelled text n.span)) ts
  s_type_name k.Colon w n t h d hw hn = yes all (r.r_type_trait d hw hn h r.no_traits_yet)
  s_type_name k.LeftBrace w n t h d hw hn = yes all (r.r_members_ready (r.so_far (r.in_type d hw hn g.no_traits h) g.no_member))
  s_type_name _ w n t h d hw hn = no all

  with_trait : {traits : List NameUse} {n : Token} {text : List ℕ} {old new : List Token} → TraitsBefore old traits (n ∷ new) → Is n (k.Name text)
      → HasTraits old (traits ++ node.used text n.span ∷ []) new
  with_trait r.no_traits_yet n = g.one_trait n
  with_trait (r.comma_yet h c) n = g.comma_trait h c n
  with_trait (r.and_yet h c) n = g.and_trait h c n

  s_type_listed : (kind : TokenKind) (w n l t : Token) {decls : List T.Decl} {start : Start} {text : List ℕ} {traits : List NameUse} {old ts : List Token}
      → t.kind ≡ kind → InDecls all decls start (w ∷ n ∷ l ∷ old) → Is w k.Type → Is n (k.Name text) → Is l k.Colon → HasTraits old traits (t ∷ ts)
      → Steps all (at_trait_listed kind (opening decls start w.span) (TypeSubject (node.spelled text n.span)) traits) ts
  s_type_listed k.Comma w n l t h d hw hn hl x = yes all (r.r_type_trait d hw hn hl (r.comma_yet x h))
  s_type_listed k.Ampersand w n l t h d hw hn hl x = yes all (r.r_type_trait d hw hn hl (r.and_yet x h))
  s_type_listed k.LeftBrace w n l t h d hw hn hl x = yes all (r.r_members_ready (r.so_far (r.in_type d hw hn (g.traits hl x) h) g.no_member))
  s_type_listed _ w n l t h d hw hn hl x = no all

  s_conformance_listed : (kind : TokenKind) (w n l t : Token) {decls : List T.Decl} {start : Start} {text : List ℕ} {traits : List NameUse}
      {old ts : List Token} → t.kind ≡ kind → InDecls all decls start (w ∷ n ∷ l ∷ old) → Is w k.Conformance → Is n (k.Name text) → Is l k.Colon
      → HasTraits old traits (t ∷ ts)
      → Steps all (at_trait_listed kind (opening decls start w.span) (ConformanceSubject (node.used text n.span)) traits) ts
  s_conformance_listed k.Comma w n l t h d hw hn hl x = yes all (r.r_conformance_trait d hw hn hl (r.comma_yet x h))
  s_conformance_listed k.Ampersand w n l t h d hw hn hl x = yes all (r.r_conformance_trait d hw hn hl (r.and_yet x h))
  s_conformance_listed k.LeftBrace w n l t h d hw hn hl x = yes all (r.r_members_ready (r.so_far (r.in_conformance d hw hn hl x h) g.no_member))
  s_conformance_listed _ w n l t h d hw hn hl x = no all

  -- HEADS

  s_function_name : (kind : TokenKind) (t : Token) {front : Head} {ts : List Token} → t.kind ≡ kind → Named all front (t ∷ ts)
      → Steps all (at_function_name kind front) ts
  s_function_name k.Less t h (r.named f w n) = s_generics f w n h
    where
      s_generics : {home : Home} {start : Start} {sort : Sort} {w n l : Token} {text : List ℕ} {ts : List Token}
          → FunAt all home start sort (w ∷ n ∷ l ∷ ts) → Is w k.Fun → Is n (k.Name text) → Is l k.Less
          → Steps all (generics_of sort (head home start sort w.span (Some (node.spelled text n.span)) [] [] None None)) ts
      s_generics (r.file_fun d) w n l = yes all (r.r_generic_wanted (r.in_generics (r.named (r.file_fun d) w n) (λ q. cc) l r.no_generics_yet))
      s_generics (r.member_fun a m) w n l = yes all (r.r_generic_wanted (r.in_generics (r.named (r.member_fun a m) w n) (λ q. cc) l r.no_generics_yet))
      s_generics (r.trait_fun a) w n l = no all
  s_function_name k.LeftParen t h (r.named f w n) = yes all (r.r_params_opened (r.fun_headed f w n r.without_generics) h)
  s_function_name _ t h m = no all

  s_unnamed : (w t : Token) {home : Home} {start : Start} {ts : List Token} → SubscriptAt all home start (w ∷ t ∷ ts) → Is w k.Subscript → Is t k.LeftParen
      → Steps all (unnamed home start w.span) ts
  s_unnamed w t (r.file_at d) hw h = no all
  s_unnamed w t (r.member_at a m) hw h = yes all (r.r_params_opened (r.subscript_headed (r.member_at a m) hw g.no_name r.lacks_it) h)

  s_subscript_word : (kind : TokenKind) (w t : Token) {home : Home} {start : Start} {ts : List Token} → t.kind ≡ kind
      → SubscriptAt all home start (w ∷ t ∷ ts) → Is w k.Subscript → Steps all (at_subscript_word kind t.span home start w.span) ts
  s_subscript_word (k.Name text) w t h a hw = yes all (r.r_params_wanted (r.subscript_headed a hw (g.a_name h) r.has_one))
  s_subscript_word k.LeftParen w t h a hw = s_unnamed w t a hw h
  s_subscript_word _ w t h a hw = no all

  with_generic_param : {generics : List TypeParam} {p : TypeParam} {old mid new : List Token} → GenericsBefore old generics mid → HasGeneric mid p new
      → HasSomeGenerics old (generics ++ p ∷ []) new
  with_generic_param r.no_generics_yet x = g.one_generic x
  with_generic_param (r.generics_yet h c) x = g.more_generics h c x

  -- after a type parameter, `,` or `>`
  another_generic : (front : Head) {name : Name} {bounds : List NameUse} {c : Token} {old new : List Token} → InGenerics all front old
      → HasGeneric old (node.type_param name bounds) (c ∷ new) → Is c k.Comma → InGenerics all (with_generic front name bounds) new
  another_generic front (r.in_generics m nr l b) x c = r.in_generics m nr l (r.generics_yet (with_generic_param b x) c)

  last_generic : (front : Head) {name : Name} {bounds : List NameUse} {c : Token} {old new : List Token} → InGenerics all front old
      → HasGeneric old (node.type_param name bounds) (c ∷ new) → Is c k.Greater → Headed all (with_generic front name bounds) new
  last_generic front (r.in_generics (r.named f w n) nr l b) x c = r.fun_headed f w n (r.of_generics nr (g.generics l (with_generic_param b x) c))

  s_generic_name : (kind : TokenKind) (n t : Token) {front : Head} {text : List ℕ} {ts : List Token} → t.kind ≡ kind → InGenerics all front (n ∷ t ∷ ts)
      → Is n (k.Name text) → Steps all (at_generic_name kind front (node.spelled text n.span)) ts
  s_generic_name k.Colon n t h i hn = yes all (r.r_bound_wanted i hn h r.no_bounds_yet)
  s_generic_name k.Comma n t h i hn = yes all (r.r_generic_wanted (another_generic _ i (g.without_bound hn) h))
  s_generic_name k.Greater n t h i hn = yes all (r.r_params_wanted (last_generic _ i (g.without_bound hn) h))
  s_generic_name _ n t h i hn = no all

  with_bound : {bounds : List NameUse} {n : Token} {text : List ℕ} {old new : List Token} → BoundsBefore old bounds (n ∷ new) → Is n (k.Name text)
      → HasBounds old (bounds ++ node.used text n.span ∷ []) new
  with_bound r.no_bounds_yet n = g.one_bound n
  with_bound (r.bounds_yet h a) n = g.more_bounds h a n

  s_bound_listed : (kind : TokenKind) (n c t : Token) {front : Head} {text : List ℕ} {bounds : List NameUse} {old ts : List Token} → t.kind ≡ kind
      → InGenerics all front (n ∷ c ∷ old) → Is n (k.Name text) → Is c k.Colon → HasBounds old bounds (t ∷ ts)
      → Steps all (at_bound_listed kind front (node.spelled text n.span) bounds) ts
  s_bound_listed k.Ampersand n c t h i hn hc b = yes all (r.r_bound_wanted i hn hc (r.bounds_yet b h))
  s_bound_listed k.Comma n c t h i hn hc b = yes all (r.r_generic_wanted (another_generic _ i (g.with_bounds hn hc b) h))
  s_bound_listed k.Greater n c t h i hn hc b = yes all (r.r_params_wanted (last_generic _ i (g.with_bounds hn hc b) h))
  s_bound_listed _ n c t h i hn hc b = no all

  s_param : (kind : TokenKind) (t : Token) {front : Head} {ts : List Token} → t.kind ≡ kind → InParams all front (t ∷ ts)
      → Steps all (at_param kind t.span front) ts
  s_param (k.Name text) t h i = yes all (r.r_param_first i h)
  s_param k.Underscore t h i = yes all (r.r_param_unlabelled i h)
  s_param _ t h i = no all

  -- the parameters of a head that has none yet
  first_param : (front : Head) {o : Token} {new : List Token} → Headed all front (o ∷ new) → Is o k.LeftParen → InParams all front new
  first_param front (r.fun_headed f w n x) ho = r.in_params (r.fun_headed f w n x) ho r.no_params_yet
  first_param front (r.subscript_headed a w n m) ho = r.in_params (r.subscript_headed a w n m) ho r.no_params_yet

  no_params_done : (front : Head) {o c : Token} {new : List Token} → Headed all front (o ∷ c ∷ new) → Is o k.LeftParen → Is c k.RightParen
      → ParamsDone all front c.span.to new
  no_params_done front (r.fun_headed f w n x) ho hc = r.params_done (r.fun_headed f w n x) (g.no_params ho hc)
  no_params_done front (r.subscript_headed a w n m) ho hc = r.params_done (r.subscript_headed a w n m) (g.no_params ho hc)

  s_params_opened : (kind : TokenKind) (o t : Token) {front : Head} {ts : List Token} → t.kind ≡ kind → Headed all front (o ∷ t ∷ ts) → Is o k.LeftParen
      → Steps all (at_params_opened kind t.span front) ts
  s_params_opened k.RightParen o t h x ho = yes all (r.r_params_read (no_params_done _ x ho h))
  s_params_opened kind o t h x ho = s_param kind t h (first_param _ x ho)

  s_param_first : (kind : TokenKind) (n t : Token) {front : Head} {text : List ℕ} {ts : List Token} → t.kind ≡ kind → InParams all front (n ∷ t ∷ ts)
      → Is n (k.Name text) → Steps all (at_param_first kind t.span front (node.spelled text n.span)) ts
  s_param_first k.Colon n t h i hn = yes all (r.r_param_colon i (g.one_name hn) h)
  s_param_first (k.Name text) n t h i hn = yes all (r.r_param_name i (g.two_names hn h))
  s_param_first _ n t h i hn = no all

  s_mode : (found : Option Mode) (kind : TokenKind) (c t : Token) {front : Head} {from : ℕ} {label : Label} {name : Name} {old ts : List Token}
      → t.kind ≡ kind → mode_in front.sort t.kind ≡ found → InParams all front old → HasParamName old from label name (c ∷ t ∷ ts) → Is c k.Colon
      → Steps all (at_mode found kind t.span front from label name) ts
  s_mode (Some mode) kind c t h m i n hc = yes all (r.r_type_wanted (r.for_param i n hc (g.a_mode m)))
  s_mode None kind c t h m i n hc = s_type all kind t h (r.for_param i n hc g.no_mode)

  s_param_read : (kind : TokenKind) (t : Token) {front : Head} {ts : List Token} → t.kind ≡ kind → ParamsListed all front (t ∷ ts)
      → Steps all (at_param_read kind t.span front) ts
  s_param_read k.Comma t h (r.params_listed x o p) = yes all (r.r_param_wanted (r.in_params x o (r.params_yet p h)))
  s_param_read k.RightParen t h (r.params_listed x o p) = yes all (r.r_params_read (r.params_done x (g.params o p h)))
  s_param_read _ t h l = no all

  -- BODIES

  s_plain : (t : Token) {front : Head} {ts : List Token} → Is t k.LeftBrace → AtBody all front (t ∷ ts) → Reading all (plain_only front t.span) ts
  s_plain t h a = r.r_block_opened (r.in_body (r.plain_at a) h)

  method_reads : (effect : Option Mode) (t : Token) {front : Head} {ts : List Token} → front.effect ≡ effect → front.sort ≡ Method → Is t k.LeftBrace
      → AtBody all front (t ∷ ts) → Reading all (method_body effect front t.span) ts
  method_reads None t {front = front} q s h a =
      r.r_body_opened a (subst (λ z. MayVary z front.effect) (sym s) (subst (MayVary Method) (sym q) g.method_varies)) h
  method_reads (Some mode) t q s h a = s_plain t h a

  -- A subscript has no effect.
  subscript_effect : {front : Head} {new : List Token} → AtBody all front new → front.sort ≡ Subscript → front.effect ≡ None
  subscript_effect (r.at_body (r.no_result_done (r.effect_done p ns x)) nr) s = absurd (ns s)
  subscript_effect (r.at_body (r.result_done (r.arrow_result (r.effect_done p ns x) h) ht) nr) s = absurd (ns s)
  subscript_effect (r.at_body (r.result_done (r.colon_result (r.params_done h p) hs hc) ht) nr) s = refl
  subscript_effect (r.at_deinit a w) s = refl

  body_opens : (sort : Sort) (t : Token) {front : Head} {ts : List Token} → front.sort ≡ sort → Is t k.LeftBrace → AtBody all front (t ∷ ts)
      → Reading all (body_opened sort front t.span) ts
  body_opens FileFunction t s h a = s_plain t h a
  body_opens Method t {front = front} s h a = method_reads front.effect t refl s h a
  body_opens Requirement t s h a = s_plain t h a
  body_opens Subscript t {front = front} s h a =
      r.r_body_opened a (subst (λ z. MayVary z front.effect) (sym s) (subst (MayVary Subscript) (sym (subscript_effect a s)) g.subscript_varies)) h
  body_opens Deinit t s h a = s_plain t h a

  -- a requirement is whole
  requirement_reads : (front : Head) (to : ℕ) {new : List Token} → ResultDone all front to new → front.sort ≡ Requirement
      → Reading all (called_in front.home front [] to) new
  requirement_reads front to (r.no_result_done (r.effect_done (r.params_done (r.fun_headed (r.trait_fun a) w n r.without_generics) p) ns x)) s =
      member_called all front [] to refl a (g.trait_requirement (g.requirement w n p (effect_of_head all x) g.no_result))
  requirement_reads front to (r.result_done (r.arrow_result (r.effect_done (r.params_done (r.fun_headed (r.trait_fun a) w n r.without_generics) p) ns x) h)
      ht) s = member_called all front [] to refl a (g.trait_requirement (g.requirement w n p (effect_of_head all x) (g.a_result h ht)))
  requirement_reads front to (r.no_result_done (r.effect_done (r.params_done (r.fun_headed f w n (r.of_generics nr x)) p) ns y)) s = absurd (nr s)
  requirement_reads front to (r.result_done (r.arrow_result (r.effect_done (r.params_done (r.fun_headed f w n (r.of_generics nr x)) p) ns y) h) ht) s =
      absurd (nr s)
  requirement_reads front to (r.no_result_done (r.effect_done (r.params_done (r.fun_headed (r.file_fun d) w n r.without_generics) p) ns x)) s = cc
  requirement_reads front to (r.result_done (r.arrow_result (r.effect_done (r.params_done (r.fun_headed (r.file_fun d) w n r.without_generics) p) ns x) h)
      ht) s = cc
  requirement_reads front to (r.no_result_done (r.effect_done (r.params_done (r.fun_headed (r.member_fun a m) w n r.without_generics) p) ns x)) s = cc
  requirement_reads front to
      (r.result_done (r.arrow_result (r.effect_done (r.params_done (r.fun_headed (r.member_fun a m) w n r.without_generics) p) ns x) h) ht) s = cc
  requirement_reads front to (r.no_result_done (r.effect_done (r.params_done (r.subscript_headed a w n m) p) ns x)) s = cc
  requirement_reads front to (r.result_done (r.arrow_result (r.effect_done (r.params_done (r.subscript_headed a w n m) p) ns x) h) ht) s = cc
  requirement_reads front to (r.result_done (r.colon_result p hs hc) ht) s = let w : ⊥ = cc in absurd w

  s_called : (home : Home) (t : Token) (front : Head) (to : ℕ) {ts : List Token} → length (t ∷ ts) ≤ length all
      → Reading all (called_in home front [] to) (t ∷ ts) → Steps all (at_callable_read home t (length all - length (t ∷ ts)) front to) ts
  s_called (InFile decls) t front to le (r.r_decl_read d h) = s_decl_read t le d h
  s_called (InOwner owner members) t front to le (r.r_member_read a h) = s_member_read t le a h

  s_left : (kind : TokenKind) (sort : Sort) (t : Token) {front : Head} {to : ℕ} {ts : List Token} → t.kind ≡ kind → front.sort ≡ sort
      → (sort ≡ Requirement → ⊥) → ResultDone all front to (t ∷ ts) → kind ≡ k.LeftBrace → Reading all (body_opened sort front t.span) ts
  s_left kind sort t {front = front} h s nr x q = body_opens sort t s (h ∙ q) (r.at_body x (λ z. nr (sym s ∙ z)))

  -- what stands in place of the body
  s_plain_body : (sort : Sort) (kind : TokenKind) (t : Token) {front : Head} {to : ℕ} {ts : List Token} → t.kind ≡ kind → front.sort ≡ sort
      → (sort ≡ Requirement → ⊥) → ResultDone all front to (t ∷ ts) → Steps all (left_brace kind (body_opened sort front t.span)) ts
  s_plain_body sort kind t h s nr x = s_left_brace all kind (s_left kind sort t h s nr x)

  s_body : (sort : Sort) (kind : TokenKind) (t : Token) {front : Head} {to : ℕ} {ts : List Token} → t.kind ≡ kind → length (t ∷ ts) ≤ length all
      → front.sort ≡ sort → ResultDone all front to (t ∷ ts) → Steps all (at_body sort kind t (length all - length (t ∷ ts)) front to) ts
  s_body Requirement kind t {front = front} {to = to} h le s x = s_called front.home t front to le (requirement_reads front to x s)
  s_body FileFunction k.LeftBrace t h le s x = yes all (s_left k.LeftBrace FileFunction t h s (λ z. cc) x refl)
  s_body FileFunction _ t h le s x = no all
  s_body Method k.LeftBrace t h le s x = yes all (s_left k.LeftBrace Method t h s (λ z. cc) x refl)
  s_body Method _ t h le s x = no all
  s_body Subscript k.LeftBrace t h le s x = yes all (s_left k.LeftBrace Subscript t h s (λ z. cc) x refl)
  s_body Subscript _ t h le s x = no all
  s_body Deinit k.LeftBrace t h le s x = yes all (s_left k.LeftBrace Deinit t h s (λ z. cc) x refl)
  s_body Deinit _ t h le s x = no all

  s_result : (kind : TokenKind) (t : Token) {front : Head} {to : ℕ} {ts : List Token} → t.kind ≡ kind → length (t ∷ ts) ≤ length all
      → EffectDone all front to (t ∷ ts) → Steps all (at_result kind t (length all - length (t ∷ ts)) front to) ts
  s_result k.Arrow t h le x = yes all (r.r_type_wanted (r.for_result (r.arrow_result x h)))
  s_result kind t {front = front} h le x = s_body front.sort kind t h le refl (r.no_result_done x)

  -- parameters without an effect after them
  no_effect : (front : Head) {to : ℕ} {new : List Token} → ParamsDone all front to new → (front.sort ≡ Subscript → ⊥) → EffectDone all front to new
  no_effect front (r.params_done h p) ns = r.effect_done (r.params_done h p) ns r.without_effect

  an_effect : (front : Head) {mode : Mode} {t : Token} {to : ℕ} {new : List Token} → ParamsDone all front to (t ∷ new) → (front.sort ≡ Subscript → ⊥)
      → MayAffect front.sort → effect_of t.kind ≡ Some mode → EffectDone all (with_effect front mode) t.span.to new
  an_effect front (r.params_done h p) ns m e = r.effect_done (r.params_done h p) ns (r.with_effect m e)

  s_effect : (found : Option Mode) (t : Token) {front : Head} {to : ℕ} {ts : List Token} → effect_of t.kind ≡ found → length (t ∷ ts) ≤ length all
      → (front.sort ≡ Subscript → ⊥) → MayAffect front.sort → ParamsDone all front to (t ∷ ts)
      → Steps all (at_effect found t (length all - length (t ∷ ts)) front to) ts
  s_effect (Some mode) t h le ns m x = yes all (r.r_effect_read (an_effect _ x ns m h))
  s_effect None t h le ns m x = s_result t.kind t refl le (no_effect _ x ns)

  s_colon_type : (kind : TokenKind) (t : Token) {front : Head} {to : ℕ} {ts : List Token} → t.kind ≡ kind → front.sort ≡ Subscript
      → ParamsDone all front to (t ∷ ts) → Steps all (at_colon kind front) ts
  s_colon_type k.Colon t h s x = yes all (r.r_type_wanted (r.for_result (r.colon_result x s h)))
  s_colon_type _ t h s x = no all

  s_params_read : (sort : Sort) (t : Token) {front : Head} {to : ℕ} {ts : List Token} → front.sort ≡ sort → length (t ∷ ts) ≤ length all
      → ParamsDone all front to (t ∷ ts) → Steps all (at_params_read sort t (length all - length (t ∷ ts)) front to) ts
  s_params_read Subscript t s le x = s_colon_type t.kind t refl s x
  s_params_read Method t s le x = s_effect (effect_of t.kind) t refl le (λ z. let q : Method ≡ Subscript = sym s ∙ z in
      cc) (subst MayAffect (sym s) r.method_affects) x
  s_params_read Requirement t s le x = s_effect (effect_of t.kind) t refl le (λ z. let q : Requirement ≡ Subscript = sym s ∙ z in
      cc) (subst MayAffect (sym s) r.requirement_affects) x
  s_params_read FileFunction t s le x = s_result t.kind t refl le (no_effect _ x (λ z. let q : FileFunction ≡ Subscript = sym s ∙ z in cc))
  s_params_read Deinit t s le x = s_result t.kind t refl le (no_effect _ x (λ z. let q : Deinit ≡ Subscript = sym s ∙ z in cc))

  s_set : (sort : Sort) (t : Token) {front : Head} {brace : Span} {variants : List T.Variant} {ts : List Token} → front.sort ≡ sort → Is t k.Set
      → InVariants all front brace variants (t ∷ ts) → Steps all (at_set sort t.span front brace variants) ts
  s_set Subscript t s h x = yes all (r.r_set_word x s h)
  s_set FileFunction t s h x = no all
  s_set Method t s h x = no all
  s_set Requirement t s h x = no all
  s_set Deinit t s h x = no all

  s_body_opened : (kind : TokenKind) (o t : Token) {front : Head} {ts : List Token} → t.kind ≡ kind → AtBody all front (o ∷ t ∷ ts)
      → MayVary front.sort front.effect → Is o k.LeftBrace → Steps all (at_body_opened kind t front o.span) ts
  s_body_opened k.Let o t h a m ho = yes all (r.r_body_word a m ho (ap introducer_of h) (ap effect_of h))
  s_body_opened k.Inout o t h a m ho = yes all (r.r_body_word a m ho (ap introducer_of h) (ap effect_of h))
  s_body_opened k.Sink o t h a m ho = yes all (r.r_body_wanted (r.variant_at (r.in_variants a m ho r.no_variants_yet) (r.effect_word (ap effect_of h))))
  s_body_opened k.Set o t {front = front} h a m ho = s_set front.sort t refl h (r.in_variants a m ho r.no_variants_yet)
  s_body_opened kind o t h a m ho = s_block_opened all kind t h (r.in_body (r.plain_at a) ho)

  s_body_word : (kind : TokenKind) (o w t : Token) {front : Head} {introducer : Introducer} {mode : Mode} {ts : List Token} → t.kind ≡ kind
      → AtBody all front (o ∷ w ∷ t ∷ ts) → MayVary front.sort front.effect → Is o k.LeftBrace → introducer_of w.kind ≡ Some introducer
      → effect_of w.kind ≡ Some mode
      → Steps all (at_body_word kind t.span front o.span introducer mode w.span) ts
  s_body_word k.LeftBrace o w t h a m ho i e =
      yes all (r.r_block_opened (r.in_body (r.variant_at (r.in_variants a m ho r.no_variants_yet) (r.effect_word e)) h))
  s_body_word (k.Name text) o w t h a m ho i e = yes all (r.r_binding_name (r.at_stmt (r.in_body (r.plain_at a) ho) r.no_stmts_yet) i h)
  s_body_word _ o w t h a m ho i e = no all

  s_variants_read : (kind : TokenKind) (o t : Token) {front : Head} {variants : List T.Variant} {old ts : List Token} → t.kind ≡ kind
      → AtBody all front (o ∷ old) → MayVary front.sort front.effect → Is o k.LeftBrace → HasVariants front.sort old variants (t ∷ ts)
      → Steps all (at_variants_read kind t.span front o.span variants) ts
  s_variants_read k.Let o t h a m ho v = yes all (r.r_body_wanted (r.variant_at (r.in_variants a m ho (r.variants_yet v)) (r.effect_word (ap effect_of h))))
  s_variants_read k.Inout o t h a m ho v = yes all (r.r_body_wanted (r.variant_at (r.in_variants a m ho (r.variants_yet v)) (r.effect_word (ap effect_of h))))
  s_variants_read k.Sink o t h a m ho v = yes all (r.r_body_wanted (r.variant_at (r.in_variants a m ho (r.variants_yet v)) (r.effect_word (ap effect_of h))))
  s_variants_read k.Set o t {front = front} h a m ho v = s_set front.sort t refl h (r.in_variants a m ho (r.variants_yet v))
  s_variants_read k.RightBrace o t h a m ho v = yes all (body_reads all _ _ _ a (g.variants_body m ho v h))
  s_variants_read _ o t h a m ho v = no all

  set_variant_word : {sort : Sort} {w o n c : Token} {text : List ℕ} {new : List Token} → sort ≡ Subscript → Is w k.Set → Is o k.LeftParen
      → Is n (k.Name text) → Is c k.RightParen → VariantWord sort (w ∷ o ∷ n ∷ c ∷ new) w.span mode.Set (Some (node.spelled text n.span)) new
  set_variant_word {w = w} {o = o} {n = n} {c = c} {text = text} {new = new} s hw ho hn hc =
      subst (λ z. VariantWord z (w ∷ o ∷ n ∷ c ∷ new) w.span mode.Set (Some (node.spelled text n.span)) new) (sym s) (r.set_word hw ho hn hc)

  fun_named : {home : Home} {start : Start} {sort : Sort} {w n : Token} {text : List ℕ} {ts : List Token} → FunAt all home start sort (w ∷ n ∷ ts)
      → Is w k.Fun → Is n (k.Name text) → Reading all (FunctionName (head_of home start (sort_in home) w.span (Some (node.spelled text n.span)))) ts
  fun_named (r.file_fun d) w n = r.r_function_name (r.named (r.file_fun d) w n)
  fun_named (r.member_fun (r.at_member (r.so_far (r.in_type d x y l o) m) s p) c) w n =
      r.r_function_name (r.named (r.member_fun (r.at_member (r.so_far (r.in_type d x y l o) m) s p) c) w n)
  fun_named (r.member_fun (r.at_member (r.so_far (r.in_conformance d x y l z o) m) s p) c) w n =
      r.r_function_name (r.named (r.member_fun (r.at_member (r.so_far (r.in_conformance d x y l z o) m) s p) c) w n)
  fun_named (r.member_fun (r.at_member (r.so_far (r.in_trait d x y o) m) s p) c) w n = elim c [ ]
  fun_named (r.trait_fun (r.at_member (r.so_far (r.in_trait d x y o) m) s p)) w n =
      r.r_function_name (r.named (r.trait_fun (r.at_member (r.so_far (r.in_trait d x y o) m) s p)) w n)

  -- ONE STEP

  pub s_step : (t : Token) (ts : List Token) {s : State} → length (t ∷ ts) ≤ length all → Reading all s (t ∷ ts)
      → Steps all (step s t (length all - suc (length ts))) ts
  unfolding step
  s_step t ts le (r.r_file_ready d) = s_file t.kind t refl le d
  s_step t ts le (r.r_public_decl d) = s_decl t.kind t refl d
  s_step t ts le (r.r_decl_read d h) = s_decl_read t le d h
  s_step t ts le (r.r_type_word d w) = s_name t.kind (λ text h. r.r_type_name d w h)
  s_step t ts le (r.r_type_name {w = w} {n = n} d hw hn) = s_type_name t.kind w n t refl d hw hn
  s_step t ts le (r.r_trait_word d w) = s_name t.kind (λ text h. r.r_trait_name d w h)
  s_step t ts le (r.r_trait_name d w n) = s_left_brace all t.kind (λ h. r.r_members_ready (r.so_far (r.in_trait d w n h) g.no_member))
  s_step t ts le (r.r_conformance_word d w) = s_name t.kind (λ text h. r.r_conformance_name d w h)
  s_step t ts le (r.r_conformance_name d w n) = s_colon t.kind (λ h. r.r_conformance_trait d w n h r.no_traits_yet)
  s_step t ts le (r.r_type_trait d w n l b) = s_name t.kind (λ text h. r.r_type_listed d w n l (with_trait b h))
  s_step t ts le (r.r_conformance_trait d w n l b) = s_name t.kind (λ text h. r.r_conformance_listed d w n l (with_trait b h))
  s_step t ts le (r.r_type_listed {w = w} {n = n} {l = l} d hw hn hl x) = s_type_listed t.kind w n l t refl d hw hn hl x
  s_step t ts le (r.r_conformance_listed {w = w} {n = n} {l = l} d hw hn hl x) = s_conformance_listed t.kind w n l t refl d hw hn hl x
  s_step t ts le (r.r_members_ready m) = s_members t.kind t refl le m
  s_step t ts le (r.r_public_member a) = s_member t.kind t refl a
  s_step t ts le (r.r_member_read a h) = s_member_read t le a h
  s_step t ts le (r.r_field_word a w) = s_name t.kind (λ text h. r.r_field_name a w h)
  s_step t ts le (r.r_field_name a w n) = s_colon t.kind (λ h. r.r_type_wanted (r.for_field a w n h))
  s_step t ts le (r.r_memberwise a w) = s_init_word t.kind (λ h. r.r_member_read a (g.memberwise w h))
  s_step t ts le (r.r_function_word f hw) = s_name t.kind (λ text h. fun_named f hw h)
  s_step t ts le (r.r_function_name m) = s_function_name t.kind t refl m
  s_step t ts le (r.r_subscript_word {w = w} a hw) = s_subscript_word t.kind w t refl a hw
  s_step t ts le (r.r_generic_wanted i) = s_name t.kind (λ text h. r.r_generic_name i h)
  s_step t ts le (r.r_generic_name {n = n} i hn) = s_generic_name t.kind n t refl i hn
  s_step t ts le (r.r_bound_wanted i n c b) = s_name t.kind (λ text h. r.r_bound_listed i n c (with_bound b h))
  s_step t ts le (r.r_bound_listed {n = n} {c = c} i hn hc b) = s_bound_listed t.kind n c t refl i hn hc b
  s_step t ts le (r.r_params_wanted x) = s_left_paren t.kind (λ h. r.r_params_opened x h)
  s_step t ts le (r.r_params_opened {o = o} x ho) = s_params_opened t.kind o t refl x ho
  s_step t ts le (r.r_param_wanted i) = s_param t.kind t refl i
  s_step t ts le (r.r_param_first {n = n} i hn) = s_param_first t.kind n t refl i hn
  s_step t ts le (r.r_param_unlabelled i u) = s_name t.kind (λ text h. r.r_param_name i (g.no_label u h))
  s_step t ts le (r.r_param_name i n) = s_colon t.kind (λ h. r.r_param_colon i n h)
  s_step t ts le (r.r_param_colon {head = front} {c = c} i n hc) = s_mode (mode_in front.sort t.kind) t.kind c t refl refl i n hc
  s_step t ts le (r.r_param_read l) = s_param_read t.kind t refl l
  s_step t ts le (r.r_params_read {head = front} x) = s_params_read front.sort t refl le x
  s_step t ts le (r.r_effect_read x) = s_result t.kind t refl le x
  s_step t ts le (r.r_result_read {head = front} x) = s_body front.sort t.kind t refl le refl x
  s_step t ts le (r.r_body_wanted b) = s_left_brace all t.kind (λ h. r.r_block_opened (r.in_body b h))
  s_step t ts le (r.r_body_opened {o = o} a m ho) = s_body_opened t.kind o t refl a m ho
  s_step t ts le (r.r_body_word {o = o} {w = w} a m ho i e) = s_body_word t.kind o w t refl a m ho i e
  s_step t ts le (r.r_variants_read {o = o} a m ho v) = s_variants_read t.kind o t refl a m ho v
  s_step t ts le (r.r_set_word x s w) = s_left_paren t.kind (λ h. r.r_set_opened x s w h)
  s_step t ts le (r.r_set_opened x s w o) = s_name t.kind (λ text h. r.r_set_name x s w o h)
  s_step t ts le (r.r_set_name {head = front} x s w o n) = s_right_paren all t.kind (λ h. r.r_body_wanted (r.variant_at x (set_variant_word s w o n h)))
  s_step t ts le (r.r_block_opened p) = s_block_opened all t.kind t refl p
  s_step t ts le (r.r_stmt_wanted a) = s_statement all t.kind t refl a
  s_step t ts le (r.r_stmt_read p hs) = s_stmt_read all t.kind t ClosedEnd refl tt p hs
  s_step t ts le (r.r_binding_word a i) = s_name t.kind (λ text h. r.r_binding_name a i h)
  s_step t ts le (r.r_binding_name {w = w} {n = n} a i hn) = s_binding_name all t.kind w n t refl a i hn
  s_step t ts le (r.r_binding_type {introducer = introducer} {w = w} {n = n} {c = c} a i hn hc ht) =
      s_binding_type all t.kind introducer w n c t refl a i hn hc ht
  s_step t ts le (r.r_discard_word a w) = s_equal t.kind (λ h. r.r_operand (beginning_of all (r.for_discard a w h)))
  s_step t ts le (r.r_return_word {w = w} a hw) = s_return all t.kind w t refl a hw
  s_step t ts le (r.r_branch_read p b m) = s_branch_read all t.kind t refl p b m
  s_step t ts le (r.r_branch_else {e = x} p b m hx) = s_branch_else all t.kind x t refl p b m hx
  s_step t ts le (r.r_operand i) = s_operand all t.kind t refl i
  s_step t ts le (r.r_postfixed i x) = s_postfixed t.kind t refl i x
  s_step t ts le (r.r_dotted {d = d} i x hd) = s_dotted t.kind d t refl i x hd
  s_step t ts le (r.r_parts_opened {o = o} i ho) = s_parts_opened all t.kind o t refl i ho
  s_step t ts le (r.r_arguments_opened c) = s_arguments_opened all t.kind t refl c
  s_step t ts le (r.r_argument_wanted i) = s_argument all t.kind t refl i
  s_step t ts le (r.r_argument_name {n = n} i hn) = s_argument_name t.kind n t refl i hn
  s_step t ts le (r.r_array_word i a) = s_less t.kind (λ h. r.r_type_wanted (r.for_empty_array i a h))
  s_step t ts le (r.r_array_type i a l x) = s_greater t.kind (λ h. r.r_array_closed i a l x h)
  s_step t ts le (r.r_array_closed i a l x g') = s_left_paren t.kind (λ h. r.r_array_opened i a l x g' h)
  s_step t ts le (r.r_array_opened i a l x g' o) = s_right_paren all t.kind (λ h. r.r_postfixed i (e.no_step (e.empty_array a l x g' o h)))
  s_step t ts le (r.r_choice_read i c) = s_else_word t.kind (λ h. r.r_choice_else i c h)
  s_step t ts le (r.r_choice_else {e = x} i c hx) = s_choice_else t.kind x t refl i c hx
  s_step t ts le (r.r_type_wanted i) = s_type all t.kind t refl i
  s_step t ts le (r.r_array_type_word i a) = s_less t.kind (λ h. r.r_type_wanted (r.for_element_type i a h))
  s_step t ts le (r.r_array_type_element i a l x) = s_greater t.kind (λ h. typed_reads all i (y.array_type a l x h))
  s_step t ts le (r.r_types_opened {o = o} i ho) = s_types_opened all t.kind t o refl i ho
  s_step t ts le (r.r_types_read {o = o} i ho x) = s_types_read all t.kind t o refl i ho x

  -- WHOLE RUNS

  no_less : (n : ℕ) → n - length {A = Token} [] ≡ n
  no_less n = omega arith

  last_decl : {start : Start} {kind : T.DeclKind} {to : ℕ} {base old : List Token} → Starts all start base old → HasDeclKind old kind to []
      → HasDecl base (decl_of start kind (length all) to) to []
  last_decl {start = start} {kind = kind} {to = to} {base = base} s x =
      subst (λ n. HasDecl base (decl_of start kind n to) to []) (no_less (length all)) (decl_has s x)

  s_finish : (tree : T.Program) {s : State} → Reading all s [] → finish s (length all) ≡ Some tree → IsProgram all tree
  unfolding finish
  s_finish tree (r.r_file_ready d) h = let q : node.program _ _ ≡ tree = cc in subst (IsProgram all) q (g.program d)
  s_finish tree (r.r_decl_read (r.in_decls ds s) x) h = let q : node.program _ _ ≡ tree = cc in
      subst (IsProgram all) q (g.program (g.next_decl ds (last_decl s x)))
  s_finish tree _ h = let q : ⊥ = cc in absurd q

  accepts : (o : Option T.Program) (tree : T.Program) → accepted o ≡ Ok tree → o ≡ Some tree
  accepts None tree h = cc
  accepts (Some x) tree h = cc

  s_go : (o : Option State) (ts : List Token) (tree : T.Program) → ((s : State) → o ≡ Some s → run (length all) s ts ≡ Ok tree → IsProgram all tree)
      → go o (λ s. run (length all) s ts) (suc (length ts)) ≡ Ok tree → IsProgram all tree
  s_go None ts tree f h = let q : ⊥ = cc in absurd q
  s_go (Some s) ts tree f h = f s refl h

  shorter : (t : Token) (ts : List Token) → length (t ∷ ts) ≤ length all → length ts ≤ length all
  shorter t ts h = let q : length ts ≤ length (t ∷ ts) = omega arith in omega (arith, h, q)

  s_run : (ts : List Token) (s : State) (tree : T.Program) → length ts ≤ length all → Reading all s ts → run (length all) s ts ≡ Ok tree → IsProgram all tree
  unfolding run
  s_run [] s tree le r h = s_finish tree r (accepts (finish s (length all)) tree h)
  s_run (t ∷ ts) s tree le r h =
      s_go (step s t (length all - suc (length ts))) ts tree (λ s' e g. s_run ts s' tree (shorter t ts le) (s_step t ts le r s' e) g) h

-- what is accepted, the grammar has
pub sound : (tokens : List Token) (tree : T.Program) → run (length tokens) start tokens ≡ Ok tree → IsProgram tokens tree
sound tokens tree h = s_run tokens tokens start tree (omega arith) (r.r_file_ready g.no_decl) h
