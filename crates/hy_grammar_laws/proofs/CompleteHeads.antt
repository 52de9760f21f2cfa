-- What the grammar has the machine goes over: functions and subscripts.
use Rattle.std.proofs.Common.{◌≡◌, ℕ, Bool, true, false, Option, Some, None, List, [], ◌∷◌, ◌++◌, refl, sym, ap, subst, ◌∙◌}
use Rattle.hy_base.specs.declared.position.Span.{Span}
use Rattle.hy_lexer.specs.declared.token.Token.{Token}
use Rattle.hy_lexer.specs.declared.token.TokenKind.{TokenKind}
use Rattle.hy_lexer.specs.declared.token.TokenKind.TheVariants as k
use Rattle.hy_tree.specs.Tree as T
use Rattle.hy_tree.specs.declared.declaration.Label.{Label}
use Rattle.hy_tree.specs.declared.declaration.Label.TheVariants as label
use Rattle.hy_tree.specs.declared.declaration.TypeParam.{TypeParam}
use Rattle.hy_tree.specs.declared.name.Name.{Name}
use Rattle.hy_tree.specs.declared.name.NameUse.{NameUse}
use Rattle.hy_tree.specs.declared.operator.Introducer.{Introducer}
use Rattle.hy_tree.specs.declared.operator.Mode.{Mode}
use Rattle.hy_tree.specs.declared.operator.Mode.TheVariants as mode
use Rattle.hy_grammar.specs.Kinds.{Ending, Is, introducer_of, effect_of}
use Rattle.hy_grammar.specs.Nodes as node
use Rattle.hy_grammar.specs.OperandSteps.{}
use Rattle.hy_grammar.specs.TypeSteps.{with_param}
use Rattle.hy_grammar.specs.StmtSteps.{plain_mode, callable_of, called_in, bodied, at_block_opened}
use Rattle.hy_grammar.specs.DeclSteps.{with_generic, at_param, at_params_opened, mode_in, at_mode, at_body, at_result, at_body_opened}
use Rattle.hy_grammar.specs.Machine.{step, finish, start}
use Rattle.hy_grammar.specs.StmtGrammar as s
use Rattle.hy_grammar.specs.StmtGrammar.{HasStmt, HasBranches, HasStmts, HasBlock}
use Rattle.hy_grammar.specs.Grammar as g
use Rattle.hy_grammar.specs.Grammar.{HasBounds, HasGeneric, HasSomeGenerics, HasGenerics, HasParamName, HasMode, HasParam, HasSomeParams, HasParams}
use Rattle.hy_grammar.specs.Grammar.{HasEffect, HasResult, HasVariant, HasVariants, MayVary, HasBody, HasFunction, HasSubscriptName, HasSubscript}
use Rattle.hy_grammar.specs.Stack.{Start, Home, Sort, Head, State, InFile, InOwner, FileFunction, Method, Requirement, Subscript, Deinit, PlainBody}
use Rattle.hy_grammar.specs.Stack.{VariantBody, InBody, ForParam, DeclRead, MemberRead, FunctionName, GenericWanted, GenericName, BoundWanted, BoundListed}
use Rattle.hy_grammar.specs.Stack.{ParamsWanted, ParamsOpened, ParamWanted, ParamFirst, ParamUnlabelled, ParamName, ParamColon, ParamRead, ParamsRead}
use Rattle.hy_grammar.specs.Stack.{BodyWanted, BodyWord, VariantsRead, BlockOpened, TypeWanted}
use Rattle.hy_grammar_laws.proofs.Reading.{head}
use Rattle.hy_grammar_laws.proofs.Ends.{Goes, thens, eats, alike, begins, on_begins, starts_operand, begins_expr, starts_type, begins_type}
use Rattle.hy_grammar_laws.proofs.Complete.{c_type}
use Rattle.hy_grammar_laws.proofs.CompleteStmts.{BlockAt}

-- TOKENS BEHIND HEADS

abbrev pub NoEffect : Token → Type 0
NoEffect t = effect_of t.kind ≡ None

abbrev pub is_arrow : TokenKind → Bool
is_arrow k.Arrow = true
is_arrow _ = false

abbrev pub NoArrow : Token → Type 0
NoArrow t = is_arrow t.kind ≡ false

pub arrow_kind : (kind : TokenKind) (t : Token) (n : ℕ) (front : Head) (to : ℕ) → is_arrow kind ≡ false
    → at_result kind t n front to ≡ at_body front.sort kind t n front to
arrow_kind k.Arrow t n front to h = cc
arrow_kind _ t n front to h = refl

-- a state at which parameters are opened
pub record ParenStart (s : State) (front : Head) : Type 0 where
  pub opens : (o : Token) (n : ℕ) → Is o k.LeftParen → step s o n ≡ Some (ParamsOpened front)

abbrev starts_param : TokenKind → Bool
starts_param (k.Name text) = true
starts_param k.Underscore = true
starts_param _ = false

begins_name : {from : ℕ} {label : Label} {name : Name} {old new : List Token} → HasParamName old from label name new → begins starts_param old ≡ true
begins_name (g.two_names l n) = ap starts_param l
begins_name (g.no_label u n) = ap starts_param u
begins_name (g.one_name n) = ap starts_param n

begins_param : {sort : Sort} {p : T.Param} {old new : List Token} → HasParam sort old p new → begins starts_param old ≡ true
begins_param (g.param n c m t) = begins_name n

begins_params : {sort : Sort} {params : List T.Param} {old new : List Token} → HasSomeParams sort old params new → begins starts_param old ≡ true
begins_params (g.one_param p) = begins_param p
begins_params (g.more_params h c p) = begins_params h

opened_param : (kind : TokenKind) (t : Span) (front : Head) → starts_param kind ≡ true → at_params_opened kind t front ≡ at_param kind t front
opened_param k.RightParen t front h = cc
opened_param _ t front h = refl

type_mode : (kind : TokenKind) (sort : Sort) → starts_type kind ≡ true → mode_in sort kind ≡ None
type_mode k.Let sort h = cc
type_mode k.Inout sort h = cc
type_mode k.Sink sort h = cc
type_mode k.Set sort h = cc
type_mode k.Yielded sort h = cc
type_mode _ FileFunction h = refl
type_mode _ Method h = refl
type_mode _ Requirement h = refl
type_mode _ Subscript h = refl
type_mode _ Deinit h = refl

-- A plain body begins with no word of a variant.
abbrev pub binds : TokenKind → Bool
binds k.Let = true
binds k.Inout = true
binds _ = false

abbrev pub varies : TokenKind → Bool
varies k.Sink = true
varies k.Set = true
varies _ = false

abbrev pub names : TokenKind → Bool
names (k.Name text) = true
names _ = false

pub record PlainFirst (t : Token) (ts : List Token) : Type 0 where
  pub named : binds t.kind ≡ true → begins names ts ≡ true
  pub no_variant : varies t.kind ≡ false

abbrev pub PlainStart : List Token → Type 0
PlainStart [] = Unit {0}
PlainStart (t ∷ ts) = PlainFirst t ts

other_first : (kind : TokenKind) (t : Token) (ts : List Token) → t.kind ≡ kind → binds kind ≡ false → varies kind ≡ false → PlainFirst t ts
other_first kind t ts h a b = record { named = λ q. let w : ⊥ = cc in absurd w; no_variant = ap varies h ∙ b }

operand_binds : (kind : TokenKind) → starts_operand kind ≡ true → binds kind ≡ false
operand_binds k.Let h = cc
operand_binds k.Inout h = cc
operand_binds _ h = refl

operand_varies : (kind : TokenKind) → starts_operand kind ≡ true → varies kind ≡ false
operand_varies k.Sink h = cc
operand_varies k.Set h = cc
operand_varies _ h = refl

operand_first : (t : Token) (ts : List Token) → starts_operand t.kind ≡ true → PlainFirst t ts
operand_first t ts h = other_first t.kind t ts refl (operand_binds t.kind h) (operand_varies t.kind h)

introduced_varies : (kind : TokenKind) (introducer : Introducer) → introducer_of kind ≡ Some introducer → varies kind ≡ false
introduced_varies k.Sink introducer h = cc
introduced_varies k.Set introducer h = cc
introduced_varies _ introducer h = refl

plain_branches : {loop : Bool} {from to : ℕ} {branches : List T.Branch} {old new : List Token} → HasBranches loop old from branches to new → PlainStart old
plain_branches (s.first_branch {i = i} {old = old} h x b) = other_first k.If i old h refl refl
plain_branches (s.next_branch y e i x b) = plain_branches y

plain_stmt : {loop : Bool} {it : T.Stmt} {ending : Ending} {old new : List Token} → HasStmt loop old it ending new → PlainStart old
plain_stmt (s.binding {w = w} {introducer = introducer} h n a q x) = record { named = λ q. ap names n; no_variant = introduced_varies w.kind introducer h }
plain_stmt (s.declare {w = w} h n c t) = other_first k.Var w _ h refl refl
plain_stmt (s.assign {t = t} {old = old} x i q v) = operand_first t old (begins_expr x)
plain_stmt (s.discard {w = w} h q x) = other_first k.Underscore w _ h refl refl
plain_stmt (s.compound {t = t} {old = old} x i q v) = operand_first t old (begins_expr x)
plain_stmt (s.evaluate {t = t} {old = old} x i) = operand_first t old (begins_expr x)
plain_stmt (s.if_only x) = plain_branches x
plain_stmt (s.if_block x e b) = plain_branches x
plain_stmt (s.while {w = w} h x b) = other_first k.While w _ h refl refl
plain_stmt (s.return_nothing {w = w} h) = other_first k.Return w _ h refl refl
plain_stmt (s.return_value {w = w} h f x) = other_first k.Return w _ h refl refl
plain_stmt (s.leave {w = w} h) = other_first k.Break w _ h refl refl
plain_stmt (s.proceed {w = w} h) = other_first k.Continue w _ h refl refl
plain_stmt (s.yield_value {w = w} h x) = other_first k.Yield w _ h refl refl

plain_stmts : {loop : Bool} {ss : List T.Stmt} {ending : Ending} {old new : List Token} → HasStmts loop old ss ending new → PlainStart old
plain_stmts (s.one_stmt x) = plain_stmt x
plain_stmts (s.behind_semicolon y h x) = plain_stmts y
plain_stmts (s.on_next_line y b x) = plain_stmts y

-- after the brace of a block
abbrev pub Inner : List Token → Type 0
Inner [] = Unit {0}
Inner (o ∷ ts) = PlainStart ts

pub plain_block : {loop : Bool} {b : T.Block} {old new : List Token} → HasBlock loop old b new → Inner old
plain_block (s.no_stmts {o = o} {c = c} h hc) = other_first k.RightBrace c _ hc refl refl
plain_block (s.some_stmts h x c) = plain_stmts x

pub plain_kind : (kind : TokenKind) (t : Token) (front : Head) (brace : Span) → binds kind ≡ false → varies kind ≡ false
    → at_body_opened kind t front brace ≡ at_block_opened kind t (InBody (PlainBody front) brace)
plain_kind k.Let t front brace h g = cc
plain_kind k.Inout t front brace h g = cc
plain_kind k.Sink t front brace h g = cc
plain_kind k.Set t front brace h g = cc
plain_kind _ t front brace h g = refl

-- after something callable
abbrev pub callable_state : Home → Start → T.Callable → ℕ → State
callable_state (InFile decls) start c to = DeclRead decls start (T.DeclCallable c) to
callable_state (InOwner owner members) start c to = MemberRead owner members start (T.MemberCallable c) to

pub called_state : (home : Home) (front : Head) (variants : List T.Variant) (to : ℕ)
    → called_in home front variants to ≡ callable_state home front.start (callable_of front variants to) to
called_state (InFile decls) front variants to = refl
called_state (InOwner owner members) front variants to = refl

bodied_state : (front : Head) (b : T.Block)
    → bodied b (PlainBody front) ≡ callable_state front.home front.start
    (callable_of front (node.plain_variant (plain_mode front.sort front.effect) b ∷ []) (node.block_to b)) (node.block_to b)
bodied_state front b = called_state front.home front _ (node.block_to b)

abbrev pub plain_state : Head → T.Block → State
plain_state front b =
    callable_state front.home front.start (callable_of front (node.plain_variant (plain_mode front.sort front.effect) b ∷ []) (node.block_to b))
    (node.block_to b)

-- a body whose braces hold statements at once
pub plain_at : (s : State) (front : Head) → ((o : Token) (n : ℕ) → Is o k.LeftBrace → step s o n ≡ Some (BlockOpened (InBody (PlainBody front) o.span)))
    → BlockAt s false (λ span. InBody (PlainBody front) span) (plain_state front)
plain_at s front f = record { opens = f; brace = λ span. refl; looped = λ span. refl; behind = λ b span. bodied_state front b }

pub wanted_block : (head : Head) (brace : Span) (variants : List T.Variant) (word : Span) (mode : Mode) (value : Option Name)
    → BlockAt (BodyWanted (VariantBody head brace variants word mode value)) false (λ span. InBody (VariantBody head brace variants word mode value) span)
    (λ b. VariantsRead head brace (variants ++ node.variant mode word value b ∷ []))
unfolding step
wanted_block head brace variants word mode value = record {
  opens = λ o n h. rw (h, step) refl;
  brace = λ span. refl;
  looped = λ span. refl;
  behind =
      λ b span. refl;
}

pub word_block : (head : Head) (brace : Span) (introducer : Introducer) (mode : Mode) (word : Span)
    → BlockAt (BodyWord head brace introducer mode word) false (λ span. InBody (VariantBody head brace [] word mode None) span)
    (λ b. VariantsRead head brace ([] ++ node.variant mode word None b ∷ []))
unfolding step
word_block head brace introducer mode word = record {
  opens = λ o n h. rw (h, step) refl;
  brace = λ span. refl;
  looped = λ span. refl;
  behind = λ b span. refl;
}

pub function_paren : (front : Head) → ParenStart (FunctionName front) front
unfolding step
function_paren front = record { opens = λ o n h. rw (h, step) refl }

pub wanted_paren : (front : Head) → ParenStart (ParamsWanted front) front
unfolding step
wanted_paren front = record { opens = λ o n h. rw (h, step) refl }

module _ {total : ℕ} where
  -- TYPE PARAMETERS

  pub generics_less : {t : Token} {ts : List Token} (home : Home) (start : Start) (sort : Sort) (keyword : Span) (name : Option Name) → Is t k.Less
      → (sort ≡ Requirement → ⊥)
      → Goes total (FunctionName (head home start sort keyword name [] [] None None)) (t ∷ ts)
      (GenericWanted (head home start sort keyword name [] [] None None)) ts
  unfolding step
  generics_less home start FileFunction keyword name h r = eats (rw (h, step) refl)
  generics_less home start Method keyword name h r = eats (rw (h, step) refl)
  generics_less home start Requirement keyword name h r = absurd (r refl)
  generics_less home start Subscript keyword name h r = eats (rw (h, step) refl)
  generics_less home start Deinit keyword name h r = eats (rw (h, step) refl)

  generic_name : {t : Token} {text : List ℕ} {ts : List Token} {front : Head} → Is t (k.Name text)
      → Goes total (GenericWanted front) (t ∷ ts) (GenericName front (node.spelled text t.span)) ts
  unfolding step
  generic_name h = eats (rw (h, step) refl)

  generic_colon : {t : Token} {ts : List Token} {front : Head} {name : Name} → Is t k.Colon
      → Goes total (GenericName front name) (t ∷ ts) (BoundWanted front name []) ts
  unfolding step
  generic_colon h = eats (rw (h, step) refl)

  generic_comma : {t : Token} {ts : List Token} {front : Head} {name : Name} → Is t k.Comma
      → Goes total (GenericName front name) (t ∷ ts) (GenericWanted (with_generic front name [])) ts
  unfolding step
  generic_comma h = eats (rw (h, step) refl)

  generic_close : {t : Token} {ts : List Token} {front : Head} {name : Name} → Is t k.Greater
      → Goes total (GenericName front name) (t ∷ ts) (ParamsWanted (with_generic front name [])) ts
  unfolding step
  generic_close h = eats (rw (h, step) refl)

  bound_name : {t : Token} {text : List ℕ} {ts : List Token} {front : Head} {name : Name} {bounds : List NameUse} → Is t (k.Name text)
      → Goes total (BoundWanted front name bounds) (t ∷ ts) (BoundListed front name (bounds ++ node.used text t.span ∷ [])) ts
  unfolding step
  bound_name h = eats (rw (h, step) refl)

  bound_and : {t : Token} {ts : List Token} {front : Head} {name : Name} {bounds : List NameUse} → Is t k.Ampersand
      → Goes total (BoundListed front name bounds) (t ∷ ts) (BoundWanted front name bounds) ts
  unfolding step
  bound_and h = eats (rw (h, step) refl)

  bounds_comma : {t : Token} {ts : List Token} {front : Head} {name : Name} {bounds : List NameUse} → Is t k.Comma
      → Goes total (BoundListed front name bounds) (t ∷ ts) (GenericWanted (with_generic front name bounds)) ts
  unfolding step
  bounds_comma h = eats (rw (h, step) refl)

  bounds_close : {t : Token} {ts : List Token} {front : Head} {name : Name} {bounds : List NameUse} → Is t k.Greater
      → Goes total (BoundListed front name bounds) (t ∷ ts) (ParamsWanted (with_generic front name bounds)) ts
  unfolding step
  bounds_close h = eats (rw (h, step) refl)

  c_bounds : {bounds : List NameUse} {old new : List Token} → HasBounds old bounds new → (front : Head) (name : Name)
      → Goes total (BoundWanted front name []) old (BoundListed front name bounds) new
  c_bounds (g.one_bound n) front name = bound_name n
  c_bounds (g.more_bounds h a n) front name = thens (c_bounds h front name) (thens (bound_and a) (bound_name n))

  c_generic_comma : {p : TypeParam} {c : Token} {old mid ts : List Token} → HasGeneric old p mid → mid ≡ c ∷ ts → Is c k.Comma → (front : Head)
      → Goes total (GenericWanted front) old (GenericWanted (record front { generics = front.generics ++ p ∷ [] })) ts
  c_generic_comma {c = c} {ts = ts} (g.without_bound {n = n} {text = text} hn) q h front =
      thens (generic_name hn)
      (subst (λ z. Goes total (GenericName front (node.spelled text n.span)) z (GenericWanted (with_generic front (node.spelled text n.span) [])) ts)
      (sym q) (generic_comma h))
  c_generic_comma {c = c} {ts = ts} (g.with_bounds {n = n} {text = text} {bounds = bounds} hn hc b) q h front =
      thens (generic_name hn) (thens (generic_colon hc) (thens (c_bounds b front _)
      (subst (λ z. Goes total (BoundListed front (node.spelled text n.span) bounds) z (GenericWanted (with_generic front (node.spelled text n.span) bounds))
      ts) (sym q) (bounds_comma h))))

  c_generic_close : {p : TypeParam} {c : Token} {old mid ts : List Token} → HasGeneric old p mid → mid ≡ c ∷ ts → Is c k.Greater → (front : Head)
      → Goes total (GenericWanted front) old (ParamsWanted (record front { generics = front.generics ++ p ∷ [] })) ts
  c_generic_close {c = c} {ts = ts} (g.without_bound {n = n} {text = text} hn) q h front =
      thens (generic_name hn)
      (subst (λ z. Goes total (GenericName front (node.spelled text n.span)) z (ParamsWanted (with_generic front (node.spelled text n.span) [])) ts) (sym q)
      (generic_close h))
  c_generic_close {c = c} {ts = ts} (g.with_bounds {n = n} {text = text} {bounds = bounds} hn hc b) q h front =
      thens (generic_name hn) (thens (generic_colon hc) (thens (c_bounds b front _)
      (subst (λ z. Goes total (BoundListed front (node.spelled text n.span) bounds) z (ParamsWanted (with_generic front (node.spelled text n.span) bounds))
      ts) (sym q) (bounds_close h))))

  module _ (home : Home) (start : Start) (sort : Sort) (keyword : Span) (name : Option Name) where
    -- type parameters with a `,` after them
    c_generics_comma : {params : List TypeParam} {c : Token} {old mid ts : List Token} → HasSomeGenerics old params mid → mid ≡ c ∷ ts → Is c k.Comma
        → Goes total (GenericWanted (head home start sort keyword name [] [] None None)) old
        (GenericWanted (head home start sort keyword name params [] None None)) ts
    c_generics_comma (g.one_generic p) q h = c_generic_comma p q h (head home start sort keyword name [] [] None None)
    c_generics_comma (g.more_generics {generics = generics} y hc p) q h =
        thens (c_generics_comma y refl hc) (c_generic_comma p q h (head home start sort keyword name generics [] None None))

    pub c_generics_close : {params : List TypeParam} {c : Token} {old mid ts : List Token} → HasSomeGenerics old params mid → mid ≡ c ∷ ts → Is c k.Greater
        → Goes total (GenericWanted (head home start sort keyword name [] [] None None)) old
        (ParamsWanted (head home start sort keyword name params [] None None)) ts
    c_generics_close (g.one_generic p) q h = c_generic_close p q h (head home start sort keyword name [] [] None None)
    c_generics_close (g.more_generics {generics = generics} y hc p) q h =
        thens (c_generics_comma y refl hc) (c_generic_close p q h (head home start sort keyword name generics [] None None))

    -- PARAMETERS

    param_name : {t : Token} {text : List ℕ} {ts : List Token} {front : Head} → Is t (k.Name text)
        → Goes total (ParamWanted front) (t ∷ ts) (ParamFirst front (node.spelled text t.span)) ts
    unfolding step
    param_name h = eats (rw (h, step) refl)

    param_underscore : {t : Token} {ts : List Token} {front : Head} → Is t k.Underscore
        → Goes total (ParamWanted front) (t ∷ ts) (ParamUnlabelled front t.span.from) ts
    unfolding step
    param_underscore h = eats (rw (h, step) refl)

    unlabelled_name : {t : Token} {text : List ℕ} {ts : List Token} {front : Head} {from : ℕ} → Is t (k.Name text)
        → Goes total (ParamUnlabelled front from) (t ∷ ts) (ParamName front from label.Nothing (node.spelled text t.span)) ts
    unfolding step
    unlabelled_name h = eats (rw (h, step) refl)

    second_name : {t : Token} {text : List ℕ} {ts : List Token} {front : Head} {first : Name} → Is t (k.Name text)
        → Goes total (ParamFirst front first) (t ∷ ts) (ParamName front first.span.from (label.Text first.text) (node.spelled text t.span)) ts
    unfolding step
    second_name h = eats (rw (h, step) refl)

    first_colon : {t : Token} {ts : List Token} {front : Head} {first : Name} → Is t k.Colon
        → Goes total (ParamFirst front first) (t ∷ ts) (ParamColon front first.span.from label.Same first) ts
    unfolding step
    first_colon h = eats (rw (h, step) refl)

    name_colon : {t : Token} {ts : List Token} {front : Head} {from : ℕ} {label : Label} {name : Name} → Is t k.Colon
        → Goes total (ParamName front from label name) (t ∷ ts) (ParamColon front from label name) ts
    unfolding step
    name_colon h = eats (rw (h, step) refl)

    c_param_name : {from : ℕ} {label : Label} {name : Name} {c : Token} {old mid ts : List Token} → HasParamName old from label name mid → mid ≡ c ∷ ts
        → Is c k.Colon → (front : Head) → Goes total (ParamWanted front) old (ParamColon front from label name) ts
    c_param_name {ts = ts} (g.two_names {l = l} {n = n} {word = word} {text = text} hl hn) q h front = thens (param_name hl) (thens (second_name hn)
        (subst (λ z. Goes total (ParamName front l.span.from (label.Text word) (node.spelled text n.span)) z
        (ParamColon front l.span.from (label.Text word) (node.spelled text n.span)) ts) (sym q) (name_colon h)))
    c_param_name {ts = ts} (g.no_label {u = u} {n = n} {text = text} hu hn) q h front = thens (param_underscore hu) (thens (unlabelled_name hn)
        (subst (λ z. Goes total (ParamName front u.span.from label.Nothing (node.spelled text n.span)) z
        (ParamColon front u.span.from label.Nothing (node.spelled text n.span)) ts) (sym q) (name_colon h)))
    c_param_name {ts = ts} (g.one_name {n = n} {text = text} hn) q h front = thens (param_name hn)
        (subst (λ z. Goes total (ParamFirst front (node.spelled text n.span)) z (ParamColon front n.span.from label.Same (node.spelled text n.span)) ts)
        (sym q) (first_colon h))

    param_mode : {t : Token} {ts : List Token} {mode : Mode} (front : Head) (from : ℕ) (label : Label) (name : Name) → mode_in front.sort t.kind ≡ Some mode
        → Goes total (ParamColon front from label name) (t ∷ ts) (TypeWanted (ForParam front from label name mode)) ts
    unfolding step
    param_mode {t = t} front from label name h = eats (ap (λ m. at_mode m t.kind t.span front from label name) h)

    param_type : (ts : List Token) (front : Head) (from : ℕ) (label : Label) (name : Name) → begins starts_type ts ≡ true
        → Goes total (ParamColon front from label name) ts (TypeWanted (ForParam front from label name mode.Let)) ts
    unfolding step finish
    param_type ts front from label name h =
        alike refl (on_begins starts_type _ (λ t h n. ap (λ m. at_mode m t.kind t.span front from label name) (type_mode t.kind front.sort h)) ts h)

    c_mode : {mode : Mode} {old new : List Token} → (front : Head) → HasMode front.sort old mode new → begins starts_type new ≡ true
        → (from : ℕ) (label : Label) (name : Name)
        → Goes total (ParamColon front from label name) old (TypeWanted (ForParam front from label name mode)) new
    c_mode front (g.no_mode {old = old}) b from label name = param_type old front from label name b
    c_mode front (g.a_mode h) b from label name = param_mode front from label name h

    c_param : {p : T.Param} {old new : List Token} → (front : Head) → HasParam front.sort old p new
        → Goes total (ParamWanted front) old (ParamRead (with_param front p)) new
    c_param front (g.param n c m t) = thens (c_param_name n refl c front) (thens (c_mode front m (begins_type t) _ _ _) (c_type t _))

    param_comma : {t : Token} {ts : List Token} {front : Head} → Is t k.Comma → Goes total (ParamRead front) (t ∷ ts) (ParamWanted front) ts
    unfolding step
    param_comma h = eats (rw (h, step) refl)

    param_close : {t : Token} {ts : List Token} {front : Head} → Is t k.RightParen → Goes total (ParamRead front) (t ∷ ts) (ParamsRead front t.span.to) ts
    unfolding step
    param_close h = eats (rw (h, step) refl)

    no_params_close : {t : Token} {ts : List Token} {front : Head} → Is t k.RightParen
        → Goes total (ParamsOpened front) (t ∷ ts) (ParamsRead front t.span.to) ts
    unfolding step
    no_params_close h = eats (rw (h, step) refl)

    first_param : (ts : List Token) (front : Head) → begins starts_param ts ≡ true → Goes total (ParamsOpened front) ts (ParamWanted front) ts
    unfolding step finish
    first_param ts front h = alike refl (on_begins starts_param _ (λ t h n. opened_param t.kind t.span front h) ts h)

    c_some_params : {params : List T.Param} {old new : List Token} (generics : List TypeParam) → HasSomeParams sort old params new
        → Goes total (ParamWanted (head home start sort keyword name generics [] None None)) old
        (ParamRead (head home start sort keyword name generics params None None)) new
    c_some_params generics (g.one_param p) = c_param (head home start sort keyword name generics [] None None) p
    c_some_params generics (g.more_params {params = params} h c p) =
        thens (c_some_params generics h) (thens (param_comma c) (c_param (head home start sort keyword name generics params None None) p))

    pub c_params : {params : List T.Param} {close : ℕ} {old new : List Token} (s : State) (generics : List TypeParam)
        → ParenStart s (head home start sort keyword name generics [] None None) → HasParams sort old params close new
        → Goes total s old (ParamsRead (head home start sort keyword name generics params None None) close) new
    c_params s generics x (g.no_params {o = o} h c) = thens (eats (x.opens o _ h)) (no_params_close c)
    c_params s generics x (g.params {o = o} {old = old} h p c) =
        thens (eats (x.opens o _ h)) (thens (first_param old (head home start sort keyword name generics [] None None) (begins_params p))
        (thens (c_some_params generics p) (param_close c)))
