-- Which token leads from which state of a statement to which, and what goes on alike.
use Rattle.std.proofs.Common.{◌≡◌, ◌+◌, ℕ, Bool, true, false, Option, Some, None, List, [], ◌∷◌, ◌++◌, if◌then◌else◌, refl, sym, ap, subst, ◌∙◌, arith}
use Rattle.hy_base.specs.declared.position.Span.{Span}
use Rattle.hy_lexer.specs.declared.token.Token.{Token}
use Rattle.hy_lexer.specs.declared.token.TokenKind.{TokenKind}
use Rattle.hy_lexer.specs.declared.token.TokenKind.TheVariants as k
use Rattle.hy_tree.specs.Tree as T
use Rattle.hy_tree.specs.declared.name.Name.{Name}
use Rattle.hy_tree.specs.declared.operator.Arithmetic.{Arithmetic}
use Rattle.hy_tree.specs.declared.operator.Introducer.{Introducer}
use Rattle.hy_tree.specs.declared.operator.Introducer.TheVariants as introducer
use Rattle.hy_grammar.specs.Kinds.{compound_of}
use Rattle.hy_grammar.specs.Machine.{step, finish}
use Rattle.hy_grammar.specs.Nodes as node
use Rattle.hy_grammar.specs.OperandSteps.{beginning, at_operand}
use Rattle.hy_grammar.specs.ExprSteps.{at_target, at_compound}
use Rattle.hy_grammar.specs.Stack.{Place, State, StmtWanted, StmtRead, BindingWord, BindingName, BindingType, DiscardWord, ReturnWord, BranchRead}
use Rattle.hy_grammar.specs.Stack.{BranchElse, Operand, Valued, TypeWanted, ForTarget, ForBinding, ForAssigned, ForCompound, ForDiscard, ForReturn}
use Rattle.hy_grammar.specs.Stack.{ForYield, ForBranch, ForLoop, ForVariable, depth, depth_place, in_loop}
use Rattle.hy_grammar.specs.StmtSteps.{at_statement, at_stmt_read, at_binding_name, at_binding_type, at_declared, at_return, at_branch_read}
use Rattle.hy_statements.specs.StatementWords.{word_of, TakesWord, LacksWord, TakesCompound, LacksCompound, begins_line, ends_before, ends_here}
use Rattle.hy_phrases.specs.Wanted.{Sees, Takes, TakesName, LacksName}
use Rattle.hy_statements.specs.declared.statement_words.StmtWord.{StmtWord}
use Rattle.hy_statements.specs.declared.statement_words.StmtWord.TheVariants as word
use Rattle.hy_phrases.proofs.WantedKinds.{no_equal, no_text}
use Rattle.hy_statements.proofs.StatementWalks.{Over, Alike, Stuck, leads, alike, stuck, other_kind}

no_more : (n : ℕ) → n + 0 ≡ n
no_more n = omega arith

-- ---- a statement begins

-- after the word that begins a statement
abbrev pub at_word : StmtWord → Span → List T.Stmt → Place → State
at_word (word.Bind i) t before place = BindingWord i t before place
at_word word.Discard t before place = DiscardWord t before place
at_word word.If t before place = Operand (beginning (ForBranch t.from [] t before place))
at_word word.While t before place = Operand (beginning (ForLoop t before place))
at_word word.Return t before place = ReturnWord t before place
at_word word.Break t before place = StmtRead (before ++ node.leave t ∷ []) place
at_word word.Continue t before place = StmtRead (before ++ node.proceed t ∷ []) place
at_word word.Yield t before place = Operand (beginning (ForYield t before place))

abbrev begun : Option StmtWord → TokenKind → Span → List T.Stmt → Place → Option State
begun (Some which) kind t before place = Some (at_word which t before place)
begun None kind t before place = at_operand kind t (beginning (ForTarget before place))

module _ (before : List T.Stmt) (place : Place) where
  by_word : (looping : Bool) (kind : TokenKind) (t : Token) → in_loop place ≡ looping
      → at_statement kind t before place ≡ begun (word_of looping kind) kind t.span before place
  by_word looping k.Var t h = refl
  by_word looping k.Let t h = refl
  by_word looping k.Inout t h = refl
  by_word looping k.Underscore t h = refl
  by_word looping k.If t h = refl
  by_word looping k.While t h = refl
  by_word looping k.Return t h = refl
  by_word true k.Break t h = rw h refl
  by_word false k.Break t h = rw h refl
  by_word true k.Continue t h = rw h refl
  by_word false k.Continue t h = rw h refl
  by_word looping k.Yield t h = refl
  by_word looping _ t h = refl

  level_word : (which : StmtWord) (t : Span) → depth (at_word which t before place) ≡ depth_place place
  level_word (word.Bind i) t = refl
  level_word word.Discard t = refl
  level_word word.If t = no_more (depth_place place)
  level_word word.While t = no_more (depth_place place)
  level_word word.Return t = refl
  level_word word.Break t = refl
  level_word word.Continue t = refl
  level_word word.Yield t = no_more (depth_place place)

  pub to_word : {looping : Bool} {old new : List Token} {which : StmtWord} {span : Span} (chosen : StmtWord) → which ≡ chosen → in_loop place ≡ looping
      → TakesWord looping old which span new → Over (StmtWanted before place) old (at_word chosen span before place) new
  unfolding step
  to_word {looping = looping} {which = which} {span = span} chosen is h w = record {
    token = w.token;
    front = w.front;
    moves = λ n. by_word looping w.token.kind w.token h ∙ ap (λ o. begun o w.token.kind w.token.span before place) (w.is ∙ ap Some is)
        ∙ ap (λ t. Some (at_word chosen t before place)) w.stands;
    level = level_word chosen span;
  }

  -- every other token goes on as at the beginning of an expression
  pub to_target : {looping : Bool} (old : List Token) → in_loop place ≡ looping → LacksWord looping old
      → Alike (StmtWanted before place) old (Operand (beginning (ForTarget before place)))
  unfolding step finish
  to_target {looping = looping} old h lacks = alike _ _ old (no_more (depth_place place)) (λ total. refl)
      (λ t ts e n. let w : LacksWord looping (t ∷ ts) = subst (LacksWord looping) e lacks in by_word looping t.kind t h
      ∙ ap (λ o. begun o t.kind t.span before place) w)

  -- ---- after a statement

  pub to_semicolon : {old new : List Token} {span : Span} → Takes k.Semicolon old span new → Over (StmtRead before place) old (StmtWanted before place) new
  unfolding step
  to_semicolon w = leads w (λ n. rw (w.is, step) refl) refl

  next_line : (kind : TokenKind) (t : Token) → (kind ≡ k.Semicolon → ⊥) → (kind ≡ k.RightBrace → ⊥)
      → at_stmt_read kind t before place ≡ (if t.first then at_statement kind t before place else None)
  next_line k.Semicolon t h g = absurd (h refl)
  next_line k.RightBrace t h g = absurd (g refl)
  next_line _ t h g = refl

  module _ (old : List Token) (no_semicolon : Sees k.Semicolon old → ⊥) (no_brace : Sees k.RightBrace old → ⊥) where
    pub on_next_line : begins_line old ≡ true → Alike (StmtRead before place) old (StmtWanted before place)
    unfolding step finish
    on_next_line h = alike _ _ old refl (λ total. refl)
        (λ t ts e n. let first : t.first ≡ true = sym (ap begins_line e) ∙ h in
        next_line t.kind t (other_kind _ old no_semicolon t ts e) (other_kind _ old no_brace t ts e) ∙ rw first refl)

    pub on_same_line : begins_line old ≡ false → Stuck (StmtRead before place) old
    unfolding step finish
    on_same_line h = stuck _ old (λ total. refl)
        (λ t ts e n. let first : t.first ≡ false = sym (ap begins_line e) ∙ h in
        next_line t.kind t (other_kind _ old no_semicolon t ts e) (other_kind _ old no_brace t ts e) ∙ rw first refl)

  -- ---- bindings

  module _ (i : Introducer) (word : Span) where
    pub to_name : {old new : List Token} {name : Name} → TakesName old name new
        → Over (BindingWord i word before place) old (BindingName i word name before place) new
    unfolding step
    to_name w = record { token = w.token; front = w.front; moves = λ n. rw (w.is, w.stands, step) refl; level = refl }

    pub no_name : (old : List Token) → LacksName old → Stuck (BindingWord i word before place) old
    unfolding step finish
    no_name old h =
        stuck _ old (λ total. refl) (λ t ts e n. no_text t.kind (λ text. BindingName i word (node.spelled text t.span) before place)
        (let lacks : LacksName (t ∷ ts) = subst LacksName e h in lacks))

    module _ (name : Name) where
      pub to_colon : {old new : List Token} {span : Span} → Takes k.Colon old span new
          → Over (BindingName i word name before place) old (TypeWanted (ForVariable i word name before place)) new
      unfolding step
      to_colon w = leads w (λ n. rw (w.is, step) refl) refl

      pub to_value : {old new : List Token} {span : Span} → Takes k.Equal old span new
          → Over (BindingName i word name before place) old (Operand (beginning (ForBinding i word name None before place))) new
      unfolding step
      to_value w = leads w (λ n. rw (w.is, step) refl) (no_more (depth_place place))

      not_bound : (kind : TokenKind) → (kind ≡ k.Colon → ⊥) → (kind ≡ k.Equal → ⊥) → at_binding_name kind i word name before place ≡ None
      not_bound k.Colon h g = absurd (h refl)
      not_bound k.Equal h g = absurd (g refl)
      not_bound _ h g = refl

      pub no_value : (old : List Token) → (Sees k.Colon old → ⊥) → (Sees k.Equal old → ⊥) → Stuck (BindingName i word name before place) old
      unfolding step finish
      no_value old h g = stuck _ old (λ total. refl) (λ t ts e n. not_bound t.kind (other_kind _ old h t ts e) (other_kind _ old g t ts e))

      pub to_typed_value : {written : T.TypeExp} {old new : List Token} {span : Span} → Takes k.Equal old span new
          → Over (BindingType i word name written before place) old (Operand (beginning (ForBinding i word name (Some written) before place))) new
      unfolding step
      to_typed_value w = leads w (λ n. rw (w.is, step) refl) (no_more (depth_place place))

      pub bound : (written : Option T.TypeExp) (e : T.Expr) (old : List Token)
          → Alike (Valued e (ForBinding i word name written before place)) old (StmtRead (before ++ node.binding i word name written e ∷ []) place)
      unfolding step finish
      bound written e old = alike _ _ old refl (λ total. refl) (λ t ts w n. refl)

      not_typed : (kind : TokenKind) (t : Token) (written : T.TypeExp) → (kind ≡ k.Equal → ⊥)
          → at_binding_type kind t i word name written before place ≡ at_declared i t word name written before place
      not_typed k.Equal t written h = absurd (h refl)
      not_typed _ t written h = refl

  module _ (word : Span) (name : Name) (written : T.TypeExp) (old : List Token) (no_value_comes : Sees k.Equal old → ⊥) where
    declared_var : Alike (BindingType introducer.Var word name written before place) old (StmtRead (before ++ node.declare word name written ∷ []) place)
    unfolding step finish
    declared_var = alike _ _ old refl (λ total. refl) (λ t ts e n. not_typed introducer.Var word
        name t.kind t written (other_kind _ old no_value_comes t ts e))

    -- `var` alone may leave the value out
    pub declared : (i : Introducer) → i ≡ introducer.Var
        → Alike (BindingType i word name written before place) old (StmtRead (before ++ node.declare word name written ∷ []) place)
    declared i is =
        subst (λ j. Alike (BindingType j word name written before place) old (StmtRead (before ++ node.declare word name written ∷ []) place)) (sym is)
        declared_var

    pub not_declared : (i : Introducer) → (i ≡ introducer.Var → ⊥) → Stuck (BindingType i word name written before place) old
    unfolding step finish
    not_declared introducer.Var h = absurd (h refl)
    not_declared introducer.Let h =
        stuck _ old (λ total. refl) (λ t ts e n. not_typed introducer.Let word name t.kind t written (other_kind _ old no_value_comes t ts e))
    not_declared introducer.Inout h =
        stuck _ old (λ total. refl) (λ t ts e n. not_typed introducer.Inout word name t.kind t written (other_kind _ old no_value_comes t ts e))

  -- ---- assignments

  module _ (word : Span) where
    pub to_discarded : {old new : List Token} {span : Span} → Takes k.Equal old span new
        → Over (DiscardWord word before place) old (Operand (beginning (ForDiscard word before place))) new
    unfolding step
    to_discarded w = leads w (λ n. rw (w.is, step) refl) (no_more (depth_place place))

    pub no_discarded : (old : List Token) → (Sees k.Equal old → ⊥) → Stuck (DiscardWord word before place) old
    unfolding step finish
    no_discarded old h = stuck _ old (λ total. refl) (λ t ts e n. no_equal t.kind _ (other_kind _ old h t ts e))

    pub discarded : (e : T.Expr) (old : List Token) → Alike (Valued e (ForDiscard word before place)) old (StmtRead (before ++ node.discard word e ∷ []) place)
    unfolding step finish
    discarded e old = alike _ _ old refl (λ total. refl) (λ t ts w n. refl)

    pub yielded : (e : T.Expr) (old : List Token) → Alike (Valued e (ForYield word before place)) old (StmtRead (before ++ node.yield_value word e ∷ []) place)
    unfolding step finish
    yielded e old = alike _ _ old refl (λ total. refl) (λ t ts w n. refl)

    pub returned : (e : T.Expr) (old : List Token)
        → Alike (Valued e (ForReturn word before place)) old (StmtRead (before ++ node.return_value word e ∷ []) place)
    unfolding step finish
    returned e old = alike _ _ old refl (λ total. refl) (λ t ts w n. refl)

    -- `return`
    return_ends : (kind : TokenKind) (t : Token) → ends_before kind t.first ≡ true
        → at_return kind t word before place ≡ at_stmt_read kind t (before ++ node.return_nothing word ∷ []) place
    return_ends k.Semicolon t h = refl
    return_ends k.RightBrace t h = refl
    return_ends _ t h = rw h refl

    return_goes : (kind : TokenKind) (t : Token) → ends_before kind t.first ≡ false
        → at_return kind t word before place ≡ at_operand kind t.span (beginning (ForReturn word before place))
    return_goes k.Semicolon t h = cc
    return_goes k.RightBrace t h = cc
    return_goes _ t h = rw h refl

    pub returned_nothing : (old : List Token) → ends_here old ≡ true
        → Alike (ReturnWord word before place) old (StmtRead (before ++ node.return_nothing word ∷ []) place)
    unfolding step finish
    returned_nothing old h = alike _ _ old refl (λ total. refl) (λ t ts e n. return_ends t.kind t (sym (ap ends_here e) ∙ h))

    pub to_returned : (old : List Token) → ends_here old ≡ false → Alike (ReturnWord word before place) old (Operand (beginning (ForReturn word before place)))
    unfolding step finish
    to_returned old h = alike _ _ old (no_more (depth_place place)) (λ total. refl) (λ t ts e n. return_goes t.kind t (sym (ap ends_here e) ∙ h))

  module _ (target : T.Expr) where
    pub to_assigned : {old new : List Token} {span : Span} → Takes k.Equal old span new
        → Over (Valued target (ForTarget before place)) old (Operand (beginning (ForAssigned target before place))) new
    unfolding step
    to_assigned w = leads w (λ n. rw (w.is, step) refl) (no_more (depth_place place))

    pub assigned : (e : T.Expr) (old : List Token)
        → Alike (Valued e (ForAssigned target before place)) old (StmtRead (before ++ node.assign target e ∷ []) place)
    unfolding step finish
    assigned e old = alike _ _ old refl (λ total. refl) (λ t ts w n. refl)

    pub compounded : (operator : Arithmetic) (e : T.Expr) (old : List Token)
        → Alike (Valued e (ForCompound target operator before place)) old (StmtRead (before ++ node.compound target operator e ∷ []) place)
    unfolding step finish
    compounded operator e old = alike _ _ old refl (λ total. refl) (λ t ts w n. refl)

    not_assigned : (kind : TokenKind) (t : Token) → (kind ≡ k.Equal → ⊥)
        → at_target kind t target before place ≡ at_compound (compound_of kind) t target before place
    not_assigned k.Equal t h = absurd (h refl)
    not_assigned _ t h = refl

    is_compound : (kind : TokenKind) (operator : Arithmetic) → compound_of kind ≡ Some operator → kind ≡ k.Equal → ⊥
    is_compound kind operator h e = let no : None ≡ Some operator = sym (ap compound_of e) ∙ h in cc

    compound_step : (t : Token) (n : ℕ) (operator : Arithmetic) → compound_of t.kind ≡ Some operator
        → step (Valued target (ForTarget before place)) t n ≡ Some (Operand (beginning (ForCompound target operator before place)))
    unfolding step
    compound_step t n operator h = not_assigned t.kind t (is_compound t.kind operator h) ∙ ap (λ o. at_compound o t target before place) h

    pub to_compound : {operator : Arithmetic} {old new : List Token} → TakesCompound old operator new
        → Over (Valued target (ForTarget before place)) old (Operand (beginning (ForCompound target operator before place))) new
    to_compound {operator = operator} w = record {
      token = w.token;
      front = w.front;
      moves = λ n. compound_step w.token n operator w.is;
      level =
          no_more (depth_place place);
    }

    pub evaluated : (old : List Token) → (Sees k.Equal old → ⊥) → LacksCompound old
        → Alike (Valued target (ForTarget before place)) old (StmtRead (before ++ node.evaluate target ∷ []) place)
    unfolding step finish
    evaluated old h g = alike _ _ old refl (λ total. refl) (λ t ts e n. not_assigned t.kind t (other_kind _ old h t ts e)
        ∙ ap (λ o. at_compound o t target before place) (let w : LacksCompound (t ∷ ts) = subst LacksCompound e g in w))

  -- ---- blocks in statements

  module _ (from : ℕ) (branches : List T.Branch) where
    pub to_else : {to : ℕ} {old new : List Token} {span : Span} → Takes k.Else old span new
        → Over (BranchRead from branches to before place) old (BranchElse from branches before place) new
    unfolding step
    to_else w = leads w (λ n. rw (w.is, step) refl) refl

    not_else : (kind : TokenKind) (t : Token) (to : ℕ) → (kind ≡ k.Else → ⊥)
        → at_branch_read kind t from branches to before place ≡ at_stmt_read kind t (before ++ node.if_only from branches to ∷ []) place
    not_else k.Else t to h = absurd (h refl)
    not_else _ t to h = refl

    pub no_else : (to : ℕ) (old : List Token) → (Sees k.Else old → ⊥)
        → Alike (BranchRead from branches to before place) old (StmtRead (before ++ node.if_only from branches to ∷ []) place)
    unfolding step finish
    no_else to old h = alike _ _ old refl (λ total. refl) (λ t ts e n. not_else t.kind t to (other_kind _ old h t ts e))

    pub to_else_if : {old new : List Token} {span : Span} → Takes k.If old span new
        → Over (BranchElse from branches before place) old (Operand (beginning (ForBranch from branches span before place))) new
    unfolding step
    to_else_if w = leads w (λ n. rw (w.is, w.stands, step) refl) (no_more (depth_place place))
