-- What the machine wants in bodies that may be variants.
use Rattle.std.proofs.Common.{◌≡◌, ◌≤◌, ◌+◌, ℕ, true, false, Option, Some, None, List, [], ◌∷◌, refl, sym, ap, subst, ◌∙◌, arith}
use Rattle.hy_base.specs.declared.position.Span.{Span}
use Rattle.hy_lexer.specs.declared.token.Token.{Token}
use Rattle.hy_lexer.specs.declared.token.TokenKind.{TokenKind}
use Rattle.hy_lexer.specs.declared.token.TokenKind.TheVariants as k
use Rattle.hy_tree.specs.Tree as T
use Rattle.hy_tree.specs.declared.name.Name.{Name}
use Rattle.hy_tree.specs.declared.operator.Introducer.{Introducer}
use Rattle.hy_tree.specs.declared.operator.Introducer.TheVariants as introducer
use Rattle.hy_tree.specs.declared.operator.Mode.{Mode}
use Rattle.hy_tree.specs.declared.operator.Mode.TheVariants as mode
use Rattle.hy_grammar.specs.DeclSteps.{at_set, at_body_word, at_variants_read}
use Rattle.hy_parser.specs.Headings.{is_left_brace, opens_block, is_subscript, begins_variant, begins_variants, set_in, variant_mode, variant_word}
use Rattle.hy_grammar.specs.Kinds as kind
use Rattle.hy_grammar.specs.Machine.{step, finish, most_levels, walk}
use Rattle.hy_grammar.specs.Nodes as node
use Rattle.hy_grammar.specs.OperandSteps.{}
use Rattle.hy_phrases.specs.Reads.{Halts}
use Rattle.hy_parser.specs.Separated.{ahead, TakesSome}
use Rattle.hy_grammar.specs.Stack.{Sort, FileFunction, Method, Requirement, Subscript, Deinit, Head, PlainBody, VariantBody, InBody, depth, depth_head}
use Rattle.hy_grammar.specs.Stack.{BodyWanted, BodyOpened, BodyWord, BlockOpened, VariantsRead, SetWord, SetOpened, SetName, BindingWord, BindingName}
use Rattle.hy_grammar.specs.StmtSteps.{callable_read}
use Rattle.hy_phrases.specs.Wanted.{Sees, Misses}
use Rattle.hy_phrases.specs.declared.stop.Stop.{Stop}
use Rattle.hy_parser.proofs.Follows.{OnNext, alike_on, stops_on}
use Rattle.hy_phrases.proofs.Walks.{fits, Follows, Wants, WantsName, over, alike}
use Rattle.hy_phrases.proofs.WantedKinds.{no_left_paren, no_right_paren, no_left_brace, no_text}

-- A VARIANT

pub word_depth : (m : Mode) (head : Head) (brace : Span) (variants : List T.Variant) (keyword : Span)
    → depth (variant_word m head brace variants keyword) ≡ depth_head head + 1
word_depth mode.Let head brace variants keyword = refl
word_depth mode.Inout head brace variants keyword = refl
word_depth mode.Sink head brace variants keyword = refl
word_depth mode.Set head brace variants keyword = refl
word_depth mode.Yielded head brace variants keyword = refl

pub word_level : (levels : ℕ) (m : Mode) (head : Head) (brace : Span) (variants : List T.Variant) (keyword : Span)
    → levels + (depth_head head + 1) ≡ most_levels → levels + depth (variant_word m head brace variants keyword) ≡ most_levels
word_level levels m head brace variants keyword h = let e = word_depth m head brace variants keyword in omega (arith, h, e)

pub level_word : (levels : ℕ) (m : Mode) (head : Head) (brace : Span) (variants : List T.Variant) (keyword : Span)
    → levels + depth (variant_word m head brace variants keyword) ≡ most_levels → levels + (depth_head head + 1) ≡ most_levels
level_word levels m head brace variants keyword h = let e = word_depth m head brace variants keyword in omega (arith, h, e)

pub set_wants : (head : Head) (brace : Span) (variants : List T.Variant) (keyword : Span)
    → Wants k.LeftParen (SetWord head brace variants keyword) (λ span. SetOpened head brace variants keyword)
unfolding step finish
set_wants head brace variants keyword = record {
  takes = λ t place h. rw (h, step) refl;
  refuses_others =
      λ t place h. no_left_paren t.kind _ h;
  unfinished = λ place. refl;
}

pub set_names : (head : Head) (brace : Span) (variants : List T.Variant) (keyword : Span)
    → WantsName (SetOpened head brace variants keyword) (λ n. SetName head brace variants keyword n)
unfolding step finish
set_names head brace variants keyword = record {
  takes = λ t text place h. rw (h, step) refl;
  refuses_others = λ t place h. no_text t.kind _ h;
  unfinished =
      λ place. refl;
}

pub set_closes : (head : Head) (brace : Span) (variants : List T.Variant) (keyword : Span) (name : Name)
    → Wants k.RightParen (SetName head brace variants keyword name) (λ span. BodyWanted (VariantBody head brace variants keyword mode.Set (Some name)))
unfolding step finish
set_closes head brace variants keyword name = record {
  takes = λ t place h. rw (h, step) refl;
  refuses_others =
      λ t place h. no_right_paren t.kind _ h;
  unfinished = λ place. refl;
}

pub variant_block : (head : Head) (brace : Span) (variants : List T.Variant) (keyword : Span) (m : Mode) (value : Option Name)
    → Wants k.LeftBrace (BodyWanted (VariantBody head brace variants keyword m value))
    (λ span. BlockOpened (InBody (VariantBody head brace variants keyword m value) span))
unfolding step finish
variant_block head brace variants keyword m value = record {
  takes = λ t place h. rw (h, step) refl;
  refuses_others =
      λ t place h. no_left_brace t.kind _ h;
  unfinished = λ place. refl;
}

pub plain_block : (head : Head) → Wants k.LeftBrace (BodyWanted (PlainBody head)) (λ span. BlockOpened (InBody (PlainBody head) span))
unfolding step finish
plain_block head = record { takes = λ t place h. rw (h, step) refl; refuses_others = λ t place h. no_left_brace t.kind _ h; unfinished = λ place. refl }

-- THE LIST

set_step : (sort : Sort) (m : Mode) (t : Span) (head : Head) (brace : Span) (variants : List T.Variant) → set_in sort ≡ Some m
    → at_set sort t head brace variants ≡ Some (variant_word m head brace variants t)
set_step Subscript m t head brace variants h = let e : mode.Set ≡ m = cc in ap (λ z. Some (variant_word z head brace variants t)) e
set_step FileFunction m t head brace variants h = cc
set_step Method m t head brace variants h = cc
set_step Requirement m t head brace variants h = cc
set_step Deinit m t head brace variants h = cc

set_none : (sort : Sort) (t : Span) (head : Head) (brace : Span) (variants : List T.Variant) → set_in sort ≡ None → at_set sort t head brace variants ≡ None
set_none Subscript t head brace variants h = cc
set_none FileFunction t head brace variants h = refl
set_none Method t head brace variants h = refl
set_none Requirement t head brace variants h = refl
set_none Deinit t head brace variants h = refl

variant_step : (it : TokenKind) (m : Mode) (t : Span) (head : Head) (brace : Span) (variants : List T.Variant) → variant_mode head.sort it ≡ Some m
    → at_variants_read it t head brace variants ≡ Some (variant_word m head brace variants t)
variant_step k.Let m t head brace variants h = let e : mode.Let ≡ m = cc in ap (λ z. Some (variant_word z head brace variants t)) e
variant_step k.Inout m t head brace variants h = let e : mode.Inout ≡ m = cc in ap (λ z. Some (variant_word z head brace variants t)) e
variant_step k.Sink m t head brace variants h = let e : mode.Sink ≡ m = cc in ap (λ z. Some (variant_word z head brace variants t)) e
variant_step k.Set m t head brace variants h = set_step head.sort m t head brace variants h
variant_step _ m t head brace variants h = cc

pub variant_taken : (head : Head) (brace : Span) (variants : List T.Variant) (m : Mode) (t : Token) (place : ℕ) → variant_mode head.sort t.kind ≡ Some m
    → step (VariantsRead head brace variants) t place ≡ Some (variant_word m head brace variants t.span)
unfolding step
variant_taken head brace variants m t place h = variant_step t.kind m t.span head brace variants h

pub variant_begins : (total levels : ℕ) (head : Head) (brace : Span) (variants : List T.Variant) (m : Mode) (old : List Token) (span : Span)
    (new : List Token) → levels + (depth_head head + 1) ≡ most_levels → TakesSome (variant_mode head.sort) old m span new
    → walk total (VariantsRead head brace variants) old ≡ walk total (variant_word m head brace variants span) new
variant_begins total levels head brace variants m old span new le t =
    over total (VariantsRead head brace variants) (variant_word m head brace variants t.token.span) t.token old new t.front
    (λ place. variant_taken head brace variants m t.token place t.is) (fits levels _ (word_level levels m head brace variants t.token.span le))
    ∙ ap (λ s. walk total (variant_word m head brace variants s) new) t.stands

pub variants_close : (head : Head) (brace : Span) (variants : List T.Variant)
    → Follows k.RightBrace (VariantsRead head brace variants) (λ span. callable_read head variants span.to)
unfolding step
variants_close head brace variants = record { takes = λ t place h. rw (h, step) refl }

no_variant : (it : TokenKind) (t : Span) (head : Head) (brace : Span) (variants : List T.Variant) → variant_mode head.sort it ≡ None
    → (it ≡ k.RightBrace → ⊥) → at_variants_read it t head brace variants ≡ None
no_variant k.Let t head brace variants h g = cc
no_variant k.Inout t head brace variants h g = cc
no_variant k.Sink t head brace variants h g = cc
no_variant k.Set t head brace variants h g = set_none head.sort t head brace variants h
no_variant k.RightBrace t head brace variants h g = absurd (g refl)
no_variant _ t head brace variants h g = refl

neither_variant : (head : Head) (brace : Span) (variants : List T.Variant) (old : List Token) → ahead (variant_mode head.sort) old ≡ None
    → (Sees k.RightBrace old → ⊥) → OnNext (λ t. (place : ℕ) → step (VariantsRead head brace variants) t place ≡ None) old
unfolding step
neither_variant head brace variants [] a b = tt
neither_variant head brace variants (t ∷ ts) a b = λ place. no_variant t.kind t.span head brace variants a b

pub variants_stop : (total : ℕ) (head : Head) (brace : Span) (variants : List T.Variant) (old : List Token) (e : Stop)
    → ahead (variant_mode head.sort) old ≡ None → Misses k.RightBrace old e → Halts e (walk total (VariantsRead head brace variants) old)
unfolding finish
variants_stop total head brace variants old e a h =
    subst (λ z. Halts z (walk total (VariantsRead head brace variants) old)) (sym h.stops)
    (stops_on total (VariantsRead head brace variants) old (λ place. refl) (neither_variant head brace variants old a h.lacks))

-- VARIANTS OR STATEMENTS

brace_kind : (it : TokenKind) → is_left_brace it ≡ true → it ≡ k.LeftBrace
brace_kind k.LeftBrace h = refl
brace_kind _ h = cc

-- after `let` or `inout`, a `{` begins a variant
word_brace : (total : ℕ) (head : Head) (brace : Span) (introducer : Introducer) (m : Mode) (word : Span) (ts : List Token) → opens_block ts ≡ true
    → walk total (BodyWord head brace introducer m word) ts ≡ walk total (BodyWanted (VariantBody head brace [] word m None)) ts
unfolding step
word_brace total head brace introducer m word [] h = cc
word_brace total head brace introducer m word (t ∷ ts) h = let e = brace_kind t.kind h in
    alike total (BodyWord head brace introducer m word) (BodyWanted (VariantBody head brace [] word m None)) t (t ∷ ts) ts refl (λ place. rw (e, step) refl)

bound_at : (it : TokenKind) (t : Span) (head : Head) (brace : Span) (introducer : Introducer) (m : Mode) (word : Span) → is_left_brace it ≡ false
    → at_body_word it t head brace introducer m word ≡ kind.name it
    (λ text. BindingName introducer word (node.spelled text t) [] (InBody (PlainBody head) brace))
bound_at k.LeftBrace t head brace introducer m word h = cc
bound_at (k.Name text) t head brace introducer m word h = refl
bound_at _ t head brace introducer m word h = refl

-- and everything else a binding
word_binds : (total : ℕ) (head : Head) (brace : Span) (introducer : Introducer) (m : Mode) (word : Span) (ts : List Token) → opens_block ts ≡ false
    → walk total (BodyWord head brace introducer m word) ts ≡ walk total (BindingWord introducer word [] (InBody (PlainBody head) brace)) ts
unfolding step finish
word_binds total head brace introducer m word [] h =
    alike_on total (BodyWord head brace introducer m word) (BindingWord introducer word [] (InBody (PlainBody head) brace)) [] (λ place. refl) tt
word_binds total head brace introducer m word (t ∷ ts) h =
    alike total (BodyWord head brace introducer m word) (BindingWord introducer word [] (InBody (PlainBody head) brace)) t (t ∷ ts) ts refl
    (λ place. bound_at t.kind t.span head brace introducer m word h)

same_let : (total : ℕ) (head : Head) (brace : Span) (introducer : Introducer) (m : Mode) (t : Token) (ts : List Token) → depth_head head + 1 ≤ most_levels
    → opens_block ts ≡ true
    → ((place : ℕ) → step (BodyOpened head brace) t place ≡ Some (BodyWord head brace introducer m t.span))
    → ((place : ℕ) → step (VariantsRead head brace []) t place ≡ Some (BodyWanted (VariantBody head brace [] t.span m None)))
    → walk total (BodyOpened head brace) (t ∷ ts) ≡ walk total (VariantsRead head brace []) (t ∷ ts)
same_let total head brace introducer m t ts le h one other =
    over total (BodyOpened head brace) (BodyWord head brace introducer m t.span) t (t ∷ ts) ts refl one le
    ∙ word_brace total head brace introducer m t.span ts h
    ∙ sym (over total (VariantsRead head brace []) (BodyWanted (VariantBody head brace [] t.span m None)) t (t ∷ ts) ts refl other le)

same_sink : (total : ℕ) (head : Head) (brace : Span) (t : Token) (ts : List Token)
    → ((place : ℕ) → step (BodyOpened head brace) t place ≡ step (VariantsRead head brace []) t place)
    → walk total (BodyOpened head brace) (t ∷ ts) ≡ walk total (VariantsRead head brace []) (t ∷ ts)
same_sink total head brace t ts h = alike total (BodyOpened head brace) (VariantsRead head brace []) t (t ∷ ts) ts refl h

variants_at : (it : TokenKind) (total : ℕ) (head : Head) (brace : Span) (t : Token) (ts : List Token) → t.kind ≡ it → depth_head head + 1 ≤ most_levels
    → begins_variant head.sort it ts ≡ true → walk total (BodyOpened head brace) (t ∷ ts) ≡ walk total (VariantsRead head brace []) (t ∷ ts)
unfolding step
variants_at k.Let total head brace t ts e le h =
    same_let total head brace introducer.Let mode.Let t ts le h (λ place. rw (e, step) refl) (λ place. rw (e, step) refl)
variants_at k.Inout total head brace t ts e le h =
    same_let total head brace introducer.Inout mode.Inout t ts le h (λ place. rw (e, step) refl) (λ place. rw (e, step) refl)
variants_at k.Sink total head brace t ts e le h = same_sink total head brace t ts (λ place. rw (e, step) refl)
variants_at k.Set total head brace t ts e le h = same_sink total head brace t ts (λ place. rw (e, step) refl)
variants_at _ total head brace t ts e le h = cc

pub in_variants : (total : ℕ) (head : Head) (brace : Span) (old : List Token) → depth_head head + 1 ≤ most_levels → begins_variants head.sort old ≡ true
    → walk total (BodyOpened head brace) old ≡ walk total (VariantsRead head brace []) old
in_variants total head brace [] le h = cc
in_variants total head brace (t ∷ ts) le h = variants_at t.kind total head brace t ts refl le h

plain_let : (total : ℕ) (head : Head) (brace : Span) (introducer : Introducer) (m : Mode) (t : Token) (ts : List Token) → depth_head head + 1 ≤ most_levels
    → opens_block ts ≡ false
    → ((place : ℕ) → step (BodyOpened head brace) t place ≡ Some (BodyWord head brace introducer m t.span))
    → ((place : ℕ)
    → step (BlockOpened (InBody (PlainBody head) brace)) t place ≡ Some (BindingWord introducer t.span [] (InBody (PlainBody head) brace)))
    → walk total (BodyOpened head brace) (t ∷ ts) ≡ walk total (BlockOpened (InBody (PlainBody head) brace)) (t ∷ ts)
plain_let total head brace introducer m t ts le h one other =
    over total (BodyOpened head brace) (BodyWord head brace introducer m t.span) t (t ∷ ts) ts refl one le
    ∙ word_binds total head brace introducer m t.span ts h
    ∙ sym (over total (BlockOpened (InBody (PlainBody head) brace)) (BindingWord introducer t.span [] (InBody (PlainBody head) brace)) t (t ∷ ts) ts refl
    other le)

no_set : (sort : Sort) → is_subscript sort ≡ false → set_in sort ≡ None
no_set Subscript h = cc
no_set FileFunction h = refl
no_set Method h = refl
no_set Requirement h = refl
no_set Deinit h = refl

plain_alike : (total : ℕ) (head : Head) (brace : Span) (t : Token) (ts : List Token)
    → ((place : ℕ) → step (BodyOpened head brace) t place ≡ step (BlockOpened (InBody (PlainBody head) brace)) t place)
    → walk total (BodyOpened head brace) (t ∷ ts) ≡ walk total (BlockOpened (InBody (PlainBody head) brace)) (t ∷ ts)
plain_alike total head brace t ts h = alike total (BodyOpened head brace) (BlockOpened (InBody (PlainBody head) brace)) t (t ∷ ts) ts refl h

plain_at : (it : TokenKind) (total : ℕ) (head : Head) (brace : Span) (t : Token) (ts : List Token) → t.kind ≡ it → depth_head head + 1 ≤ most_levels
    → begins_variant head.sort it ts ≡ false
    → walk total (BodyOpened head brace) (t ∷ ts) ≡ walk total (BlockOpened (InBody (PlainBody head) brace)) (t ∷ ts)
unfolding step
plain_at k.Let total head brace t ts e le h =
    plain_let total head brace introducer.Let mode.Let t ts le h (λ place. rw (e, step) refl) (λ place. rw (e, step) refl)
plain_at k.Inout total head brace t ts e le h =
    plain_let total head brace introducer.Inout mode.Inout t ts le h (λ place. rw (e, step) refl) (λ place. rw (e, step) refl)
plain_at k.Sink total head brace t ts e le h = cc
plain_at k.Set total head brace t ts e le h =
    plain_alike total head brace t ts (λ place. rw (e, step) (set_none head.sort t.span head brace [] (no_set head.sort h)))
plain_at _ total head brace t ts e le h = plain_alike total head brace t ts (λ place. rw (e, step) refl)

pub in_statements : (total : ℕ) (head : Head) (brace : Span) (old : List Token) → depth_head head + 1 ≤ most_levels → begins_variants head.sort old ≡ false
    → walk total (BodyOpened head brace) old ≡ walk total (BlockOpened (InBody (PlainBody head) brace)) old
unfolding finish
in_statements total head brace [] le h = alike_on total (BodyOpened head brace) (BlockOpened (InBody (PlainBody head) brace)) [] (λ place. refl) tt
in_statements total head brace (t ∷ ts) le h = plain_at t.kind total head brace t ts refl le h
