-- What the grammar has the machine goes over: bodies, functions and subscripts.
use Rattle.std.proofs.Common.{◌≡◌, ◌-◌, ℕ, suc, Bool, true, false, Option, Some, None, List, [], ◌∷◌, ◌++◌, length, refl, sym, ap, subst, ◌∙◌}
use Rattle.hy_base.specs.declared.position.Span.{Span}
use Rattle.hy_lexer.specs.declared.token.Token.{Token}
use Rattle.hy_lexer.specs.declared.token.TokenKind.{TokenKind}
use Rattle.hy_lexer.specs.declared.token.TokenKind.TheVariants as k
use Rattle.hy_tree.specs.Tree as T
use Rattle.hy_tree.specs.declared.declaration.TypeParam.{TypeParam}
use Rattle.hy_tree.specs.declared.name.Name.{Name}
use Rattle.hy_tree.specs.declared.operator.Introducer.{Introducer}
use Rattle.hy_tree.specs.declared.operator.Introducer.TheVariants as introducer
use Rattle.hy_tree.specs.declared.operator.Mode.{Mode}
use Rattle.hy_tree.specs.declared.operator.Mode.TheVariants as mode
use Rattle.hy_grammar.specs.Kinds.{Is, effect_of}
use Rattle.hy_grammar.specs.Nodes as node
use Rattle.hy_grammar.specs.OperandSteps.{}
use Rattle.hy_grammar.specs.TypeSteps.{}
use Rattle.hy_grammar.specs.StmtSteps.{callable_of, close, at_block_opened}
use Rattle.hy_grammar.specs.DeclSteps.{head_of, sort_in, at_callable_read, at_effect, at_body_opened, at_variants_read}
use Rattle.hy_grammar.specs.Machine.{step, finish}
use Rattle.hy_grammar.specs.StmtGrammar as s
use Rattle.hy_grammar.specs.StmtGrammar.{HasStmt, HasBranches, HasStmts, HasBlock}
use Rattle.hy_grammar.specs.Grammar as g
use Rattle.hy_grammar.specs.Grammar.{HasBounds, HasGeneric, HasSomeGenerics, HasGenerics, HasParamName, HasMode, HasParam, HasSomeParams, HasParams}
use Rattle.hy_grammar.specs.Grammar.{HasEffect, HasResult, HasVariant, HasVariants, MayVary, HasBody, HasFunction, HasSubscriptName, HasSubscript}
use Rattle.hy_grammar.specs.Stack.{Start, Owner, Home, Sort, Head, Place, State, InFile, InOwner, FileFunction, Method, Requirement, Subscript, Deinit}
use Rattle.hy_grammar.specs.Stack.{PlainBody, VariantBody, InBody, ForResult, FunctionWord, FunctionName, SubscriptWord, ParamsWanted, ParamsRead}
use Rattle.hy_grammar.specs.Stack.{EffectRead, ResultRead, BodyWanted, BodyOpened, BodyWord, VariantsRead, SetWord, SetOpened, SetName, BlockOpened}
use Rattle.hy_grammar.specs.Stack.{BindingWord, TypeWanted}
use Rattle.hy_grammar_laws.proofs.Reading.{MayLack, MayAffect, head}
use Rattle.hy_grammar_laws.proofs.Ends.{Goes, thens, eats, alike, every, not_more, OnFront, begins}
use Rattle.hy_grammar_laws.proofs.Complete.{c_type}
use Rattle.hy_grammar_laws.proofs.CompleteStmts.{BlockAt, c_block}
use Rattle.hy_grammar_laws.proofs.Reading as r
use Rattle.hy_grammar_laws.proofs.CompleteHeads.{NoEffect, is_arrow, NoArrow, arrow_kind, ParenStart, binds, varies, names, PlainFirst, PlainStart, Inner}
use Rattle.hy_grammar_laws.proofs.CompleteHeads.{plain_block, plain_kind, callable_state, called_state, plain_state, plain_at, wanted_block, word_block}
use Rattle.hy_grammar_laws.proofs.CompleteHeads.{function_paren, wanted_paren, generics_less, c_generics_close, c_params}

-- EFFECT, RESULT AND BODY

brace_no_effect : (t : Token) → Is t k.LeftBrace → NoEffect t
brace_no_effect t h = ap effect_of h

brace_no_arrow : (t : Token) → Is t k.LeftBrace → NoArrow t
brace_no_arrow t h = ap is_arrow h

block_brace : {loop : Bool} {b : T.Block} {old new : List Token} → HasBlock loop old b new → OnFront (λ t. Is t k.LeftBrace) old
block_brace (s.no_stmts h c) = h
block_brace (s.some_stmts h x c) = h

body_brace : {sort : Sort} {effect : Option Mode} {variants : List T.Variant} {to : ℕ} {old new : List Token} → HasBody sort effect old variants to new
    → OnFront (λ t. Is t k.LeftBrace) old
body_brace (g.plain_body b) = block_brace b
body_brace (g.variants_body m o v c) = o

on_front : (P Q : Token → Type 0) → ((t : Token) → P t → Q t) → (ts : List Token) → OnFront P ts → OnFront Q ts
on_front P Q f [] x = tt
on_front P Q f (t ∷ ts) x = f t x

-- no effect comes before a result, or before what comes without one
before_result : {near far : ℕ} {result : Option T.TypeExp} {old new : List Token} → HasResult old near result far new → OnFront NoEffect new
    → OnFront NoEffect old
before_result g.no_result x = x
before_result (g.a_result h t) x = ap effect_of h

requirement_like : (home : Home) (t : Token) (n : ℕ) (front : Head) (to : ℕ)
    → step (callable_state home front.start (callable_of front [] to) to) t n ≡ at_callable_read home t n front to
unfolding step
requirement_like (InFile decls) t n front to = refl
requirement_like (InOwner owner members) t n front to = refl

-- where a `fun` begins
pub record FunStart (s : State) (home : Home) (start : Start) : Type 0 where
  pub opens : (w : Token) (n : ℕ) → Is w k.Fun → step s w n ≡ Some (FunctionWord home start w.span)

pub record SubscriptStart (s : State) (home : Home) (start : Start) : Type 0 where
  pub opens : (w : Token) (n : ℕ) → Is w k.Subscript → step s w n ≡ Some (SubscriptWord home start w.span)

pub record DeinitStart (s : State) (home : Home) (start : Start) : Type 0 where
  pub opens : (w : Token) (n : ℕ) → Is w k.Deinit → step s w n ≡ Some (BodyWanted (PlainBody (head_of home start Deinit w.span None)))

subscript_paren : (owner : Owner) (members : List T.Member) (start : Start) (keyword : Span)
    → ParenStart (SubscriptWord (InOwner owner members) start keyword) (head_of (InOwner owner members) start Subscript keyword None)
unfolding step
subscript_paren owner members start keyword = record { opens = λ o n h. rw (h, step) refl }

-- the word of a variant after others
abbrev wants : Option Mode → Span → Head → Span → List T.Variant → Option State
wants None t front brace variants = None
wants (Some mode) t front brace variants = Some (BodyWanted (VariantBody front brace variants t mode None))

wanted_kind : (kind : TokenKind) (mode : Mode) (t : Span) (front : Head) (brace : Span) (variants : List T.Variant) → effect_of kind ≡ Some mode
    → at_variants_read kind t front brace variants ≡ Some (BodyWanted (VariantBody front brace variants t mode None))
wanted_kind k.Let mode t front brace variants h = ap (λ m. wants m t front brace variants) h
wanted_kind k.Inout mode t front brace variants h = ap (λ m. wants m t front brace variants) h
wanted_kind k.Sink mode t front brace variants h = ap (λ m. wants m t front brace variants) h
wanted_kind _ mode t front brace variants h = cc

module _ (home : Home) (start : Start) (keyword : Span) (name : Option Name) (generics : List TypeParam) (params : List T.Param) (result : Option T.TypeExp)
    (far : ℕ) where
  file_opens : (o : Token) (n : ℕ) → Is o k.LeftBrace
      → step (ResultRead (head home start FileFunction keyword name generics params None result) far) o n ≡ Some
      (BlockOpened (InBody (PlainBody (head home start FileFunction keyword name generics params None result)) o.span))
  unfolding step
  file_opens o n h = rw (h, step) refl

  effect_opens : (effect : Mode) (o : Token) (n : ℕ) → Is o k.LeftBrace
      → step (ResultRead (head home start Method keyword name generics params (Some effect) result) far) o n ≡ Some
      (BlockOpened (InBody (PlainBody (head home start Method keyword name generics params (Some effect) result)) o.span))
  unfolding step
  effect_opens effect o n h = rw (h, step) refl

  method_opens : (o : Token) (n : ℕ) → Is o k.LeftBrace
      → step (ResultRead (head home start Method keyword name generics params None result) far) o n ≡ Some
      (BodyOpened (head home start Method keyword name generics params None result) o.span)
  unfolding step
  method_opens o n h = rw (h, step) refl

  subscript_opens : (o : Token) (n : ℕ) → Is o k.LeftBrace
      → step (ResultRead (head home start Subscript keyword name generics params None result) far) o n ≡ Some
      (BodyOpened (head home start Subscript keyword name generics params None result) o.span)
  unfolding step
  subscript_opens o n h = rw (h, step) refl

no_finish : (total : ℕ) (front : Head) (to : ℕ) → finish (ResultRead front to) total ≡ None
unfolding finish
no_finish total front to = refl

owner_finish : (total : ℕ) (owner : Owner) (members : List T.Member) (start : Start) (c : T.Callable) (to : ℕ)
    → finish (callable_state (InOwner owner members) start c to) total ≡ None
unfolding finish
owner_finish total owner members start c to = refl

word_kind : (kind : TokenKind) (t : Token) (front : Head) (brace : Span) (introducer : Introducer) (mode : Mode) (word : Span) (n : ℕ) → t.kind ≡ kind
    → names kind ≡ true
    → step (BodyWord front brace introducer mode word) t n ≡ step (BindingWord introducer word [] (InBody (PlainBody front) brace)) t n
unfolding step
word_kind (k.Name text) t front brace introducer mode word n h x = rw (h, step) refl
word_kind _ t front brace introducer mode word n h x = cc

wanted_plain : (front : Head) → BlockAt (BodyWanted (PlainBody front)) false (λ span. InBody (PlainBody front) span) (plain_state front)
unfolding step
wanted_plain front = plain_at _ front (λ o n h. rw (h, step) refl)

module _ {total : ℕ} where
  an_effect : {t : Token} {ts : List Token} {mode : Mode} {to : ℕ} (sort : Sort) (home : Home) (start : Start) (keyword : Span) (name : Option Name)
      (generics : List TypeParam) (params : List T.Param) → MayAffect sort → effect_of t.kind ≡ Some mode
      → Goes total (ParamsRead (head home start sort keyword name generics params None None) to) (t ∷ ts)
      (EffectRead (head home start sort keyword name generics params (Some mode) None) t.span.to) ts
  unfolding step
  an_effect {t = t} {ts = ts} {to = to} Method home start keyword name generics params r.method_affects h =
      eats (ap (λ m. at_effect m t (total - suc (length ts)) (head home start Method keyword name generics params None None) to) h)
  an_effect {t = t} {ts = ts} {to = to} Requirement home start keyword name generics params r.requirement_affects h =
      eats (ap (λ m. at_effect m t (total - suc (length ts)) (head home start Requirement keyword name generics params None None) to) h)
  an_effect FileFunction home start keyword name generics params m h = elim m [ ]
  an_effect Subscript home start keyword name generics params m h = elim m [ ]
  an_effect Deinit home start keyword name generics params m h = elim m [ ]

  no_effect_read : (ts : List Token) (to : ℕ) (sort : Sort) (home : Home) (start : Start) (keyword : Span) (name : Option Name) (generics : List TypeParam)
      (params : List T.Param) → MayAffect sort → OnFront NoEffect ts
      → Goes total (ParamsRead (head home start sort keyword name generics params None None) to) ts
      (EffectRead (head home start sort keyword name generics params None None) to) ts
  unfolding step finish
  no_effect_read [] to sort home start keyword name generics params m x = alike refl tt
  no_effect_read (t ∷ ts) to Method home start keyword name generics params r.method_affects x =
      alike refl (λ n. ap (λ m. at_effect m t n (head home start Method keyword name generics params None None) to) x)
  no_effect_read (t ∷ ts) to Requirement home start keyword name generics params r.requirement_affects x =
      alike refl (λ n. ap (λ m. at_effect m t n (head home start Requirement keyword name generics params None None) to) x)
  no_effect_read (t ∷ ts) to FileFunction home start keyword name generics params m x = elim m [ ]
  no_effect_read (t ∷ ts) to Subscript home start keyword name generics params m x = elim m [ ]
  no_effect_read (t ∷ ts) to Deinit home start keyword name generics params m x = elim m [ ]

  c_effect : {effect : Option Mode} {close near : ℕ} {old new : List Token} (sort : Sort) (home : Home) (start : Start) (keyword : Span)
      (name : Option Name) (generics : List TypeParam) (params : List T.Param) → MayAffect sort → HasEffect old close effect near new → OnFront NoEffect new
      → Goes total (ParamsRead (head home start sort keyword name generics params None None) close) old
      (EffectRead (head home start sort keyword name generics params effect None) near) new
  c_effect sort home start keyword name generics params m (g.no_effect {to = to} {old = old}) x =
      no_effect_read old to sort home start keyword name generics params m x
  c_effect sort home start keyword name generics params m (g.an_effect h) x = an_effect sort home start keyword name generics params m h

  file_effect : (ts : List Token) (to : ℕ) (home : Home) (start : Start) (keyword : Span) (name : Option Name) (generics : List TypeParam)
      (params : List T.Param)
      → Goes total (ParamsRead (head home start FileFunction keyword name generics params None None) to) ts
      (EffectRead (head home start FileFunction keyword name generics params None None) to) ts
  unfolding step finish
  file_effect ts to home start keyword name generics params = alike refl (every _ (λ t n. refl) ts)

  result_arrow : {t : Token} {ts : List Token} {front : Head} {to : ℕ} → Is t k.Arrow
      → Goes total (EffectRead front to) (t ∷ ts) (TypeWanted (ForResult front)) ts
  unfolding step
  result_arrow h = eats (rw (h, step) refl)

  no_result_read : (ts : List Token) (front : Head) (to : ℕ) → OnFront NoArrow ts → Goes total (EffectRead front to) ts (ResultRead front to) ts
  unfolding step finish
  no_result_read [] front to x = alike refl tt
  no_result_read (t ∷ ts) front to x = alike refl (λ n. arrow_kind t.kind t n front to x)

  c_result : {result : Option T.TypeExp} {near far : ℕ} {old new : List Token} (home : Home) (start : Start) (sort : Sort) (keyword : Span)
      (name : Option Name) (generics : List TypeParam) (params : List T.Param) (effect : Option Mode) → HasResult old near result far new
      → OnFront NoArrow new
      → Goes total (EffectRead (head home start sort keyword name generics params effect None) near) old
      (ResultRead (head home start sort keyword name generics params effect result) far) new
  c_result home start sort keyword name generics params effect (g.no_result {to = to} {old = old}) x = no_result_read old _ to x
  c_result home start sort keyword name generics params effect (g.a_result h t) x =
      thens (result_arrow h) (c_type t (ForResult (head home start sort keyword name generics params effect None)))

  -- a plain body where variants may stand
  word_let : {t : Token} {ts : List Token} {front : Head} {brace : Span} → Is t k.Let
      → Goes total (BodyOpened front brace) (t ∷ ts) (BodyWord front brace introducer.Let mode.Let t.span) ts
  unfolding step
  word_let h = eats (rw (h, step) refl)

  word_inout : {t : Token} {ts : List Token} {front : Head} {brace : Span} → Is t k.Inout
      → Goes total (BodyOpened front brace) (t ∷ ts) (BodyWord front brace introducer.Inout mode.Inout t.span) ts
  unfolding step
  word_inout h = eats (rw (h, step) refl)

  block_let : {t : Token} {ts : List Token} {place : Place} → Is t k.Let
      → Goes total (BlockOpened place) (t ∷ ts) (BindingWord introducer.Let t.span [] place) ts
  unfolding step
  block_let h = eats (rw (h, step) refl)

  block_inout : {t : Token} {ts : List Token} {place : Place} → Is t k.Inout
      → Goes total (BlockOpened place) (t ∷ ts) (BindingWord introducer.Inout t.span [] place) ts
  unfolding step
  block_inout h = eats (rw (h, step) refl)

  named_alike : (ts : List Token) (front : Head) (brace : Span) (introducer : Introducer) (mode : Mode) (word : Span) → begins names ts ≡ true
      → Goes total (BodyWord front brace introducer mode word) ts (BindingWord introducer word [] (InBody (PlainBody front) brace)) ts
  unfolding finish
  named_alike [] front brace introducer mode word h = alike refl tt
  named_alike (t ∷ ts) front brace introducer mode word h = alike refl (λ n. word_kind t.kind t front brace introducer mode word n refl h)

  plain_kinds : (kind : TokenKind) (t : Token) (ts : List Token) (front : Head) (brace : Span) → t.kind ≡ kind → PlainFirst t ts
      → Goes total (BodyOpened front brace) (t ∷ ts) (BlockOpened (InBody (PlainBody front) brace)) (t ∷ ts)
  unfolding step finish
  plain_kinds k.Let t ts front brace h x =
      record {
        same =
            (thens (word_let {front = front} {brace = brace} h) (named_alike ts front brace introducer.Let mode.Let t.span (x.named (ap binds h)))).same
            ∙ sym (block_let {ts = ts} {place = InBody (PlainBody front) brace} h).same;
        less = not_more (t ∷ ts);
      }
  plain_kinds k.Inout t ts front brace h x =
      record {
        same =
            (thens (word_inout {front = front} {brace = brace} h) (named_alike ts front brace introducer.Inout mode.Inout t.span (x.named (ap binds h)))).same
            ∙ sym (block_inout {ts = ts} {place = InBody (PlainBody front) brace} h).same;
        less = not_more (t ∷ ts);
      }
  plain_kinds kind t ts front brace h x = alike refl (λ n. ap (λ z. at_body_opened z t front brace) h
      ∙ plain_kind kind t front brace refl (sym (ap varies h) ∙ x.no_variant) ∙ sym (ap (λ z. at_block_opened z t (InBody (PlainBody front) brace)) h))

  plain_like : (ts : List Token) (front : Head) (brace : Span) → PlainStart ts
      → Goes total (BodyOpened front brace) ts (BlockOpened (InBody (PlainBody front) brace)) ts
  unfolding finish
  plain_like [] front brace x = alike refl tt
  plain_like (t ∷ ts) front brace x = plain_kinds t.kind t ts front brace refl x

  body_wanted : {o : Token} {ts : List Token} {front : Head} → Is o k.LeftBrace
      → Goes total (BodyWanted (PlainBody front)) (o ∷ ts) (BlockOpened (InBody (PlainBody front) o.span)) ts
  unfolding step
  body_wanted h = eats (rw (h, step) refl)

  to_wanted : (s : State) (front : Head) (ts : List Token) → ((o : Token) (n : ℕ) → Is o k.LeftBrace → step s o n ≡ Some (BodyOpened front o.span))
      → OnFront (λ t. Is t k.LeftBrace) ts → Inner ts → finish s total ≡ None → Goes total s ts (BodyWanted (PlainBody front)) ts
  unfolding finish
  to_wanted s front [] f h x e = alike e tt
  to_wanted s front (o ∷ ts) f h x e = record {
    same = (thens (eats (f o _ h)) (plain_like ts front o.span x)).same
        ∙ sym (body_wanted {ts = ts} {front = front} h).same;
    less = not_more (o ∷ ts);
  }

  c_plain_in : {b : T.Block} {old new : List Token} (s : State) (front : Head)
      → ((o : Token) (n : ℕ) → Is o k.LeftBrace → step s o n ≡ Some (BodyOpened front o.span)) → finish s total ≡ None → HasBlock false old b new
      → Goes total s old (plain_state front b) new
  c_plain_in {old = old} s front f e hb = thens (to_wanted s front old f (block_brace hb) (plain_block hb) e) (c_block hb (wanted_plain front) refl)

  -- VARIANTS

  sink_word : {t : Token} {ts : List Token} {front : Head} {brace : Span} → Is t k.Sink
      → Goes total (BodyOpened front brace) (t ∷ ts) (BodyWanted (VariantBody front brace [] t.span mode.Sink None)) ts
  unfolding step
  sink_word h = eats (rw (h, step) refl)

  set_first : {t : Token} {ts : List Token} (front : Head) {brace : Span} → Is t k.Set → front.sort ≡ Subscript
      → Goes total (BodyOpened front brace) (t ∷ ts) (SetWord front brace [] t.span) ts
  unfolding step
  set_first front h q = eats (rw (h, q, step) refl)

  set_next : {t : Token} {ts : List Token} (front : Head) {brace : Span} {variants : List T.Variant} → Is t k.Set → front.sort ≡ Subscript
      → Goes total (VariantsRead front brace variants) (t ∷ ts) (SetWord front brace variants t.span) ts
  unfolding step
  set_next front h q = eats (rw (h, q, step) refl)

  set_paren : {t : Token} {ts : List Token} {front : Head} {brace : Span} {variants : List T.Variant} {word : Span} → Is t k.LeftParen
      → Goes total (SetWord front brace variants word) (t ∷ ts) (SetOpened front brace variants word) ts
  unfolding step
  set_paren h = eats (rw (h, step) refl)

  set_named : {t : Token} {text : List ℕ} {ts : List Token} {front : Head} {brace : Span} {variants : List T.Variant} {word : Span} → Is t (k.Name text)
      → Goes total (SetOpened front brace variants word) (t ∷ ts) (SetName front brace variants word (node.spelled text t.span)) ts
  unfolding step
  set_named h = eats (rw (h, step) refl)

  set_close : {t : Token} {ts : List Token} {front : Head} {brace : Span} {variants : List T.Variant} {word : Span} {name : Name} → Is t k.RightParen
      → Goes total (SetName front brace variants word name) (t ∷ ts) (BodyWanted (VariantBody front brace variants word mode.Set (Some name))) ts
  unfolding step
  set_close h = eats (rw (h, step) refl)

  same_mode : (front : Head) (brace : Span) (variants : List T.Variant) (word : Span) (b : T.Block) (s : State) (old new : List Token) (one other : Mode)
      → ◌≡◌ {A = Option Mode} (Some one) (Some other)
      → Goes total s old (VariantsRead front brace (variants ++ node.variant one word None b ∷ [])) new
      → Goes total s old (VariantsRead front brace (variants ++ node.variant other word None b ∷ [])) new
  same_mode front brace variants word b s old new one other h x = let q : one ≡ other = cc in
      subst (λ z. Goes total s old (VariantsRead front brace (variants ++ node.variant z word None b ∷ [])) new) q x

  first_effect : (kind : TokenKind) (w : Token) (mode : Mode) {b : T.Block} {old new : List Token} (front : Head) (brace : Span) → w.kind ≡ kind
      → effect_of kind ≡ Some mode → HasBlock false old b new
      → Goes total (BodyOpened front brace) (w ∷ old) (VariantsRead front brace ([] ++ node.variant mode w.span None b ∷ [])) new
  first_effect k.Let w m {b = b} {old = old} {new = new} front brace h e hb =
      same_mode front brace [] w.span b _ (w ∷ old) new _ m e (thens (word_let h) (c_block hb (word_block front brace introducer.Let mode.Let w.span) refl))
  first_effect k.Inout w m {b = b} {old = old} {new = new} front brace h e hb =
      same_mode front brace [] w.span b _ (w ∷ old) new _ m e
      (thens (word_inout h) (c_block hb (word_block front brace introducer.Inout mode.Inout w.span) refl))
  first_effect k.Sink w m {b = b} {old = old} {new = new} front brace h e hb =
      same_mode front brace [] w.span b _ (w ∷ old) new _ m e (thens (sink_word h) (c_block hb (wanted_block front brace [] w.span mode.Sink None) refl))
  first_effect _ w mode front brace h e hb = let q : ⊥ = cc in absurd q

  effect_next : {w : Token} {mode : Mode} {ts : List Token} {front : Head} {brace : Span} {variants : List T.Variant} → effect_of w.kind ≡ Some mode
      → Goes total (VariantsRead front brace variants) (w ∷ ts) (BodyWanted (VariantBody front brace variants w.span mode None)) ts
  unfolding step
  effect_next {w = w} {mode = mode} {front = front} {brace = brace} {variants = variants} h = eats (wanted_kind w.kind mode w.span front brace variants h)

  c_first_variant : {sort : Sort} {v : T.Variant} {old new : List Token} (front : Head) (brace : Span) → front.sort ≡ sort → HasVariant sort old v new
      → Goes total (BodyOpened front brace) old (VariantsRead front brace (v ∷ [])) new
  c_first_variant front brace q (g.effect_variant {w = w} {mode = mode} h b) = first_effect w.kind w mode front brace refl h b
  c_first_variant front brace q (g.set_variant {w = w} {n = n} {text = text} hw ho hn hc b) =
      thens (set_first front hw q)
      (thens (set_paren ho)
      (thens (set_named hn) (thens (set_close hc) (c_block b (wanted_block front brace [] w.span mode.Set (Some (node.spelled text n.span))) refl))))

  c_next_variant : {sort : Sort} {v : T.Variant} {old new : List Token} (front : Head) (brace : Span) (variants : List T.Variant) → front.sort ≡ sort
      → HasVariant sort old v new → Goes total (VariantsRead front brace variants) old (VariantsRead front brace (variants ++ v ∷ [])) new
  c_next_variant front brace variants q (g.effect_variant {w = w} {mode = mode} h b) =
      thens (effect_next h) (c_block b (wanted_block front brace variants w.span mode None) refl)
  c_next_variant front brace variants q (g.set_variant {w = w} {n = n} {text = text} hw ho hn hc b) =
      thens (set_next front hw q)
      (thens (set_paren ho)
      (thens (set_named hn) (thens (set_close hc) (c_block b (wanted_block front brace variants w.span mode.Set (Some (node.spelled text n.span))) refl))))

  c_variants : {sort : Sort} {variants : List T.Variant} {old new : List Token} (front : Head) (brace : Span) → front.sort ≡ sort
      → HasVariants sort old variants new → Goes total (BodyOpened front brace) old (VariantsRead front brace variants) new
  c_variants front brace q (g.one_variant v) = c_first_variant front brace q v
  c_variants front brace q (g.more_variants {variants = variants} y v) = thens (c_variants front brace q y) (c_next_variant front brace variants q v)

  variants_close : {t : Token} {ts : List Token} (front : Head) {brace : Span} {variants : List T.Variant} → Is t k.RightBrace
      → Goes total (VariantsRead front brace variants) (t ∷ ts) (callable_state front.home front.start (callable_of front variants t.span.to) t.span.to) ts
  unfolding step
  variants_close {t = t} {ts = ts} front {brace = brace} {variants = variants} h =
      subst (λ z. Goes total (VariantsRead front brace variants) (t ∷ ts) z ts) (called_state front.home front variants t.span.to)
      (eats (rw (h, step) refl))

  -- A body, where parameters, effect and result are read.
  module _ (home : Home) (start : Start) (keyword : Span) (name : Option Name) (generics : List TypeParam) (params : List T.Param)
      (result : Option T.TypeExp) (far : ℕ) where
    of_file : {variants : List T.Variant} {to : ℕ} {old new : List Token} → HasBody FileFunction None old variants to new
        → Goes total (ResultRead (head home start FileFunction keyword name generics params None result) far) old
        (callable_state home start (callable_of (head home start FileFunction keyword name generics params None result) variants to) to) new
    of_file (g.plain_body b) = c_block b (plain_at _ _ (file_opens home start keyword name generics params result far)) refl
    of_file (g.variants_body m o v c) = elim m [ ]

    of_method : {effect : Option Mode} {variants : List T.Variant} {to : ℕ} {old new : List Token} → HasBody Method effect old variants to new
        → Goes total (ResultRead (head home start Method keyword name generics params effect result) far) old
        (callable_state home start (callable_of (head home start Method keyword name generics params effect result) variants to) to) new
    of_method (g.plain_body {effect = Some effect} b) = c_block b (plain_at _ _ (effect_opens home start keyword name generics params result far effect)) refl
    of_method (g.plain_body {effect = None} b) = c_plain_in _ _ (method_opens home start keyword name generics params result far) (no_finish total _ _) b
    of_method (g.variants_body g.method_varies o v c) =
        thens (eats (method_opens home start keyword name generics params result far _ _ o)) (thens (c_variants _ _ refl v) (variants_close _ c))

    of_subscript : {variants : List T.Variant} {to : ℕ} {old new : List Token} → HasBody Subscript None old variants to new
        → Goes total (ResultRead (head home start Subscript keyword name generics params None result) far) old
        (callable_state home start (callable_of (head home start Subscript keyword name generics params None result) variants to) to) new
    of_subscript (g.plain_body b) = c_plain_in _ _ (subscript_opens home start keyword name generics params result far) (no_finish total _ _) b
    of_subscript (g.variants_body g.subscript_varies o v c) =
        thens (eats (subscript_opens home start keyword name generics params result far _ _ o)) (thens (c_variants _ _ refl v) (variants_close _ c))

  -- FUNCTIONS

  function_named : {n : Token} {text : List ℕ} {ts : List Token} (home : Home) (start : Start) (sort : Sort) (keyword : Span) → sort_in home ≡ sort
      → Is n (k.Name text)
      → Goes total (FunctionWord home start keyword) (n ∷ ts)
      (FunctionName (head home start sort keyword (Some (node.spelled text n.span)) [] [] None None)) ts
  unfolding step
  function_named {n = n} {text = text} {ts = ts} home start sort keyword q h =
      subst (λ z. Goes total (FunctionWord home start keyword) (n ∷ ts)
      (FunctionName (head home start z keyword (Some (node.spelled text n.span)) [] [] None None)) ts) q (eats (rw (h, step) refl))

  to_params : {generics : List TypeParam} {params : List T.Param} {close : ℕ} {old mid new : List Token} (home : Home) (start : Start) (sort : Sort)
      (keyword : Span) (name : Option Name) → (sort ≡ Requirement → ⊥) → HasGenerics old generics mid → HasParams sort mid params close new
      → Goes total (FunctionName (head home start sort keyword name [] [] None None)) old
      (ParamsRead (head home start sort keyword name generics params None None) close) new
  to_params home start sort keyword name nr g.no_generics p = c_params home start sort keyword name _ [] (function_paren _) p
  to_params home start sort keyword name nr (g.generics {params = generics} l x c) p =
      thens (generics_less home start sort keyword name l nr)
      (thens (c_generics_close home start sort keyword name x refl c) (c_params home start sort keyword name _ generics (wanted_paren _) p))

  pub c_file_function : {c : T.Callable} {to : ℕ} {old new : List Token} (s : State) (home : Home) (start : Start) → FunStart s home start
      → sort_in home ≡ FileFunction → HasFunction FileFunction old c to new → Goes total s old (callable_state home start c to) new
  c_file_function s home start x q (g.file_function {w = w} {n = n} {text = text} {generics = generics} {params = params} {result = result} {close =
      close} {far = far} {b = b} {c = c} hw hn hg hp hr hb) =
      thens (eats (x.opens w _ hw)) (thens (function_named home start FileFunction w.span q hn)
      (thens (to_params home start FileFunction w.span _ (λ z. let w : ⊥ = cc in absurd w) hg hp)
      (thens (file_effect b close home start w.span _ generics params)
      (thens (c_result home start FileFunction w.span _ generics params None hr (on_front _ NoArrow brace_no_arrow c (body_brace hb)))
      (of_file home start w.span _ generics params result far hb)))))

  pub c_method : {c : T.Callable} {to : ℕ} {old new : List Token} (s : State) (home : Home) (start : Start) → FunStart s home start → sort_in home ≡ Method
      → HasFunction Method old c to new → Goes total s old (callable_state home start c to) new
  c_method s home start x q (g.method {w = w} {n = n} {text = text} {generics = generics} {params = params} {effect = effect} {result = result} {near =
      near} {far = far} {d = d} hw hn hg hp he hr hb) =
      thens (eats (x.opens w _ hw))
      (thens (function_named home start Method w.span q hn) (thens (to_params home start Method w.span _ (λ z. let w : ⊥ = cc in absurd w) hg hp)
      (thens (c_effect Method home start w.span _ generics params r.method_affects he
      (before_result hr (on_front _ NoEffect brace_no_effect d (body_brace hb))))
      (thens (c_result home start Method w.span _ generics params effect hr (on_front _ NoArrow brace_no_arrow d (body_brace hb)))
      (of_method home start w.span _ generics params result far hb)))))

  requirement_ends : (ts : List Token) (home : Home) (start : Start) (keyword : Span) (name : Option Name) (params : List T.Param) (effect : Option Mode)
      (result : Option T.TypeExp) (to : ℕ)
      → finish (callable_state home start (callable_of (head home start Requirement keyword name [] params effect result) [] to) to) total ≡ None
      → Goes total (ResultRead (head home start Requirement keyword name [] params effect result) to) ts
      (callable_state home start (callable_of (head home start Requirement keyword name [] params effect result) [] to) to) ts
  unfolding step finish
  requirement_ends [] home start keyword name params effect result to e = alike (sym e) tt
  requirement_ends (t ∷ ts) home start keyword name params effect result to e =
      alike (sym e) (λ n. sym (requirement_like home t n (head home start Requirement keyword name [] params effect result) to))

  pub c_requirement : {c : T.Callable} {to : ℕ} {old new : List Token} (s : State) (owner : Owner) (members : List T.Member) (start : Start)
      → FunStart s (InOwner owner members) start → sort_in (InOwner owner members) ≡ Requirement → OnFront NoEffect new → OnFront NoArrow new
      → HasFunction Requirement old c to new → Goes total s old (callable_state (InOwner owner members) start c to) new
  c_requirement {new = new} s owner members start x q ne na (g.requirement {w = w} {n = n} {text = text} {params = params} {effect = effect} {result =
      result} {to = to} hw hn hp he hr) =
      thens (eats (x.opens w _ hw)) (thens (function_named (InOwner owner members) start Requirement w.span q hn)
      (thens (c_params (InOwner owner members) start Requirement w.span _ _ [] (function_paren _) hp)
      (thens (c_effect Requirement (InOwner owner members) start w.span _ [] params r.requirement_affects he (before_result hr ne))
      (thens (c_result (InOwner owner members) start Requirement w.span _ [] params effect hr na)
      (requirement_ends new (InOwner owner members) start w.span _ params effect result to (owner_finish total owner members start _ to))))))

  pub c_deinit : {c : T.Callable} {to : ℕ} {old new : List Token} (s : State) (home : Home) (start : Start) → DeinitStart s home start
      → HasFunction Deinit old c to new → Goes total s old (callable_state home start c to) new
  c_deinit s home start x (g.deinit {w = w} hw (g.plain_body b)) = thens (eats (x.opens w _ hw)) (c_block b (wanted_plain _) refl)
  c_deinit s home start x (g.deinit {w = w} hw (g.variants_body m o v c)) = elim m [ ]

  subscript_name : {n : Token} {text : List ℕ} {ts : List Token} (home : Home) (start : Start) (keyword : Span) → Is n (k.Name text)
      → Goes total (SubscriptWord home start keyword) (n ∷ ts)
      (ParamsWanted (head home start Subscript keyword (Some (node.spelled text n.span)) [] [] None None)) ts
  unfolding step
  subscript_name home start keyword h = eats (rw (h, step) refl)

  subscript_colon : {t : Token} {ts : List Token} {to : ℕ} (home : Home) (start : Start) (keyword : Span) (name : Option Name) (params : List T.Param)
      → Is t k.Colon
      → Goes total (ParamsRead (head home start Subscript keyword name [] params None None) to) (t ∷ ts)
      (TypeWanted (ForResult (head home start Subscript keyword name [] params None None))) ts
  unfolding step
  subscript_colon home start keyword name params h = eats (rw (h, step) refl)

  to_subscript_params : {name : Option Name} {params : List T.Param} {close : ℕ} {old mid new : List Token} (home : Home) (start : Start) (keyword : Span)
      → MayLack home name → HasSubscriptName old name mid → HasParams Subscript mid params close new
      → Goes total (SubscriptWord home start keyword) old (ParamsRead (head home start Subscript keyword name [] params None None) close) new
  to_subscript_params home start keyword r.has_one (g.a_name n) p =
      thens (subscript_name home start keyword n) (c_params home start Subscript keyword _ _ [] (wanted_paren _) p)
  to_subscript_params home start keyword (r.lacks_it {owner = owner} {members = members}) g.no_name p =
      c_params (InOwner owner members) start Subscript keyword None _ [] (subscript_paren owner members start keyword) p

  pub c_subscript : {name : Option Name} {c : T.Callable} {to : ℕ} {old new : List Token} (s : State) (home : Home) (start : Start)
      → SubscriptStart s home start → MayLack home name → HasSubscript name old c to new → Goes total s old (callable_state home start c to) new
  c_subscript s home start x m (g.subscript {w = w} {name = name} {params = params} {result = result} hw hn hp hc ht hb) =
      thens (eats (x.opens w _ hw)) (thens (to_subscript_params home start w.span m hn hp) (thens (subscript_colon home start w.span name params hc)
      (thens (c_type ht (ForResult (head home start Subscript w.span name [] params None None)))
      (of_subscript home start w.span name [] params (Some result) (node.type_to result) hb))))
