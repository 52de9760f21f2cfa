-- What the machine wants in the states of parameters.
use Rattle.std.proofs.Common.{◌≡◌, ℕ, Some, None, List, refl, ap}
use Rattle.hy_base.specs.declared.position.Span.{Span}
use Rattle.hy_lexer.specs.declared.token.Token.{Token}
use Rattle.hy_lexer.specs.declared.token.TokenKind.{TokenKind}
use Rattle.hy_lexer.specs.declared.token.TokenKind.TheVariants as k
use Rattle.hy_tree.specs.declared.declaration.Label.{Label}
use Rattle.hy_tree.specs.declared.declaration.Label.TheVariants as label
use Rattle.hy_tree.specs.declared.name.Name.{Name}
use Rattle.hy_tree.specs.declared.operator.Mode.{Mode}
use Rattle.hy_tree.specs.declared.operator.Mode.TheVariants as mode
use Rattle.hy_grammar.specs.DeclSteps.{at_param, at_params_opened, at_param_first, at_param_read, at_mode, mode_in}
use Rattle.hy_grammar.specs.Machine.{step, finish, walk}
use Rattle.hy_parser.specs.Separated.{ahead}
use Rattle.hy_grammar.specs.Stack.{Head, ParamsOpened, ParamWanted, ParamFirst, ParamUnlabelled, ParamName, ParamColon, ParamRead, ParamsRead, TypeWanted}
use Rattle.hy_grammar.specs.Stack.{ForParam}
use Rattle.hy_phrases.specs.Wanted.{Sees}
use Rattle.hy_parser.proofs.Follows.{NamesBut, alike_on, none_ahead}
use Rattle.hy_parser.proofs.Separators.{Separates}
use Rattle.hy_phrases.proofs.Walks.{Follows, Wants, WantsName, alike_without}
use Rattle.hy_phrases.proofs.WantedKinds.{no_colon, no_text}

pub unlabelled : (head : Head) → Follows k.Underscore (ParamWanted head) (λ span. ParamUnlabelled head span.from)
unfolding step
unlabelled head = record { takes = λ t place h. rw (h, step) refl }

no_param : (it : TokenKind) (t : Span) (head : Head) → (it ≡ k.Underscore → ⊥) → ((text : List ℕ) → it ≡ k.Name text → ⊥) → at_param it t head ≡ None
no_param (k.Name text) t head a b = absurd (b text refl)
no_param k.Underscore t head a b = absurd (a refl)
no_param _ t head a b = refl

pub param_names : (head : Head) → NamesBut k.Underscore (ParamWanted head) (λ n. ParamFirst head n)
unfolding step finish
param_names head = record {
  takes = λ t text place h. rw (h, step) refl;
  refuses_others = λ t place a b. no_param t.kind t.span head a b;
  unfinished = λ place. refl;
}

pub unlabelled_wants : (head : Head) (from : ℕ) → WantsName (ParamUnlabelled head from) (λ n. ParamName head from label.Nothing n)
unfolding step finish
unlabelled_wants head from = record {
  takes = λ t text place h. rw (h, step) refl;
  refuses_others = λ t place h. no_text t.kind _ h;
  unfinished = λ place. refl;
}

pub colon_wanted : (head : Head) (from : ℕ) (label : Label) (name : Name)
    → Wants k.Colon (ParamName head from label name) (λ span. ParamColon head from label name)
unfolding step finish
colon_wanted head from label name = record {
  takes = λ t place h. rw (h, step) refl;
  refuses_others = λ t place h. no_colon t.kind _ h;
  unfinished = λ place. refl;
}

pub same_label : (head : Head) (name : Name) → Follows k.Colon (ParamFirst head name) (λ span. ParamColon head name.span.from label.Same name)
unfolding step
same_label head name = record { takes = λ t place h. rw (h, step) refl }

no_second : (it : TokenKind) (t : Span) (head : Head) (name : Name) → (it ≡ k.Colon → ⊥) → ((text : List ℕ) → it ≡ k.Name text → ⊥)
    → at_param_first it t head name ≡ None
no_second (k.Name text) t head name a b = absurd (b text refl)
no_second k.Colon t head name a b = absurd (a refl)
no_second _ t head name a b = refl

pub second_names : (head : Head) (first : Name) → NamesBut k.Colon (ParamFirst head first) (λ n. ParamName head first.span.from (label.Text first.text) n)
unfolding step finish
second_names head first = record {
  takes = λ t text place h. rw (h, step) refl;
  refuses_others = λ t place a b. no_second t.kind t.span head first a b;
  unfinished = λ place. refl;
}

-- a convention, or none
pub moded : (head : Head) (from : ℕ) (label : Label) (name : Name) (mode : Mode) (t : Token) (place : ℕ) → mode_in head.sort t.kind ≡ Some mode
    → step (ParamColon head from label name) t place ≡ Some (TypeWanted (ForParam head from label name mode))
unfolding step
moded head from label name mode t place h = ap (λ o. at_mode o t.kind t.span head from label name) h

unmoded_at : (head : Head) (from : ℕ) (label : Label) (name : Name) (t : Token) (place : ℕ) → mode_in head.sort t.kind ≡ None
    → step (ParamColon head from label name) t place ≡ step (TypeWanted (ForParam head from label name mode.Let)) t place
unfolding step
unmoded_at head from label name t place h = ap (λ o. at_mode o t.kind t.span head from label name) h

pub unmoded : (total : ℕ) (head : Head) (from : ℕ) (label : Label) (name : Name) (old : List Token) → ahead (mode_in head.sort) old ≡ None
    → walk total (ParamColon head from label name) old ≡ walk total (TypeWanted (ForParam head from label name mode.Let)) old
unfolding finish
unmoded total head from label name old h =
    alike_on total (ParamColon head from label name) (TypeWanted (ForParam head from label name mode.Let)) old (λ place. refl)
    (none_ahead (mode_in head.sort) old h (λ t e place. unmoded_at head from label name t place e))

-- THE LIST

pub no_params : (head : Head) → Follows k.RightParen (ParamsOpened head) (λ span. ParamsRead head span.to)
unfolding step
no_params head = record { takes = λ t place h. rw (h, step) refl }

a_param : (it : TokenKind) (t : Span) (head : Head) → (it ≡ k.RightParen → ⊥) → at_params_opened it t head ≡ at_param it t head
a_param k.RightParen t head h = absurd (h refl)
a_param _ t head h = refl

pub some_params : (total : ℕ) (head : Head) (old : List Token) → (Sees k.RightParen old → ⊥)
    → walk total (ParamsOpened head) old ≡ walk total (ParamWanted head) old
unfolding step finish
some_params total head old h =
    alike_without total k.RightParen (ParamsOpened head) (ParamWanted head) old h (λ t place g. a_param t.kind t.span head g) (λ place. refl)

no_param_read : (it : TokenKind) (t : Span) (head : Head) → (it ≡ k.Comma → ⊥) → (it ≡ k.RightParen → ⊥) → at_param_read it t head ≡ None
no_param_read k.Comma t head a b = absurd (a refl)
no_param_read k.RightParen t head a b = absurd (b refl)
no_param_read _ t head a b = refl

pub params_separate : (head : Head) → Separates k.Comma k.RightParen (ParamRead head) (ParamWanted head) (λ span. ParamsRead head span.to)
unfolding step finish
params_separate head = record {
  goes_on = λ t place h. rw (h, step) refl;
  closes = λ t place h. rw (h, step) refl;
  refuses_others = λ t place a b c. no_param_read t.kind t.span head b c;
  unfinished = λ place. refl;
}
