-- What the machine wants after the parameters of something callable.
use Rattle.std.proofs.Common.{◌≡◌, ◌+◌, ℕ, true, false, Option, Some, None, List, [], refl, ap, ◌∙◌}
use Rattle.hy_base.specs.declared.position.Span.{Span}
use Rattle.hy_lexer.specs.declared.token.Token.{Token}
use Rattle.hy_lexer.specs.declared.token.TokenKind.{TokenKind}
use Rattle.hy_lexer.specs.declared.token.TokenKind.TheVariants as k
use Rattle.hy_tree.specs.Tree as T
use Rattle.hy_tree.specs.declared.operator.Mode.{Mode}
use Rattle.hy_grammar.specs.DeclSteps.{sort_in, with_effect, at_colon, at_effect, at_params_read, at_result, at_body, body_opened, method_body, plain_only}
use Rattle.hy_grammar.specs.DeclSteps.{at_callable_read}
use Rattle.hy_parser.specs.Headings.{Fits, callable_done, effect_in, has_body, may_vary}
use Rattle.hy_grammar.specs.Machine.{step, finish, walk}
use Rattle.hy_grammar.specs.Nodes as node
use Rattle.hy_parser.specs.Separated.{ahead}
use Rattle.hy_grammar.specs.Stack.{Home, InFile, InOwner, Sort, FileFunction, Method, Requirement, Subscript, Deinit, Head, depth, depth_home, depth_head}
use Rattle.hy_grammar.specs.Stack.{ParamsRead, EffectRead, ResultRead, TypeWanted, ForResult, BodyOpened}
use Rattle.hy_grammar.specs.StmtSteps.{callable_of, called_in}
use Rattle.hy_phrases.specs.Wanted.{Sees}
use Rattle.hy_parser.proofs.Follows.{alike_on, on_each, none_ahead}
use Rattle.hy_phrases.proofs.Walks.{Follows, Wants, alike_without}

-- EFFECT AND RESULT

no_at_colon : (it : TokenKind) (head : Head) → (it ≡ k.Colon → ⊥) → at_colon it head ≡ None
no_at_colon k.Colon head h = absurd (h refl)
no_at_colon _ head h = refl

pub subscript_wants : (head : Head) (to : ℕ) → head.sort ≡ Subscript → Wants k.Colon (ParamsRead head to) (λ span. TypeWanted (ForResult head))
unfolding step finish
subscript_wants head to is = record {
  takes = λ t place h. ap (λ s. at_params_read s t place head to) is ∙ ap (λ it. at_colon it head) h;
  refuses_others = λ t place h. ap (λ s. at_params_read s t place head to) is ∙ no_at_colon t.kind head h;
  unfinished = λ place. refl;
}

effect_step : (sort : Sort) (t : Token) (n : ℕ) (head : Head) (to : ℕ) → (sort ≡ Subscript → ⊥)
    → at_params_read sort t n head to ≡ at_effect (effect_in sort t.kind) t n head to
effect_step FileFunction t n head to h = refl
effect_step Method t n head to h = refl
effect_step Requirement t n head to h = refl
effect_step Subscript t n head to h = absurd (h refl)
effect_step Deinit t n head to h = refl

pub effect_taken : (head : Head) (to : ℕ) (mode : Mode) (t : Token) (place : ℕ) → (head.sort ≡ Subscript → ⊥) → effect_in head.sort t.kind ≡ Some mode
    → step (ParamsRead head to) t place ≡ Some (EffectRead (with_effect head mode) t.span.to)
unfolding step
effect_taken head to mode t place h is = effect_step head.sort t place head to h ∙ ap (λ o. at_effect o t place head to) is

no_effect_at : (head : Head) (to : ℕ) (t : Token) (place : ℕ) → (head.sort ≡ Subscript → ⊥) → effect_in head.sort t.kind ≡ None
    → step (ParamsRead head to) t place ≡ step (EffectRead head to) t place
unfolding step
no_effect_at head to t place h is = effect_step head.sort t place head to h ∙ ap (λ o. at_effect o t place head to) is

pub no_effect : (total : ℕ) (head : Head) (to : ℕ) (old : List Token) → (head.sort ≡ Subscript → ⊥) → ahead (effect_in head.sort) old ≡ None
    → walk total (ParamsRead head to) old ≡ walk total (EffectRead head to) old
unfolding finish
no_effect total head to old h is =
    alike_on total (ParamsRead head to) (EffectRead head to) old (λ place. refl)
    (none_ahead (effect_in head.sort) old is (λ t e place. no_effect_at head to t place h e))

pub arrow : (head : Head) (to : ℕ) → Follows k.Arrow (EffectRead head to) (λ span. TypeWanted (ForResult head))
unfolding step
arrow head to = record { takes = λ t place h. rw (h, step) refl }

no_arrow_at : (it : TokenKind) (t : Token) (n : ℕ) (head : Head) (to : ℕ) → (it ≡ k.Arrow → ⊥) → at_result it t n head to ≡ at_body head.sort it t n head to
no_arrow_at k.Arrow t n head to h = absurd (h refl)
no_arrow_at _ t n head to h = refl

pub no_arrow : (total : ℕ) (head : Head) (to : ℕ) (old : List Token) → (Sees k.Arrow old → ⊥)
    → walk total (EffectRead head to) old ≡ walk total (ResultRead head to) old
unfolding step finish
no_arrow total head to old h =
    alike_without total k.Arrow (EffectRead head to) (ResultRead head to) old h (λ t place g. no_arrow_at t.kind t place head to g) (λ place. refl)

-- BODIES

body_taken : (sort : Sort) (it : TokenKind) (t : Token) (n : ℕ) (head : Head) (to : ℕ) → has_body sort ≡ true → it ≡ k.LeftBrace
    → at_body sort it t n head to ≡ Some (body_opened sort head t.span)
body_taken FileFunction it t n head to h e = ap (λ z. at_body FileFunction z t n head to) e
body_taken Method it t n head to h e = ap (λ z. at_body Method z t n head to) e
body_taken Requirement it t n head to h e = cc
body_taken Subscript it t n head to h e = ap (λ z. at_body Subscript z t n head to) e
body_taken Deinit it t n head to h e = ap (λ z. at_body Deinit z t n head to) e

body_refused : (sort : Sort) (it : TokenKind) (t : Token) (n : ℕ) (head : Head) (to : ℕ) → has_body sort ≡ true → (it ≡ k.LeftBrace → ⊥)
    → at_body sort it t n head to ≡ None
body_refused Requirement it t n head to h e = cc
body_refused FileFunction k.LeftBrace t n head to h e = absurd (e refl)
body_refused FileFunction _ t n head to h e = refl
body_refused Method k.LeftBrace t n head to h e = absurd (e refl)
body_refused Method _ t n head to h e = refl
body_refused Subscript k.LeftBrace t n head to h e = absurd (e refl)
body_refused Subscript _ t n head to h e = refl
body_refused Deinit k.LeftBrace t n head to h e = absurd (e refl)
body_refused Deinit _ t n head to h e = refl

pub body_wants : (head : Head) (to : ℕ) → has_body head.sort ≡ true → Wants k.LeftBrace (ResultRead head to) (λ span. body_opened head.sort head span)
unfolding step finish
body_wants head to is = record {
  takes = λ t place h. body_taken head.sort t.kind t place head to is h;
  refuses_others = λ t place h. body_refused head.sort t.kind t place head to is h;
  unfinished = λ place. refl;
}

method_depth : (effect : Option Mode) (head : Head) (t : Span) → depth (method_body effect head t) ≡ depth_head head + 1
method_depth None head t = refl
method_depth (Some effect) head t = refl

pub opened_depth : (sort : Sort) (head : Head) (t : Span) → depth (body_opened sort head t) ≡ depth_head head + 1
opened_depth FileFunction head t = refl
opened_depth Method head t = method_depth head.effect head t
opened_depth Requirement head t = refl
opened_depth Subscript head t = refl
opened_depth Deinit head t = refl

method_varies : (effect : Option Mode) (head : Head) (t : Span) → may_vary Method effect ≡ true → method_body effect head t ≡ BodyOpened head t
method_varies None head t h = refl
method_varies (Some effect) head t h = cc

pub varying : (sort : Sort) (head : Head) (t : Span) → may_vary sort head.effect ≡ true → body_opened sort head t ≡ BodyOpened head t
varying FileFunction head t h = cc
varying Method head t h = method_varies head.effect head t h
varying Requirement head t h = cc
varying Subscript head t h = refl
varying Deinit head t h = cc

method_plain : (effect : Option Mode) (head : Head) (t : Span) → may_vary Method effect ≡ false → method_body effect head t ≡ plain_only head t
method_plain None head t h = cc
method_plain (Some effect) head t h = refl

pub not_varying : (sort : Sort) (head : Head) (t : Span) → may_vary sort head.effect ≡ false → body_opened sort head t ≡ plain_only head t
not_varying FileFunction head t h = refl
not_varying Method head t h = method_plain head.effect head t h
not_varying Requirement head t h = refl
not_varying Subscript head t h = cc
not_varying Deinit head t h = refl

-- ENDS

pub called_done : (home : Home) (head : Head) (variants : List T.Variant) (end : ℕ)
    → called_in home head variants end ≡ callable_done (callable_of head variants end) home head.start
unfolding node.callable
called_done (InFile decls) head variants end = refl
called_done (InOwner owner members) head variants end = refl

pub called_depth : (home : Home) (head : Head) (variants : List T.Variant) (end : ℕ) → depth (called_in home head variants end) ≡ depth_home home
called_depth (InFile decls) head variants end = refl
called_depth (InOwner owner members) head variants end = refl

pub is_requirement : (sort : Sort) → has_body sort ≡ false → sort ≡ Requirement
is_requirement Requirement h = refl
is_requirement FileFunction h = cc
is_requirement Method h = cc
is_requirement Subscript h = cc
is_requirement Deinit h = cc

pub fits_owner : (sort : Sort) (home : Home) → sort ≡ Requirement → Fits sort home → sort_in home ≡ Requirement
fits_owner Requirement home e h = h
fits_owner FileFunction home e h = cc
fits_owner Method home e h = cc
fits_owner Subscript home e h = cc
fits_owner Deinit home e h = cc

called_step : (home : Home) (t : Token) (n : ℕ) (head : Head) (to : ℕ) → at_callable_read home t n head to ≡ step (called_in home head [] to) t n
unfolding step
called_step (InFile decls) t n head to = refl
called_step (InOwner owner members) t n head to = refl

called_finish : (home : Home) (n : ℕ) (head : Head) (to : ℕ) → sort_in home ≡ Requirement → None ≡ finish (called_in home head [] to) n
unfolding finish
called_finish (InFile decls) n head to h = cc
called_finish (InOwner owner members) n head to h = refl

requirement_step : (head : Head) (to : ℕ) (t : Token) (n : ℕ) → head.sort ≡ Requirement
    → step (ResultRead head to) t n ≡ step (called_in head.home head [] to) t n
unfolding step
requirement_step head to t n h = ap (λ s. at_body s t.kind t n head to) h ∙ called_step head.home t n head to

pub requirement_done : (total : ℕ) (head : Head) (to : ℕ) (old : List Token) → head.sort ≡ Requirement → sort_in head.home ≡ Requirement
    → walk total (ResultRead head to) old ≡ walk total (callable_done (callable_of head [] to) head.home head.start) old
unfolding finish
requirement_done total head to old h g =
    alike_on total (ResultRead head to) (called_in head.home head [] to) old (λ place. called_finish head.home place head to g)
    (on_each old (λ t place. requirement_step head to t place h))
    ∙ ap (λ s. walk total s old) (called_done head.home head [] to)
