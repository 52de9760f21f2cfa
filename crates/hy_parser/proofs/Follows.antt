-- How what a function reads follows from what the last function that it calls reads.
use Rattle.std.proofs.Common.{◌≡◌, ◌≤◌, ◌+◌, ℕ, Result, Ok, Err, List, [], ◌∷◌, Option, Some, None, IsErrAnd, length, refl, sym, ap, subst, ◌∙◌}
use Rattle.hy_lexer.specs.declared.token.Token.{Token}
use Rattle.hy_lexer.specs.declared.token.TokenKind.{TokenKind}
use Rattle.hy_lexer.specs.declared.token.TokenKind.TheVariants as k
use Rattle.hy_tree.specs.declared.name.Name.{Name}
use Rattle.hy_phrases.specs.declared.stop.Stop.{Stop}
use Rattle.hy_phrases.specs.declared.stop.Stop.TheVariants as stop
use Rattle.hy_grammar.specs.Machine.{step, finish, accepted_within, Unexpected, most_levels, walk}
use Rattle.hy_phrases.specs.Reads.{Halts, Reads, ReadsCounted}
use Rattle.hy_grammar.specs.Stack.{State, depth}
use Rattle.hy_grammar.specs.Nodes as node
use Rattle.hy_parser.specs.Separated.{ahead}
use Rattle.hy_phrases.specs.Wanted.{Sees, TakesName, LacksName, MissesName}
use Rattle.hy_phrases.proofs.Walks.{leads, from_there, over, alike, halts, lacks}

pub follows : {A B X Y : Type 0} (levels inner : ℕ) (plain : A → B) (need : X → State) (f : X → Y) (need' : Y → State) (have : B → Y
    → State) (old mid new : List Token) (r : Result A Stop)
    → ((total : ℕ) (x : X) → levels + depth (need x) ≡ most_levels → walk total (need x) old ≡ walk total (need' (f x)) mid)
    → ((x : X) → levels + depth (need x) ≡ most_levels → inner + depth (need' (f x)) ≡ most_levels)
    → Reads inner plain need' have mid r new → Reads levels plain need (λ part x. have part (f x)) old r new
follows levels inner plain need f need' have old mid new r g d h =
    leads levels inner plain need (λ part x. have part (f x)) need' have old mid new r f g d (λ total part x. refl) h

-- What a function reads, with the part in the program's form.
abbrev pub ReadsTo : {A X : Type 0} → (levels : ℕ) → (need : X → State) → (done : A → X → State) → List Token → Result A Stop → List Token → Type 0
ReadsTo {X = X} levels need done old (Ok part) new = (total : ℕ) (x : X) → levels + depth (need x) ≡ most_levels
    → walk total (need x) old ≡ walk total (done part x) new
ReadsTo {X = X} levels need done old (Err e) new = (total : ℕ) (x : X) → levels + depth (need x) ≡ most_levels → Halts e (walk total (need x) old)

-- the exit of a `?`
pub passed : {A X : Type 0} (levels : ℕ) (need : X → State) (done : A → X → State) (old new : List Token) (r : Result A Stop) (e : Stop)
    → IsErrAnd r (λ y. y ≡ e)
    → ((total : ℕ) (x : X) → levels + depth (need x) ≡ most_levels → Halts e (walk total (need x) old)) → ReadsTo levels need done old r new
passed levels need done old new (Ok part) e h g = absurd h
passed levels need done old new (Err y) e h g = λ total x l. subst (λ z. Halts z (walk total (need x) old)) (sym h) (g total x l)

-- the same for a part that counts its tokens
abbrev pub ReadsCountedTo : {A X : Type 0} → (levels : ℕ) → (need : X → State) → (done : A → X → State) → List Token → Result A Stop → List Token → Type 0
ReadsCountedTo {X = X} levels need done old (Ok part) new = (total : ℕ) (x : X) → length old ≤ total → levels + depth (need x) ≡ most_levels
    → walk total (need x) old ≡ walk total (done part x) new
ReadsCountedTo {X = X} levels need done old (Err e) new = (total : ℕ) (x : X) → length old ≤ total → levels + depth (need x) ≡ most_levels
    → Halts e (walk total (need x) old)

pub passed_counted : {A X : Type 0} (levels : ℕ) (need : X → State) (done : A → X → State) (old new : List Token) (r : Result A Stop) (e : Stop)
    → IsErrAnd r (λ y. y ≡ e)
    → ((total : ℕ) (x : X) → length old ≤ total → levels + depth (need x) ≡ most_levels → Halts e (walk total (need x) old))
    → ReadsCountedTo levels need done old r new
passed_counted levels need done old new (Ok part) e h g = absurd h
passed_counted levels need done old new (Err y) e h g = λ total x n l. subst (λ z. Halts z (walk total (need x) old)) (sym h) (g total x n l)

pub follows_counted : {A B X Y : Type 0} (levels inner : ℕ) (plain : A → B) (need : X → State) (f : X → Y) (need' : Y → State) (have : B → Y
    → State) (old mid new : List Token) (r : Result A Stop)
    → ((total : ℕ) (x : X) → length old ≤ total → levels + depth (need x) ≡ most_levels → walk total (need x) old ≡ walk total (need' (f x)) mid)
    → ((total : ℕ) → length old ≤ total → length mid ≤ total)
    → ((x : X) → levels + depth (need x) ≡ most_levels → inner + depth (need' (f x)) ≡ most_levels)
    → ReadsCounted inner plain need' have mid r new → ReadsCounted levels plain need (λ part x. have part (f x)) old r new
follows_counted levels inner plain need f need' have old mid new (Ok part) g m d h = λ total x n le. g total x n le ∙ h total (f x) (m total n) (d x le)
follows_counted levels inner plain need f need' have old mid new (Err e) g m d h =
    λ total x n le. from_there e _ _ (g total x n le) (h total (f x) (m total n) (d x le))

-- ---- the next token

-- what is wanted of the next token, if there is one
abbrev pub OnNext : (Token → Type 0) → List Token → Type 0
OnNext P [] = Unit {0}
OnNext P (t ∷ ts) = P t

pub on_each : {P : Token → Type 0} (old : List Token) → ((t : Token) → P t) → OnNext P old
on_each [] h = tt
on_each (t ∷ ts) h = h t

-- two states go on alike at the next token, or at the end
pub alike_on : (total : ℕ) (s s' : State) (old : List Token) → ((place : ℕ) → finish s place ≡ finish s' place)
    → OnNext (λ t. (place : ℕ) → step s t place ≡ step s' t place) old → walk total s old ≡ walk total s' old
unfolding walk
alike_on total s s' [] f g = ap accepted_within (f total)
alike_on total s s' (t ∷ ts) f g = alike total s s' t (t ∷ ts) ts refl g

-- the machine stops at the next token, or at the end
pub stops_on : (total : ℕ) (s : State) (old : List Token) → ((place : ℕ) → finish s place ≡ None) → OnNext (λ t. (place : ℕ) → step s t place ≡ None) old
    → walk total s old ≡ Err (Unexpected (length old))
stops_on total s [] f g = lacks total s [] refl f
stops_on total s (t ∷ ts) f g = halts total s t (t ∷ ts) ts refl g

-- a token that was not taken does not come
pub still : (kind : TokenKind) (old new : List Token) → (Sees kind old → ⊥) → new ≡ old → Sees kind new → ⊥
still kind old new none_such e h = none_such (subst (Sees kind) e h)

-- a token that is something goes alike, or is not there
pub none_ahead : {W : Type 0} {P : Token → Type 0} (of : TokenKind → Option W) (old : List Token) → ahead of old ≡ None
    → ((t : Token) → of t.kind ≡ None → P t) → OnNext P old
none_ahead of [] e h = tt
none_ahead of (t ∷ ts) e h = h t e

-- the next token is of neither kind
pub neither : {P : Token → Type 0} (one other : TokenKind) (old : List Token) → (Sees one old → ⊥) → (Sees other old → ⊥)
    → ((t : Token) → (t.kind ≡ one → ⊥) → (t.kind ≡ other → ⊥) → P t) → OnNext P old
neither one other [] a b h = tt
neither one other (t ∷ ts) a b h = h t a b

-- In this state a name is wanted where the next token is not of the kind `but`.
pub record NamesBut (but : TokenKind) (s : State) (to : Name → State) : Type 0 where
  pub takes : (t : Token) (text : List ℕ) (place : ℕ) → t.kind ≡ k.Name text → step s t place ≡ Some (to (node.spelled text t.span))
  pub refuses_others : (t : Token) (place : ℕ) → (t.kind ≡ but → ⊥) → ((text : List ℕ) → t.kind ≡ k.Name text → ⊥) → step s t place ≡ None
  pub unfinished : (place : ℕ) → finish s place ≡ None

module _ {but : TokenKind} {s : State} {to : Name → State} (total : ℕ) (w : NamesBut but s to) where
  pub named_but : {old : List Token} {name : Name} {new : List Token} → TakesName old name new → depth (to name) ≤ most_levels
      → walk total s old ≡ walk total (to name) new
  named_but {old = old} {name = name} {new = new} h le = over total s (to name) h.token old new h.front (λ place. w.takes h.token name.text place h.is
      ∙ ap (λ x. Some (to (node.spelled name.text x))) h.stands) le

  lacks_but : (old : List Token) → (Sees but old → ⊥) → LacksName old → OnNext (λ t. (place : ℕ) → step s t place ≡ None) old
  lacks_but [] a b = tt
  lacks_but (t ∷ ts) a b = λ place. w.refuses_others t place a b

  pub unnamed_but : (old : List Token) (e : Stop) → (Sees but old → ⊥) → MissesName old e → Halts e (walk total s old)
  unnamed_but old stop.NoMemory a h = tt
  unnamed_but old (stop.Unexpected left) a h = stops_on total s old w.unfinished (lacks_but old a h.0) ∙ ap (λ n. Err (Unexpected n)) (sym h.1)
  unnamed_but old (stop.TooDeep left) a h = absurd h
