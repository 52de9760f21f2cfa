-- Steps of the machine with the limit on nesting, and how a function that reads a part goes along with them.
use Rattle.std.proofs.Common.{◌≡◌, ◌≤◌, ◌<◌, ◌+◌, ◌-◌, cond, ℕ, suc, Some, None, Result, Ok, Err, IsErrAnd, List, [], ◌∷◌, length, refl, sym, ap, subst}
use Rattle.std.proofs.Common.{◌∙◌, arith}
use Rattle.std.proofs.lemmas.Bool.{lt-ltb, le-ltb}
use Rattle.hy_base.specs.declared.position.Span.{Span}
use Rattle.hy_lexer.specs.declared.token.Token.{Token}
use Rattle.hy_lexer.specs.declared.token.TokenKind.{TokenKind}
use Rattle.hy_lexer.specs.declared.token.TokenKind.TheVariants as k
use Rattle.hy_tree.specs.Tree as T
use Rattle.hy_tree.specs.declared.name.Name.{Name}
use Rattle.hy_phrases.specs.declared.stop.Stop.{Stop}
use Rattle.hy_phrases.specs.declared.stop.Stop.TheVariants as stop
use Rattle.hy_grammar.specs.Machine.{step, finish, Halt, Unexpected, TooDeep, most_levels, go_within, accepted_within, walk}
use Rattle.hy_grammar.specs.Nodes as node
use Rattle.hy_phrases.specs.Reads.{Halts, Reads, ReadsCounted}
use Rattle.hy_grammar.specs.Stack.{State, depth}
use Rattle.hy_phrases.specs.Wanted.{tail, Sees, Takes, Misses, OpensNone, TakesName, LacksName, MissesName}

-- ---- levels

-- where so many levels are left, no more than the most are open
pub fits : (levels open_levels : ℕ) → levels + open_levels ≡ most_levels → open_levels ≤ most_levels
fits levels open_levels h = omega arith

-- ---- one step

module _ (total : ℕ) where
  pub moves : (s s' : State) (t : Token) (ts : List Token) → step s t (total - suc (length ts)) ≡ Some s' → depth s' ≤ most_levels
      → walk total s (t ∷ ts) ≡ walk total s' ts
  unfolding walk
  moves s s' t ts h le = ap (λ o. go_within o (λ x. walk total x ts) (suc (length ts))) h
      ∙ ap (λ deep. cond deep (Err (TooDeep (suc (length ts)))) (walk total s' ts)) (le-ltb most_levels (depth s') le)

  -- the machine goes over a token
  pub over : (s s' : State) (t : Token) (old new : List Token) → old ≡ t ∷ new → ((place : ℕ) → step s t place ≡ Some s') → depth s' ≤ most_levels
      → walk total s old ≡ walk total s' new
  over s s' t old new front h le = ap (walk total s) front ∙ moves s s' t new (h (total - suc (length new))) le

  refuses : (s : State) (t : Token) (ts : List Token) → step s t (total - suc (length ts)) ≡ None → walk total s (t ∷ ts) ≡ Err (Unexpected (suc (length ts)))
  unfolding walk
  refuses s t ts h = ap (λ o. go_within o (λ x. walk total x ts) (suc (length ts))) h

  -- it stops at a token
  pub halts : (s : State) (t : Token) (old new : List Token) → old ≡ t ∷ new → ((place : ℕ) → step s t place ≡ None)
      → walk total s old ≡ Err (Unexpected (length old))
  halts s t old new front h = ap (walk total s) front ∙ refuses s t new (h (total - suc (length new))) ∙ ap (λ l. Err (Unexpected (length l))) (sym front)

  -- it stops at the end
  pub lacks : (s : State) (old : List Token) → old ≡ [] → ((place : ℕ) → finish s place ≡ None) → walk total s old ≡ Err (Unexpected (length old))
  unfolding walk
  lacks s old e h = ap (walk total s) e ∙ ap accepted_within (h total) ∙ ap (λ l. Err (Unexpected (length l))) (sym e)

  goes_too_deep : (s s' : State) (t : Token) (ts : List Token) → step s t (total - suc (length ts)) ≡ Some s' → most_levels < depth s'
      → walk total s (t ∷ ts) ≡ Err (TooDeep (suc (length ts)))
  unfolding walk
  goes_too_deep s s' t ts h gt = ap (λ o. go_within o (λ x. walk total x ts) (suc (length ts))) h
      ∙ ap (λ deep. cond deep (Err (TooDeep (suc (length ts)))) (walk total s' ts)) (lt-ltb most_levels (depth s') gt)

  -- it stops at a token that begins a level too many
  pub deep : (s s' : State) (t : Token) (old new : List Token) → old ≡ t ∷ new → ((place : ℕ) → step s t place ≡ Some s') → most_levels < depth s'
      → walk total s old ≡ Err (TooDeep (length old))
  deep s s' t old new front h gt = ap (walk total s) front ∙ goes_too_deep s s' t new (h (total - suc (length new))) gt
      ∙ ap (λ l. Err (TooDeep (length l))) (sym front)

  pub alike_at : (s s' : State) (t : Token) (ts : List Token) → step s t (total - suc (length ts)) ≡ step s' t (total - suc (length ts))
      → walk total s (t ∷ ts) ≡ walk total s' (t ∷ ts)
  unfolding walk
  alike_at s s' t ts h = ap (λ o. go_within o (λ x. walk total x ts) (suc (length ts))) h

  -- two states go on alike at a token
  pub alike : (s s' : State) (t : Token) (old new : List Token) → old ≡ t ∷ new → ((place : ℕ) → step s t place ≡ step s' t place)
      → walk total s old ≡ walk total s' old
  alike s s' t old new front h = ap (walk total s) front ∙ alike_at s s' t new (h (total - suc (length new))) ∙ ap (walk total s') (sym front)

  -- two states go on alike where the next token is not of this kind
  pub alike_without : (kind : TokenKind) (s s' : State) (old : List Token) → (Sees kind old → ⊥)
      → ((t : Token) (place : ℕ) → (t.kind ≡ kind → ⊥) → step s t place ≡ step s' t place) → ((place : ℕ) → finish s place ≡ finish s' place)
      → walk total s old ≡ walk total s' old
  unfolding walk
  alike_without kind s s' [] none_such h end = ap accepted_within (end total)
  alike_without kind s s' (t ∷ ts) none_such h end = alike_at s s' t ts (h t (total - suc (length ts)) none_such)

-- ---- a token of one kind

-- two states that always go on alike
pub same_walk : (total : ℕ) (s s' : State) (old : List Token) → ((t : Token) (place : ℕ) → step s t place ≡ step s' t place)
    → ((place : ℕ) → finish s place ≡ finish s' place) → walk total s old ≡ walk total s' old
unfolding walk
same_walk total s s' [] h end = ap accepted_within (end total)
same_walk total s s' (t ∷ ts) h end = alike_at total s s' t ts (h t (total - suc (length ts)))

-- In this state a token of one kind may stand, and after it comes that state.
pub record Follows (kind : TokenKind) (s : State) (to : Span → State) : Type 0 where
  pub takes : (t : Token) (place : ℕ) → t.kind ≡ kind → step s t place ≡ Some (to t.span)

-- the token was taken
pub taken : {kind : TokenKind} {s : State} {to : Span → State} {old : List Token} {span : Span} {new : List Token} (total : ℕ) → Follows kind s to
    → Takes kind old span new → depth (to span) ≤ most_levels → walk total s old ≡ walk total (to span) new
taken {s = s} {to = to} {old = old} {span = span} {new = new} total f h le =
    over total s (to span) h.token old new h.front (λ place. f.takes h.token place h.is ∙ ap (λ x. Some (to x)) h.stands) le

-- In this state a token of one kind is wanted, and after it comes that state.
pub record Wants (kind : TokenKind) (s : State) (to : Span → State) : Type 0 where
  pub takes : (t : Token) (place : ℕ) → t.kind ≡ kind → step s t place ≡ Some (to t.span)
  pub refuses_others : (t : Token) (place : ℕ) → (t.kind ≡ kind → ⊥) → step s t place ≡ None
  pub unfinished : (place : ℕ) → finish s place ≡ None

module _ {kind : TokenKind} {s : State} {to : Span → State} (total : ℕ) (w : Wants kind s to) where
  -- the token was taken
  pub wanted : {old : List Token} {span : Span} {new : List Token} → Takes kind old span new → depth (to span) ≤ most_levels
      → walk total s old ≡ walk total (to span) new
  wanted {old = old} {span = span} {new = new} h le = over total s (to span) h.token old new h.front (λ place. w.takes h.token place h.is
      ∙ ap (λ x. Some (to x)) h.stands) le

  stops_unless : (old : List Token) → (Sees kind old → ⊥) → walk total s old ≡ Err (Unexpected (length old))
  stops_unless [] none_such = lacks total s [] refl w.unfinished
  stops_unless (t ∷ ts) none_such = halts total s t (t ∷ ts) ts refl (λ place. w.refuses_others t place none_such)

  -- it did not come
  pub missed : {old : List Token} {e : Stop} → Misses kind old e → Halts e (walk total s old)
  missed {old = old} h = subst (λ z. Halts z (walk total s old)) (sym h.stops) (stops_unless old h.lacks)

  opens_too_deep : (old : List Token) → Sees kind old → ((span : Span) → most_levels < depth (to span)) → walk total s old ≡ Err (TooDeep (length old))
  opens_too_deep [] h gt = absurd h
  opens_too_deep (t ∷ ts) h gt = deep total s (to t.span) t (t ∷ ts) ts refl (λ place. w.takes t place h) (gt t.span)

  -- it did not come, or began a level too many
  pub unopened : (levels : ℕ) (old : List Token) (e : Stop) → OpensNone kind levels old e → ((span : Span) → levels ≡ 0 → most_levels < depth (to span))
      → Halts e (walk total s old)
  unopened levels old stop.NoMemory h gt = absurd h
  unopened levels old (stop.Unexpected left) h gt = stops_unless old h.0 ∙ ap (λ n. Err (Unexpected n)) (sym h.1)
  unopened levels old (stop.TooDeep left) h gt = opens_too_deep old h.0 (λ span. gt span h.1) ∙ ap (λ n. Err (TooDeep n)) (sym h.2)

-- In this state a name is wanted, and after it comes that state.
pub record WantsName (s : State) (to : Name → State) : Type 0 where
  pub takes : (t : Token) (text : List ℕ) (place : ℕ) → t.kind ≡ k.Name text → step s t place ≡ Some (to (node.spelled text t.span))
  pub refuses_others : (t : Token) (place : ℕ) → ((text : List ℕ) → t.kind ≡ k.Name text → ⊥) → step s t place ≡ None
  pub unfinished : (place : ℕ) → finish s place ≡ None

module _ {s : State} {to : Name → State} (total : ℕ) (w : WantsName s to) where
  -- the name was taken
  pub named : {old : List Token} {name : Name} {new : List Token} → TakesName old name new → depth (to name) ≤ most_levels
      → walk total s old ≡ walk total (to name) new
  named {old = old} {name = name} {new = new} h le = over total s (to name) h.token old new h.front (λ place. w.takes h.token name.text place h.is
      ∙ ap (λ x. Some (to (node.spelled name.text x))) h.stands) le

  stops_unless_named : (old : List Token) → LacksName old → walk total s old ≡ Err (Unexpected (length old))
  stops_unless_named [] none_such = lacks total s [] refl w.unfinished
  stops_unless_named (t ∷ ts) none_such = halts total s t (t ∷ ts) ts refl (λ place. w.refuses_others t place none_such)

  -- it did not come, or memory ran out
  pub unnamed : (old : List Token) (e : Stop) → MissesName old e → Halts e (walk total s old)
  unnamed old stop.NoMemory h = tt
  unnamed old (stop.Unexpected left) h = stops_unless_named old h.0 ∙ ap (λ n. Err (Unexpected n)) (sym h.1)
  unnamed old (stop.TooDeep left) h = absurd h

-- ---- what is next

pub empty : (ts : List Token) → length ts ≡ 0 → ts ≡ []
empty [] h = refl
empty (t ∷ ts) h = absurd (omega (arith, h))

pub unseen_at_end : (kind : TokenKind) (ts : List Token) → ts ≡ [] → Sees kind ts → ⊥
unseen_at_end kind [] h s = s
unseen_at_end kind (t ∷ ts) h s = let w : ⊥ = cc in w

pub unseen : (kind : TokenKind) (ts more : List Token) (t : Token) → ts ≡ t ∷ more → (t.kind ≡ kind → ⊥) → Sees kind ts → ⊥
unseen kind [] more t h g s = s
unseen kind (x ∷ ts) more t h g s = let e : x ≡ t = cc in g (sym (ap (λ y. y.kind) e) ∙ s)

-- ---- exits

-- what the machine does from a state that it comes to
pub from_there : (e : Stop) (one other : Result T.Program Halt) → one ≡ other → Halts e other → Halts e one
from_there e one other h g = subst (λ z. Halts e z) (sym h) g

-- the exit at a token that cannot stand, by `stop`
pub stopped : (e : Stop) (old : List Token) (end : Result T.Program Halt) → e ≡ stop.Unexpected (length old)
    → end ≡ Err (Unexpected (length old)) → Halts e end
stopped e old end h g = subst (λ z. Halts z end) (sym h) g

-- the exit at a token that opens a level too many
pub stopped_deep : (e : Stop) (old : List Token) (end : Result T.Program Halt) → e ≡ stop.TooDeep (length old) → end ≡ Err (TooDeep (length old)) → Halts e end
stopped_deep e old end h g = subst (λ z. Halts z end) (sym h) g

-- the exit of a `?`
pub passes : {A B X : Type 0} (levels : ℕ) (plain : A → B) (need : X → State) (have : B → X → State) (old new : List Token) (r : Result A Stop) (e : Stop)
    → IsErrAnd r (λ y. y ≡ e)
    → ((total : ℕ) (x : X) → levels + depth (need x) ≡ most_levels → Halts e (walk total (need x) old)) → Reads levels plain need have old r new
passes levels plain need have old new (Ok part) e h g = absurd h
passes levels plain need have old new (Err y) e h g = λ total x l. subst (λ z. Halts z (walk total (need x) old)) (sym h) (g total x l)

-- the same for a part that counts its tokens
pub passes_counted : {A B X : Type 0} (levels : ℕ) (plain : A → B) (need : X → State) (have : B → X
    → State) (old new : List Token) (r : Result A Stop) (e : Stop) → IsErrAnd r (λ y. y ≡ e)
    → ((total : ℕ) (x : X) → length old ≤ total → levels + depth (need x) ≡ most_levels → Halts e (walk total (need x) old))
    → ReadsCounted levels plain need have old r new
passes_counted levels plain need have old new (Ok part) e h g = absurd h
passes_counted levels plain need have old new (Err y) e h g = λ total x n l. subst (λ z. Halts z (walk total (need x) old)) (sym h) (g total x n l)

-- a token that was looked at and then left out
pub took : (t : Token) (old new : List Token) → old ≡ t ∷ tail old → new ≡ tail old → old ≡ t ∷ new
took t old new front rest = front ∙ ap (λ l. t ∷ l) (sym rest)

-- a part that is all of another
pub leads : {A B X Y : Type 0} (levels inner : ℕ) (plain : A → B) (need : X → State) (have : B → X → State) (part_need : Y → State) (part_have : B → Y
    → State) (old mid new : List Token) (r : Result A Stop) (to : X → Y)
    → ((total : ℕ) (x : X) → levels + depth (need x) ≡ most_levels → walk total (need x) old ≡ walk total (part_need (to x)) mid)
    → ((x : X) → levels + depth (need x) ≡ most_levels → inner + depth (part_need (to x)) ≡ most_levels)
    → ((total : ℕ) (b : B) (x : X) → walk total (part_have b (to x)) new ≡ walk total (have b x) new)
    → Reads inner plain part_need part_have mid r new → Reads levels plain need have old r new
leads levels inner plain need have part_need part_have old mid new (Ok part) to begins opens ends h = λ total x l. begins total x l
    ∙ h total (to x) (opens x l) ∙ ends total (plain part) x
leads levels inner plain need have part_need part_have old mid new (Err e) to begins opens ends h =
    λ total x l. from_there e _ _ (begins total x l) (h total (to x) (opens x l))
