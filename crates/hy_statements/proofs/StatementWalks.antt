-- How far the machine with the limit has come while a function reads a part, with the levels that are left there.
use Rattle.std.proofs.Common.{◌≡◌, ◌+◌, ℕ, Some, None, Result, Err, List, [], ◌∷◌, length, refl, sym, ap, subst, ◌∙◌, arith}
use Rattle.hy_base.specs.declared.position.Span.{Span}
use Rattle.hy_lexer.specs.declared.token.Token.{Token}
use Rattle.hy_lexer.specs.declared.token.TokenKind.{TokenKind}
use Rattle.hy_tree.specs.Tree as T
use Rattle.hy_grammar.specs.Machine.{step, finish, Unexpected, most_levels, accepted_within, walk}
use Rattle.hy_grammar.specs.OperandSteps.{beginning}
use Rattle.hy_phrases.specs.Reads.{Halts, Reads}
use Rattle.hy_statements.specs.ReadsStatements.{Site, with_stmt}
use Rattle.hy_grammar.specs.Stack.{Use, State, Operand, Valued, depth, depth_use}
use Rattle.hy_phrases.specs.Wanted.{Sees, Takes, LacksName, MissesName}
use Rattle.hy_phrases.specs.declared.stop.Stop.{Stop}
use Rattle.hy_phrases.specs.declared.stop.Stop.TheVariants as stop
use Rattle.hy_phrases.proofs.Walks as walks

-- the first token leads from a state to another of its level
pub record Over (s : State) (old : List Token) (s' : State) (new : List Token) : Type 0 where
  pub token : Token
  pub front : old ≡ token ∷ new
  pub moves : (n : ℕ) → step s token n ≡ Some s'
  pub level : depth s' ≡ depth s

-- two states of one level that go on alike at these tokens
pub record Alike (s : State) (old : List Token) (s' : State) : Type 0 where
  pub same : (total : ℕ) → walk total s old ≡ walk total s' old
  pub level : depth s' ≡ depth s

-- the first of these tokens cannot stand there
pub record Stuck (s : State) (old : List Token) : Type 0 where
  pub stops : (total : ℕ) → walk total s old ≡ Err (Unexpected (length old))

-- The machine has gone from a state over tokens to another, where so many levels are left.
pub record Goes (levels total : ℕ) (s : State) (old : List Token) (s' : State) (new : List Token) : Type 0 where
  pub same : walk total s old ≡ walk total s' new
  pub fits : levels + depth s' ≡ most_levels

-- ---- one token, or none

pub leads : {kind : TokenKind} {span : Span} {s s' : State} {old new : List Token} (w : Takes kind old span new) → ((n : ℕ) → step s w.token n ≡ Some s')
    → depth s' ≡ depth s → Over s old s' new
leads w h l = record { token = w.token; front = w.front; moves = h; level = l }

pub alike : (s s' : State) (old : List Token) → depth s' ≡ depth s → ((total : ℕ) → finish s total ≡ finish s' total)
    → ((t : Token) (ts : List Token) → old ≡ t ∷ ts → (n : ℕ) → step s t n ≡ step s' t n) → Alike s old s'
unfolding walk
alike s s' [] l f g = record { same = λ total. ap accepted_within (f total); level = l }
alike s s' (t ∷ ts) l f g = record { same = λ total. walks.alike total s s' t (t ∷ ts) ts refl (g t ts refl); level = l }

pub stuck : (s : State) (old : List Token) → ((total : ℕ) → finish s total ≡ None)
    → ((t : Token) (ts : List Token) → old ≡ t ∷ ts → (n : ℕ) → step s t n ≡ None) → Stuck s old
stuck s [] f g = record { stops = λ total. walks.lacks total s [] refl f }
stuck s (t ∷ ts) f g = record { stops = λ total. walks.halts total s t (t ∷ ts) ts refl (g t ts refl) }

-- the first token is not of a kind
pub other_kind : (kind : TokenKind) (old : List Token) → (Sees kind old → ⊥) → (t : Token) (ts : List Token) → old ≡ t ∷ ts → t.kind ≡ kind → ⊥
other_kind kind old h t ts e is = h (subst (Sees kind) (sym e) is)

-- ---- going on

module _ {levels total : ℕ} {s : State} {old : List Token} where
  pub starts : levels + depth s ≡ most_levels → Goes levels total s old s old
  starts h = record { same = refl; fits = h }

  pub comes : {s' : State} {new : List Token} → walk total s old ≡ walk total s' new → levels + depth s' ≡ most_levels → Goes levels total s old s' new
  comes e h = record { same = e; fits = h }

  pub over : {s' s'' : State} {mid new : List Token} → Goes levels total s old s' mid → Over s' mid s'' new → Goes levels total s old s'' new
  over {s' = s'} {s'' = s''} {mid = mid} {new = new} g h =
      let f : levels + depth s'' ≡ most_levels = ap (λ n. levels + n) h.level ∙ g.fits in
      record { same = g.same ∙ walks.over total s' s'' h.token mid new h.front h.moves (walks.fits levels (depth s'') f); fits = f }

  pub turns : {s' s'' : State} {mid : List Token} → Goes levels total s old s' mid → Alike s' mid s'' → Goes levels total s old s'' mid
  turns g h = record { same = g.same ∙ h.same total; fits = ap (λ n. levels + n) h.level ∙ g.fits }

  -- Nothing was taken.
  pub stays : {s' : State} {mid new : List Token} → Goes levels total s old s' mid → new ≡ mid → Goes levels total s old s' new
  stays {s' = s'} g e = record { same = g.same ∙ ap (walk total s') (sym e); fits = g.fits }

  -- over a part that a function has read
  pub reads : {s' s'' : State} {mid new : List Token} → Goes levels total s old s' mid
      → (levels + depth s' ≡ most_levels → walk total s' mid ≡ walk total s'' new) → depth s'' ≡ depth s' → Goes levels total s old s'' new
  reads g h l = record { same = g.same ∙ h g.fits; fits = ap (λ n. levels + n) l ∙ g.fits }

  pub values : {u : Use} {e : T.Expr} {mid new : List Token} → Goes levels total s old (Operand (beginning u)) mid
      → (levels + depth (Operand (beginning u)) ≡ most_levels → walk total (Operand (beginning u)) mid ≡ walk total (Valued e u) new)
      → Goes levels total s old (Valued e u) new
  values {u = u} g h = reads g h (let l : depth_use u ≡ depth_use u + 0 = omega arith in l)

  -- The next token cannot stand here.
  pub refuses : {s' : State} {mid : List Token} → Goes levels total s old s' mid → Stuck s' mid → (e : Stop) → e ≡ stop.Unexpected (length mid)
      → Halts e (walk total s old)
  refuses {mid = mid} g h e same = walks.stopped e mid (walk total s old) same (g.same ∙ h.stops total)

  -- The function that reads the next part stops.
  pub fails : {s' : State} {mid : List Token} (e : Stop) → Goes levels total s old s' mid → (levels + depth s' ≡ most_levels → Halts e (walk total s' mid))
      → Halts e (walk total s old)
  fails {s' = s'} {mid = mid} e g h = walks.from_there e (walk total s old) (walk total s' mid) g.same (h g.fits)

  -- A name was wanted and did not come.
  pub unnamed : {s' : State} {mid : List Token} (e : Stop) → Goes levels total s old s' mid → (LacksName mid → Stuck s' mid) → MissesName mid e
      → Halts e (walk total s old)
  unnamed stop.NoMemory g h misses = tt
  unnamed (stop.Unexpected left) g h misses = refuses g (h misses.0) (stop.Unexpected left) (ap stop.Unexpected misses.1)
  unnamed (stop.TooDeep left) g h misses = absurd misses

  -- A statement was read.
  pub reads_stmt : {made : T.Stmt} {new : List Token} (x : Site) (found : T.Stmt) → Goes levels total s old (with_stmt made x) new → found ≡ made
      → walk total s old ≡ walk total (with_stmt found x) new
  reads_stmt {new = new} x found g e = g.same ∙ ap (λ z. walk total (with_stmt z x) new) (sym e)

-- The rest of a part is all that another function reads.
pub goes_on : {A B X Y : Type 0} (levels : ℕ) (plain : A → B) (need : X → State) (have : B → X → State) (need' : Y → State) (have' : B → Y → State) (to : X
    → Y) (old mid new : List Token) (r : Result A Stop)
    → ((total : ℕ) (x : X) → levels + depth (need x) ≡ most_levels → Goes levels total (need x) old (need' (to x)) mid)
    → ((part : B) (x : X) → have' part (to x) ≡ have part x)
    → Reads levels plain need' have' mid r new → Reads levels plain need have old r new
goes_on levels plain need have need' have' to old mid new r g h =
    walks.leads levels levels plain need have need' have' old mid new r to (λ total x fits. (g total x fits).same) (λ x fits. (g 0 x fits).fits)
    (λ total part x. ap (λ s. walk total s new) (h part x))
