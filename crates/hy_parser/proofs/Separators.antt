-- States after a part of a list.
use Rattle.std.proofs.Common.{◌≡◌, ◌≤◌, ℕ, Some, None, Err, List, [], ◌∷◌, length, refl, sym, ap, subst, ◌∙◌}
use Rattle.hy_base.specs.declared.position.Span.{Span}
use Rattle.hy_lexer.specs.declared.token.Token.{Token}
use Rattle.hy_lexer.specs.declared.token.TokenKind.{TokenKind}
use Rattle.hy_lexer.specs.declared.token.TokenKind.TheVariants as k
use Rattle.hy_phrases.specs.declared.stop.Stop.{Stop}
use Rattle.hy_grammar.specs.Machine.{step, finish, Unexpected, most_levels, walk}
use Rattle.hy_phrases.specs.Reads.{Halts}
use Rattle.hy_grammar.specs.Stack.{State, depth}
use Rattle.hy_phrases.specs.Wanted.{Sees, Takes, Misses}
use Rattle.hy_phrases.proofs.Walks.{over, halts, lacks}

-- After a part, `,` or what ends the list is wanted, where the next token is not of the kind `but`.
pub record Separates (but close : TokenKind) (s more : State) (done : Span → State) : Type 0 where
  pub goes_on : (t : Token) (place : ℕ) → t.kind ≡ k.Comma → step s t place ≡ Some more
  pub closes : (t : Token) (place : ℕ) → t.kind ≡ close → step s t place ≡ Some (done t.span)
  pub refuses_others : (t : Token) (place : ℕ) → (t.kind ≡ but → ⊥) → (t.kind ≡ k.Comma → ⊥) → (t.kind ≡ close → ⊥) → step s t place ≡ None
  pub unfinished : (place : ℕ) → finish s place ≡ None

module _ {but close : TokenKind} {s more : State} {done : Span → State} (total : ℕ) (w : Separates but close s more done) where
  pub on_comma : {old : List Token} {span : Span} {new : List Token} → Takes k.Comma old span new → depth more ≤ most_levels
      → walk total s old ≡ walk total more new
  on_comma {old = old} {new = new} h le = over total s more h.token old new h.front (λ place. w.goes_on h.token place h.is) le

  pub on_close : {old : List Token} {span : Span} {new : List Token} → Takes close old span new → depth (done span) ≤ most_levels
      → walk total s old ≡ walk total (done span) new
  on_close {old = old} {span = span} {new = new} h le = over total s (done span) h.token old new h.front (λ place. w.closes h.token place h.is
      ∙ ap (λ x. Some (done x)) h.stands) le

  stops_unless : (old : List Token) → (Sees but old → ⊥) → (Sees k.Comma old → ⊥) → (Sees close old → ⊥) → walk total s old ≡ Err (Unexpected (length old))
  stops_unless [] a b c = lacks total s [] refl w.unfinished
  stops_unless (t ∷ ts) a b c = halts total s t (t ∷ ts) ts refl (λ place. w.refuses_others t place a b c)

  pub on_neither : {old : List Token} {e : Stop} → (Sees but old → ⊥) → (Sees k.Comma old → ⊥) → Misses close old e → Halts e (walk total s old)
  on_neither {old = old} a b h = subst (λ z. Halts z (walk total s old)) (sym h.stops) (stops_unless old a b h.lacks)
