-- Where another kind of token is wanted, a token cannot stand.
use Rattle.std.proofs.Common.{◌≡◌, ℕ, None, List, refl}
use Rattle.hy_lexer.specs.declared.token.TokenKind.{TokenKind}
use Rattle.hy_lexer.specs.declared.token.TokenKind.TheVariants as k
use Rattle.hy_grammar.specs.Kinds as kind

module _ {A : Type 0} where
  pub no_text : (found : TokenKind) (make : List ℕ → A) → ((text : List ℕ) → found ≡ k.Name text → ⊥) → kind.name found make ≡ None
  no_text (k.Name text) make h = absurd (h text refl)
  no_text _ make h = refl

  pub no_left_paren : (found : TokenKind) (a : A) → (found ≡ k.LeftParen → ⊥) → kind.left_paren found a ≡ None
  no_left_paren k.LeftParen a h = absurd (h refl)
  no_left_paren _ a h = refl

  pub no_right_paren : (found : TokenKind) (a : A) → (found ≡ k.RightParen → ⊥) → kind.right_paren found a ≡ None
  no_right_paren k.RightParen a h = absurd (h refl)
  no_right_paren _ a h = refl

  pub no_right_bracket : (found : TokenKind) (a : A) → (found ≡ k.RightBracket → ⊥) → kind.right_bracket found a ≡ None
  no_right_bracket k.RightBracket a h = absurd (h refl)
  no_right_bracket _ a h = refl

  pub no_left_brace : (found : TokenKind) (a : A) → (found ≡ k.LeftBrace → ⊥) → kind.left_brace found a ≡ None
  no_left_brace k.LeftBrace a h = absurd (h refl)
  no_left_brace _ a h = refl

  pub no_right_brace : (found : TokenKind) (a : A) → (found ≡ k.RightBrace → ⊥) → kind.right_brace found a ≡ None
  no_right_brace k.RightBrace a h = absurd (h refl)
  no_right_brace _ a h = refl

  pub no_less : (found : TokenKind) (a : A) → (found ≡ k.Less → ⊥) → kind.less found a ≡ None
  no_less k.Less a h = absurd (h refl)
  no_less _ a h = refl

  pub no_greater : (found : TokenKind) (a : A) → (found ≡ k.Greater → ⊥) → kind.greater found a ≡ None
  no_greater k.Greater a h = absurd (h refl)
  no_greater _ a h = refl

  pub no_equal : (found : TokenKind) (a : A) → (found ≡ k.Equal → ⊥) → kind.equal found a ≡ None
  no_equal k.Equal a h = absurd (h refl)
  no_equal _ a h = refl

  pub no_colon : (found : TokenKind) (a : A) → (found ≡ k.Colon → ⊥) → kind.colon found a ≡ None
  no_colon k.Colon a h = absurd (h refl)
  no_colon _ a h = refl

  pub no_else : (found : TokenKind) (a : A) → (found ≡ k.Else → ⊥) → kind.else_word found a ≡ None
  no_else k.Else a h = absurd (h refl)
  no_else _ a h = refl

  pub no_init : (found : TokenKind) (a : A) → (found ≡ k.Init → ⊥) → kind.init_word found a ≡ None
  no_init k.Init a h = absurd (h refl)
  no_init _ a h = refl
