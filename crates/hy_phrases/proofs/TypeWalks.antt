-- How the machine goes on within written types.
use Rattle.std.proofs.Common.{◌≡◌, ◌≤◌, ◌+◌, ℕ, None, Err, List, [], ◌∷◌, length, refl, arith}
use Rattle.hy_base.specs.declared.position.Span.{Span}
use Rattle.hy_lexer.specs.declared.token.Token.{Token}
use Rattle.hy_lexer.specs.declared.token.TokenKind.{TokenKind}
use Rattle.hy_lexer.specs.declared.token.TokenKind.TheVariants as k
use Rattle.hy_tree.specs.Tree as T
use Rattle.hy_phrases.specs.Wanted.{Sees}
use Rattle.hy_grammar.specs.Machine.{step, finish, Unexpected, TooDeep, most_levels, walk}
use Rattle.hy_grammar.specs.Nodes as node
use Rattle.hy_grammar.specs.Stack.{TypeUse, ForElementType, ForTypePart, ArrayTypeWord, ArrayTypeElement}
use Rattle.hy_grammar.specs.Stack.{TypeWanted, TypesOpened, TypesRead, depth, depth_type}
use Rattle.hy_grammar.specs.TypeSteps.{typed, at_type, at_types_opened, at_types_read}
use Rattle.hy_phrases.proofs.Walks.{fits, over, deep, halts, lacks, alike_without, Follows, Wants}
use Rattle.hy_phrases.proofs.WantedKinds.{no_less, no_greater}

pub wants_less : (word : Span) (u : TypeUse) → Wants k.Less (ArrayTypeWord word u) (λ t. TypeWanted (ForElementType word u))
unfolding step finish
wants_less word u = record { takes = λ t place h. rw (h, step) refl; refuses_others = λ t place h. no_less t.kind _ h; unfinished = λ place. refl }

pub wants_greater : (word : Span) (element : T.TypeExp) (u : TypeUse)
    → Wants k.Greater (ArrayTypeElement word element u) (λ t. typed (node.array_type word element t) u)
unfolding step finish
wants_greater word element u = record {
  takes = λ t place h. rw (h, step) refl;
  refuses_others = λ t place h. no_greater t.kind _ h;
  unfinished =
      λ place. refl;
}

-- after a type no more levels are open than before it
pub typed_fits : (levels : ℕ) (written : T.TypeExp) (u : TypeUse) → levels + depth_type u ≡ most_levels → depth (typed written u) ≤ most_levels
typed_fits levels written (ForElementType word u) h = omega arith
typed_fits levels written u h = omega arith

-- A TYPE

no_type : (kind : TokenKind) (t : Span) (u : TypeUse) → ((text : List ℕ) → kind ≡ k.Name text → ⊥) → (kind ≡ k.SelfType → ⊥) → (kind ≡ k.Array → ⊥)
    → (kind ≡ k.LeftParen → ⊥) → at_type kind t u ≡ None
no_type (k.Name text) t u n s a p = absurd (n text refl)
no_type k.SelfType t u n s a p = absurd (s refl)
no_type k.Array t u n s a p = absurd (a refl)
no_type k.LeftParen t u n s a p = absurd (p refl)
no_type _ t u n s a p = refl

module _ (total : ℕ) (u : TypeUse) (t : Token) (old new : List Token) (front : old ≡ t ∷ new) where
  module _ (levels : ℕ) (l : levels + depth_type u ≡ most_levels) where
    pub over_name : (text : List ℕ) → t.kind ≡ k.Name text → walk total (TypeWanted u) old ≡ walk total (typed (node.named_type text t.span) u) new
    unfolding step
    over_name text h =
        over total (TypeWanted u) (typed (node.named_type text t.span) u) t old new front (λ place. rw (h, step) refl)
        (typed_fits levels (node.named_type text t.span) u l)

    pub over_self : t.kind ≡ k.SelfType → walk total (TypeWanted u) old ≡ walk total (typed (node.self_type t.span) u) new
    unfolding step
    over_self h =
        over total (TypeWanted u) (typed (node.self_type t.span) u) t old new front (λ place. rw (h, step) refl)
        (typed_fits levels (node.self_type t.span) u l)

    pub over_array_word : t.kind ≡ k.Array → walk total (TypeWanted u) old ≡ walk total (ArrayTypeWord t.span u) new
    unfolding step
    over_array_word h = over total (TypeWanted u) (ArrayTypeWord t.span u) t old new front (λ place. rw (h, step) refl) (fits levels (depth_type u) l)

  pub over_bracket : (inner : ℕ) → inner + (depth_type u + 1) ≡ most_levels → t.kind ≡ k.LeftParen
      → walk total (TypeWanted u) old ≡ walk total (TypesOpened t.span u) new
  unfolding step
  over_bracket inner l h = over total (TypeWanted u) (TypesOpened t.span u) t old new front (λ place. rw (h, step) refl) (fits inner (depth_type u + 1) l)

  pub bracket_too_deep : depth_type u ≡ most_levels → t.kind ≡ k.LeftParen → walk total (TypeWanted u) old ≡ Err (TooDeep (length old))
  unfolding step
  bracket_too_deep l h = deep total (TypeWanted u) (TypesOpened t.span u) t old new front (λ place. rw (h, step) refl) (omega arith)

  pub no_type_there : ((text : List ℕ) → t.kind ≡ k.Name text → ⊥) → (t.kind ≡ k.SelfType → ⊥) → (t.kind ≡ k.Array → ⊥) → (t.kind ≡ k.LeftParen → ⊥)
      → walk total (TypeWanted u) old ≡ Err (Unexpected (length old))
  unfolding step
  no_type_there n s a p = halts total (TypeWanted u) t old new front (λ place. no_type t.kind t.span u n s a p)

pub no_type_left : (total : ℕ) (u : TypeUse) (old : List Token) → old ≡ [] → walk total (TypeWanted u) old ≡ Err (Unexpected (length old))
unfolding finish
no_type_left total u old h = lacks total (TypeWanted u) old h (λ place. refl)

-- TYPES IN PARENTHESES

no_end : (kind : TokenKind) (t bracket : Span) (u : TypeUse) → (kind ≡ k.RightParen → ⊥)
    → at_types_opened kind t bracket u ≡ at_type kind t (ForTypePart bracket [] u)
no_end k.RightParen t bracket u h = absurd (h refl)
no_end _ t bracket u h = refl

neither : (kind : TokenKind) (t bracket : Span) (parts : List T.TypeExp) (u : TypeUse) → (kind ≡ k.Comma → ⊥) → (kind ≡ k.RightParen → ⊥)
    → at_types_read kind t bracket parts u ≡ None
neither k.Comma t bracket parts u h g = absurd (h refl)
neither k.RightParen t bracket parts u h g = absurd (g refl)
neither _ t bracket parts u h g = refl

module _ (bracket : Span) (u : TypeUse) where
  pub ends_at_once : Follows k.RightParen (TypesOpened bracket u) (λ t. typed (node.types bracket [] t) u)
  unfolding step
  ends_at_once = record { takes = λ t place h. rw (h, step) refl }

  pub first_part : (total : ℕ) (old : List Token) → (Sees k.RightParen old → ⊥)
      → walk total (TypesOpened bracket u) old ≡ walk total (TypeWanted (ForTypePart bracket [] u)) old
  unfolding step finish
  first_part total old h =
      alike_without total k.RightParen (TypesOpened bracket u) (TypeWanted (ForTypePart bracket [] u)) old h (λ t place g. no_end t.kind t.span bracket u g)
      (λ place. refl)

  module _ (parts : List T.TypeExp) where
    pub next_part : Follows k.Comma (TypesRead bracket parts u) (λ t. TypeWanted (ForTypePart bracket parts u))
    unfolding step
    next_part = record { takes = λ t place h. rw (h, step) refl }

    pub ends_parts : Follows k.RightParen (TypesRead bracket parts u) (λ t. typed (node.types bracket parts t) u)
    unfolding step
    ends_parts = record { takes = λ t place h. rw (h, step) refl }

    pub unclosed : (total : ℕ) (old : List Token) → (Sees k.Comma old → ⊥) → (Sees k.RightParen old → ⊥)
        → walk total (TypesRead bracket parts u) old ≡ Err (Unexpected (length old))
    unfolding step finish
    unclosed total [] h g = lacks total (TypesRead bracket parts u) [] refl (λ place. refl)
    unclosed total (t ∷ ts) h g = halts total (TypesRead bracket parts u) t (t ∷ ts) ts refl (λ place. neither t.kind t.span bracket parts u h g)
