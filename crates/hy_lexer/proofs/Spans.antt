-- The laws of tokens and their spans.
use Rattle.std.proofs.Common.{◌≡◌, ℕ, ◌+◌, ◌-◌, ◌<◌, ◌≤◌, ◌⊎◌, inl, inr, List, [], ◌∷◌, ◌++◌, length, take, drop, refl, sym, ◌∙◌, ap, subst, arith, Some}
use Rattle.std.proofs.Common.{None, Option, Bool, true, false, length-append, append_assoc, append-nil, take_at, drop_at}
use Rattle.std.specs.List.{AllByRecursion}
use Rattle.hy_lexer.specs.declared.token.Token.{Token}
use Rattle.hy_lexer.specs.declared.token.TokenKind.{TokenKind}
use Rattle.hy_lexer.specs.Pieces.{Piece, PieceKind, Space, Comment, OpenComment, BadCharacter, Number}
use Rattle.hy_lexer.specs.Pieces.{Token as TokenPiece, IsNext, IsPiece, Splits, done, next}
use Rattle.hy_lexer.specs.Spans.{AreApart, AreGapsBetween, IsGap, none, more}
use Rattle.hy_lexer.specs.Tokens.{HasTokens, IsSound, first_behind, in_front, rule_of, token_of, tokens_of, size_of, span}
use Rattle.hy_lexer.proofs.First.{at_end, next_some}
use Rattle.hy_lexer.proofs.Splits.{compare, next_joined, split_size}

pub one_split : (bytes : List ℕ) (one other : List Piece) → Splits bytes one [] → Splits bytes other [] → one ≡ other
one_split bytes one other h d = elim (compare bytes [] [] one other h d) [
  | inl on ↦ sym (on.1 ∙ ap (λ t. one ++ t) (at_end [] on.0 on.2) ∙ append-nil one)
  | inr on ↦ on.1 ∙ ap (λ t. other ++ t) (at_end [] on.0 on.2) ∙ append-nil other
]

pub one_list : (bytes : List ℕ) (one other : List Token) → HasTokens bytes one → HasTokens bytes other → one ≡ other
one_list bytes one other h d = h.taken ∙ ap (λ t. tokens_of 0 true t) (one_split bytes h.pieces d.pieces h.split d.split) ∙ sym d.taken

-- spans
from_before : (at from end : ℕ) (tokens : List Token) → at ≤ from → AreApart from tokens end → AreApart at tokens end
from_before at from end [] le h = omega (arith, h)
from_before at from end (t ∷ tokens) le h = (omega (arith, h.0), h.1, h.2)

one_more : (found : Option TokenKind) (first : Bool) (at to end : ℕ) (tokens : List Token) → at < to → AreApart to tokens end
    → AreApart at (in_front found first (span at to) tokens) end
one_more None first at to end tokens lt h = from_before at to end tokens (omega arith) h
one_more (Some kind) first at to end tokens lt h = (omega arith, lt, h)

apart_from : (text behind : List ℕ) (pieces : List Piece) (at : ℕ) (first : Bool) → Splits text pieces behind
    → AreApart at (tokens_of at first pieces) (at + size_of pieces)
apart_from text behind pieces at first done = omega arith
apart_from text behind pieces at first (next {mid = mid} {piece = p} {pieces = ps} n h) =
    let to = at + length p.text in
    let rest : AreApart to (tokens_of to (first_behind (token_of p.kind) first p.text) ps) (to + size_of ps) =
    apart_from mid behind ps to (first_behind (token_of p.kind) first p.text) h in
    let same : to + size_of ps ≡ at + (length p.text + size_of ps) = omega arith in
    one_more (token_of p.kind) first at to (at + (length p.text + size_of ps)) (tokens_of to (first_behind (token_of p.kind) first p.text) ps)
    (omega (arith, next_some text mid p n))
    (subst (λ e. AreApart to (tokens_of to (first_behind (token_of p.kind) first p.text) ps) e) same rest)

pub apart : (bytes : List ℕ) (tokens : List Token) → HasTokens bytes tokens → AreApart 0 tokens (length bytes)
apart bytes tokens h =
    let size : 0 + size_of h.pieces ≡ length bytes = omega (arith, split_size bytes [] h.pieces h.split) in
    subst (λ t. AreApart 0 t (length bytes)) (sym h.taken) (subst (λ e. AreApart 0 (tokens_of 0 true h.pieces) e) size
    (apart_from bytes [] h.pieces 0 true h.split))

-- gaps
gap_more : (gap text : List ℕ) → IsGap gap → IsPiece text Space ⊎ IsPiece text Comment → IsGap (gap ++ text)
gap_more gap text none p = subst IsGap (append-nil text) (more text [] p none)
gap_more gap text (more one rest q g) p = subst IsGap (sym (append_assoc one rest text)) (more one (rest ++ text) q (gap_more rest text g p))

-- a piece that is no token and breaks no rule
is_spacing : (text : List ℕ) (kind : PieceKind) → IsPiece text kind → rule_of kind ≡ None → token_of kind ≡ None → IsPiece text Space ⊎ IsPiece text Comment
is_spacing text Space p sound e = inl p
is_spacing text Comment p sound e = inr p
is_spacing text OpenComment p sound e = cc
is_spacing text BadCharacter p sound e = cc
is_spacing text (Number n) p sound e = cc
is_spacing text (TokenPiece kind) p sound e = cc

bad_breaks : (kind : PieceKind) → kind ≡ BadCharacter → rule_of kind ≡ None → ⊥
bad_breaks kind bad sound = let clash : rule_of BadCharacter ≡ None = ap rule_of (sym bad) ∙ sound in cc

sound_piece : (text behind : List ℕ) (p : Piece) → IsNext text p behind → IsSound p → IsPiece p.text p.kind
sound_piece text behind p (inl h) sound = h.is_piece
sound_piece text behind p (inr h) sound = absurd (bad_breaks p.kind h.is_bad sound)

gap_between : (front gap behind bytes : List ℕ) (at to : ℕ) → bytes ≡ front ++ (gap ++ behind) → at ≡ length front → to ≡ at + length gap
    → take (to - at) (drop at bytes) ≡ gap
gap_between front gap behind bytes at to e a b =
    ap (λ t. take (to - at) (drop at t)) e ∙ ap (take (to - at)) (drop_at front (gap ++ behind) at (sym a))
    ∙ take_at gap behind (to - at) (omega (arith, a, b))

gap_behind : (front gap bytes : List ℕ) (at : ℕ) → bytes ≡ front ++ (gap ++ []) → at ≡ length front → drop at bytes ≡ gap
gap_behind front gap bytes at e a = ap (drop at) e ∙ drop_at front (gap ++ []) at (sym a) ∙ append-nil gap

-- the gap so far stands between the last token, which ends the front, and the text
Gaps : List ℕ → List Piece → Type 0
Gaps text pieces = (front gap bytes : List ℕ) (from at : ℕ) (first : Bool) → bytes ≡ front ++ (gap ++ text) → from ≡ length front → at ≡ from + length gap
    → IsGap gap → AreGapsBetween bytes from (tokens_of at first pieces)

gaps_next : (text mid : List ℕ) (p : Piece) (pieces : List Piece) (found : Option TokenKind) → token_of p.kind ≡ found → IsNext text p mid → IsSound p
    → Gaps mid pieces
    → (front gap bytes : List ℕ) (from at : ℕ) (first : Bool) → bytes ≡ front ++ (gap ++ text) → from ≡ length front → at ≡ from + length gap → IsGap gap
    → AreGapsBetween bytes from (in_front found first (span at (at + length p.text)) (tokens_of (at + length p.text) (first_behind found first p.text) pieces))
unfolding Gaps
gaps_next text mid p pieces None e n sound go front gap bytes from at first whole a b g =
    let joined : bytes ≡ front ++ (gap ++ p.text ++ mid) = whole
    ∙ ap (λ t. front ++ t) (ap (λ t. gap ++ t) (next_joined text mid p n) ∙ sym (append_assoc gap p.text mid)) in
    go front (gap ++ p.text) bytes from (at + length p.text) (first_behind None first p.text) joined a (omega (arith, b, length-append gap p.text))
    (gap_more gap p.text g (is_spacing p.text p.kind (sound_piece text mid p n sound) sound e))
gaps_next text mid p pieces (Some kind) e n sound go front gap bytes from at first whole a b g =
    let joined : bytes ≡ front ++ gap ++ p.text ++ ([] ++ mid) =
    whole ∙ ap (λ t. front ++ (gap ++ t)) (next_joined text mid p n) ∙ ap (λ t. front ++ t) (sym (append_assoc gap p.text mid))
    ∙ rw (← append_assoc, ← append_assoc) refl in (
      subst IsGap (sym (gap_between front gap text bytes from at whole a b)) g,
      go (front ++ gap ++ p.text) [] bytes (at + length p.text) (at + length p.text) false joined
          (omega (arith, a, b, length-append (front ++ gap) p.text, length-append front gap)) (omega arith) none,
    )

gaps : (text behind : List ℕ) (pieces : List Piece) → Splits text pieces behind → behind ≡ [] → AllByRecursion IsSound pieces → Gaps text pieces
unfolding Gaps
gaps text behind pieces done e sound front gap bytes from at first whole a b g =
    subst IsGap (sym (gap_behind front gap bytes from (whole ∙ ap (λ t. front ++ (gap ++ t)) e) a)) g
gaps text behind pieces (next {mid = mid} {piece = p} {pieces = ps} n h) e sound front gap bytes from at first whole a b g =
    gaps_next text mid p ps (token_of p.kind) refl n sound.0 (gaps mid behind ps h e sound.1) front gap bytes from at first whole a b g

pub gaps_between : (bytes : List ℕ) (tokens : List Token) → HasTokens bytes tokens → AreGapsBetween bytes 0 tokens
unfolding Gaps
gaps_between bytes tokens h =
    subst (AreGapsBetween bytes 0) (sym h.taken) (gaps bytes [] h.pieces h.split refl h.sound [] [] bytes 0 0 true refl refl refl none)
