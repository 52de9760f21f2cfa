-- A text is split in one way.
use Rattle.std.proofs.Common.{◌≡◌, ℕ, suc, ◌+◌, ◌⊎◌, inl, inr, List, [], ◌∷◌, ◌++◌, length, refl, sym, ◌∙◌, ap, subst, arith, Some, length-append}
use Rattle.std.specs.Char.{encode_utf8}
use Rattle.std.proofs.lemmas.Str.{encode_same}
use Rattle.hy_lexer.specs.declared.scan.ByteClass.{ByteClass}
use Rattle.hy_lexer.specs.declared.scan.ByteClass.TheVariants as class
use Rattle.hy_lexer.specs.declared.token.TokenKind.{TokenKind}
use Rattle.hy_lexer.specs.Pieces.{Piece, PieceKind, Token, IsPiece, IsLongest, IsBad, IsNext, Splits, done, next, Nests}
use Rattle.hy_lexer.specs.Scans.{class_at}
use Rattle.hy_lexer.specs.Tokens.{size_of}
use Rattle.hy_lexer.specs.Words.{kind_in, marks}
use Rattle.hy_lexer.proofs.Comments.{within_closed}
use Rattle.hy_lexer.proofs.Forms.{space_form, word_form, number_form, mark_form, slash_form, IsSlashForm, line, closed, unclosed, marked, mark_size}

not_both : (inner other : List ℕ) (level : ℕ) → Nests 1 inner 0 → Nests 1 other (suc level) → inner ≡ other → ⊥
not_both inner other level h d same =
    elim (within_closed 1 0 inner h refl (suc level) other [] [] d (ap (λ t. t ++ []) same)) [
      | inl short ↦ omega (arith, ap length same)
      | inr both ↦ let z : suc level ≡ 0 = both.1 in omega arith
    ]

no_comment_mark : (b : ℕ) (text : List ℕ) (it : TokenKind) → (b ≡ 47) ⊎ (b ≡ 42) → kind_in marks (47 ∷ b ∷ text) ≡ Some it → ⊥
no_comment_mark b [] it (inl e) found = let f : kind_in marks (47 ∷ 47 ∷ []) ≡ Some it = subst (λ n. kind_in marks (47 ∷ n ∷ []) ≡ Some it) e found in cc
no_comment_mark b [] it (inr e) found = let f : kind_in marks (47 ∷ 42 ∷ []) ≡ Some it = subst (λ n. kind_in marks (47 ∷ n ∷ []) ≡ Some it) e found in cc
no_comment_mark b (x ∷ text) it h found = elim (mark_size (47 ∷ b ∷ x ∷ text) it found) [ inl e ↦ omega arith | inr e ↦ omega arith ]

apart : ◌≡◌ {A = ℕ} 47 42 → ⊥
apart e = omega (arith, e)

second : (a b c d : ℕ) (x y : List ℕ) → a ∷ b ∷ x ≡ c ∷ d ∷ y → b ≡ d
second a b c d x y e = cc

tail_two : (a b c d : ℕ) (x y : List ℕ) → a ∷ b ∷ x ≡ c ∷ d ∷ y → x ≡ y
tail_two a b c d x y e = cc

slash_same : (text more : List ℕ) (kind it : PieceKind) → IsSlashForm text kind → IsSlashForm more it → text ≡ more → kind ≡ it
slash_same text more kind it (line h) (line d) same = refl
slash_same text more kind it (line h) (closed d) same = absurd (apart (second _ _ _ _ _ _ same))
slash_same text more kind it (line h) (unclosed {text = inner} d) same = absurd (apart (second _ _ _ _ _ _ same))
slash_same text more kind it (line {text = inner} h) (marked {it = token} found) same =
    absurd (no_comment_mark 47 inner token (inl refl) (subst (λ t. kind_in marks t ≡ Some token) (sym same) found))
slash_same text more kind it (closed h) (line d) same = absurd (apart (sym (second _ _ _ _ _ _ same)))
slash_same text more kind it (closed h) (closed d) same = refl
slash_same text more kind it (closed {text = inner} h) (unclosed {text = other} {level = level} d) same =
    absurd (not_both inner other level h d (tail_two _ _ _ _ _ _ same))
slash_same text more kind it (closed {text = inner} h) (marked {it = token} found) same =
    absurd (no_comment_mark 42 inner token (inr refl) (subst (λ t. kind_in marks t ≡ Some token) (sym same) found))
slash_same text more kind it (unclosed h) (line d) same = absurd (apart (sym (second _ _ _ _ _ _ same)))
slash_same text more kind it (unclosed {text = other} {level = level} h) (closed {text = inner} d) same =
    absurd (not_both inner other level d h (tail_two _ _ _ _ _ _ (sym same)))
slash_same text more kind it (unclosed h) (unclosed d) same = refl
slash_same text more kind it (unclosed {text = inner} h) (marked {it = token} found) same =
    absurd (no_comment_mark 42 inner token (inr refl) (subst (λ t. kind_in marks t ≡ Some token) (sym same) found))
slash_same text more kind it (marked {it = token} found) (line {text = inner} d) same =
    absurd (no_comment_mark 47 inner token (inl refl) (subst (λ t. kind_in marks t ≡ Some token) same found))
slash_same text more kind it (marked {it = token} found) (closed {text = inner} d) same =
    absurd (no_comment_mark 42 inner token (inr refl) (subst (λ t. kind_in marks t ≡ Some token) same found))
slash_same text more kind it (marked {it = token} found) (unclosed {text = inner} d) same =
    absurd (no_comment_mark 42 inner token (inr refl) (subst (λ t. kind_in marks t ≡ Some token) same found))
slash_same text more kind it (marked {it = token} found) (marked {it = other} also) same =
    let e : Some token ≡ Some other = sym (subst (λ t. kind_in marks t ≡ Some token) same found) ∙ also in ap Token (cc)

-- A text is a piece of one kind.
by_class : (class : ByteClass) (text : List ℕ) (kind it : PieceKind) → class_at text ≡ class → IsPiece text kind → IsPiece text it → kind ≡ it
by_class class.Space text kind it e p q = (space_form text kind p e).0 ∙ sym (space_form text it q e).0
by_class class.Word text kind it e p q = (word_form text kind p e).0 ∙ sym (word_form text it q e).0
by_class class.Digit text kind it e p q = (number_form text kind p e).0 ∙ sym (number_form text it q e).0
by_class class.Slash text kind it e p q = slash_same text text kind it (slash_form text kind p e) (slash_form text it q e) refl
by_class class.Mark text kind it e p q =
    let m = mark_form text kind p e in
    let n = mark_form text it q e in
    let same : Some m.0 ≡ Some n.0 = sym m.2 ∙ n.2 in
    let one : m.0 ≡ n.0 = cc in m.1 ∙ ap Token one ∙ sym n.1

pub kind_same : (text : List ℕ) (kind it : PieceKind) → IsPiece text kind → IsPiece text it → kind ≡ it
kind_same text kind it p q = by_class (class_at text) text kind it refl p q

pub same_front : (one other x y : List ℕ) → one ++ x ≡ other ++ y → length one ≡ length other → (one ≡ other) × (x ≡ y)
same_front [] [] x y e l = (refl, e)
same_front [] (b ∷ other) x y e l = absurd (omega arith)
same_front (a ∷ one) [] x y e l = absurd (omega arith)
same_front (a ∷ one) (b ∷ other) x y e l =
    let rest : one ++ x ≡ other ++ y = cc in
    let head : a ≡ b = cc in
    let both = same_front one other x y rest (omega arith) in ((λ i. head i ∷ both.0 i), both.1)

longest_same : (text : List ℕ) (p q : Piece) (x y : List ℕ) → IsLongest text p x → IsLongest text q y → (p ≡ q) × (x ≡ y)
longest_same text p q x y h d =
    let both = same_front p.text q.text x y (sym h.joined ∙ d.joined)
    (omega (arith, h.longest q.text q.kind y d.joined d.is_piece, d.longest p.text p.kind x h.joined h.is_piece)) in
    let kinds = kind_same q.text p.kind q.kind (subst (λ t. IsPiece t p.kind) both.0 h.is_piece) d.is_piece in
    ((λ i. record { text = both.0 i; kind = kinds i }), both.1)

bad_same : (text : List ℕ) (p q : Piece) (x y : List ℕ) → IsBad text p x → IsBad text q y → (p ≡ q) × (x ≡ y)
bad_same text p q x y h d =
    let both = encode_same h.character.0 d.character.0 x y
    (ap (λ t. t ++ x) (sym h.character.1) ∙ sym h.joined ∙ d.joined ∙ ap (λ t. t ++ y) d.character.1) in
    let texts = h.character.1 ∙ ap encode_utf8 both.0 ∙ sym d.character.1 in
    let kinds = h.is_bad ∙ sym d.is_bad in
    ((λ i. record { text = texts i; kind = kinds i }), both.1)

pub next_same : (text : List ℕ) (p q : Piece) (x y : List ℕ) → IsNext text p x → IsNext text q y → (p ≡ q) × (x ≡ y)
next_same text p q x y (inl h) (inl d) = longest_same text p q x y h d
next_same text p q x y (inl h) (inr d) = absurd (d.none p.text p.kind x h.joined h.is_piece)
next_same text p q x y (inr h) (inl d) = absurd (h.none q.text q.kind y d.joined d.is_piece)
next_same text p q x y (inr h) (inr d) = bad_same text p q x y h d

-- one split goes on where the other ends
abbrev pub GoesOn : List ℕ → List Piece → List Piece → List ℕ → Type 0
GoesOn mid one other behind = (more : List Piece) × (other ≡ one ++ more) × Splits mid more behind

put_in_front : (p q : Piece) (one other : List Piece) (x y : List ℕ) → p ≡ q → GoesOn x one other y ⊎ GoesOn y other one x
    → GoesOn x (p ∷ one) (q ∷ other) y ⊎ GoesOn y (q ∷ other) (p ∷ one) x
put_in_front p q one other x y same (inl h) = let e = h.1 in inl (h.0, cc, h.2)
put_in_front p q one other x y same (inr h) = let e = h.1 in inr (h.0, cc, h.2)

pub compare : (text x y : List ℕ) (one other : List Piece) → Splits text one x → Splits text other y → GoesOn x one other y ⊎ GoesOn y other one x
compare text x y one other done d = inl (other, refl, d)
compare text x y one other (next n h) done = inr (one, refl, next n h)
compare text x y one other (next {mid = mid} {piece = p} {pieces = ps} n h) (next {mid = end} {piece = q} {pieces = qs} m d) =
    let both = next_same text p q mid end n m in
    put_in_front p q ps qs x y both.0 (compare mid x y ps qs h (subst (λ t. Splits t qs y) (sym both.1) d))

pub split_on : (text mid behind : List ℕ) (one other : List Piece) → Splits text one mid → Splits mid other behind → Splits text (one ++ other) behind
split_on text mid behind one other done d = d
split_on text mid behind one other (next n h) d = next n (split_on _ _ _ _ _ h d)

pub next_joined : (text behind : List ℕ) (piece : Piece) → IsNext text piece behind → text ≡ piece.text ++ behind
next_joined text behind piece (inl h) = h.joined
next_joined text behind piece (inr h) = h.joined

pub split_size : (text behind : List ℕ) (pieces : List Piece) → Splits text pieces behind → length text ≡ size_of pieces + length behind
split_size text behind pieces done = omega arith
split_size text behind pieces (next {mid = mid} {piece = p} {pieces = ps} n h) =
    omega (arith, split_size mid behind ps h, ap length (next_joined text mid p n), length-append p.text mid)

pub ruleset all_lemmas = (compare, split_on, split_size)
