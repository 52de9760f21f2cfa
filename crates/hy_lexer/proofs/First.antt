-- The first rule that a source breaks.
use Rattle.std.proofs.Common.{◌≡◌, ℕ, suc, ◌+◌, ◌<◌, ◌≤◌, inl, inr, List, [], ◌∷◌, ◌++◌, length, take, drop, refl, sym, ◌∙◌, ap, ap₂, subst, arith, Some}
use Rattle.std.proofs.Common.{None, Option, Bool, true, append_assoc, append-nil}
use Rattle.std.specs.List.{AllByRecursion}
use Rattle.std.specs.Str.{IsUtf8, StartsWithNoChar, IsValidUpTo}
use Rattle.hy_base.specs.First.{Refusal, Precedes, IsFirst}
use Rattle.hy_base.specs.Rules.{place_of}
use Rattle.hy_base.specs.declared.refusal.Rule.{Rule}
use Rattle.hy_base.specs.declared.refusal.Rule.TheVariants.{L4}
use Rattle.hy_base.specs.declared.position.Span.{Span}
use Rattle.hy_lexer.specs.declared.token.Token.{Token}
use Rattle.hy_lexer.specs.declared.token.TokenKind.{TokenKind}
use Rattle.hy_lexer.specs.Pieces.{Piece, IsNext, Splits, done, next}
use Rattle.hy_lexer.specs.Tokens.{Breaks, HasTokens, IsSound, rule_of, token_of, tokens_of, first_behind, in_front, size_of, span, piece, not_utf8}
use Rattle.hy_lexer.proofs.Forms.{not_empty, encode_some}
use Rattle.hy_lexer.proofs.Splits.{compare, split_on, split_size}
use Rattle.hy_lexer.proofs.Utf8.{not_all, no_later, no_char_there}

-- lists
sound_all : (one other : List Piece) → AllByRecursion IsSound one → AllByRecursion IsSound other → AllByRecursion IsSound (one ++ other)
sound_all [] other h d = d
sound_all (p ∷ one) other h d = (h.0, sound_all one other h.1 d)

sound_front : (one other : List Piece) → AllByRecursion IsSound (one ++ other) → AllByRecursion IsSound one
sound_front [] other h = tt
sound_front (p ∷ one) other h = (h.0, sound_front one other h.1)

sound_last : (one : List Piece) (p : Piece) → AllByRecursion IsSound (one ++ p ∷ []) → IsSound p
sound_last [] p h = h.0
sound_last (q ∷ one) p h = sound_last one p h.1

pub size_of-append : (one other : List Piece) → size_of (one ++ other) ≡ size_of one + size_of other
size_of-append [] other = omega arith
size_of-append (p ∷ one) other = omega (arith, size_of-append one other)

-- pieces are not empty
pub next_some : (text behind : List ℕ) (p : Piece) → IsNext text p behind → 0 < length p.text
next_some text behind p (inl h) = not_empty p.text p.kind h.is_piece
next_some text behind p (inr h) = omega (arith, ap length h.character.1, encode_some h.character.0)

split_some : (text behind : List ℕ) (p : Piece) (pieces : List Piece) (all : List Piece) → Splits text all behind → all ≡ p ∷ pieces → 0 < length p.text
split_some text behind p pieces all done e = cc
split_some text behind p pieces all (next {mid = mid} {piece = q} n h) e = let same : q ≡ p = cc in
    subst (λ (it : Piece). 0 < length it.text) same (next_some text mid q n)

no_size : (text behind : List ℕ) (pieces : List Piece) → Splits text pieces behind → size_of pieces ≡ 0 → pieces ≡ []
no_size text behind [] h e = refl
no_size text behind (p ∷ pieces) h e = absurd (omega (arith, split_some text behind p pieces (p ∷ pieces) h refl))

pub at_end : (behind : List ℕ) (pieces : List Piece) → Splits [] pieces behind → pieces ≡ []
at_end behind pieces h = no_size [] behind pieces h (omega (arith, split_size [] behind pieces h))

-- the last of a list
last_same : (one other : List Piece) (p q : Piece) → one ++ p ∷ [] ≡ other ++ q ∷ [] → (one ≡ other) × (p ≡ q)
last_same [] [] p q e = (refl, cc)
last_same [] (b ∷ []) p q e = cc
last_same [] (b ∷ d ∷ other) p q e = cc
last_same (a ∷ []) [] p q e = cc
last_same (a ∷ d ∷ one) [] p q e = cc
last_same (a ∷ one) (b ∷ other) p q e =
    let rest : one ++ p ∷ [] ≡ other ++ q ∷ [] = cc in
    let both = last_same one other p q rest in
    let ones = both.0 in (cc, both.1)

-- a list before the last piece of another
before_last : (one other more : List Piece) (p m : Piece) → one ++ p ∷ [] ≡ other ++ m ∷ more → (zs : List Piece) × (one ≡ other ++ zs)
before_last one [] more p m e = (one, refl)
before_last [] (b ∷ []) more p m e = cc
before_last [] (b ∷ d ∷ other) more p m e = cc
before_last (a ∷ one) (b ∷ other) more p m e =
    let rest : one ++ p ∷ [] ≡ other ++ m ∷ more = cc in
    let it = before_last one other more p m rest in
    let same = it.1 in (it.0, cc)

-- The text was split up to here, no rule was broken, and these are the tokens so far.
pub record Reached (bytes : List ℕ) (at : ℕ) (first : Bool) (tokens : List Token) (rest : List ℕ) : Type 0 where
  pub before : List Piece
  pub split : Splits bytes before rest
  pub sound : AllByRecursion IsSound before
  pub place : at ≡ size_of before
  pub taken : (more : List Piece) → tokens_of 0 true (before ++ more) ≡ tokens ++ tokens_of at first more

pub reached_start : (bytes : List ℕ) → Reached bytes 0 true [] bytes
reached_start bytes = record { before = []; split = done; sound = tt; place = refl; taken = λ more. refl }

in_front-append : (found : Option TokenKind) (first : Bool) (s : Span) (tokens : List Token)
    → in_front found first s tokens ≡ in_front found first s [] ++ tokens
in_front-append None first s tokens = refl
in_front-append (Some kind) first s tokens = refl

pub reached_next : (bytes : List ℕ) (at : ℕ) (first : Bool) (tokens : List Token) (rest behind : List ℕ) (p : Piece) → Reached bytes at first tokens rest
    → IsNext rest p behind → IsSound p
    → Reached bytes (at + length p.text) (first_behind (token_of p.kind) first p.text)
    (tokens ++ in_front (token_of p.kind) first (span at (at + length p.text)) []) behind
reached_next bytes at first tokens rest behind p r n sound = record {
  before = r.before ++ p ∷ [];
  split = split_on bytes rest behind r.before (p ∷ []) r.split (next n done);
  sound = sound_all r.before (p ∷ []) r.sound (sound, tt);
  place = omega (arith, r.place, size_of-append r.before (p ∷ []));
  taken = λ more.
      let to = at + length p.text in
      let later = tokens_of to (first_behind (token_of p.kind) first p.text) more in
      let e : (r.before ++ p ∷ []) ++ more ≡ r.before ++ p ∷ more = rw append_assoc in
      ap (λ t. tokens_of 0 true t) e ∙ r.taken (p ∷ more) ∙ ap (λ t. tokens ++ t) (in_front-append (token_of p.kind) first (span at to) later)
      ∙ rw (← append_assoc);
}

-- the last piece of a split that is sound throughout
sound_it : (bytes x y : List ℕ) (one before : List Piece) (it : Piece) → AllByRecursion IsSound one → Splits bytes one x
    → Splits bytes (before ++ it ∷ []) y → x ≡ [] → IsSound it
sound_it bytes x y one before it sound h d e = elim (compare bytes x y one (before ++ it ∷ []) h d) [
  | inl on ↦
      let none : on.0 ≡ [] = at_end y on.0 (subst (λ t. Splits t on.0 y) e on.2) in
      let same : before ++ it ∷ [] ≡ one = on.1 ∙ ap (λ t. one ++ t) none ∙ rw append-nil in
      sound_last before it (subst (AllByRecursion IsSound) (sym same) sound)
  | inr on ↦ sound_last before it (sound_front (before ++ it ∷ []) on.0 (subst (AllByRecursion IsSound) on.1 sound))
]

unbroken : (bytes : List ℕ) (one : List Piece) (f : Refusal) → IsUtf8 bytes → Splits bytes one [] → AllByRecursion IsSound one → Breaks bytes f → ⊥
unbroken bytes one f utf8 split sound (piece {behind = y} before it text h broken) = let none = sound_it bytes [] y one before it sound split h refl in
    let clash : None ≡ Some _ = sym none ∙ broken in cc
unbroken bytes one f utf8 split sound (not_utf8 at short front free) = not_all bytes at short front free utf8

pub reached_end : (bytes : List ℕ) (at : ℕ) (first : Bool) (tokens : List Token) → IsUtf8 bytes → Reached bytes at first tokens []
    → IsFirst (Breaks bytes) None × HasTokens bytes tokens
reached_end bytes at first tokens utf8 r =
    let e : r.before ≡ r.before ++ [] = rw append-nil in (
      (λ f broken. unbroken bytes r.before f utf8 r.split r.sound broken),
      record { utf8 = utf8; pieces = r.before; split = r.split; sound = r.sound; taken = sym (ap (λ t. tokens_of 0 true t) e ∙ r.taken [] ∙ rw append-nil) },
    )

abbrev pub refusal : Rule → ℕ → ℕ → Refusal
refusal rule from to = record { rule = rule; span = span from to }

-- the same piece at the same place breaks the same rule
never_itself : (rule other : Rule) (from to start end : ℕ) → rule ≡ other → from ≡ start → to ≡ end
    → Precedes (refusal rule from to) (refusal other start end) → ⊥
never_itself rule other from to start end r f t (inl h) = omega arith
never_itself rule other from to start end r f t (inr (h, inl d)) = omega arith
never_itself rule other from to start end r f t (inr (h, inr d)) = let p : place_of rule ≡ place_of other = ap place_of r in omega (arith, d.1, p)

not_before : (rule other : Rule) (from to start end : ℕ) → end < to → Precedes (refusal rule from to) (refusal other start end) → ⊥
not_before rule other from to start end h (inl d) = omega arith
not_before rule other from to start end h (inr d) = omega (arith, d.0)

later_piece : (x y : List ℕ) (before others more : List Piece) (p it : Piece) (rule other : Rule) → others ++ it ∷ [] ≡ (before ++ p ∷ []) ++ more
    → Splits x more y → rule_of p.kind ≡ Some rule → rule_of it.kind ≡ Some other
    → Precedes (refusal other (size_of others) (size_of others + length it.text)) (refusal rule (size_of before) (size_of before + length p.text)) → ⊥
later_piece x y before others [] p it rule other e h breaks also early =
    let same : others ++ it ∷ [] ≡ before ++ p ∷ [] = e ∙ rw append-nil in
    let both = last_same others before it p same in
    let rules : Some other ≡ Some rule = sym also ∙ ap (λ (q : Piece). rule_of q.kind) both.1 ∙ breaks in
    never_itself other rule _ _ _ _ (cc) (ap size_of both.0) (ap₂ (λ n (q : Piece). n + length q.text) (ap size_of both.0) both.1) early
later_piece x y before others (m ∷ more) p it rule other e h breaks also early =
    not_before other rule _ _ _ _ (omega (
      arith,
      ap size_of e,
      size_of-append others (it ∷ []),
      size_of-append (before ++ p ∷ []) (m ∷ more),
      size_of-append before (p ∷ []),
      split_some x y m more (m ∷ more) h refl,
    )) early

earlier_piece : (y : List ℕ) (before others more : List Piece) (p it : Piece) (rule other : Rule) → AllByRecursion IsSound before
    → before ++ p ∷ [] ≡ (others ++ it ∷ []) ++ more → rule_of p.kind ≡ Some rule → rule_of it.kind ≡ Some other
    → Precedes (refusal other (size_of others) (size_of others + length it.text)) (refusal rule (size_of before) (size_of before + length p.text)) → ⊥
earlier_piece y before others [] p it rule other sound e breaks also early =
    later_piece [] [] before others [] p it rule other (sym (e ∙ rw append-nil) ∙ rw append-nil) done breaks also early
earlier_piece y before others (m ∷ more) p it rule other sound e breaks also early =
    let found = before_last before (others ++ it ∷ []) more p m e in
    let none = sound_last others it (sound_front (others ++ it ∷ []) found.0 (subst (AllByRecursion IsSound) found.1 sound)) in
    let clash : None ≡ Some other = sym none ∙ also in cc

-- a second piece that breaks a rule, where pieces before the first are sound
not_earlier : (bytes x y : List ℕ) (before others : List Piece) (p it : Piece) (rule other : Rule) → AllByRecursion IsSound before
    → Splits bytes (before ++ p ∷ []) x → Splits bytes (others ++ it ∷ []) y
    → rule_of p.kind ≡ Some rule → rule_of it.kind ≡ Some other
    → Precedes (refusal other (size_of others) (size_of others + length it.text)) (refusal rule (size_of before) (size_of before + length p.text)) → ⊥
not_earlier bytes x y before others p it rule other sound h d breaks also early = elim (compare bytes x y (before ++ p ∷ []) (others ++ it ∷ []) h d) [
  | inl on ↦ later_piece x y before others on.0 p it rule other on.1 on.2 breaks also early
  | inr on ↦ earlier_piece y before others on.0 p it rule other sound on.1 breaks also early
]

not_before_piece : (bytes x : List ℕ) (before : List Piece) (p : Piece) (rule : Rule) (g : Refusal) → IsUtf8 bytes → AllByRecursion IsSound before
    → Splits bytes (before ++ p ∷ []) x → rule_of p.kind ≡ Some rule → Breaks bytes g
    → Precedes g (refusal rule (size_of before) (size_of before + length p.text)) → ⊥
not_before_piece bytes x before p rule g utf8 sound h breaks (piece {behind = y} {rule = other} others it also d broken) early =
    not_earlier bytes x y before others p it rule other sound h d breaks broken early
not_before_piece bytes x before p rule g utf8 sound h breaks (not_utf8 at short front free) early = not_all bytes at short front free utf8

pub reached_breaks : (bytes : List ℕ) (at : ℕ) (first : Bool) (tokens : List Token) (rest behind : List ℕ) (p : Piece) (rule : Rule) → IsUtf8 bytes
    → Reached bytes at first tokens rest → IsNext rest p behind
    → rule_of p.kind ≡ Some rule → IsFirst (Breaks bytes) (Some (refusal rule at (at + length p.text)))
reached_breaks bytes at first tokens rest behind p rule utf8 r n broken =
    let split = split_on bytes rest behind r.before (p ∷ []) r.split (next n done) in
    subst (λ from. IsFirst (Breaks bytes) (Some (refusal rule from (from + length p.text)))) (sym r.place)
    (piece r.before p utf8 split broken, λ g breaks early. not_before_piece bytes behind r.before p rule g utf8 r.sound split broken breaks early)

-- UTF-8
not_utf8_first : (bytes : List ℕ) (at : ℕ) (g : Refusal) → at < length bytes → IsUtf8 (take at bytes) → StartsWithNoChar (drop at bytes) → Breaks bytes g
    → Precedes g (refusal L4 at (suc at)) → ⊥
not_utf8_first bytes at g short front free (piece before it utf8 h broken) early = not_all bytes at short front free utf8
not_utf8_first bytes at g short front free (not_utf8 to within text none) early =
    let one : to ≤ at = no_later bytes at to short front free (omega arith) text in
    let other : at ≤ to = no_later bytes to at within text none (omega arith) front in
    never_itself L4 L4 to (suc to) at (suc at) refl (omega arith) (omega arith) early

pub valid_up_to_breaks : (bytes : List ℕ) (at : ℕ) → IsValidUpTo bytes at → IsFirst (Breaks bytes) (Some (refusal L4 at (suc at)))
valid_up_to_breaks bytes at valid =
    let free = no_char_there bytes at valid in
    (not_utf8 at valid.short valid.front free, λ g broken early. not_utf8_first bytes at g valid.short valid.front free broken early)
