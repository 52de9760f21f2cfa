-- Nesting of comments.
use Rattle.std.proofs.Common.{◌≡◌, ◌≢◌, ℕ, zero, suc, ◌+◌, ◌-◌, ◌<◌, ◌≤◌, ◌⊎◌, inl, inr, List, [], ◌∷◌, ◌++◌, length, refl, sym, ◌∙◌, ap, subst, arith}
use Rattle.std.proofs.Common.{append-nil, length-append}
use Rattle.hy_lexer.specs.Pieces.{BeginsNoMark, Nests, end, opens, closes, other}
use Rattle.hy_lexer.specs.Scans.{IsClosed, IsOpen}

at_zero : (level new : ℕ) (text : List ℕ) → Nests level text new → level ≡ 0 → (text ≡ []) × (new ≡ 0)
at_zero level new text end e = (refl, e)
at_zero level new text (opens h) e = absurd (omega arith)
at_zero level new text (closes h) e = absurd (omega arith)
at_zero level new text (other free h) e = absurd (omega arith)

-- a second reading of the same bytes: it ends earlier, or is the same
abbrev pub EndsEarlier : List ℕ → List ℕ → ℕ → Type 0
EndsEarlier text more new = (length more < length text) ⊎ ((more ≡ text) × (new ≡ 0))

longer : (text more : List ℕ) (new a b : ℕ) → EndsEarlier text more new → EndsEarlier (a ∷ b ∷ text) (a ∷ b ∷ more) new
longer text more new a b (inl h) = inl (omega arith)
longer text more new a b (inr h) = inr (ap (λ (t : List ℕ). a ∷ b ∷ t) h.0, h.1)

longer_by_one : (text more : List ℕ) (new a : ℕ) → EndsEarlier text more new → EndsEarlier (a ∷ text) (a ∷ more) new
longer_by_one text more new a (inl h) = inl (omega arith)
longer_by_one text more new a (inr h) = inr (ap (λ (t : List ℕ). a ∷ t) h.0, h.1)

-- what holds of all readings from a level
abbrev Within : ℕ → List ℕ → Type 0
Within level text = (new : ℕ) (more behind rest : List ℕ) → Nests level more new → text ++ behind ≡ more ++ rest → EndsEarlier text more new

same_head : (a b : ℕ) (x y : List ℕ) → a ∷ x ≡ b ∷ y → a ≡ b
same_head a b x y e = cc

same_tail : (a b : ℕ) (x y : List ℕ) → a ∷ x ≡ b ∷ y → x ≡ y
same_tail a b x y e = cc

-- after a mark, a reading that takes its first byte alone has no second byte
alone : (a b : ℕ) (text more behind rest : List ℕ) (new : ℕ) (only : (r : List ℕ) → a ∷ more ≢ a ∷ b ∷ r) → b ∷ (text ++ behind) ≡ more ++ rest
    → EndsEarlier (a ∷ b ∷ text) (a ∷ more) new
alone a b text [] behind rest new only e = inl (omega arith)
alone a b text (x ∷ more) behind rest new only e = absurd (only more (ap (λ n. a ∷ n ∷ more) (sym (same_head _ _ _ _ e))))

behind_opening : (old level new : ℕ) (text more behind rest : List ℕ) → Within (suc (suc old)) text → Nests level more new → level ≡ suc old
    → 47 ∷ 42 ∷ (text ++ behind) ≡ more ++ rest → EndsEarlier (47 ∷ 42 ∷ text) more new
behind_opening old level new text more behind rest go end e same = inl (omega arith)
behind_opening old level new text more behind rest go (opens {old = low} {text = inner} h) e same =
    longer text inner new 47 42 (go new inner behind rest (subst (λ n. Nests (suc (suc n)) inner new) (omega arith) h)
    (same_tail 42 42 _ _ (same_tail 47 47 _ _ same)))
behind_opening old level new text more behind rest go (closes h) e same = absurd (let clash : 47 ≡ 42 = same_head _ _ _ _ same in omega arith)
behind_opening old level new text more behind rest go (other {byte = byte} {text = inner} free h) e same =
    let here : byte ≡ 47 = sym (same_head _ _ _ _ same) in
    subst (λ b. EndsEarlier (47 ∷ 42 ∷ text) (b ∷ inner) new) (sym here)
    (alone 47 42 text inner behind rest new (λ r f. (free r).0 (ap (λ b. b ∷ inner) here ∙ f)) (same_tail _ _ _ _ same))

behind_closing : (old level new : ℕ) (text more behind rest : List ℕ) → Within old text → Nests level more new → level ≡ suc old
    → 42 ∷ 47 ∷ (text ++ behind) ≡ more ++ rest → EndsEarlier (42 ∷ 47 ∷ text) more new
behind_closing old level new text more behind rest go end e same = inl (omega arith)
behind_closing old level new text more behind rest go (opens h) e same = absurd (let clash : 42 ≡ 47 = same_head _ _ _ _ same in omega arith)
behind_closing old level new text more behind rest go (closes {old = low} {text = inner} h) e same =
    longer text inner new 42 47 (go new inner behind rest (subst (λ n. Nests n inner new) (omega arith) h) (same_tail 47 47 _ _ (same_tail 42 42 _ _ same)))
behind_closing old level new text more behind rest go (other {byte = byte} {text = inner} free h) e same =
    let here : byte ≡ 42 = sym (same_head _ _ _ _ same) in
    subst (λ b. EndsEarlier (42 ∷ 47 ∷ text) (b ∷ inner) new) (sym here)
    (alone 42 47 text inner behind rest new (λ r f. (free r).1 (ap (λ b. b ∷ inner) here ∙ f)) (same_tail _ _ _ _ same))

-- no mark begins where the next byte is known
no_mark : (a byte : ℕ) (inner text behind rest : List ℕ) → 0 < length text → byte ∷ (text ++ behind) ≡ a ∷ inner ++ rest → (b : ℕ) (r : List ℕ)
    → inner ≡ b ∷ r → (t : List ℕ) × (byte ∷ text ≡ a ∷ b ∷ t)
no_mark a byte inner [] behind rest some same b r e = absurd (omega arith)
no_mark a byte inner (x ∷ text) behind rest some same b r e =
    let f : x ∷ (text ++ behind) ≡ b ∷ (r ++ rest) = same_tail _ _ _ _ same ∙ ap (λ t. t ++ rest) e in
    (text, ap (λ n. n ∷ x ∷ text) (same_head _ _ _ _ same) ∙ ap (λ n. a ∷ n ∷ text) (same_head _ _ _ _ f))

behind_other : (old level new byte : ℕ) (text more behind rest : List ℕ) → BeginsNoMark (byte ∷ text) → 0 < length text → Within (suc old) text
    → Nests level more new → level ≡ suc old → byte ∷ (text ++ behind) ≡ more ++ rest
    → EndsEarlier (byte ∷ text) more new
behind_other old level new byte text more behind rest none some go end e same = inl (omega arith)
behind_other old level new byte text more behind rest none some go (opens {text = inner} h) e same =
    let found = no_mark 47 byte (42 ∷ inner) text behind rest some same 42 inner refl in absurd ((none found.0).0 found.1)
behind_other old level new byte text more behind rest none some go (closes {text = inner} h) e same =
    let found = no_mark 42 byte (47 ∷ inner) text behind rest some same 47 inner refl in absurd ((none found.0).1 found.1)
behind_other old level new byte text more behind rest none some go (other {byte = first} {text = inner} free h) e same =
    subst (λ b. EndsEarlier (byte ∷ text) (b ∷ inner) new) (same_head _ _ _ _ same)
    (longer_by_one text inner new byte (go new inner behind rest (subst (λ n. Nests n inner new) e h) (same_tail _ _ _ _ same)))

not_closed_yet : (level new : ℕ) (text : List ℕ) → Nests level text new → 0 < level → new ≡ 0 → 0 < length text
not_closed_yet level new text end some e = absurd (omega arith)
not_closed_yet level new text (opens h) some e = omega arith
not_closed_yet level new text (closes h) some e = omega arith
not_closed_yet level new text (other free h) some e = omega arith

-- Another reading of the bytes of a closed comment ends earlier, or is the same.
pub within_closed : (level goal : ℕ) (text : List ℕ) → Nests level text goal → goal ≡ 0 → Within level text
within_closed level goal text end e new more behind rest h same = inr (at_zero _ _ _ h e)
within_closed level goal text (opens {old = old} {text = inner} d) e new more behind rest h same =
    behind_opening old _ new inner more behind rest (within_closed _ _ _ d e) h refl same
within_closed level goal text (closes {old = old} {text = inner} d) e new more behind rest h same =
    behind_closing old _ new inner more behind rest (within_closed _ _ _ d e) h refl same
within_closed level goal text (other {old = old} {byte = byte} {text = inner} free d) e new more behind rest h same =
    behind_other old _ new byte inner more behind rest free (not_closed_yet _ _ _ d (omega arith) e) (within_closed _ _ _ d e) h refl same

-- The text of a comment from here on leads to a reading of the whole comment.
pub record Leads (inner : List ℕ) (level : ℕ) (text : List ℕ) : Type 0 where
  pub go : (front behind : List ℕ) (new : ℕ) → text ≡ front ++ behind → Nests level front new → (all : List ℕ) × (inner ≡ all ++ behind) × Nests 1 all new

pub leads_start : (inner : List ℕ) → Leads inner 1 inner
leads_start inner = record { go = λ front behind new e h. (front, e, h) }

leads_opens : (inner text rest : List ℕ) (old : ℕ) → Leads inner (suc old) text → text ≡ 47 ∷ 42 ∷ rest → Leads inner (suc (suc old)) rest
leads_opens inner text rest old leads e = record { go = λ front behind new f h. leads.go (47 ∷ 42 ∷ front) behind new (e ∙ ap (λ t. 47 ∷ 42 ∷ t) f) (opens h) }

leads_closes : (inner text rest : List ℕ) (old : ℕ) → Leads inner (suc old) text → text ≡ 42 ∷ 47 ∷ rest → Leads inner old rest
leads_closes inner text rest old leads e =
    record { go = λ front behind new f h. leads.go (42 ∷ 47 ∷ front) behind new (e ∙ ap (λ t. 42 ∷ 47 ∷ t) f) (closes h) }

still_none : (text front behind : List ℕ) → text ≡ front ++ behind → BeginsNoMark text → BeginsNoMark front
still_none text front behind e none r =
    ((λ f. (none (r ++ behind)).0 (e ∙ ap (λ t. t ++ behind) f)), (λ f. (none (r ++ behind)).1 (e ∙ ap (λ t. t ++ behind) f)))

leads_other : (inner text rest : List ℕ) (byte old : ℕ) → Leads inner (suc old) text → text ≡ byte ∷ rest → BeginsNoMark text → Leads inner (suc old) rest
leads_other inner text rest byte old leads e none = record {
  go = λ front behind new f h. let g : text ≡ byte ∷ front ++ behind = e ∙ ap (λ t. byte ∷ t) f in
      leads.go (byte ∷ front) behind new g (other (still_none text (byte ∷ front) behind g none) h);
}

-- the same at any level but 0
pub step_opens : (inner text rest : List ℕ) (level : ℕ) → Leads inner level text → 0 < level → text ≡ 47 ∷ 42 ∷ rest → Leads inner (level + 1) rest
step_opens inner text rest zero leads some e = absurd (omega arith)
step_opens inner text rest (suc old) leads some e = subst (λ n. Leads inner n rest) (omega arith) (leads_opens inner text rest old leads e)

pub step_closes : (inner text rest : List ℕ) (level : ℕ) → Leads inner level text → 0 < level → text ≡ 42 ∷ 47 ∷ rest → Leads inner (level - 1) rest
step_closes inner text rest zero leads some e = absurd (omega arith)
step_closes inner text rest (suc old) leads some e = subst (λ n. Leads inner n rest) (omega arith) (leads_closes inner text rest old leads e)

pub step_other : (inner text rest : List ℕ) (byte level : ℕ) → Leads inner level text → 0 < level → text ≡ byte ∷ rest → BeginsNoMark text
    → Leads inner level rest
step_other inner text rest byte zero leads some e none = absurd (omega arith)
step_other inner text rest byte (suc old) leads some e none = leads_other inner text rest byte old leads e none

pub open_at_end : (inner text : List ℕ) (level : ℕ) → Leads inner level text → 0 < level → text ≡ [] → IsOpen inner
open_at_end inner text zero leads some e = absurd (omega arith)
open_at_end inner text (suc old) leads some e =
    let all = leads.go [] [] (suc old) e end in (old, subst (λ t. Nests 1 t (suc old)) (sym (all.1 ∙ rw append-nil)) all.2)

pub closed_here : (inner text : List ℕ) (level : ℕ) → Leads inner level text → level ≡ 0 → IsClosed inner (length inner - length text)
closed_here inner text level leads e =
    let all = leads.go [] text 0 refl (subst (λ n. Nests level [] n) e end) in
    (all.0, text, all.1, all.2, omega (arith, ap length all.1, length-append all.0 text))

pub shorter_here : (inner text : List ℕ) (level : ℕ) → Leads inner level text → length text ≤ length inner
shorter_here inner text level leads = let all = leads.go [] text level refl end in omega (arith, ap length all.1, length-append all.0 text)

-- The text of a closed comment ends with a slash.
pub closed_ends : (level new : ℕ) (text : List ℕ) → Nests level text new → 0 < level → new ≡ 0 → (front : List ℕ) × (text ≡ front ++ 47 ∷ [])
closed_ends level new text end some e = absurd (omega arith)
closed_ends level new text (opens h) some e = let it = closed_ends _ _ _ h (omega arith) e in (47 ∷ 42 ∷ it.0, ap (λ t. 47 ∷ 42 ∷ t) it.1)
closed_ends level new text (closes {old = zero} h) some e = (42 ∷ [], ap (λ t. 42 ∷ 47 ∷ t) (at_zero _ _ _ h refl).0)
closed_ends level new text (closes {old = suc old} h) some e = let it = closed_ends _ _ _ h (omega arith) e in (42 ∷ 47 ∷ it.0, ap (λ t. 42 ∷ 47 ∷ t) it.1)
closed_ends level new text (other {byte = byte} free h) some e = let it = closed_ends _ _ _ h (omega arith) e in (byte ∷ it.0, ap (λ t. byte ∷ t) it.1)
