-- Where the machine with the limit stops, and which refusal comes first.
use Rattle.std.proofs.Common.{◌≡◌, ◌≤◌, ◌<◌, ◌+◌, ◌-◌, ◌==◌, inl, inr, cond, nat_lt, ℕ, suc, Bool, true, false, Option, Some, None, Result, Ok, Err, List}
use Rattle.std.proofs.Common.{[], ◌∷◌, ◌++◌, length, drop, refl, sym, ap, subst, ◌∙◌, append_assoc, arith}
use Rattle.std.proofs.Math.Seq.{drop-append_seam}
use Rattle.std.proofs.lemmas.Bool.{ltb-true, ltb-false, eqb-true, eqb-false}
use Rattle.std.proofs.lemmas.List.{append-nil, length-append}
use Rattle.hy_base.specs.First.{Refusal, Precedes, IsFirst}
use Rattle.hy_base.specs.declared.position.Span.{Span}
use Rattle.hy_base.specs.declared.refusal.Rule.TheVariants.{P1, P2}
use Rattle.hy_lexer.specs.Spans.{AreApart}
use Rattle.hy_lexer.specs.declared.token.Token.{Token}
use Rattle.hy_tree.specs.Tree as T
use Rattle.hy_grammar.specs.Completion.{completion}
use Rattle.hy_grammar.specs.Grammar.{IsProgram}
use Rattle.hy_grammar.specs.Machine.{step, finish, start as initial, run, accepted, Halt, Unexpected, TooDeep, most_levels, is_too_deep, go_within}
use Rattle.hy_grammar.specs.Machine.{accepted_within, walk}
use Rattle.hy_grammar.specs.Parses.{Begins, reached_from, reached, Opens, Breaks, unexpected, too_short, too_deep, at_end, unexpected_at, too_deep_at}
use Rattle.hy_grammar.specs.Parses.{refusal_of}
use Rattle.hy_grammar.specs.Stack.{State, FileReady, FileDone, DeclRead, depth}
use Rattle.hy_grammar_laws.proofs.Runs.{moves, stops}
use Rattle.hy_grammar_laws.proofs.Completes.{completes}
use Rattle.hy_grammar_laws.proofs.CompleteDecls.{complete}
use Rattle.hy_grammar_laws.proofs.SoundRun.{sound}

-- ---- walks

-- The machine goes over tokens, before which stand so many, and has at most 200 levels after each.
pub data Walks : ℕ → State → List Token → State → Type 0 where
  stands : {n : ℕ} {s : State} → Walks n s [] s
  goes_on : {n : ℕ} {s s' end : State} {t : Token} {ts : List Token} → step s t n ≡ Some s' → depth s' ≤ most_levels → Walks (suc n) s' ts end
      → Walks n s (t ∷ ts) end

behind_one : (total n a b : ℕ) → total ≡ n + b → b ≡ suc a → total - suc a ≡ n
behind_one total n a b h g = omega (arith, h, g)

one_on : (total n a b : ℕ) → total ≡ n + b → b ≡ suc a → total ≡ suc n + a
one_on total n a b h g = omega (arith, h, g)

walks_run : {n : ℕ} {s s' : State} {front : List Token} → Walks n s front s' → (more : List Token) (total : ℕ) → total ≡ n + length (front ++ more)
    → run total s (front ++ more) ≡ run total s' more
walks_run stands more total h = refl
walks_run (goes_on {n = n} {s = s} {s' = s'} {t = t} {ts = ts} h le w) more total q =
    let place : total - suc (length (ts ++ more)) ≡ n = behind_one total n (length (ts ++ more)) (length (t ∷ ts ++ more)) q refl in
    moves total s s' t (ts ++ more) (ap (step s t) place ∙ h) ∙ walks_run w more total (one_on total n (length (ts ++ more)) (length (t ∷ ts ++ more)) q refl)

walks_reached : {n : ℕ} {s s' : State} {front : List Token} → Walks n s front s' → (more : List Token)
    → reached n s (front ++ more) ≡ reached (n + length front) s' more
unfolding reached
walks_reached (stands {n = n} {s = s}) more = let q : n ≡ n + length {A = Token} [] = omega arith in ap (λ z. reached z s more) q
walks_reached (goes_on {n = n} {s = s} {s' = s'} {end = end} {t = t} {ts = ts} h le w) more =
    let q : suc n + length ts ≡ n + length (t ∷ ts) = omega arith in
    ap (λ o. reached_from o (λ x. reached (suc n) x (ts ++ more))) h ∙ walks_reached w more ∙ ap (λ z. reached z end more) q

some_state : (s s' : State) → ◌≡◌ {A = Option State} (Some s) (Some s') → s ≡ s'
some_state s s' h = cc

-- no level too many is begun on the way
walks_within : {n : ℕ} {s s' : State} {front : List Token} → Walks n s front s' → (before mid : List Token) (t : Token) (there : State)
    → front ≡ before ++ t ∷ mid → reached n s (before ++ t ∷ []) ≡ Some there → depth there ≤ most_levels
unfolding reached
walks_within stands [] mid t there q h = let w : ⊥ = cc in absurd w
walks_within stands (x ∷ before) mid t there q h = let w : ⊥ = cc in absurd w
walks_within (goes_on {n = n} {s = s} {s' = s'} {t = x} h le w) [] mid t there q g =
    let e : x ≡ t = cc in
    let there_is : s' ≡ there = some_state s' there (sym (ap (λ o. reached_from o (λ z. reached (suc n) z [])) (sym (ap (λ z. step s z n) e) ∙ h)) ∙ g) in
    subst (λ z. depth z ≤ most_levels) there_is le
walks_within (goes_on {n = n} {s = s} {s' = s'} {t = x} {ts = ts} h le w) (y ∷ before) mid t there q g =
    let e : x ≡ y = cc in
    let rest : ts ≡ before ++ t ∷ mid = cc in
    walks_within w before mid t there rest (sym (ap (λ o. reached_from o (λ z. reached (suc n) z (before ++ t ∷ []))) (sym (ap (λ z. step s z n) e) ∙ h)) ∙ g)

-- ---- what a walk ends with

data EndsWith (total place : ℕ) (s : State) : List Token → Result T.Program Halt → Type 0 where
  in_program : {tree : T.Program} → finish s total ≡ Some tree → EndsWith total place s [] (Ok tree)
  in_want : finish s total ≡ None → EndsWith total place s [] (Err (Unexpected 0))
  at_wrong : {t : Token} {ts : List Token} → step s t place ≡ None → EndsWith total place s (t ∷ ts) (Err (Unexpected (length (t ∷ ts))))
  at_deep : {s' : State} {t : Token} {ts : List Token} → step s t place ≡ Some s' → most_levels < depth s'
      → EndsWith total place s (t ∷ ts) (Err (TooDeep (length (t ∷ ts))))

record Walked (total n : ℕ) (s : State) (ts : List Token) (end : Result T.Program Halt) : Type 0 where
  front : List Token
  rest : List Token
  there : State
  split : ts ≡ front ++ rest
  walks : Walks n s front there
  ends : EndsWith total (n + length front) there rest end

ends_none : (total n : ℕ) (s : State) (o : Option T.Program) → finish s total ≡ o → EndsWith total n s [] (accepted_within o)
ends_none total n s None h = in_want h
ends_none total n s (Some tree) h = in_program h

nothing_more : (n : ℕ) → n ≡ n + length {A = Token} []
nothing_more n = omega arith

is_more : (a b : ℕ) → nat_lt a b ≡ true → a < b
is_more a b h = ltb-true a b h

is_not_more : (a b : ℕ) → nat_lt a b ≡ false → b ≤ a
is_not_more a b h = ltb-false a b h

shift : (n a : ℕ) → suc n + a ≡ n + suc a
shift n a = omega arith

walked_on : (total n : ℕ) (s s' : State) (t : Token) (ts : List Token) (end : Result T.Program Halt) → step s t n ≡ Some s' → depth s' ≤ most_levels
    → Walked total (suc n) s' ts end → Walked total n s (t ∷ ts) end
walked_on total n s s' t ts end h le w = record {
  front = t ∷ w.front;
  rest = w.rest;
  there = w.there;
  split = ap (λ l. t ∷ l) w.split;
  walks = goes_on h le w.walks;
  ends = subst (λ z. EndsWith total z w.there w.rest end) (shift n (length w.front)) w.ends;
}

walked_stop : (total n : ℕ) (s : State) (ts : List Token) (end : Result T.Program Halt) → EndsWith total n s ts end → Walked total n s ts end
walked_stop total n s ts end e = record {
  front = [];
  rest = ts;
  there = s;
  split = refl;
  walks = stands;
  ends =
      subst (λ z. EndsWith total z s ts end) (nothing_more n) e;
}

walked_deep : (total n : ℕ) (s s' : State) (t : Token) (ts : List Token) (deep : Bool) → step s t n ≡ Some s' → is_too_deep s' ≡ deep
    → ((e : depth s' ≤ most_levels) → Walked total (suc n) s' ts (walk total s' ts))
    → Walked total n s (t ∷ ts) (cond deep (Err (TooDeep (suc (length ts)))) (walk total s' ts))
walked_deep total n s s' t ts true h d f = walked_stop total n s (t ∷ ts) _ (at_deep h (is_more most_levels (depth s') d))
walked_deep total n s s' t ts false h d f = let le = is_not_more most_levels (depth s') d in walked_on total n s s' t ts _ h le (f le)

walked_go : (total n : ℕ) (s : State) (t : Token) (ts : List Token) (o : Option State) → step s t n ≡ o
    → ((s' : State) → Walked total (suc n) s' ts (walk total s' ts))
    → Walked total n s (t ∷ ts) (go_within o (λ x. walk total x ts) (suc (length ts)))
walked_go total n s t ts None h f = walked_stop total n s (t ∷ ts) _ (at_wrong h)
walked_go total n s t ts (Some s') h f = walked_deep total n s s' t ts (is_too_deep s') h refl (λ e. f s')

walked : (ts : List Token) (total n : ℕ) (s : State) → total ≡ n + length ts → Walked total n s ts (walk total s ts)
unfolding walk
walked [] total n s q = walked_stop total n s [] _ (ends_none total n s (finish s total) refl)
walked (t ∷ ts) total n s q =
    let place : total - suc (length ts) ≡ n = behind_one total n (length ts) (length (t ∷ ts)) q refl in
    walked_go total n s t ts (step s t (total - suc (length ts))) (sym (ap (step s t) place))
    (λ s'. walked ts total (suc n) s' (one_on total n (length ts) (length (t ∷ ts)) q refl))

-- ---- beginnings of programs

begins_less : (a b : List Token) → Begins (a ++ b) → Begins a
begins_less a b x = (b ++ x.0, x.1, subst (λ l. IsProgram l x.1) (append_assoc a b x.0) x.2)

begins_walk : {front : List Token} {s : State} → Walks 0 initial front s → Begins front
begins_walk {front = front} {s = s} w =
    let total = length (front ++ completion s) in
    let a = completes s total in
    (completion s, a.0, sound (front ++ completion s) a.0 (walks_run w (completion s) total (no_more_before total) ∙ a.1))
  where
    no_more_before : (n : ℕ) → n ≡ 0 + n
    no_more_before n = omega arith

from_none : (n : ℕ) → n ≡ 0 + n
from_none n = omega arith

-- no program goes on with a token that cannot stand
never : (t : Token) {front : List Token} {s : State} → Walks 0 initial front s → step s t (length front) ≡ None → Begins (front ++ t ∷ []) → ⊥
never t {front = front} {s = s} w h x =
    let more = x.0 in
    let total = length ((front ++ t ∷ []) ++ more) in
    let same : (front ++ t ∷ []) ++ more ≡ front ++ t ∷ more = append_assoc front (t ∷ []) more in
    let size : total ≡ length front + length (t ∷ more) = ap length same ∙ length-append front (t ∷ more) in
    let place : total - suc (length more) ≡ length front = behind_one total (length front) (length more) (length (t ∷ more)) size refl in
    let there : run total initial (front ++ t ∷ more) ≡ run total s (t ∷ more) = walks_run w (t ∷ more) total (ap length same ∙ from_none _) in
    let stop : run total s (t ∷ more) ≡ Err (suc (length more)) = stops total s t more (ap (step s t) place ∙ h) in
    let ok : run total initial (front ++ t ∷ more) ≡ Ok x.1 = sym (ap (run total initial) same) ∙ complete _ x.1 x.2 in
    cc

-- ---- two splits of one list

data Cut (front rest before : List Token) (t : Token) (behind : List Token) : Type 0 where
  inside : (mid : List Token) → front ≡ before ++ t ∷ mid → Cut front rest before t behind
  outside : (mid : List Token) → before ≡ front ++ mid → rest ≡ mid ++ t ∷ behind → Cut front rest before t behind

cut_more : (x y t : Token) (front rest before behind : List Token) → x ≡ y → Cut front rest before t behind → Cut (x ∷ front) rest (y ∷ before) t behind
cut_more x y t front rest before behind e (inside mid q) = inside mid (λ i. e i ∷ q i)
cut_more x y t front rest before behind e (outside mid q r) = outside mid (λ i. sym e i ∷ q i) r

cut : (front rest before : List Token) (t : Token) (behind : List Token) → front ++ rest ≡ before ++ t ∷ behind → Cut front rest before t behind
cut [] rest before t behind q = outside before refl q
cut (x ∷ front) rest [] t behind q = let e : x ≡ t = cc in inside front (ap (λ z. z ∷ front) e)
cut (x ∷ front) rest (y ∷ before) t behind q = let e : x ≡ y = cc in let r : front ++ rest ≡ before ++ t ∷ behind = cc in
    cut_more x y t front rest before behind e (cut front rest before t behind r)

-- ---- spans

-- what is after other tokens is apart, too
record Further (at : ℕ) (rest : List Token) (size : ℕ) : Type 0 where
  there : ℕ
  on : at ≤ there
  apart : AreApart there rest size

reach : (a b c d : ℕ) → a ≤ b → b < c → c ≤ d → a ≤ d
reach a b c d h g f = omega (arith, h, g, f)

further : (before rest : List Token) (at size : ℕ) → AreApart at (before ++ rest) size → Further at rest size
further [] rest at size h = record { there = at; on = omega arith; apart = h }
further (x ∷ before) rest at size h = let f = further before rest x.span.to size h.2 in
    record { there = f.there; on = reach at x.span.from x.span.to f.there h.0 h.1 f.on; apart = f.apart }

in_size : (ts : List Token) (at size : ℕ) → AreApart at ts size → at ≤ size
in_size [] at size h = h
in_size (x ∷ ts) at size h = reach at x.span.from x.span.to size h.0 h.1 (in_size ts x.span.to size h.2)

ends_further : (a b c d : ℕ) → a ≤ b → b ≤ c → c < d → a < d
ends_further a b c d h g f = omega (arith, h, g, f)

-- a token after others ends after them
ends_behind : (before : List Token) (t : Token) (behind : List Token) (at size : ℕ) → AreApart at (before ++ t ∷ behind) size → at < t.span.to
ends_behind before t behind at size h = let f = further before (t ∷ behind) at size h in ends_further at f.there t.span.from t.span.to f.on f.apart.0 f.apart.1

-- ---- which comes first

not_before : (f g : Refusal) → f.span.to < g.span.to → Precedes g f → ⊥
not_before f g h (inl x) = omega (arith, h, x)
not_before f g h (inr x) = let e = x.0 in omega (arith, h, e)

not_itself : (f : Refusal) → Precedes f f → ⊥
not_itself f (inl x) = omega (arith, x)
not_itself f (inr (e, inl x)) = omega (arith, x)
not_itself f (inr (e, inr x)) = let y = x.1 in omega (arith, y)

-- the same token breaks the same rule
same_token : (t t' : Token) (ts behind : List Token) → t ∷ ts ≡ t' ∷ behind → t' ≡ t
same_token t t' ts behind h = cc

prefix_of_front : (front before mid : List Token) (t : Token) → front ≡ before ++ t ∷ mid → Begins front → Begins (before ++ t ∷ [])
prefix_of_front front before mid t q b = begins_less (before ++ t ∷ []) mid (subst Begins (q ∙ sym (append_assoc before (t ∷ []) mid)) b)

two_levels : (few many depth : ℕ) → depth ≡ many → depth ≤ most_levels → most_levels < many → ⊥
two_levels few many depth e h g = omega (arith, e, h, g)

-- a program leaves no level open
finish_flat : (s : State) (n : ℕ) (tree : T.Program) → finish s n ≡ Some tree → depth s ≡ 0
unfolding finish
finish_flat (FileReady decls to) n tree h = refl
finish_flat (FileDone decls to) n tree h = refl
finish_flat (DeclRead decls start kind to) n tree h = refl
finish_flat _ n tree h = let q : ⊥ = cc in absurd q

accepted_is : (o : Option T.Program) (tree : T.Program) → accepted o ≡ Ok tree → o ≡ Some tree
accepted_is None tree h = cc
accepted_is (Some x) tree h = cc

ended : (total : ℕ) (s : State) (tree : T.Program) → run total s [] ≡ Ok tree → depth s ≡ 0
unfolding run
ended total s tree e = finish_flat s total tree (accepted_is (finish s total) tree e)

walks_depth : {n : ℕ} {s s' : State} {front : List Token} → Walks n s front s' → depth s ≤ most_levels → depth s' ≤ most_levels
walks_depth stands h = h
walks_depth (goes_on g le w) h = walks_depth w le

flat_start : depth initial ≤ most_levels
flat_start = omega arith

not_deep : (a : ℕ) → a ≡ 0 → most_levels < a → ⊥
not_deep a h g = omega (arith, h, g)

no_room : (a b c : ℕ) → c ≤ a → a < b → b ≤ c → ⊥
no_room a b c h g f = omega (arith, h, g, f)

last_token : (ts : List Token) (size : ℕ) → AreApart size ts size → ts ≡ []
last_token [] size h = refl
last_token (x ∷ ts) size h = absurd (no_room x.span.from x.span.to size h.0 h.1 (in_size ts x.span.to size h.2))

not_end : (from to size : ℕ) → from < to → to ≡ size → size < from → ⊥
not_end from to size h g f = omega (arith, h, g, f)

not_there : (from to size : ℕ) → from < to → to ≡ size → from ≡ size → ⊥
not_there from to size h g f = omega (arith, h, g, f)

not_over : (to size : ℕ) → to ≡ size → to < size → ⊥
not_over to size h g = omega (arith, h, g)

strictly : (a b : ℕ) → a ≤ b → (a ≡ b → ⊥) → a < b
strictly a b h f = omega (arith, h, f)

-- at one end of all, the level too many comes after the end of the file
end_before : (span : Span) (size : ℕ) → span.from < span.to → span.to ≡ size → Precedes (record { rule = P2; span = span }) (at_end size) → ⊥
end_before span size h g (inl x) = not_over span.to size g x
end_before span size h g (inr (e, inl x)) = not_end span.from span.to size h g x
end_before span size h g (inr (e, inr x)) = not_there span.from span.to size h g x.0

module _ (size : ℕ) (front : List Token) (there : State) (w : Walks 0 initial front there) where
  -- No level too many is begun in front.
  shallow : (before mid : List Token) (t : Token) (many : ℕ) → front ≡ before ++ t ∷ mid → Opens (before ++ t ∷ []) many → most_levels < many → ⊥
  shallow before mid t many q o lt = two_levels 0 many (depth o.0) o.2 (walks_within w before mid t o.0 q o.1) lt

  -- ---- a token that cannot stand

  module _ (t : Token) (ts : List Token) (h : step there t (length front) ≡ None) where
    no_way : (front' : List Token) (s : State) → front' ≡ front ++ t ∷ [] → Begins front' → ⊥
    no_way front' s q b = never t w h (subst Begins q b)

    past_wrong : (more : List Token) → reached 0 initial (front ++ t ∷ more) ≡ None
    unfolding reached
    past_wrong more = walks_reached w (t ∷ more) ∙ ap (λ n. reached n there (t ∷ more)) (sym (from_none (length front)))
        ∙ ap (λ o. reached_from o (λ x. reached (suc (length front)) x more)) h

    not_reached : (before mid : List Token) (t' : Token) (behind : List Token) (many : ℕ) → before ≡ front ++ mid → t ∷ ts ≡ mid ++ t' ∷ behind
        → Opens (before ++ t' ∷ []) many → ⊥
    not_reached before [] t' behind many q r o =
        let e = same_token t t' ts behind r in
        let same : before ++ t' ∷ [] ≡ front ++ t ∷ [] = (λ i. q i ++ e i ∷ []) ∙ ap (λ z. z ++ t ∷ []) (append-nil front) in
        let x : reached 0 initial (front ++ t ∷ []) ≡ Some o.0 = sym (ap (reached 0 initial) same) ∙ o.1 in
        let y = past_wrong [] in cc
    not_reached before (x ∷ mid) t' behind many q r o =
        let e : t ≡ x = cc in
        let same : before ++ t' ∷ [] ≡ front ++ t ∷ (mid ++ t' ∷ []) = ap (λ z. z ++ t' ∷ []) q ∙ append_assoc front (x ∷ mid) (t' ∷ [])
        ∙ ap (λ z. front ++ z ∷ (mid ++ t' ∷ [])) (sym e) in
        let z : reached 0 initial (front ++ t ∷ (mid ++ t' ∷ [])) ≡ Some o.0 = sym (ap (reached 0 initial) same) ∙ o.1 in
        let y = past_wrong (mid ++ t' ∷ []) in cc

    wrong_cut : (before : List Token) (t' : Token) (behind : List Token) → Cut front (t ∷ ts) before t' behind → Begins before
        → (Begins (before ++ t' ∷ []) → ⊥) → Precedes (record { rule = P1; span = t'.span }) (record { rule = P1; span = t.span }) → ⊥
    wrong_cut before t' behind (inside mid q) b nb p = nb (prefix_of_front front before mid t' q (begins_walk w))
    wrong_cut before t' behind (outside [] q r) b nb p =
        not_itself (record { rule = P1; span = t.span }) (subst (λ z. Precedes (record { rule = P1; span = z.span }) (record { rule = P1; span = t.span }))
        (same_token t t' ts behind r) p)
    wrong_cut before t' behind (outside (x ∷ mid) q r) b nb p =
        let e : x ≡ t = cc in
        never t w h (begins_less (front ++ t ∷ []) mid (subst Begins (q ∙ ap (λ z. front ++ z ∷ mid) e ∙ sym (append_assoc front (t ∷ []) mid)) b))

    wrong_deep : (before : List Token) (t' : Token) (behind : List Token) (many : ℕ) → Cut front (t ∷ ts) before t' behind → Opens (before ++ t' ∷ []) many
        → most_levels < many → ⊥
    wrong_deep before t' behind many (inside mid q) o lt = shallow before mid t' many q o lt
    wrong_deep before t' behind many (outside mid q r) o lt = not_reached before mid t' behind many q r o

    wrong_only : (g : Refusal) → Breaks (front ++ t ∷ ts) size g → Precedes g (record { rule = P1; span = t.span }) → ⊥
    wrong_only g (unexpected before t' behind q b nb) p = wrong_cut before t' behind (cut front (t ∷ ts) before t' behind q) b nb p
    wrong_only g (too_short b np) p = never t w h (begins_less (front ++ t ∷ []) ts (subst Begins (sym (append_assoc front (t ∷ []) ts)) b))
    wrong_only g (too_deep before t' behind {many = many} q o le o' lt) p = wrong_deep before t' behind many (cut front (t ∷ ts) before t' behind q) o' lt

    wrong_first : IsFirst (Breaks (front ++ t ∷ ts) size) (Some (record { rule = P1; span = t.span }))
    wrong_first = (unexpected front t ts refl (begins_walk w) (never t w h), wrong_only)

  -- ---- the end of the file

  no_token : (before : List Token) (t : Token) (behind : List Token) → ◌≡◌ {A = List Token} [] (before ++ t ∷ behind) → ⊥
  no_token [] t behind h = cc
  no_token (x ∷ before) t behind h = cc

  whole_cut : (before : List Token) (t : Token) (behind : List Token) → front ≡ before ++ t ∷ behind → Begins (before ++ t ∷ [])
  whole_cut before t behind q = prefix_of_front front before behind t q (begins_walk w)

  at_there : run (length front) initial front ≡ run (length front) there []
  at_there = ap (run (length front) initial) (sym (append-nil front)) ∙ walks_run w [] (length front) (ap length (sym (append-nil front)) ∙ from_none _)

  want_not : finish there (length front) ≡ None → (tree : T.Program) → IsProgram front tree → ⊥
  unfolding run
  want_not h tree p = let a = complete front tree p in let b : run (length front) initial front ≡ Err 0 = at_there ∙ ap accepted h in cc

  want_only : (g : Refusal) → Breaks front size g → Precedes g (at_end size) → ⊥
  want_only g (unexpected before t behind q b nb) p = nb (whole_cut before t behind q)
  want_only g (too_short b np) p = not_itself (at_end size) p
  want_only g (too_deep before t behind {many = many} q o le o' lt) p = shallow before behind t many q o' lt

  want_first : finish there (length front) ≡ None → IsFirst (Breaks front size) (Some (at_end size))
  want_first h = (too_short (begins_walk w) (want_not h), want_only)

  -- ---- a program

  program_is : (tree : T.Program) → finish there (length front) ≡ Some tree → IsProgram front tree
  unfolding run
  program_is tree h = sound front tree (at_there ∙ ap accepted h)

  program_only : (tree : T.Program) → IsProgram front tree → (g : Refusal) → Breaks front size g → ⊥
  program_only tree p g (unexpected before t behind q b nb) = nb (whole_cut before t behind q)
  program_only tree p g (too_short b np) = np tree p
  program_only tree p g (too_deep before t behind {many = many} q o le o' lt) = shallow before behind t many q o' lt

  program_first : (tree : T.Program) → finish there (length front) ≡ Some tree → IsFirst (Breaks front size) None × IsProgram front tree
  program_first tree h = let p = program_is tree h in (program_only tree p, p)

  -- ---- a level too many

  module _ (t : Token) (ts : List Token) (s' : State) (h : step there t (length front) ≡ Some s') (lt : most_levels < depth s')
      (apart : AreApart 0 (front ++ t ∷ ts) size) where
    reached_deep : reached 0 initial (front ++ t ∷ []) ≡ Some s'
    unfolding reached
    reached_deep = walks_reached w (t ∷ []) ∙ ap (λ n. reached n there (t ∷ [])) (sym (from_none (length front)))
        ∙ ap (λ o. reached_from o (λ x. reached (suc (length front)) x [])) h

    reached_front : reached 0 initial front ≡ Some there
    unfolding reached
    reached_front = ap (reached 0 initial) (sym (append-nil front)) ∙ walks_reached w []

    opens_front : Opens front (depth there)
    opens_front = (there, reached_front, refl)

    opens_deep : Opens (front ++ t ∷ []) (depth s')
    opens_deep = (s', reached_deep, refl)

    past_deep : (more : List Token) (total : ℕ) → total ≡ length (front ++ t ∷ more) → run total initial (front ++ t ∷ more) ≡ run total s' more
    past_deep more total q =
        let place : total - suc (length more) ≡ length front =
        behind_one total (length front) (length more) (length (t ∷ more)) (q ∙ length-append front (t ∷ more)) refl in
        walks_run w (t ∷ more) total (q ∙ from_none _) ∙ moves total there s' t more (ap (step there t) place ∙ h)

    begins_deep : Begins (front ++ t ∷ [])
    begins_deep =
        let more = completion s' in
        let total = length (front ++ t ∷ more) in
        let a = completes s' total in
        let same : (front ++ t ∷ []) ++ more ≡ front ++ t ∷ more = append_assoc front (t ∷ []) more in
        (more, a.0, subst (λ l. IsProgram l a.0) (sym same) (sound (front ++ t ∷ more) a.0 (past_deep more total refl ∙ a.1)))

    -- a later token ends later
    later : (mid : List Token) (t' : Token) (behind : List Token) → ts ≡ mid ++ t' ∷ behind → t.span.to < t'.span.to
    later mid t' behind q =
        let f = further front (t ∷ ts) 0 size apart in
        ends_behind mid t' behind t.span.to size (subst (λ l. AreApart t.span.to l size) q f.apart.2)

    own_span : (t.span.from < t.span.to) × AreApart t.span.to ts size
    own_span = let f = further front (t ∷ ts) 0 size apart in (f.apart.1, f.apart.2)

    -- the same place, and what stands there
    same_front : (before : List Token) (t' : Token) (behind : List Token) → before ≡ front ++ [] → t ∷ ts ≡ t' ∷ behind → front ++ t ∷ [] ≡ before ++ t' ∷ []
    same_front before t' behind q r = let e : t ≡ t' = cc in ap (λ z. front ++ z ∷ []) e ∙ ap (λ z. z ++ t' ∷ []) (sym (append-nil front))
        ∙ ap (λ z. z ++ t' ∷ []) (sym q)

    tail_of : (x : Token) (mid : List Token) (t' : Token) (behind : List Token) → t ∷ ts ≡ (x ∷ mid) ++ t' ∷ behind → ts ≡ mid ++ t' ∷ behind
    tail_of x mid t' behind r = cc

    deep_cut : (before : List Token) (t' : Token) (behind : List Token) → Cut front (t ∷ ts) before t' behind → (Begins (before ++ t' ∷ []) → ⊥)
        → Precedes (record { rule = P1; span = t'.span }) (record { rule = P2; span = t.span }) → ⊥
    deep_cut before t' behind (inside mid q) nb p = nb (prefix_of_front front before mid t' q (begins_walk w))
    deep_cut before t' behind (outside [] q r) nb p = nb (subst Begins (same_front before t' behind q r) begins_deep)
    deep_cut before t' behind (outside (x ∷ mid) q r) nb p =
        not_before (record { rule = P2; span = t.span }) (record { rule = P1; span = t'.span }) (later mid t' behind (tail_of x mid t' behind r)) p

    deep_again : (before : List Token) (t' : Token) (behind : List Token) (many : ℕ) → Cut front (t ∷ ts) before t' behind → Opens (before ++ t' ∷ []) many
        → most_levels < many → Precedes (record { rule = P2; span = t'.span }) (record { rule = P2; span = t.span }) → ⊥
    deep_again before t' behind many (inside mid q) o l p = shallow before mid t' many q o l
    deep_again before t' behind many (outside [] q r) o l p =
        not_itself (record { rule = P2; span = t.span }) (subst (λ z. Precedes (record { rule = P2; span = z.span }) (record { rule = P2; span = t.span }))
        (same_token t t' ts behind r) p)
    deep_again before t' behind many (outside (x ∷ mid) q r) o l p =
        not_before (record { rule = P2; span = t.span }) (record { rule = P2; span = t'.span }) (later mid t' behind (tail_of x mid t' behind r)) p

    deep_only : t.span.to < size → (g : Refusal) → Breaks (front ++ t ∷ ts) size g → Precedes g (record { rule = P2; span = t.span }) → ⊥
    deep_only l g (unexpected before t' behind q b nb) p = deep_cut before t' behind (cut front (t ∷ ts) before t' behind q) nb p
    deep_only l g (too_short b np) p = not_before (record { rule = P2; span = t.span }) (at_end size) l p
    deep_only l g (too_deep before t' behind {many = many} q o le o' l') p = deep_again before t' behind many (cut front (t ∷ ts) before t' behind q) o' l' p

    deep_first : t.span.to < size → IsFirst (Breaks (front ++ t ∷ ts) size) (Some (record { rule = P2; span = t.span }))
    deep_first l = (too_deep front t ts refl opens_front (walks_depth w flat_start) opens_deep lt, deep_only l)

    -- ---- at the last byte of the file

    last_not : (total : ℕ) → total ≡ length (front ++ t ∷ []) → (tree : T.Program) → IsProgram (front ++ t ∷ []) tree → ⊥
    last_not total q tree p =
        let a : run total initial (front ++ t ∷ []) ≡ Ok tree = ap (λ n. run n initial (front ++ t ∷ [])) q ∙ complete (front ++ t ∷ []) tree p in
        not_deep (depth s') (ended total s' tree (sym (past_deep [] total q) ∙ a)) lt

    last_cut : (before : List Token) (t' : Token) (behind : List Token) → Cut front (t ∷ ts) before t' behind → ts ≡ [] → (Begins (before ++ t' ∷ []) → ⊥) → ⊥
    last_cut before t' behind (inside mid q) e nb = nb (prefix_of_front front before mid t' q (begins_walk w))
    last_cut before t' behind (outside [] q r) e nb = nb (subst Begins (same_front before t' behind q r) begins_deep)
    last_cut before t' behind (outside (x ∷ mid) q r) e nb = no_token mid t' behind (sym e ∙ tail_of x mid t' behind r)

    last_again : (before : List Token) (t' : Token) (behind : List Token) (many : ℕ) → Cut front (t ∷ ts) before t' behind → ts ≡ [] → t.span.to ≡ size
        → Opens (before ++ t' ∷ []) many → most_levels < many → Precedes (record { rule = P2; span = t'.span }) (at_end size) → ⊥
    last_again before t' behind many (inside mid q) e l o m p = shallow before mid t' many q o m
    last_again before t' behind many (outside [] q r) e l o m p =
        end_before t.span size own_span.0 l (subst (λ z. Precedes (record { rule = P2; span = z.span }) (at_end size)) (same_token t t' ts behind r) p)
    last_again before t' behind many (outside (x ∷ mid) q r) e l o m p = no_token mid t' behind (sym e ∙ tail_of x mid t' behind r)

    last_only : t.span.to ≡ size → ts ≡ [] → (g : Refusal) → Breaks (front ++ t ∷ ts) size g → Precedes g (at_end size) → ⊥
    last_only l e g (unexpected before t' behind q b nb) p = last_cut before t' behind (cut front (t ∷ ts) before t' behind q) e nb
    last_only l e g (too_short b np) p = not_itself (at_end size) p
    last_only l e g (too_deep before t' behind {many = many} q o le o' m) p =
        last_again before t' behind many (cut front (t ∷ ts) before t' behind q) e l o' m p

    last_is : t.span.to ≡ size → ts ≡ []
    last_is l = last_token ts size (subst (λ n. AreApart n ts size) l own_span.1)

    last_first : t.span.to ≡ size → IsFirst (Breaks (front ++ t ∷ ts) size) (Some (at_end size))
    last_first l =
        let e = last_is l in
        let same : front ++ t ∷ [] ≡ front ++ t ∷ ts = ap (λ z. front ++ t ∷ z) (sym e) in
        (too_short (subst Begins same begins_deep) (λ tree p. last_not _ refl tree (subst (λ z. IsProgram z tree) (sym same) p)), last_only l e)

    at_deep_token : (last : Bool) → (t.span.to == size) ≡ last
        → IsFirst (Breaks (front ++ t ∷ ts) size) (Some (cond last (at_end size) (record { rule = P2; span = t.span })))
    at_deep_token true h = last_first (eqb-true t.span.to size h)
    at_deep_token false h = deep_first (strictly t.span.to size (in_size ts t.span.to size own_span.1) (eqb-false t.span.to size h))

  -- ---- all together

  at_rest : (rest : List Token) → drop (length (front ++ rest) - length rest) (front ++ rest) ≡ rest
  at_rest rest =
      let q : length (front ++ rest) - length rest ≡ length front =
      front_size (length (front ++ rest)) (length front) (length rest) (length-append front rest) in
      ap (λ n. drop n (front ++ rest)) q ∙ drop-append_seam front rest
    where
      front_size : (a b c : ℕ) → a ≡ b + c → a - c ≡ b
      front_size a b c h = omega (arith, h)

  halt_is : (halt halt' : Halt) → ◌≡◌ {A = Result T.Program Halt} (Err halt) (Err halt') → halt ≡ halt'
  halt_is halt halt' h = cc

  refuse_at : (rest : List Token) (halt : Halt) {end : Result T.Program Halt} → EndsWith (length (front ++ rest)) (0 + length front) there rest end
      → end ≡ Err halt → AreApart 0 (front ++ rest) size
      → IsFirst (Breaks (front ++ rest) size) (Some (refusal_of (front ++ rest) size halt))
  refuse_at rest halt (in_program h) e a = let q : ⊥ = cc in absurd q
  refuse_at rest halt (in_want h) e a =
      subst (λ z. IsFirst (Breaks (front ++ []) size) (Some (refusal_of (front ++ []) size z))) (halt_is (Unexpected 0) halt e)
      (subst (λ z. IsFirst (Breaks (front ++ []) size) (Some (unexpected_at size z))) (sym (at_rest []))
      (subst (λ z. IsFirst (Breaks z size) (Some (at_end size))) (sym (append-nil front))
      (want_first (ap (λ z. finish there (length z)) (sym (append-nil front)) ∙ h))))
  refuse_at rest halt (at_wrong {t = t} {ts = ts} h) e a =
      subst (λ z. IsFirst (Breaks (front ++ t ∷ ts) size) (Some (refusal_of (front ++ t ∷ ts) size z))) (halt_is (Unexpected (length (t ∷ ts))) halt e)
      (subst (λ z. IsFirst (Breaks (front ++ t ∷ ts) size) (Some (unexpected_at size z))) (sym (at_rest (t ∷ ts)))
      (wrong_first t ts (ap (step there t) (from_none (length front)) ∙ h)))
  refuse_at rest halt (at_deep {s' = s'} {t = t} {ts = ts} h lt) e a =
      subst (λ z. IsFirst (Breaks (front ++ t ∷ ts) size) (Some (refusal_of (front ++ t ∷ ts) size z))) (halt_is (TooDeep (length (t ∷ ts))) halt e)
      (subst (λ z. IsFirst (Breaks (front ++ t ∷ ts) size) (Some (too_deep_at size z))) (sym (at_rest (t ∷ ts)))
      (at_deep_token t ts s' (ap (step there t) (from_none (length front)) ∙ h) lt a (t.span.to == size) refl))

  accept_at : (rest : List Token) (tree : T.Program) {end : Result T.Program Halt} → EndsWith (length (front ++ rest)) (0 + length front) there rest end
      → end ≡ Ok tree → IsFirst (Breaks (front ++ rest) size) None × IsProgram (front ++ rest) tree
  accept_at rest tree (in_program {tree = found} h) e =
      let q : found ≡ tree = cc in
      subst (λ z. IsFirst (Breaks z size) None × IsProgram z tree) (sym (append-nil front))
      (program_first tree (ap (λ z. finish there (length z)) (sym (append-nil front)) ∙ h ∙ ap Some q))
  accept_at rest tree (in_want h) e = let q : ⊥ = cc in absurd q
  accept_at rest tree (at_wrong h) e = let q : ⊥ = cc in absurd q
  accept_at rest tree (at_deep h lt) e = let q : ⊥ = cc in absurd q

-- where the machine stops, its refusal is the first
pub refuses : (tokens : List Token) (size : ℕ) (halt : Halt) → AreApart 0 tokens size → walk (length tokens) initial tokens ≡ Err halt
    → IsFirst (Breaks tokens size) (Some (refusal_of tokens size halt))
refuses tokens size halt apart h =
    let x = walked tokens (length tokens) 0 initial (from_none (length tokens)) in
    let back = sym x.split in
    subst (λ z. IsFirst (Breaks z size) (Some (refusal_of z size halt))) back
    (refuse_at size x.front x.there x.walks x.rest halt
    (subst (λ z. EndsWith (length z) (0 + length x.front) x.there x.rest (walk (length tokens) initial tokens)) x.split x.ends) h
    (subst (λ z. AreApart 0 z size) x.split apart))

-- where it accepts, nothing is broken
pub accepts : (tokens : List Token) (size : ℕ) (tree : T.Program) → AreApart 0 tokens size → walk (length tokens) initial tokens ≡ Ok tree
    → IsFirst (Breaks tokens size) None × IsProgram tokens tree
accepts tokens size tree apart h =
    let x = walked tokens (length tokens) 0 initial (from_none (length tokens)) in
    subst (λ z. IsFirst (Breaks z size) None × IsProgram z tree) (sym x.split)
    (accept_at size x.front x.there x.walks x.rest tree
    (subst (λ z. EndsWith (length z) (0 + length x.front) x.there x.rest (walk (length tokens) initial tokens)) x.split x.ends) h)
