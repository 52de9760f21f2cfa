-- What is noted after a list of findings is the first of the rules that are broken, and the table of what names stand for.
use Rattle.std.proofs.Common.{◌≡◌, ◌⊎◌, inl, inr, ⊎_elim, List, [], ◌∷◌, None, refl, sym, ap, subst, Contains}
use Rattle.hy_base.specs.First.{Refusal, IsFirst}
use Rattle.hy_base.specs.declared.position.Span.{Span}
use Rattle.hy_base.specs.declared.refusal.Rule.{Rule}
use Rattle.hy_base.proofs.Firsts.{first_as, first_with, first_of_all}
use Rattle.hy_tree.specs.Findings.{Finding, Stands, Broken, stood}
use Rattle.hy_tree.specs.declared.meant.Meant.{Meant}
use Rattle.hy_scope.specs.Noted.{Noted, note, after}

pub meant_after : (xs : List Finding) (n : Noted) → (after xs n).meant ≡ stood xs n.meant
meant_after [] n = refl
meant_after (Stands node meaning ∷ xs) n = meant_after xs (note (Stands node meaning) n)
meant_after (Broken rule span ∷ xs) n = meant_after xs (note (Broken rule span) n)

-- the rule that a finding breaks
abbrev Says : Finding → Refusal → Type 0
Says finding f = finding ≡ Broken f.rule f.span

same_refusal : (rule : Rule) (span : Span) (f : Refusal) → Broken rule span ≡ Broken f.rule f.span → f ≡ record { rule = rule; span = span }
same_refusal rule span f h = let r : f.rule ≡ rule = cc in let s : f.span ≡ span = cc in λ i. record { rule = r i; span = s i }

-- one more finding
one_more : (finding : Finding) (n : Noted) (Before : Refusal → Type 0) → IsFirst Before n.first → IsFirst (λ f. Before f ⊎ Says finding f)
    (note finding n).first
one_more (Stands node meaning) n Before first = first_as Before (λ f. Before f ⊎ Says (Stands node meaning) f) n.first (λ f h. inl h)
    (λ f. ⊎_elim (λ h. h) (λ e. absurd (cc))) first
one_more (Broken rule span) n Before first =
    let new : Refusal = record { rule = rule; span = span } in
    first_as (λ f. Before f ⊎ (f ≡ new)) (λ f. Before f ⊎ Says (Broken rule span) f) (note (Broken rule span) n).first
    (λ f. ⊎_elim inl (λ e. inr (ap (λ (x : Refusal). Broken x.rule x.span) (sym e))))
    (λ f. ⊎_elim inl (λ e. inr (same_refusal rule span f e)))
    (first_with Before n.first new first)

-- what is noted first is the first of the broken rules
pub is_first : (fs : List Finding) (meant : List Meant) → IsFirst (λ f. Contains fs (Broken f.rule f.span))
    (after fs (record { first = None; meant = meant })).first
is_first fs meant =
    first_as (λ f. (x : Finding) × Contains fs x × Says x f) (λ f. Contains fs (Broken f.rule f.span))
    (after fs (record { first = None; meant = meant })).first
    (λ f h. subst (Contains fs) h.2 h.1)
    (λ f h. (Broken f.rule f.span, h, refl))
    (first_of_all note (λ n. n.first) Says one_more fs (record { first = None; meant = meant }) refl)
