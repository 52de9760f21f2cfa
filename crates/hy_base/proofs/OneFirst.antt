-- Of some refusals, one is the first.
use Rattle.std.proofs.Common.{◌≡◌, ◌⊎◌, ℕ, ◌<◌, List, [], ◌∷◌, Some, get_or, refl, sym, ap, ◌∙◌, inl, inr}
use Rattle.std.proofs.lemmas.Bool.{cases_order}
use Rattle.hy_base.specs.declared.refusal.Rule.{Rule}
use Rattle.hy_base.specs.declared.refusal.Rule.TheVariants.{Z1, L1, L2, L3, L4, P1, P2, N1, N2, N3, N4, N5, X1, T1, T2, T3, T4, T5, T6, R1, R2, R3, R4, G1}
use Rattle.hy_base.specs.declared.refusal.Rule.TheVariants.{G2, G3, C1, C2, C3, C4, Y1, Y2, Y3, Y4, Y5, I1, I2, I3, E1, E2}
use Rattle.hy_base.specs.First.{Refusal, Precedes, IsFirst}
use Rattle.hy_base.specs.Rules.{place_of}

-- the table of the rules
rules_in_order : List Rule
rules_in_order = Z1 ∷ L1 ∷ L2 ∷ L3 ∷ L4 ∷ P1 ∷ P2 ∷ N1 ∷ N2 ∷ N3 ∷ N4 ∷ N5 ∷ X1 ∷ T1 ∷ T2 ∷ T3 ∷ T4 ∷ T5 ∷ T6 ∷ R1 ∷ R2 ∷ R3 ∷ R4 ∷ G1 ∷ G2 ∷ G3 ∷ C1 ∷ C2 ∷
    C3 ∷ C4 ∷ Y1 ∷ Y2 ∷ Y3 ∷ Y4 ∷ Y5 ∷ I1 ∷ I2 ∷ I3 ∷ E1 ∷ E2 ∷ []

-- a rule stands at its place
at_place : (rule : Rule) → get_or rules_in_order (place_of rule) Z1 ≡ rule
unfolding rules_in_order
at_place Z1 = refl
at_place rule = refl

same_number : (a b : ℕ) → (a < b → ⊥) → (b < a → ⊥) → a ≡ b
same_number a b one other = by (cases_order a b)
  where
    by : (a ≡ b) ⊎ ((a < b) ⊎ (b < a)) → a ≡ b
    by (inl same) = same
    by (inr (inl lt)) = absurd (one lt)
    by (inr (inr lt)) = absurd (other lt)

-- none comes before the other
neither : (f g : Refusal) → (Precedes f g → ⊥) → (Precedes g f → ⊥) → f ≡ g
neither f g one other =
    let to = same_number f.span.to g.span.to (λ lt. one (inl lt)) (λ lt. other (inl lt)) in
    let from = same_number f.span.from g.span.from (λ lt. other (inr (sym to, inl lt))) (λ lt. one (inr (to, inl lt))) in
    let place = same_number (place_of f.rule) (place_of g.rule) (λ lt. one (inr (to, inr (from, lt)))) (λ lt. other (inr (sym to, inr (sym from, lt)))) in
    let rule : f.rule ≡ g.rule = sym (at_place f.rule) ∙ ap (λ place. get_or rules_in_order place Z1) place ∙ at_place g.rule in
    λ i. record { rule = rule i; span = record { from = from i; to = to i } }

pub one_first : (Breaks : Refusal → Type 0) (f g : Refusal) → IsFirst Breaks (Some f) → IsFirst Breaks (Some g) → f ≡ g
one_first Breaks f g first other = neither f g (other.1 f first.0) (first.1 g other.0)
