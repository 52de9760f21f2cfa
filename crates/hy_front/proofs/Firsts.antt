-- What a walk has met first is the first of the places where X1 is broken.
use Rattle.std.proofs.Common.{◌≡◌, List, Option, None, refl, sym, ap, subst, Contains}
use Rattle.hy_base.specs.First.{Refusal, IsFirst}
use Rattle.hy_base.specs.declared.position.Span.{Span}
use Rattle.hy_base.specs.declared.refusal.Rule.TheVariants.{X1}
use Rattle.hy_base.proofs.Firsts.{first_as, first_with, first_of_all}
use Rattle.hy_front.specs.Noted.{unbuilt_at, note, after}

-- where the rule X1 is broken at these places, the first of them
pub is_first : (spans : List Span) (r : Option Refusal) → r ≡ after spans None → IsFirst (λ f. (f.rule ≡ X1) × Contains spans f.span) r
is_first spans r is =
    first_as (λ f. (x : Span) × Contains spans x × (f ≡ unbuilt_at x)) (λ f. (f.rule ≡ X1) × Contains spans f.span) r
    (λ f h. (ap (λ (f : Refusal). f.rule) h.2, subst (Contains spans) (sym (ap (λ (f : Refusal). f.span) h.2)) h.1))
    (λ f h. (f.span, h.1, λ i. record { rule = h.0 i; span = f.span }))
    (subst (IsFirst (λ f. (x : Span) × Contains spans x × (f ≡ unbuilt_at x))) (sym is)
    (first_of_all note (λ o. o) (λ span f. f ≡ unbuilt_at span) (λ span o Before first. first_with Before o (unbuilt_at span) first) spans None refl))
