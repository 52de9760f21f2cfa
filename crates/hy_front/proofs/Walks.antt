-- What a part of a walk meets, in the whole.
use Rattle.std.proofs.Common.{◌≡◌, List, ◌∷◌, Option, sym, ap, ◌∙◌}
use Rattle.hy_base.specs.First.{Refusal}
use Rattle.hy_base.specs.declared.position.Span.{Span}
use Rattle.hy_front.specs.Noted.{note, after}

-- the same is met in an equal phrase
pub met_as : {X : Type 0} (find : X → List Span) (x y : X) (old new : Option Refusal) → x ≡ y → new ≡ after (find y) old → new ≡ after (find x) old
met_as find x y old new e h = h ∙ ap (λ z. after (find z) old) (sym e)

-- one place, and then a part
pub then_met : (span : Span) (xs : List Span) (a m c : Option Refusal) → m ≡ note span a → c ≡ after xs m → c ≡ after (span ∷ xs) a
then_met span xs a m c h k = k ∙ ap (after xs) h
