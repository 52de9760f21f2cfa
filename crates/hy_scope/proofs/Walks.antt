-- What a part of a walk notes, in the whole.
use Rattle.std.proofs.Common.{◌≡◌, List, ◌++◌, sym, ap, subst, ◌∙◌, Result, Ok, Err, OnOk}
use Rattle.hy_base.proofs.Walks.{after_append}
use Rattle.hy_base.specs.declared.refusal.NoMemory.{NoMemory}
use Rattle.hy_tree.specs.Findings.{Finding}
use Rattle.hy_scope.specs.Noted.{Noted, note, after}

-- the same is found in an equal phrase
pub found_as : {X : Type 0} (find : X → List Finding) (x y : X) (old new : Noted) → x ≡ y → new ≡ after (find y) old → new ≡ after (find x) old
found_as find x y old new e h = h ∙ ap (λ z. after (find z) old) (sym e)

-- a call that may run out of memory notes all that is found, or the rest of it
pub found_all : (r : Result (Unit {0}) NoMemory) (all fs : List Finding) (old new : Noted) → all ≡ fs → OnOk r (new ≡ after fs old)
    → OnOk r (new ≡ after all old)
found_all r all fs old new e h = subst (λ (xs : List Finding). OnOk r (new ≡ after xs old)) (sym e) h

pub found_rest : (r : Result (Unit {0}) NoMemory) (all front rest : List Finding) (old mid new : Noted) → all ≡ front ++ rest → mid ≡ after front old
    → OnOk r (new ≡ after rest mid) → OnOk r (new ≡ after all old)
found_rest (Ok done) all front rest old mid new e h k = k ∙ ap (after rest) h ∙ sym (after_append note front rest old) ∙ ap (λ fs. after fs old) (sym e)
found_rest (Err failure) all front rest old mid new e h k = k
