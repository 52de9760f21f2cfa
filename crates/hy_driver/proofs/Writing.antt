-- What is written where a message and lines are written, one after the other.
use Rattle.std.proofs.Common.{◌≡◌, ◌≢◌, ◌<◌, ℕ, suc, List, [], ◌∷◌, ◌++◌, length, take, Option, Some, None, Result, Ok, Err, append_assoc, refl, sym}
use Rattle.std.proofs.Common.{◌∙◌, ap, arith}
use Rattle.std.proofs.lemmas.List.{append-nil}
use Rattle.hy_base.specs.declared.streams.Failed.{Failed}
use Rattle.hy_base.specs.Outside.{faults_after, StillTells}
use Rattle.hy_base.specs.Streams.{Puts}
use Rattle.hy_runs.specs.Runs.{Appends}
use Rattle.hy_driver.specs.Call.{Messages, messages}
use Rattle.hy_driver.specs.Reported.{with_lines, AppendsPrefix, AppendsThenPrefix, AppendsPrefixThen, FailsToWrite, at_message, at_lines, at_lines_alone}
use Rattle.hy_driver.specs.Reported.{at_both}
use Rattle.hy_driver.specs.Texts.{output_fault}

-- a message without bytes is written by doing nothing
pub none_told : (told : Option (List ℕ)) (message : List ℕ) → message ≡ [] → StillTells told told (Appends message)
none_told None message empty = tt
none_told (Some old) message empty = sym (append-nil old) ∙ ap (λ m. old ++ m) (sym empty)

-- what two calls do, one after the other
pub told_twice : (R S T : List ℕ → List ℕ → Type 0) (a b c : Option (List ℕ)) → ((x y z : List ℕ) → R x y → S y z → T x z) → StillTells a b R
    → StillTells b c S → StillTells a c T
told_twice R S T a b None joined first second = tt
told_twice R S T a None (Some z) joined first second = absurd second
told_twice R S T None (Some y) (Some z) joined first second = absurd first
told_twice R S T (Some x) (Some y) (Some z) joined first second = joined x y z first second

pub all_told : (message lines : List ℕ) (a b c : Option (List ℕ)) → StillTells a b (Appends message) → StillTells b c (Appends lines)
    → StillTells a c (Appends (with_lines message lines))
all_told message [] a b c first second = told_twice (Appends message) (Appends []) (Appends message) a b c (λ x y z xy yz. yz ∙ append-nil y ∙ xy) first second
all_told message (byte ∷ lines) a b c first second =
    told_twice (Appends message) (Appends (byte ∷ lines)) (Appends (message ++ (byte ∷ lines))) a b c
    (λ x y z xy yz. yz ∙ ap (λ t. t ++ (byte ∷ lines)) xy ∙ append_assoc x message (byte ∷ lines)) first second

-- lines that fail after a message
pub fails_after : (message lines : List ℕ) (f g h : ℕ) (a b c : Option (List ℕ)) → lines ≢ [] → message ≢ [] → g ≡ f → h ≡ suc g
    → StillTells a b (Appends message) → StillTells b c (AppendsPrefix lines) → FailsToWrite message lines (messages f a) (messages h c)
fails_after message lines f g h a b c some said same rose first second =
    at_lines some said (rose ∙ ap suc same)
    (told_twice (Appends message) (AppendsPrefix lines) (AppendsThenPrefix message lines) a b c (λ x y z xy yz.
    (yz.0, yz.1 ∙ ap (λ t. t ++ take yz.0 lines) xy)) first second)

-- lines that fail with no message before them
front_told : (message lines : List ℕ) (a b c : Option (List ℕ)) → message ≡ [] → StillTells a b (Appends message)
    → StillTells b c (AppendsPrefix lines) → StillTells a c (AppendsPrefix lines)
front_told message lines a b c empty first second =
    told_twice (Appends message) (AppendsPrefix lines) (AppendsPrefix lines) a b c
    (λ x y z xy yz. (yz.0, yz.1 ∙ ap (λ t. t ++ take yz.0 lines) (xy ∙ ap (λ m. x ++ m) empty ∙ append-nil x))) first second

pub fails_alone : (message lines : List ℕ) (f g h k : ℕ) (a b c d : Option (List ℕ)) (r : Result (Unit {0}) Failed) → lines ≢ [] → message ≡ []
    → g ≡ f → h ≡ suc g → k ≡ faults_after h r
    → StillTells a b (Appends message) → StillTells b c (AppendsPrefix lines) → StillTells c d (Puts output_fault r)
    → FailsToWrite message lines (messages f a) (messages k d)
fails_alone message lines f g h k a b c d (Ok done) some empty same rose last first second third =
    at_lines_alone some empty (last ∙ rose ∙ ap suc same)
    (told_twice (AppendsPrefix lines) (Appends output_fault) (AppendsPrefixThen lines (Appends output_fault)) a c d
    (λ x y z xy yz. (xy.0, yz ∙ ap (λ t. t ++ output_fault) xy.1)) (front_told message lines a b c empty first second) third)
fails_alone message lines f g h k a b c d (Err e) some empty same rose last first second third =
    at_both some empty (last ∙ ap suc (rose ∙ ap suc same))
    (told_twice (AppendsPrefix lines) (AppendsPrefix output_fault) (AppendsPrefixThen lines (AppendsPrefix output_fault)) a c d
    (λ x y z xy yz. (xy.0, (yz.0, yz.1 ∙ ap (λ t. t ++ take yz.0 output_fault) xy.1))) (front_told message lines a b c empty first second) third)

-- a count has risen where a piece failed
pub fails_rose : (message lines : List ℕ) (before after : Messages) → FailsToWrite message lines before after → before.faults < after.faults
fails_rose message lines before after (at_message rose told) = omega arith
fails_rose message lines before after (at_lines some said rose told) = omega arith
fails_rose message lines before after (at_lines_alone some empty rose told) = omega arith
fails_rose message lines before after (at_both some empty rose told) = omega arith

pub no_bytes : (bytes : List ℕ) → length bytes ≡ 0 → bytes ≡ []
no_bytes [] h = refl
no_bytes (byte ∷ bytes) h = absurd (omega arith)
