-- The small objects run as their table says: by computing.
use Rattle.std.proofs.Common.{◌≡◌, ◌<◌, ℕ, zero, suc, Bool, false, List, [], Some, refl, sym, ap, ◌∙◌, arith}
use Rattle.std.specs.Prelude.{count_by}
use Rattle.std.specs.Fmt.{digits}
use Rattle.hy_base.specs.declared.run.End.TheVariants as end
use Rattle.hy_object.specs.declared.stuck.Kind.TheVariants as kind
use Rattle.hy_object.specs.Runs.{IsSafe, frees}
use Rattle.hy_object.specs.States.{Ended, Stuck}
use Rattle.hy_object.specs.Steps.{step, steps, begin}
use Rattle.hy_object.proofs.OneEnd.{ended_stays}
use Rattle.hy_object.specs.SmallObjects.{TellsSafeAndBalanced, returning, balanced_run, AllAnswered, on_words, on_input, on_turns, on_calls, on_accesses}
use Rattle.hy_object.specs.SmallObjects.{on_subscripts, on_arrays, on_programs}

pub words : AllAnswered on_words
unfolding digits
words = (
  refl,
  (
    refl,
    (
      refl,
      (
        refl,
        (
          refl,
          (
            refl,
            (
              refl,
              (
                refl,
                (
                  refl,
                  (
                    refl,
                    (
                      refl,
                      (refl, (refl, (refl, (refl, (refl, (refl, (refl, (refl, (refl, (refl, (refl, (refl, (refl, (refl, (refl, (refl, tt)))))))))))))))),
                    ),
                  ),
                ),
              ),
            ),
          ),
        ),
      ),
    ),
  ),
)

pub input : AllAnswered on_input
unfolding digits
input = (refl, (refl, (refl, (refl, (refl, (refl, (refl, (refl, tt))))))))

pub turns : AllAnswered on_turns
unfolding digits
turns = (refl, (refl, (refl, (refl, (refl, (refl, (refl, tt)))))))

pub calls : AllAnswered on_calls
unfolding digits
calls = (refl, (refl, (refl, (refl, (refl, (refl, (refl, (refl, (refl, (refl, (refl, tt)))))))))))

pub accesses : AllAnswered on_accesses
unfolding digits
accesses = (refl, (refl, (refl, (refl, (refl, (refl, (refl, (refl, (refl, (refl, (refl, (refl, (refl, (refl, (refl, tt)))))))))))))))

pub subscripts : AllAnswered on_subscripts
unfolding digits
subscripts = (refl, (refl, (refl, (refl, (refl, (refl, (refl, (refl, (refl, (refl, (refl, (refl, (refl, (refl, (refl, tt)))))))))))))))

pub arrays : AllAnswered on_arrays
unfolding digits
arrays = (
  refl,
  (
    refl,
    (
      refl,
      (
        refl,
        (
          refl,
          (
            refl,
            (
              refl,
              (
                refl,
                (
                  refl,
                  (
                    refl,
                    (
                      refl,
                      (
                        refl,
                        (
                          refl,
                          (refl, (refl, (refl, (refl, (refl, (refl, (refl, (refl, (refl, (refl, (refl, (refl, (refl, (refl, (refl, (refl, tt)))))))))))))))),
                        ),
                      ),
                    ),
                  ),
                ),
              ),
            ),
          ),
        ),
      ),
    ),
  ),
)

pub programs : AllAnswered on_programs
unfolding digits
programs = (refl, (refl, (refl, (refl, (refl, (refl, (refl, (refl, tt))))))))

-- after its one step it is done
done_after : (input : List ℕ) (cut : Bool) (n k : ℕ) → (steps returning k (step returning (begin returning input cut (suc n)))).stop ≡ Some (Ended end.Done)
done_after input cut n k = ap (λ s. s.stop) (ended_stays returning k (step returning (begin returning input cut (suc n))) (Ended end.Done) refl)

returning_is_safe : IsSafe returning
returning_is_safe input cut zero k why at q =
    let ended = ended_stays returning k (begin returning input cut zero) (Ended end.Spent) refl in
    let stop : Some (Ended end.Spent) ≡ Some (Stuck why at) = sym (ap (λ s. s.stop) ended) ∙ q in absurd (cc)
returning_is_safe input cut (suc n) zero why at q = absurd (cc)
returning_is_safe input cut (suc n) (suc k) why at q =
    let stop : Some (Ended end.Done) ≡ Some (Stuck why at) = sym (done_after input cut n k) ∙ q in absurd (cc)

freed_once : (name : ℕ) → name < 2 → count_by (frees name) balanced_run.journal ≡ 1
freed_once zero l = refl
freed_once (suc zero) l = refl
freed_once (suc (suc name)) l = absurd (omega (arith, l))

pub safe_and_balanced : TellsSafeAndBalanced
safe_and_balanced = record {
  safe = returning_is_safe;
  unsafe = λ safe. safe [] false 1 1 kind.Slot (record { fun = 0; at = 0 }) refl;
  runs = (5, refl);
  balanced = record { freed = freed_once; closed = refl };
}
