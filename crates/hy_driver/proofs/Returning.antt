-- What is returned where a message may fail.
use Rattle.std.proofs.Common.{◌≡◌, ◌⊎◌, ◌↔◌, ◌<◌, ℕ, List, None, sym, ◌∙◌, inl, inr, arith}
use Rattle.hy_words.specs.Commands.{command_of}
use Rattle.hy_driver.specs.declared.reply.Report.{Report}
use Rattle.hy_driver.specs.Call.{Answer, Filed, Streams, Messages, call_of, seen_of}
use Rattle.hy_driver.specs.Outside.{RisesByOne, Answers2, Answers5, Answers6, Answers7}
use Rattle.hy_driver.specs.Reported.{IsReported, ReturnsCauses}
use Rattle.hy_driver.proofs.Writing.{fails_rose}

module _ (it : Answer) (err_before err_after : Messages) (report : Report) where
  -- the status of an answer is returned exactly where no message fails
  returned : (status : ℕ) (Cause : Type 0) → (status ≡ 7 → ⊥) → ((it.status ≡ status) ↔ Cause) → IsReported it err_before err_after report
      → ((report.status ≡ status) ↔ (Cause × (err_after.faults ≡ err_before.faults)))
  returned status Cause other exact (inl written) = (
    (λ is. (exact.0 (sym written.status ∙ is), written.faults)),
    (λ (has, same). written.status ∙ exact.1 has),
  )
  returned status Cause other exact (inr not_written) = (
    (λ is. absurd (other (sym is ∙ not_written.status))),
    (λ (has, same). let rose = fails_rose it.message it.lines err_before err_after not_written.fails in absurd (omega (arith, rose, same))),
  )

  seven : (Cause : Type 0) → ((it.status ≡ 7) ↔ Cause) → IsReported it err_before err_after report
      → ((report.status ≡ 7) ↔ (Cause ⊎ (err_before.faults < err_after.faults)))
  seven Cause exact (inl written) = (
    (λ is. inl (exact.0 (sym written.status ∙ is))),
    (λ why. seven_written Cause exact written.status written.faults why),
  )
    where
      seven_written : (Cause : Type 0) → ((it.status ≡ 7) ↔ Cause) → report.status ≡ it.status → err_after.faults ≡ err_before.faults
          → Cause ⊎ (err_before.faults < err_after.faults) → report.status ≡ 7
      seven_written Cause exact is same (inl has) = is ∙ exact.1 has
      seven_written Cause exact is same (inr rose) = absurd (omega (arith, same, rose))
  seven Cause exact (inr not_written) = (
    (λ is. inr (fails_rose it.message it.lines err_before err_after not_written.fails)),
    (λ why. not_written.status),
  )

  pub returns_causes : (words : List (List ℕ)) (files_before files_after : Filed) (before after : Streams)
      → Answers2 (call_of words files_before files_after before after it) → Answers5 (call_of words files_before files_after before after it)
      → Answers6 (call_of words files_before files_after before after it) → Answers7 (call_of words files_before files_after before after it)
      → IsReported it err_before err_after report
      → ReturnsCauses (seen_of words files_before files_after before after err_before err_after report)
  returns_causes words files_before files_after before after two five six out reported = record {
    usage = returned 2 (command_of words ≡ None) (λ h. omega arith) two reported;
    files = returned 5 (RisesByOne files_before.faults files_after.faults) (λ h. omega arith) five.exactly reported;
    input = returned 6 (RisesByOne before.input_faults after.input_faults) (λ h. omega arith) six reported;
    output = seven (RisesByOne before.out_faults after.out_faults) out reported;
  }
