-- What is written to the messages and returned, where one of them fails too.
use Rattle.std.specs.Prelude.{◌≡◌, ◌≢◌, ◌⊎◌, ◌↔◌, ◌<◌, ℕ, suc, List, [], ◌∷◌, ◌++◌, take, None}
use Rattle.hy_base.specs.Outside.{StillTells}
use Rattle.hy_runs.specs.Runs.{Appends}
use Rattle.hy_words.specs.Commands.{command_of}
use Rattle.hy_driver.specs.declared.reply.Report.{Report}
use Rattle.hy_driver.specs.Call.{Answer, Messages, Seen}
use Rattle.hy_driver.specs.Outside.{RisesByOne}
use Rattle.hy_driver.specs.Texts.{output_fault}

-- a message, with the lines after it, if there are any
abbrev pub with_lines : (message lines : List ℕ) → List ℕ
with_lines message [] = message
with_lines message (byte ∷ lines) = message ++ (byte ∷ lines)

-- some prefix of the bytes was appended
abbrev pub AppendsPrefix : List ℕ → List ℕ → List ℕ → Type 0
AppendsPrefix bytes old new = (n : ℕ) × (new ≡ old ++ take n bytes)

-- the message was appended, and then a prefix of the lines
abbrev pub AppendsThenPrefix : (message lines : List ℕ) → List ℕ → List ℕ → Type 0
AppendsThenPrefix message lines old new = (n : ℕ) × (new ≡ (old ++ message) ++ take n lines)

-- a prefix of the lines was appended, and then a message of which this is claimed
abbrev pub AppendsPrefixThen : (lines : List ℕ) → (List ℕ → List ℕ → Type 0) → List ℕ → List ℕ → Type 0
AppendsPrefixThen lines Then old new = (n : ℕ) × Then (old ++ take n lines) new

-- Which piece failed, and what was written. A message that fails is followed by nothing, and so are lines that fail after a
-- message. Where there was none, the message of an output that failed follows, and may fail too.
pub data FailsToWrite (message lines : List ℕ) (before after : Messages) : Type 0 where
  at_message : after.faults ≡ suc before.faults → StillTells before.told after.told (AppendsPrefix message) → FailsToWrite message lines before after
  at_lines : lines ≢ [] → message ≢ [] → after.faults ≡ suc before.faults → StillTells before.told after.told (AppendsThenPrefix message lines)
      → FailsToWrite message lines before after
  at_lines_alone : lines ≢ [] → message ≡ [] → after.faults ≡ suc before.faults
      → StillTells before.told after.told (AppendsPrefixThen lines (Appends output_fault)) → FailsToWrite message lines before after
  at_both : lines ≢ [] → message ≡ [] → after.faults ≡ suc (suc before.faults)
      → StillTells before.told after.told (AppendsPrefixThen lines (AppendsPrefix output_fault))
      → FailsToWrite message lines before after

-- the message was written, and then the lines, and the answer is returned
pub record IsWritten (answer : Answer) (before after : Messages) (report : Report) : Type 0 where
  pub faults : after.faults ≡ before.faults
  pub told : StillTells before.told after.told (Appends (with_lines answer.message answer.lines))
  pub status : report.status ≡ answer.status
  pub object : report.object.items ≡ answer.object
  pub counts : report.counts ≡ answer.counts

-- one of them failed: the status is that of an output that failed, and all else is as without that
pub record IsNotWritten (answer : Answer) (before after : Messages) (report : Report) : Type 0 where
  pub fails : FailsToWrite answer.message answer.lines before after
  pub status : report.status ≡ 7
  pub object : report.object.items ≡ answer.object
  pub counts : report.counts ≡ answer.counts

abbrev pub IsReported : Answer → Messages → Messages → Report → Type 0
IsReported answer before after report = IsWritten answer before after report ⊎ IsNotWritten answer before after report

-- STATUSES THAT ARE RETURNED

-- no message failed
abbrev pub MessagesWork : Seen → Type 0
MessagesWork s = s.err_after.faults ≡ s.err_before.faults

abbrev pub MessagesFail : Seen → Type 0
MessagesFail s = s.err_before.faults < s.err_after.faults

-- The statuses of faults, exactly where they come.
pub record ReturnsCauses (s : Seen) : Type 0 where
  -- the words are no command
  pub usage : (s.report.status ≡ 2) ↔ ((command_of s.words ≡ None) × MessagesWork s)
  -- the files failed
  pub files : (s.report.status ≡ 5) ↔ (RisesByOne s.files_before.faults s.files_after.faults × MessagesWork s)
  -- the input failed
  pub input : (s.report.status ≡ 6) ↔ (RisesByOne s.before.input_faults s.after.input_faults × MessagesWork s)
  -- the output failed, or the messages did
  pub output : (s.report.status ≡ 7) ↔ (RisesByOne s.before.out_faults s.after.out_faults ⊎ MessagesFail s)
