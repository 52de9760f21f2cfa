-- What is seen of a call of the top function.
use Rattle.std.specs.Prelude.{◌≡◌, ◌≢◌, ℕ, ◌+◌, List, take, map, string_bytes, Option, Some, String}
use Rattle.std.specs.declared.alloc.Global.{Global}
use Rattle.hy_base.specs.declared.files.Files as files_trait
use Rattle.hy_base.specs.declared.run.Counts.{Counts}
use Rattle.hy_base.specs.declared.streams.Sink as sink_trait
use Rattle.hy_base.specs.declared.streams.Source as source_trait
use Rattle.hy_base.specs.Files.{Held, Holding}
use Rattle.hy_base.specs.Streams.{Tape}
use Rattle.hy_front.specs.Phases.{longest}
use Rattle.hy_words.specs.Asked.{ToRun}
use Rattle.hy_words.specs.Commands.{command_of}
use Rattle.hy_driver.specs.declared.reply.Report.{Report}

-- files at a moment: how often they have failed, what they tell of each name, and whether a load of it may fail
pub record Filed : Type 1 where
  pub faults : ℕ
  pub holds : List ℕ → Held
  pub load_may_fail : List ℕ → Type 0

-- input and output at a moment: how often each has failed, and what each tells
pub record Streams : Type 0 where
  pub input_faults : ℕ
  pub out_faults : ℕ
  pub input : Option Tape
  pub out : Option (List ℕ)

-- where messages go, at a moment
pub record Messages : Type 0 where
  pub faults : ℕ
  pub told : Option (List ℕ)

-- what is answered, unless its message fails; `lines` are those of the report, if there is one
pub record Answer : Type 0 where
  pub status : ℕ
  pub message : List ℕ
  pub lines : List ℕ
  pub object : List ℕ
  pub counts : Counts

-- A call up to its message: its words; files, input and output before it and after it; what it answers.
pub record Call : Type 1 where
  pub words : List (List ℕ)
  pub files_before : Filed
  pub files_after : Filed
  pub before : Streams
  pub after : Streams
  pub status : ℕ
  pub message : List ℕ
  pub lines : List ℕ
  pub object : List ℕ
  pub counts : Counts

-- All that is seen of a call: its words; files, input and output, and where messages go, before it and after it; what it
-- returns.
pub record Seen : Type 1 where
  pub words : List (List ℕ)
  pub files_before : Filed
  pub files_after : Filed
  pub before : Streams
  pub after : Streams
  pub err_before : Messages
  pub err_after : Messages
  pub report : Report

-- What is seen of objects at a moment, by the members of their traits.
abbrev pub files_seen : {F : Type 0} → files_trait.Ghosts F → F → Filed
files_seen told files = record { faults = told.faults files; holds = told.holds files; load_may_fail = told.load_may_fail files }

abbrev pub streams_seen : {I K : Type 0} → source_trait.Ghosts I → sink_trait.Ghosts K → I → K → Streams
streams_seen source sink input out = record {
  input_faults = source.faults input;
  out_faults = sink.faults out;
  input = source.tells input;
  out =
      sink.tells out;
}

abbrev pub messages : ℕ → Option (List ℕ) → Messages
messages faults told = record { faults = faults; told = told }

abbrev pub messages_seen : {E : Type 0} → sink_trait.Ghosts E → E → Messages
messages_seen sink err = messages (sink.faults err) (sink.tells err)

abbrev pub call_of : List (List ℕ) → Filed → Filed → Streams → Streams → Answer → Call
call_of words files_before files_after before after it =
    record {
      words = words;
      files_before = files_before;
      files_after = files_after;
      before = before;
      after = after;
      status = it.status;
      message = it.message;
      lines = it.lines;
      object = it.object;
      counts = it.counts;
    }

-- the call up to its message, where this is answered
abbrev pub answering : Seen → Answer → Call
answering s it = call_of s.words s.files_before s.files_after s.before s.after it

abbrev pub seen_of : List (List ℕ) → Filed → Filed → Streams → Streams → Messages → Messages → Report → Seen
seen_of words files_before files_after before after err_before err_after report =
    record {
      words = words;
      files_before = files_before;
      files_after = files_after;
      before = before;
      after = after;
      err_before = err_before;
      err_after = err_after;
      report = report;
    }

-- what is seen of a call over such objects, each given before the call and after it
abbrev pub call_seen : {F I K E : Type 0} → files_trait.Ghosts F → source_trait.Ghosts I → sink_trait.Ghosts K → sink_trait.Ghosts E
    → List (String Global) → F → F → I → I → K → K → E → E → Report → Seen
call_seen of_files of_input of_out of_err words files files' input input' out out' err err' report =
    seen_of (map string_bytes words) (files_seen of_files files) (files_seen of_files files')
    (streams_seen of_input of_out input out) (streams_seen of_input of_out input' out')
    (messages_seen of_err err) (messages_seen of_err err') report

-- The command runs this file, and these bytes are loaded: the files tell what it holds.
pub record IsSource (c : Call) (file bytes : List ℕ) : Type 0 where
  pub command : command_of c.words ≡ Some (ToRun file)
  pub whole : List ℕ
  pub told : c.files_before.holds file ≡ Holding whole
  pub loaded : bytes ≡ take (longest + 1) whole

-- The input had this left: it told so, and still tells.
pub record IsInput (c : Call) (left : List ℕ) : Type 0 where
  pub old : Tape
  pub new : Tape
  pub told : c.before.input ≡ Some old
  pub still : c.after.input ≡ Some new
  pub left_of_it : left ≡ old.left

-- no count of faults rose up to the message, and the call did not run out of memory
pub record IsQuiet (c : Call) : Type 0 where
  pub files : c.files_after.faults ≡ c.files_before.faults
  pub input : c.after.input_faults ≡ c.before.input_faults
  pub out : c.after.out_faults ≡ c.before.out_faults
  pub memory : c.status ≢ 8
