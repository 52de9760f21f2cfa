-- What the top call promises follows from how it goes and from what it reports.
use Rattle.std.proofs.Common.{ℕ, List}
use Rattle.hy_object.specs.Places.{OneSpelling, OnePlace}
use Rattle.hy_object.specs.Runs.{OneRun, WritesBeginnings, EveryRunAddsUp}
use Rattle.hy_driver.specs.declared.reply.Report.{Report}
use Rattle.hy_driver.specs.Call.{Answer, Call, Filed, Streams, Messages, seen_of}
use Rattle.hy_driver.specs.Course.{CallMayAnswer}
use Rattle.hy_driver.specs.Headline.{RefusesTheFirst, RunsAsItMeans}
use Rattle.hy_driver.specs.Outside.{KeepsFiles}
use Rattle.hy_driver.specs.Promises.{Performs, Promises}
use Rattle.hy_driver.specs.Reported.{IsReported}
use Rattle.hy_driver.specs.Said.{SaysItsStatus}
use Rattle.hy_driver.proofs.Causes as causes
use Rattle.hy_driver.proofs.Clauses as clauses
use Rattle.hy_driver.proofs.Clauses.{OneTree}
use Rattle.hy_driver.proofs.Ends as ends
use Rattle.hy_driver.proofs.Executing as executing
use Rattle.hy_driver.proofs.Keeping as keeping
use Rattle.hy_driver.proofs.Reports as reports
use Rattle.hy_driver.proofs.Returning as returning
use Rattle.hy_driver.proofs.Saying as saying
use Rattle.hy_driver.proofs.ThisRun as this_run

-- the laws on sources, objects and their files that the promises rest on
pub record Laws : Type 0 where
  pub one_tree : OneTree
  pub one_run : OneRun
  pub every_run_adds_up : EveryRunAddsUp
  pub writes_beginnings : WritesBeginnings
  pub one_spelling : OneSpelling
  pub one_place : OnePlace

module _ (words : List (List ℕ)) (files_before files_after : Filed) (before after : Streams) where
  abbrev c : Answer → Call
  c it = clauses.c words files_before files_after before after it

  performs : Laws → (it : Answer) → CallMayAnswer words files_before files_after before after it → KeepsFiles (c it) → Performs (c it)
  performs laws it way files =
      let refuses : RefusesTheFirst (c it) = clauses.refuses_the_first words files_before files_after before after it way in
      let runs : RunsAsItMeans (c it) = this_run.runs_as_it_means words files_before files_after before after laws.one_tree laws.one_run
      laws.writes_beginnings it way in
      let says : SaysItsStatus (c it) = saying.says_its_status words files_before files_after before after it way in
      record {
        refusal = refuses;
        object = clauses.returns_the_object words files_before files_after before after laws.one_tree it way;
        this_run = runs;
        after_a_fault = this_run.writes_a_beginning words files_before files_after before after laws.one_tree laws.one_run laws.writes_beginnings it way;
        keeps_to_its_object = keeping.keeps_to_its_object words files_before files_after before after laws.one_tree it way;
        keeps_to_the_meaning = keeping.keeps_to_the_meaning words files_before files_after before after laws.one_tree laws.one_run it way;
        executes = executing.executes_the_object words files_before files_after before after it laws.one_spelling way;
        bad_file = executing.refuses_the_file words files_before files_after before after it laws.one_place way;
        keeps_to_the_file = executing.keeps_to_the_file words files_before files_after before after it laws.one_spelling way;
        bytes = executing.returns_the_bytes words files_before files_after before after it way;
        no_command = causes.leaves_all_alone words files_before files_after before after it way;
        files = files;
        failed_files = causes.stops_at_the_files words files_before files_after before after it way;
        one_fault = causes.has_one_fault words files_before files_after before after it way;
        message = says;
        silent = saying.silent (c it) it.status it.message says;
        lines = reports.lines_are words files_before files_after before after it way;
        status_0 = ends.answers_0 words files_before files_after before after it way runs;
        status_1 = ends.answers_1 words files_before files_after before after it way refuses;
        status_2 = causes.answers_2 words files_before files_after before after it way;
        status_3 = ends.answers_3 words files_before files_after before after it way runs;
        status_4 = ends.answers_4 words files_before files_after before after it way runs;
        all_turns = saying.all_turns (c it) it.status it.message laws.every_run_adds_up says;
        status_5 = causes.answers_5 words files_before files_after before after it way;
        status_6 = causes.answers_6 words files_before files_after before after it way;
        status_7 = causes.answers_7 words files_before files_after before after it way;
        its_end = executing.answers_its_end words files_before files_after before after it laws.one_run laws.one_spelling way;
        status_9 = executing.answers_9 words files_before files_after before after it laws.one_run laws.one_spelling way;
        status_10 = executing.answers_10 words files_before files_after before after it laws.one_place way;
      }

  pub promises : (err_before err_after : Messages) (report : Report) → Laws → (it : Answer) → CallMayAnswer words files_before files_after before after it
      → IsReported it err_before err_after report → KeepsFiles (c it)
      → Promises (seen_of words files_before files_after before after err_before err_after report)
  promises err_before err_after report laws it way reported files =
      let so : Performs (c it) = performs laws it way files in
      record {
        answer = it;
        performs = so;
        reported = reported;
        causes = returning.returns_causes it err_before err_after report words files_before files_after before after so.status_2 so.status_5
            so.status_6 so.status_7 reported;
      }
