-- What a call of the top function promises.
use Rattle.hy_driver.specs.Call.{Answer, Call, Seen, answering}
use Rattle.hy_driver.specs.Executed.{ExecutesTheObject, RefusesTheFile, KeepsToTheFile, ReturnsTheBytes, AnswersItsEnd, Answers9, Answers10}
use Rattle.hy_driver.specs.Headline.{RefusesTheFirst, ReturnsTheObject, RunsAsItMeans, WritesABeginning, Answers0, Answers1, Answers3, Answers4}
use Rattle.hy_driver.specs.Kept.{KeepsToItsObject, KeepsToTheMeaning}
use Rattle.hy_driver.specs.Outside.{LeavesAllAlone, KeepsFiles, StopsAtTheFiles, HasOneFault, ReportsItsCounts, Answers2, Answers5, Answers6, Answers7}
use Rattle.hy_driver.specs.Reported.{IsReported, ReturnsCauses}
use Rattle.hy_driver.specs.Said.{SaysItsStatus, IsSilentAtItsEnd, CountsAllTurns}

-- What is promised of a call up to its message.
pub record Performs (c : Call) : Type 0 where
  -- RUN
  -- A source that breaks a rule is refused with the first that it breaks, and nothing is made.
  pub refusal : RefusesTheFirst c
  -- Else the object does what the source means, on every input and for every number of turns, and is safe.
  pub object : ReturnsTheObject c
  -- This run writes what the source means, and ends as it ends.
  pub this_run : RunsAsItMeans c
  -- Whatever fault came, what was written is a beginning of what the source means.
  pub after_a_fault : WritesABeginning c
  -- Whatever fault came, the output, the input taken and the counts are those of the object's run as far as it went.
  pub keeps_to_its_object : KeepsToItsObject c
  -- Where the input failed, what was written is what the source means on the bytes that were taken.
  pub keeps_to_the_meaning : KeepsToTheMeaning c
  -- EXEC
  -- An object file is executed as its code runs.
  pub executes : ExecutesTheObject c
  -- A file that is no object's is refused at the place where it is bad, and nothing is made.
  pub bad_file : RefusesTheFile c
  -- Whatever fault came, the output, the input taken and the counts are those of the run as far as it went.
  pub keeps_to_the_file : KeepsToTheFile c
  -- The bytes returned are those of the file, or none.
  pub bytes : ReturnsTheBytes c
  -- FILES AND STREAMS
  -- Words that are no command touch nothing but the messages.
  pub no_command : LeavesAllAlone c
  -- Files keep what they hold.
  pub files : KeepsFiles c
  -- Where the files failed nothing is made, nothing is written and no input is taken.
  pub failed_files : StopsAtTheFiles c
  -- Of the files, the input and the output one fails at the most, and once.
  pub one_fault : HasOneFault c
  -- MESSAGES
  -- The message is that of the status, which has its cause.
  pub message : SaysItsStatus c
  -- There is none exactly where a run is done.
  pub silent : IsSilentAtItsEnd c
  -- The report has the counts, where one is asked for.
  pub lines : ReportsItsCounts c
  -- STATUSES: each comes exactly where its cause is there
  -- the run of a source is done
  pub status_0 : Answers0 c
  -- the source breaks a rule
  pub status_1 : Answers1 c
  -- the words are no command
  pub status_2 : Answers2 c
  -- the run of a source ends in a trap
  pub status_3 : Answers3 c
  -- the run of a source has taken all its turns
  pub status_4 : Answers4 c
  -- a run has taken all its turns, and has counted them
  pub all_turns : CountsAllTurns c
  -- the file could not be loaded
  pub status_5 : Answers5 c
  -- the input failed
  pub status_6 : Answers6 c
  -- the output failed
  pub status_7 : Answers7 c
  -- 0, 3 and 4, where an object file is executed
  pub its_end : AnswersItsEnd c
  -- an instruction of an object file cannot be done
  pub status_9 : Answers9 c
  -- the file is no object's
  pub status_10 : Answers10 c

-- What is promised of a whole call. Whether a message fails changes the status alone: all that is promised of the object, the
-- counts, the files, the input and the output holds of the answer, and these are returned as they are there.
pub record Promises (s : Seen) : Type 0 where
  -- what is answered, unless a message fails
  pub answer : Answer
  pub performs : Performs (answering s answer)
  -- The message and the report are written, and the answer is returned; or one of them fails, and what was written until then
  -- is exactly this.
  pub reported : IsReported answer s.err_before s.err_after s.report
  -- The statuses of faults come exactly where their cause is there.
  pub causes : ReturnsCauses s
