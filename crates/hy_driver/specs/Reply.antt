-- A report, its message and its lines as an answer, and what a source is compiled to.
use Rattle.std.specs.Prelude.{◌≡◌, ℕ, List}
use Rattle.hy_tree.specs.Tree.{Program}
use Rattle.hy_object.specs.Bytes.{bytes_of}
use Rattle.hy_driver.specs.declared.reply.Reply.{Reply}
use Rattle.hy_driver.specs.declared.top.CompiledSource.{CompiledSource}
use Rattle.hy_driver.specs.Call.{Answer}
use Rattle.hy_driver.specs.Course.{IsObjectOf}
use Rattle.hy_driver.specs.Message.{bytes_of_message}

abbrev pub answer_of : Reply → Answer
answer_of reply =
    record {
      status = reply.report.status;
      message = bytes_of_message reply.message;
      lines = bytes_of_message reply.lines;
      object = reply.report.object.items;
      counts = reply.report.counts;
    }

-- the object was made of these bytes, and these are its own
abbrev pub IsCompiledFrom : List ℕ → CompiledSource → Type 0
IsCompiledFrom bytes made = (tree : Program) × IsObjectOf bytes tree made.object × (made.bytes.items ≡ bytes_of made.object)
