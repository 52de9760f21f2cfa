-- What is claimed of compiled code.
use Rattle.std.specs.Prelude.{◌≡◌, ◌≤◌, ◌^◌, ℕ, Bool, List}
use Rattle.hy_base.specs.declared.run.End.TheVariants.{Done}
use Rattle.hy_tree.specs.Tree.{Program}
use Rattle.hy_meaning.specs.Meaning.{Report, mean}
use Rattle.hy_object.specs.declared.object.Object.{Object}
use Rattle.hy_object.specs.Grammar.{IsInGrammar}
use Rattle.hy_object.specs.Runs.{Run, Runs, IsSafe, IsBalanced}
use Rattle.hy_object.specs.States.{Ended}

-- a run of the code is seen as the meaning is: its output, its end, the bytes that it took, its turns and opened places
pub record Agrees (run : Run) (report : Report) : Type 0 where
  pub output : run.output ≡ report.output
  pub stop : run.stop ≡ Ended report.end
  pub taken : run.taken ≡ report.taken
  pub turns : run.counts.turns ≡ report.turns
  pub opened : run.counts.opened ≡ report.opened

-- The object does what the tree means, for every input, whole or cut, and every number of turns up to 2^32. It is never
-- stuck: it reads no cell that is freed or unset, and writes beside no live place that overlaps. A run that comes to its
-- normal end has freed every block once.
pub record IsCompiled (tree : Program) (object : Object) : Type 0 where
  pub in_grammar : IsInGrammar object
  pub same : (input : List ℕ) (cut : Bool) (n : ℕ) → n ≤ 2 ^ 32 → (run : Run) × Runs object input cut n run × Agrees run (mean tree input cut n)
  pub safe : IsSafe object
  pub balanced : (input : List ℕ) (cut : Bool) (n : ℕ) (run : Run) → Runs object input cut n run → run.stop ≡ Ended Done → IsBalanced run
