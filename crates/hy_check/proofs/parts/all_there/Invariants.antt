use Rattle.hy_types.specs.Types.{Table}
use Rattle.hy_check.specs.Typing.{Around}
use Rattle.hy_check.specs.ValuesShown.{HaveValues}
use Rattle.hy_check.proofs.PartValues.{AreFirst}
use Rattle.hy_check.proofs.parts.all_there.Given as goal

abbrev pub invariant-loop-part : goal.invariant-loop-part
invariant-loop-part l = (table : Table) (around : Around) → HaveValues table around l.parts → AreFirst table around l.parts l.part-index l.ids.items
