use Rattle.std.proofs.Common.{List, subst}
use Rattle.hy_check.specs.KnownShown.{known_of}
use Rattle.hy_check.specs.ValuesShown.{HaveValues}
use Rattle.hy_check.specs.declared.value.Part.{Part}
use Rattle.hy_check.proofs.PartValues.{later_unlike}
use Rattle.hy_check.proofs.checker.Checker.meet_later_unlike.Goals as goal

pub returns-in-Some-clause-learns : goal.returns-in-Some-clause-learns
returns-in-Some-clause-learns c around h =
    let table = c.args.self.now.types in
    let each = subst (λ (ps : List Part). HaveValues table around ps) c.in-Some.ensures.cases.0 h in
    later_unlike (known_of c.args.self.now) (known_of c.meet_each_unlike.new.self) table around c.args.parts.now c.in-Some.first.now c.in-Some.more.now
    c.type_in.result c.in-Some.ensures.cases.0 each.0 (c.type_in.ensures.type_in table) (c.meet_each_unlike.ensures.learns around each.1)
