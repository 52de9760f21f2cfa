use Rattle.hy_signatures.specs.Shown.{source_shown}
use Rattle.hy_types.proofs.Replaced.{extends_on}
use Rattle.hy_signatures.proofs.SourceTables.{callables_kept, owners_kept}
use Rattle.hy_signatures.proofs.tables.tables_of.Goals as goal

pub returns-clause-tables : goal.returns-clause-tables
returns-clause-tables c =
    let source = source_shown c.args.source.now in
    let first = c.callables_of.new.types in
    let second = c.owners_of.new.types in
    let third = c.traits_of.new.types in
    record {
      callables = callables_kept first third source c.in_ok-callables.callables
          (extends_on first second third c.in_ok-owners.ensures.stays c.in_ok-traits.ensures.stays)
          c.in_ok-callables.ensures.callables;
      owners = owners_kept second third source c.in_ok-owners.owners c.in_ok-traits.ensures.stays c.in_ok-owners.ensures.owners;
      traits = c.in_ok-traits.ensures.traits;
    }

pub returns-clause-stays : goal.returns-clause-stays
returns-clause-stays c =
    extends_on c.args.types.now c.owners_of.new.types c.traits_of.new.types
    (extends_on c.args.types.now c.callables_of.new.types c.owners_of.new.types c.in_ok-callables.ensures.stays c.in_ok-owners.ensures.stays)
    c.in_ok-traits.ensures.stays
