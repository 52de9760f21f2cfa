use Rattle.std.proofs.Common.{cond, Some, sym, ◌∙◌}
use Rattle.hy_signatures.proofs.OwnerTables.{named_alike, named_turned, looked_alike}
use Rattle.hy_signatures.proofs.owners.Owners.put.Goals as goal

pub returns : goal.returns
returns c other =
    looked_alike other c.insert.new.self.entries ∙ c.in_ok-insert.ensures.updates.0 other
    ∙ (λ i. cond ((named_alike c.args.named other ∙ named_turned c.args.named other) i) (Some c.args.owner)
    (sym (looked_alike other c.args.self.now.rows.entries) i))
