use Rattle.std.proofs.Common.{◌++◌, [], ◌∷◌, length, Some, sym, ap, ◌∙◌, arith}
use Rattle.hy_blocks.proofs.Listed.{taken, all_more}
use Rattle.hy_blocks.specs.Tables.{look}
use Rattle.hy_blocks.proofs.region.Region.put.Goals as goal

pub overflow_add-self : goal.overflow_add-self
overflow_add-self c = let count = taken (look c.self.inside.table) c.self.inside.taken in
    record { fits = omega (arith, count, ap length c.self.view_is, c.requires) }

pub returns-clause-name : goal.returns-clause-name
returns-clause-name c = sym (taken _ c.self.inside.taken) ∙ ap length c.self.view_is

pub returns-clause-taken : goal.returns-clause-taken
returns-clause-taken c = all_more _ _ c.self.inside.taken (Some c.args.raw) c.in_ok-insert.ensures.put ∙ ap (λ l. l ++ Some c.args.raw ∷ []) c.self.view_is
