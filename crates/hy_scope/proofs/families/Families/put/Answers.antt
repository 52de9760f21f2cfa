use Rattle.std.proofs.Common.{◌∙◌, ap, cond}
use Rattle.std.specs.Str.{bytes_eq}
use Rattle.hy_scope.specs.Shown.{family_of, families_of}
use Rattle.hy_scope.proofs.FamilyKeys.{family_put, shown}
use Rattle.hy_scope.proofs.families.Families.put.Goals as goal

pub returns : goal.returns
returns c = λ i name.
    (ap (λ entries. shown (λ key. key.items) c.in_ok-copy.copy c.args.family c.args.self.now.families.entries entries name) c.in_ok-insert.ensures.entries
    ∙ family_put (λ key. key.items) c.in_ok-copy.copy c.args.family c.args.self.now.families.entries c.args.owner.now c.in_ok-copy.ensures.items name) i
