use Rattle.std.proofs.Common.{◌≡◌, ◌∙◌, ap, cond, List, ℕ}
use Rattle.std.specs.Str.{bytes_eq}
use Rattle.hy_tree.specs.FileNames.{no_family}
use Rattle.hy_scope.specs.Shown.{family_of, families_of}
use Rattle.hy_scope.proofs.FamilyKeys.{family_put, shown}
use Rattle.hy_scope.proofs.families.Families.take.Goals as goal

pub returns-in-Some-clause-rest : goal.returns-in-Some-clause-rest
returns-in-Some-clause-rest c = λ i name.
    (ap (λ entries. shown (λ key. key.items) c.in_ok-copy.copy c.new.result c.args.self.now.families.entries entries name) c.in_ok-old.ensures.entries
    ∙ family_put (λ key. key.items) c.in_ok-copy.copy c.new.result c.args.self.now.families.entries c.args.owner.now c.in_ok-copy.ensures.items name
    ∙ ap (λ family. cond (bytes_eq name c.args.owner.now) family (families_of c.args.self.now name)) c.new.ensures) i

pub returns-in-None-clause-rest : goal.returns-in-None-clause-rest
returns-in-None-clause-rest c = λ i name.
    (ap (λ entries. shown (λ key. key.items) c.in_ok-copy.copy c.new.result c.args.self.now.families.entries entries name) c.in_ok-old.ensures.entries
    ∙ family_put (λ key. key.items) c.in_ok-copy.copy c.new.result c.args.self.now.families.entries c.args.owner.now c.in_ok-copy.ensures.items name
    ∙ ap (λ family. cond (bytes_eq name c.args.owner.now) family (families_of c.args.self.now name)) c.new.ensures) i
