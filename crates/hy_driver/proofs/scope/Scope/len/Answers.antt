use Rattle.std.proofs.Common.{subst}
use Rattle.std.specs.List.{IsDistinct}
use Rattle.std.specs.Str.{bytes_eq}
use Rattle.hy_driver.proofs.Keys.{distinct}
use Rattle.hy_driver.proofs.scope.Scope.len.Goals as goal

pub returns-clause-once : goal.returns-clause-once
returns-clause-once c = subst (IsDistinct bytes_eq) c.self.view_is (distinct (λ v. v.items) bytes_eq c.self.inside.names.keys c.len.ensures.unique)
