use Rattle.hy_driver.proofs.Keys.{added_is, scope_is}
use Rattle.hy_driver.proofs.scope.Scope.declare.Goals as goal

pub returns-clause-added : goal.returns-clause-added
returns-clause-added c =
    rw (← c.self.view_is) (added_is (λ v. v.items) c.args.name.now c.in_ok-copy.copy c.self.inside.names.keys c.in_ok-copy.ensures.items
    c.in_ok-added.added c.in_ok-added.ensures.added)

pub returns-clause-scope : goal.returns-clause-scope
returns-clause-scope c =
    rw (← c.self.view_is) (scope_is (λ v. v.items) c.args.name.now c.in_ok-copy.copy c.self.inside.names.keys c.in_ok-copy.ensures.items
    c.insert.new.self.keys c.in_ok-added.ensures.keys)
