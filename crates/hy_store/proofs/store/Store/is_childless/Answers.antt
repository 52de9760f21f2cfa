use Rattle.std.proofs.Common.{is_some, sym, ap}
use Rattle.hy_store.specs.Names.{names}
use Rattle.hy_store.proofs.Closed.{can_close, can_close_none, childless_none, childless_some}
use Rattle.hy_store.proofs.store.Store.is_childless.Goals as goal

pub returns-in-Some-clause-tells : goal.returns-in-Some-clause-tells
returns-in-Some-clause-tells c =
    λ g s represents. childless_some g c.args.self.now c.args.fun.now s represents c.args.name c.in-Some.id c.has_children.result (sym c.in-Some.ensures)
    c.has_children.ensures

pub returns-in-Some-clause-closable : goal.returns-in-Some-clause-closable
returns-in-Some-clause-closable c = λ h.
    can_close (names c.args.self.now.opened c.args.name) c.args.self.now.opened.accesses c.in-Some.id c.has_children.result c.in-Some.ensures
    (ap is_some (c.requires.2.opened.ids c.args.name c.in-Some.id (sym c.in-Some.ensures)).1) c.has_children.ensures h

pub returns-in-None-clause-tells : goal.returns-in-None-clause-tells
returns-in-None-clause-tells c = λ g s represents. childless_none g c.args.self.now c.args.fun.now s represents c.args.name (sym c.in-None.ensures)

pub returns-in-None-clause-closable : goal.returns-in-None-clause-closable
returns-in-None-clause-closable c = λ h. can_close_none (names c.args.self.now.opened c.args.name) c.args.self.now.opened.accesses c.in-None.ensures
