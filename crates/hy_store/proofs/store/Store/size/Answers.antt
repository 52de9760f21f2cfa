use Rattle.std.proofs.Common.{◌≡◌, Some, arith, rules}
use Rattle.hy_store.specs.Memory.{live}
use Rattle.hy_store.proofs.store.Store.size.Goals as goal

pub overflow_cast-result : goal.overflow_cast-result
overflow_cast-result c =
    let is : live c.args.self.now.blocks c.args.block ≡ Some c.in-Some.cells.now = search rules in
    let small = (c.requires.represented.2.held.known c.args.block c.in-Some.cells.now is).small in omega (arith, small)

pub returns-in-Some-clause-words : goal.returns-in-Some-clause-words
returns-in-Some-clause-words c = λ g s represents.
    let is : live c.args.self.now.blocks c.args.block ≡ Some c.in-Some.cells.now = search rules in
    (represents.held.known c.args.block c.in-Some.cells.now is).size
