use Rattle.std.proofs.Common.{ap, arith, map}
use Rattle.hy_tree.specs.Denotes.{decl_of}
use Rattle.hy_tree.specs.Numbers.{count_all, count_decl}
use Rattle.hy_tree.proofs.number_declaration.number_all.Goals as goal

pub returns-clause-small : goal.returns-clause-small
returns-clause-small c =
    let e = ap (λ decls. count_all count_decl (map decl_of decls)) c.as_slice.ensures in
    let fits = c.is_small.ensures in
    let sum = c.in_ok-decls.ensures.1 in
    let first = c.in_ok-node.ensures.next in
    omega (arith, e, fits, sum, first)
