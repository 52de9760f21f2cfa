-- Arrays: their members, elements, copies and deinitialisation.
use Rattle.std.specs.Prelude.{List, [], ◌∷◌, ◌++◌, codes}
use Rattle.hy_base.specs.declared.run.TrapKind.TheVariants as trap
use Rattle.hy_copying_examples.specs.Rows.{Row, does, trapped, with_d, with_noisy}

abbrev pub arrays : List Row
arrays =
    does (codes "2") (codes "fun main() { var a = [1, 2]; &a.swap_at(0, 1); print(a[0]) }") 4 4
    ∷ does (codes "2/1/9/3") (with_d (codes "fun main() { var a = [D(k: 1), D(k: 2), D(k: 3)]; a[1] = D(k: 9) }")) 9 9
    ∷ does (codes "2")
    (codes "type Tree: Copyable { var kids: Array<Tree> } fun main() { var t = Tree(kids: [Tree(kids: [Tree(kids: Array<Tree>())]), "
    ++ codes "Tree(kids: Array<Tree>())]); var u = t.copy(); print(u.kids.count) }") 22 21
    ∷ does (codes "2/6/1")
    (codes "fun main() { var a = Array<Int>(); &a.append(5); &a.append(6); print(a.count); print(&a.remove_last()); print(a.count) }") 3 2
    ∷ does (codes "7/7")
    (codes "fun main() { var a = [[1, 2], [3]]; a[0][1] = 7; print(a[0][1]); var b = a.copy(); b[0][1] = 8; print(a[0][1]) }") 25 32
    ∷ does (codes "1/2/0/3") (with_d (codes "fun main() { var a = [D(k: 1), D(k: 2)]; a = [D(k: 3)]; print(0) }")) 9 8
    ∷ does (codes "2/1/7")
    (codes "fun i() -> Int { print(1); return 0 } fun v() -> Int { print(2); return 7 } fun main() { var a = [0]; a[i()] = v(); print(a[0]) }") 5 4
    ∷ does (codes "2/1/12")
    (codes "fun i() -> Int { print(1); return 0 } fun v() -> Int { print(2); return 7 } fun main() { var a = [5]; a[i()] += v(); print(a[0]) }") 5 4
    ∷ does (codes "3") (codes "fun inc(_ x: inout Int) { x += 1 } fun main() { var a = [1, 2]; inc(&a[1]); print(a[1]) }") 5 6
    ∷ does (codes "2/2/1") (with_d (codes "fun main() { var a = [D(k: 1)]; &a.append(D(k: 2)); var x = &a.remove_last(); print(x.k) }")) 5 4
    ∷ does (codes "5") (codes "fun main() { var a = [1, 5]; print(a[a[0]]) }") 4 5
    ∷ does (codes "5/6/20") (with_noisy (codes "fun main() { var n = 1; var a = [10, 20]; print(a[noisy[n]]) }")) 5 6
    ∷ does (codes "0/4/3/1/2")
    (with_d (codes "type E { var a: D  var b: D } fun main() { var a = [E(a: D(k: 1), b: D(k: 2))]; &a.append(E(a: D(k: 3), b: D(k: 4))); "
    ++ codes "var x = &a.remove_last(); var y = x.b; print(0); take(y) } fun take(_ d: sink D) {}")) 8 6
    ∷ []

abbrev pub array_traps : List Row
array_traps =
    trapped (does [] (codes "fun main() { var a = [1]; print(a[«1»]) }") 1 0) trap.Index
    ∷ trapped (does [] (codes "fun main() { var a = [1]; print(a[«-1»]) }") 1 0) trap.Index
    ∷ trapped (does [] (codes "fun main() { var a = [1]; print(a[«(0 + 1)»]) }") 1 0) trap.Index
    ∷ trapped (does [] (codes "fun main() { var a = [[1], [2]]; print(a[0][«1»]) }") 1 1) trap.Index
    ∷ trapped (does [] (codes "fun main() { var a = Array<Int>(); a[«0»] = 1 }") 1 0) trap.Index
    ∷ trapped (does [] (codes "fun main() { var a = Array<Int>(); print(&«a.remove_last()») }") 1 0) trap.Empty
    ∷ trapped (does [] (codes "fun main() { var a = [1, 2]; &a.swap_at(«2», 3) }") 1 0) trap.Index
    ∷ trapped (does [] (codes "fun main() { var a = [1, 2]; &a.swap_at(0, «2») }") 1 0) trap.Index
    ∷ trapped (does (codes "5") (with_noisy (codes "fun main() { var n = 2; var a = [1, 2]; &a.swap_at(«noisy[n]», 3) }")) 2 2) trap.Index
    ∷ []

abbrev pub generics : List Row
generics =
    does (codes "1/2/107")
    (codes "trait Named { fun id() -> Int } type A: Named { var n: Int  fun id() -> Int { return 1 } } "
    ++ (codes "type B: Named { var n: Int  fun id() -> Int { return 2 } } conformance Int: Named { fun id() -> Int { return self + 100 } } "
    ++ codes "fun show<T: Named>(_ x: T) { print(x.id()) } fun main() { show(A(n: 0)); show(B(n: 0)); show(7) }")) 7 6
    ∷ does (codes "true/1")
    (codes "fun turned<A, B>(_ p: sink (A, B)) -> (B, A) { return (p.1, p.0) } fun main() { let q = turned((1, true)); print(q.0); print(q.1) }") 2 0
    ∷ does (codes "2/1")
    (codes "fun twice<T: Copyable>(_ x: T) -> Array<T> { return [x.copy(), x.copy()] } "
    ++ codes "fun main() { let a = twice([1]); print(a.count); print(a[1][0]) }") 15 16
    ∷ does (codes "0/1/2") (with_d (codes "fun ends<T>(_ x: sink T) { print(0) } fun main() { ends(D(k: 1)); print(2) }")) 3 1
    ∷ does (codes "1/2/1")
    (codes "trait Named { fun id() -> Int } type A: Named { var n: Int  fun id() -> Int { return n.copy() } } "
    ++ (codes "fun each<T: Named>(_ xs: Array<T>) { var i = 0; while i < xs.count { print(xs[i].id()); i += 1 } } "
    ++ codes "fun main() { let a = [A(n: 1), A(n: 2)]; each(a); print(1) }")) 9 8
    ∷ does (codes "30/2")
    (codes "trait Spent { fun spent() sink -> Int } type A: Spent { var n: Int  fun spent() -> Int { let { return 0 } sink { return n * 10 } } } "
    ++ codes "conformance Bool: Spent { fun spent() sink -> Int { return 2 } } "
    ++ codes "fun all<T: Spent>(_ x: sink T) -> Int { return x.spent() } fun main() { print(all(A(n: 3))); print(all(true)) }") 5 0
    ∷ []
