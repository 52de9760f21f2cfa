-- Orders of evaluation, subscripts inside subscripts, and values that are set in part.
use Rattle.std.specs.Prelude.{List, [], ◌∷◌, ◌++◌, codes}
use Rattle.hy_base.specs.declared.run.TrapKind.TheVariants as trap
use Rattle.hy_copying_examples.specs.Rows.{Row, does, trapped, spent, with_d, with_s, with_noisy}

abbrev pub orders : List Row
orders =
    does (codes "1/2/3/4/5/6/10")
    (codes "fun n(_ x: Int) -> Int { print(x); return x.copy() } type P { var x: Int  var y: Int } "
    ++ codes "fun main() { var t = (n(1), n(2)); var a = [n(3), n(4)]; var p = P(x: n(5), y: n(6)); print(t.0 + a[0] + p.y) }") 10 10
    ∷ does (codes "5/6/2/5/6") (with_noisy (codes "fun main() { var n = 2; while noisy[n] < 3 { print(n); n += 1 } }")) 4 4
    ∷ does (codes "true/false/2")
    (codes "fun main() { print(true || false && false); print(false || true && false); print(if if true { false } else { true } { 1 } else { 2 }) }") 1 0
    ∷ does (codes "3/1") (codes "fun main() { var x = 1; if true { var x = 2; x += 1; print(x) }; print(x) }") 1 0
    ∷ does (codes "2") (codes "fun main() { var a = [1, 2]; &a.swap_at(1, 1); print(a[1]) }") 4 4
    ∷ does (codes "7") (codes "fun main() { var a = [1, 2]; inout x = &a[0]; x = 3; x += 4; print(a[0]) }") 4 6
    ∷ does (codes "4") (codes "type A { var k: Int fun one() -> Int { return k + 1 } fun two() -> Int { return self.one() + self.one() } } "
    ++ codes "fun main() { print(A(k: 1).two()) }") 4 3
    ∷ does (codes "34")
    (codes "trait Named { fun id() -> Int } type A: Named { var n: Int  fun id() -> Int { return n.copy() } } "
    ++ (codes "conformance Int: Named { fun id() -> Int { return self + 0 } } fun inner<T: Named>(_ x: T) -> Int { return x.id() } "
    ++ (codes "fun outer<A: Named, B: Named>(_ a: A, _ b: B) -> Int { return inner(a) * 10 + inner(b) } "
    ++ codes "fun main() { print(outer(A(n: 3), 4)) }"))) 6 6
    ∷ does (codes "1/0")
    (codes "type C: Copyable { var v: Array<Int> subscript at(_ i: Int): Int { let { yield v[i] } inout { yield &v[i] } } } "
    ++ (codes "fun f1(_ c: inout C) -> Int { inout x = &c.at[1]; x += 1; return x.copy() } "
    ++ codes "fun main() { var c = C(v: [0, 0, 0, 0, 0, 0, 0, 0]); var s = 0; s += f1(&c); print(s); let d = c.copy(); print(d.at[0]) }")) 31 37
    ∷ []

abbrev pub suspended : List Row
suspended =
    does (codes "0/1/2/6")
    (codes "subscript deep(_ n: Int, _ x: yielded Int): Int { inout { if n == 0 { yield &x } else { yield &deep[n - 1, &x] }; print(n) } } "
    ++ codes "fun main() { var u = 1; inout a = &deep[2, &u]; a += 5; print(u) }") 4 10
    ∷ does (codes "1/101/9/7")
    (with_s (codes "subscript via(_ x: yielded Int): Int { inout { inout p = &s[1, &x]; yield &p; print(9) } } "
    ++ codes "fun main() { var u = 1; inout a = &via[&u]; a = 7; print(u) }")) 3 7
    ∷ does (codes "5/8/6/1/3/9")
    (with_d (with_noisy (codes "subscript kept(_ x: yielded Int): Int { let { var d = D(k: 3); let p = noisy[x]; yield p; print(1) } } "
    ++ codes "fun main() { var n = 8; print(kept[n]); print(9) }"))) 4 6
    ∷ does (codes "4/4/8/9")
    (with_d (codes "subscript q(_ x: Int): Int { let { yield D(k: 4).k; print(8) } } fun main() { print(q[1]); print(9) }")) 3 3
    ∷ does (codes "10")
    (codes "type W { var a: Array<Int> subscript(_ i: Int): Int { let { yield a[i] } inout { yield &a[i] } } } "
    ++ codes "fun main() { var w = W(a: [1, 2]); w[0] = 5; w[1] += 3; print(w[0] + w[1]) }") 8 19
    ∷ does (codes "105")
    (codes "type B { var v: Int subscript all(): Int { let { yield v } sink { return v + 100 } } } "
    ++ codes "fun main() { var w = B(v: 5).all[]; print(w) }") 2 0
    ∷ does (codes "3/1/9") (with_d (codes "subscript z(_ d: D): Int { set(v) { print(v) } } fun main() { z[D(k: 1)] = 3; print(9) }")) 3 2
    ∷ does (codes "1/7/101/8/6")
    (with_d (with_s (codes "type T { var a: Int  var b: Int fun f() inout -> Int { inout x = &s[1, &a]; var d = D(k: 7); x += 5; "
    ++ codes "if x > 3 { return b + x }; x = 0; return 0 } } fun main() { var t = T(a: 1, b: 2); print(&t.f()); print(t.a) }"))) 4 6
    ∷ does (codes "1/2/102/101/4")
    (with_s (codes "fun main() { var u = 1; var v = 1; while true { inout a = &s[1, &u]; while true { inout b = &s[2, &v]; b += 1; "
    ++ codes "if b > 1 { break } }; a += 1; if a > 1 { break } }; print(u + v) }")) 5 8
    ∷ does (codes "1/2/3/2")
    (codes "subscript slow(_ x: yielded Int): Int { inout { yield &x; var i = 0; while i < 3 { i += 1; print(i) } } } "
    ++ codes "fun main() { var u = 1; inout a = &slow[&u]; a = 2; print(u) }") 5 3
    ∷ spent (does (codes "1/2")
    (codes "subscript slow(_ x: yielded Int): Int { inout { yield &x; var i = 0; while i < 3 { i += 1; print(i) } } } "
    ++ codes "fun main() { var u = 1; inout a = &slow[&u]; a = 2; print(u) }") 4 3) 4
    ∷ trapped (does (codes "5") (codes "type Z { var k: Int  deinit { print(«1 / k») } } fun main() { var z = Z(k: 0); print(5) }") 2 1) trap.Divide
    ∷ []

abbrev pub partial : List Row
partial =
    does (codes "0/1/2/9")
    (with_d (codes "type E { var a: D  var b: D } fun f(_ e: sink E) { var x = e.a; print(0) } "
    ++ codes "fun main() { f(E(a: D(k: 1), b: D(k: 2))); print(9) }")) 4 2
    ∷ does (codes "0/1/2/9")
    (with_d (codes "type E { var a: D  var b: D fun opened() sink { var x = a; print(0) } } "
    ++ codes "fun main() { var e = E(a: D(k: 1), b: D(k: 2)); e.opened(); print(9) }")) 4 2
    ∷ does (codes "1/0/9/5")
    (codes "type R { var k: Int  deinit { print(k) } fun renew() inout { self = R(k: 5); print(0) } } "
    ++ codes "fun main() { var r = R(k: 1); &r.renew(); print(9) }") 4 3
    ∷ does (codes "0/2/9/1")
    (with_d (codes "type B { var d: D subscript it(): D { let { yield d } inout { yield &d } set(v) { print(0) } } } "
    ++ codes "fun main() { var b = B(d: D(k: 1)); b.it[] = D(k: 2); print(9) }")) 4 3
    ∷ does (codes "1/0/9/2") (with_d (codes "fun renew(_ d: inout D) { d = D(k: 2); print(0) } fun main() { var d = D(k: 1); renew(&d); print(9) }")) 4 3
    ∷ does (codes "0/1/2") (with_d (codes "fun consume(_ d: sink D) { print(0) } fun main() { let d = D(k: 1); consume(d); print(2) }")) 3 1
    ∷ does (codes "0/2") (with_d (codes "fun main() { var t: (D, D); t.1 = D(k: 2); print(0) }")) 2 1
    ∷ does (codes "1/1") (with_d (codes "fun main() { var t: (Int, (D, D)); t.1.0 = D(k: 1); print(t.1.0.k) }")) 2 1
    ∷ spent (does (codes "0") (codes "fun main() { var a = [1, 2]; print(0); var b = a.copy(); print(1) }") 0 1) 2
    ∷ spent (does (codes "0") (codes "fun main() { var a = [1, 2]; print(0); var b = a.copy(); print(1) }") 0 2) 3
    ∷ spent (does (codes "0/1") (codes "fun main() { var a = [1, 2]; print(0); var b = a.copy(); print(1) }") 0 4) 4
    ∷ does (codes "0/1") (codes "fun main() { var a = [1, 2]; print(0); var b = a.copy(); print(1) }") 10 9
    ∷ []
