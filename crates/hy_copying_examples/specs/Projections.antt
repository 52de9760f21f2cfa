-- Places that are lent, bound projections, and subscripts that yield.
use Rattle.std.specs.Prelude.{ℕ, List, [], ◌∷◌, ◌++◌, codes}
use Rattle.hy_base.specs.declared.run.TrapKind.TheVariants as trap
use Rattle.hy_copying_examples.specs.Rows.{Row, does, trapped, with_d, with_s, with_noisy}

abbrev pub lent : List Row
lent =
    does (codes "3") (codes "fun f(_ x: inout Int, _ y: Int) { x += y } fun main() { var p = (1, 2); f(&p.0, p.1); print(p.0) }") 2 2
    ∷ does (codes "2/1")
    (codes "fun swap(_ a: inout Int, _ b: inout Int) { let t = a.copy(); a = b.copy(); b = t } "
    ++ codes "fun main() { var p = (1, 2); swap(&p.0, &p.1); print(p.0); print(p.1) }") 2 2
    ∷ does (codes "7") (codes "fun fill(_ x: set Int) { x = 7 } fun main() { var x: Int; fill(&x); print(x) }") 2 1
    ∷ does (codes "1/0/2/2")
    (with_d (codes "fun fill(_ d: set D) { print(0); d = D(k: 2) } fun main() { var d = D(k: 1); fill(&d); print(d.k) }")) 4 3
    ∷ does (codes "1/5/7/6/9")
    (with_d (with_noisy (codes "fun two(_ a: set D, _ b: Int) { a = D(k: 9); print(b) } fun main() { var d = D(k: 1); var n = 7; two(&d, noisy[n]) }"))) 5 6
    ∷ does (codes "2/25")
    (codes "trait Bump { fun bump() inout } type A: Bump { var n: Int  fun bump() inout { n += 1 } } "
    ++ (codes "conformance Int: Bump { fun bump() inout { self += 10 } } fun go<T: Bump>(_ x: inout T) { &x.bump(); &x.bump() } "
    ++ codes "fun main() { var a = A(n: 0); var i = 5; go(&a); go(&i); print(a.n); print(i) }")) 7 6
    ∷ []

abbrev pub bound : List Row
bound =
    does (codes "3") (codes "type P { var a: Int  var b: Int } fun main() { var p = P(a: 1, b: 2); inout x = &p.a; x = 3; print(p.a) }") 1 1
    ∷ does (codes "3") (codes "fun main() { var p = (1, 2); while true { inout x = &p.0; x += 1; if x == 3 { break } }; print(p.0) }") 3 2
    ∷ does (codes "1") (codes "fun main() { var a = 1; let x = a; print(x) }") 1 1
    ∷ does (codes "8/9/3")
    (codes "fun main() { var t = ((1, 2), 3); inout x = &t.0; inout y = &x.1; y = 9; x.0 = 8; print(t.0.0); print(t.0.1); print(t.1) }") 1 2
    ∷ does (codes "26/260")
    (codes "type M { var mm: Int subscript cm(): Int { inout { var d = mm / 10; yield &d; mm = d * 10 } } } "
    ++ codes "fun main() { var m = M(mm: 250); inout c = &m.cm[]; c += 1; print(c); print(m.mm) }") 2 3
    ∷ does (codes "1/2/101/102/11/22")
    (with_s (codes "fun main() { var u = 1; var v = 2; inout a = &s[1, &u]; inout b = &s[2, &v]; a += 10; b += 20; print(u); print(v) }")) 3 8
    ∷ does (codes "1/2/102/101/11/22")
    (with_s (codes "fun main() { var u = 1; var v = 2; inout a = &s[1, &u]; inout b = &s[2, &v]; b += 20; a += 10; print(u); print(v) }")) 3 8
    ∷ does (codes "1/2/102/101/0/2")
    (with_s (codes "fun main() { var u = 1; inout a = &s[1, &u]; inout b = &s[2, &a]; b += 1; print(0); print(u) }")) 3 8
    ∷ does (codes "1/101/2/102/1")
    (with_s (codes "fun main() { var u = 1; inout a = &s[1, &u]; inout b = &s[2, &u]; print(u) }")) 3 8
    ∷ does (codes "1/2/3/102/103/101/6")
    (with_s (codes "fun main() { var t = (1, 2); inout a = &s[1, &t.0]; inout b = &s[2, &t.1]; var w = 3; inout c = &s[3, &w]; b += 1; c += 1; "
    ++ codes "a += 5; print(t.0) }")) 4 12
    ∷ does (codes "1/2/102/7/101/11")
    (with_d (with_s (codes "fun f() -> Int { var u = 1; var v = 2; while true { inout a = &s[1, &u]; var d = D(k: 7); inout b = &s[2, &v]; "
    ++ codes "a += 1; if a == 2 { return a + b + d.k }; b += d.k }; return 0 } fun main() { print(f()) }"))) 6 9
    ∷ does (codes "1/101/1/101/3")
    (with_s (codes "fun main() { var u = 1; while true { inout a = &s[1, &u]; a += 1; if a > 2 { break } }; print(u) }")) 5 8
    ∷ does (codes "1/0/101/1/0/101/2")
    (with_s (codes "fun main() { var u = 0; while u < 2 { inout a = &s[1, &u]; a += 1; if a < 9 { print(0); continue }; a = 9 }; print(u) }")) 5 8
    ∷ does (codes "0/1/60/101/2")
    (codes "type Q { var n: Int  deinit { print(n + 100) } subscript it(): Int { let { yield n; print(60) } } } "
    ++ codes "fun main() { let x = Q(n: 1).it[]; print(0); print(x); print(2) }") 3 4
    ∷ []

abbrev pub subscripts : List Row
subscripts =
    does (codes "-1/7")
    (codes "type Cell { var v: Int subscript at(): Int { let { yield v } inout { yield &v } set(new_value) { print(-1); v = new_value } } } "
    ++ codes "fun main() { var c = Cell(v: 1); c.at[] = 5; c.at[] += 2; print(c.at[]) }") 4 5
    ∷ does (codes "1/101")
    (codes "type B { var v: Int subscript all(): Int { let { yield v } sink { return v + 100 } } } "
    ++ codes "fun main() { var b = B(v: 1); print(b.all[]); var w = b.all[]; print(w) }") 3 2
    ∷ does (codes "1/6/101/6")
    (with_s (codes "fun f(_ x: inout Int) { x += 1; print(x) } fun main() { var u = 5; f(&s[1, &u]); print(u) }")) 3 4
    ∷ does (codes "5/7/6") (with_noisy (codes "fun main() { var n = 7; print(noisy[n]) }")) 2 2
    ∷ does (codes "5/5/6/6/3") (with_noisy (codes "fun main() { var n = 1; var m = 2; print(noisy[n] + noisy[m]) }")) 3 4
    ∷ does (codes "5/6/5/6/4") (with_noisy (codes "fun main() { var n = 1; var m = 2; print(noisy[n] + 1 + noisy[m]) }")) 3 4
    ∷ does (codes "5/6/5/6/true") (with_noisy (codes "fun main() { var n = 1; print(noisy[n] == 1 && noisy[n] < 2) }")) 3 4
    ∷ does (codes "5/6/9") (with_noisy (codes "fun main() { var n = 1; if noisy[n] == 1 { print(9) } }")) 2 2
    ∷ does (codes "5/5/6/6/3") (with_noisy (codes "fun main() { var n = 1; var x = 2; x += noisy[noisy[n]]; print(x) }")) 3 4
    ∷ does (codes "1/9")
    (codes "subscript larger(_ a: yielded Int, _ b: yielded Int): Int { inout { if a > b { yield &a } else { yield &b } } } "
    ++ codes "fun main() { var x = 1; var y = 2; larger[&x, &y] = 9; print(x); print(y) }") 2 3
    ∷ does (codes "5/11")
    (codes "subscript c(_ n: inout Int, _ x: yielded Int): Int { let { n += 1; yield x; n += 10 } } "
    ++ codes "fun main() { var n = 0; var x = 5; print(c[&n, x]); print(n) }") 2 3
    ∷ does (codes "77/5")
    (codes "type R { var n: Int } type T { var rs: Array<R> subscript row(_ i: Int): R { let { yield rs[i] } inout { yield &rs[i]; print(77) } } } "
    ++ codes "fun main() { var t = T(rs: [R(n: 1)]); t.row[0].n = 5; print(t.row[0].n) }") 5 10
    ∷ does (codes "12/11/1/2")
    (codes "type K { var v: Int subscript at(_ i: Int): Int { let { yield v } set(w) { print(i); v = w } } } "
    ++ codes "fun n(_ x: Int) -> Int { print(x + 10); return x.copy() } fun main() { var k = K(v: 0); k.at[n(1)] = n(2); print(k.at[0]) }") 5 7
    ∷ does (codes "9/1/8")
    (codes "subscript r(_ x: yielded Int): Int { inout { yield &x; if x > 5 { return }; print(8) } } "
    ++ codes "fun main() { var u = 0; inout a = &r[&u]; a = 9; print(a); inout b = &r[&u]; b = 1; print(b) }") 3 6
    ∷ does (codes "1/50/1/2")
    (with_d (codes "subscript key(_ d: yielded D): Int { let { yield d.k; print(50) } } fun main() { print(key[D(k: 1)]); print(2) }")) 3 3
    ∷ does (codes "60/101/6/0")
    (codes "type Q { var n: Int  deinit { print(n + 100) } subscript it(): Int { let { yield n; print(60) } } } "
    ++ codes "fun main() { print(Q(n: 1).it[] + 5); print(0) }") 3 3
    ∷ does (codes "5/60/102/3/101")
    (codes "type Q { var n: Int  deinit { print(n + 100) } subscript it(): Int { let { yield n; print(60) } } } "
    ++ codes "fun h(_ q: Q, _ x: Int) -> Int { print(5); return x + q.n } fun main() { print(h(Q(n: 1), Q(n: 2).it[])) }") 5 6
    ∷ []

abbrev pub subscript_traps : List Row
subscript_traps =
    trapped (does [] (codes "subscript t(_ x: yielded Int): Int { inout { yield &x; print(«1 / x») } } "
    ++ codes "fun main() { var u = 1; inout a = &t[&u]; a = 0; print(7) }") 2 3) trap.Divide
    ∷ trapped (does [] (codes "subscript t(_ x: yielded Int): Int { inout { «precondition(x > 0)»; yield &x } } "
    ++ codes "fun main() { var u = 0; inout a = &t[&u]; a = 0; print(7) }") 2 1) trap.Precondition
    ∷ trapped (does (codes "1/101/1") (with_s (codes "fun main() { var u = 1; s[1, &u] = 2 / 2; inout a = &s[1, &u]; a = «1 / 0» }")) 3 7) trap.Divide
    ∷ []

abbrev three : List ℕ
three = codes "fun main() { var u = 0; var v = 0; var w = 0; inout a = &s[1, &u]; inout b = &s[2, &v]; inout c = &s[3, &w]; "

-- in which order three projections close
abbrev pub slides : List Row
slides =
    does (codes "1/2/3/101/102/103") (with_s (three ++ codes "a += 1; b += 1; c += 1 }")) 4 12
    ∷ does (codes "1/2/3/101/103/102") (with_s (three ++ codes "a += 1; c += 1; b += 1 }")) 4 12
    ∷ does (codes "1/2/3/102/101/103") (with_s (three ++ codes "b += 1; a += 1; c += 1 }")) 4 12
    ∷ does (codes "1/2/3/102/103/101") (with_s (three ++ codes "b += 1; c += 1; a += 1 }")) 4 12
    ∷ does (codes "1/2/3/103/101/102") (with_s (three ++ codes "c += 1; a += 1; b += 1 }")) 4 12
    ∷ does (codes "1/2/3/103/102/101") (with_s (three ++ codes "c += 1; b += 1; a += 1 }")) 4 12
    ∷ []

-- two projections between three variables, past which a body ends
abbrev between : List ℕ
between = codes "var x = D(k: 7); inout a = &s[1, &u]; var y = D(k: 8); inout b = &s[2, &v]; var z = D(k: 9); "

abbrev pub early : List Row
early =
    does (codes "1/2/9/102/8/101/7/5")
    (with_d (with_s (codes "fun f() { var u = 0; var v = 0; " ++ (between ++ codes "if true { return }; a = 1; b = 1 } fun main() { f(); print(5) }")))) 7 11
    ∷ does (codes "1/2/9/102/8/101/7/5")
    (with_d (with_s (codes "fun main() { var u = 0; var v = 0; while true { "
    ++ (between ++ codes "if true { break }; a = 1; b = 1 }; print(5) }")))) 7 11
    ∷ does (codes "1/2/9/102/8/101/7/5")
    (with_d (with_s (codes "fun main() { var u = 0; var v = 0; var i = 0; while i < 1 { i += 1; "
    ++ (between ++ codes "if true { continue }; a = 1; b = 1 }; print(5) }")))) 7 11
    ∷ does (codes "1/2/101/102/9/8/7/5")
    (with_d (with_s (codes "fun main() { var u = 0; var v = 0; if true { " ++ (between ++ codes "a = 1; b = 1 }; print(5) }")))) 6 11
    ∷ trapped (does (codes "1/2/0/102")
    (with_d (with_s (codes "fun main() { var u = 0; var v = 0; " ++ (between ++ codes "print(0); precondition(b == 0); «precondition(a == 1)» }")))) 3 8)
    trap.Precondition
    ∷ []
