-- Moves, deinitialisation, and the lives of variables and temporaries.
use Rattle.std.specs.Prelude.{List, [], ◌∷◌, ◌++◌, codes}
use Rattle.hy_copying_examples.specs.Rows.{Row, does, given, with_d}

abbrev pub moves : List Row
moves =
    does (codes "1/2/2/3") (with_d (codes "fun main() { var a = D(k: 1); var b = D(k: 2); a = D(k: 3); var c = b; print(c.k) }")) 4 3
    ∷ given (does (codes "100/5/200")
    (with_d (codes "fun consume(_ d: sink D) { print(100) } fun main() { var x = D(k: 5); if read() == 1 { consume(x) }; print(200) }")) 3 1)
    (codes "1") 1
    ∷ given (does (codes "200/5")
    (with_d (codes "fun consume(_ d: sink D) { print(100) } fun main() { var x = D(k: 5); if read() == 1 { consume(x) }; print(200) }")) 2 1)
    (codes "0") 1
    ∷ given (does (codes "1/2/2") (with_d (codes "fun main() { var x: D; if read() == 1 { x = D(k: 1) }; x = D(k: 2); print(x.k) }")) 3 2) (codes "1") 1
    ∷ given (does (codes "2/2") (with_d (codes "fun main() { var x: D; if read() == 1 { x = D(k: 1) }; x = D(k: 2); print(x.k) }")) 2 1) (codes "0") 1
    ∷ does (codes "0/1/2")
    (with_d (codes "type E { var a: D  var b: D } fun main() { var e = E(a: D(k: 1), b: D(k: 2)); var x = e.a; print(0) }")) 3 2
    ∷ does (codes "2/0/1/3/4")
    (with_d (codes "type E { var a: D  var b: D } fun main() { var e = E(a: D(k: 1), b: D(k: 2)); var x = e.a; "
    ++ codes "e = E(a: D(k: 3), b: D(k: 4)); print(0) }")) 5 4
    ∷ does (codes "0/1") (with_d (codes "type F { var a: D  var b: D  deinit { print(9) } } fun main() { var f: F; f.a = D(k: 1); print(0) }")) 2 1
    ∷ does (codes "0/9/1/2")
    (with_d (codes "type F { var a: D  var b: D  deinit { print(9) } } fun main() { var f: F; f.a = D(k: 1); f.b = D(k: 2); print(0) }")) 4 3
    ∷ does (codes "100/1/0/2")
    (with_d (codes "fun consume(_ d: sink D) { print(100) } fun main() { var d = D(k: 1); consume(d); d = D(k: 2); print(0) }")) 4 2
    ∷ does (codes "0/3/2/1/9")
    (with_d (codes "fun f(_ a: sink D, _ b: sink D) { var c = D(k: 3); print(0) } fun main() { f(D(k: 1), D(k: 2)); print(9) }")) 5 3
    ∷ does (codes "11/6/106")
    (codes "type V: Copyable { var x: Int  var y: Int fun moved(by d: Int) -> V { let { return V(x: x + d, y: y.copy()) } inout { x += d } "
    ++ codes "sink { x += d; return self } } } fun main() { var v = V(x: 1, y: 2); let w = v.moved(by: 10); &v.moved(by: 5); "
    ++ codes "print(w.x); print(v.x); print(v.copy().moved(by: 100).x) }") 4 5
    ∷ does (codes "1/1") (codes "fun main() { var x = 1; var y = x.copy(); print(x); print(y) }") 1 0
    ∷ does (codes "1/1/2/0")
    (with_d (codes "fun pair(_ t: sink (D, D)) -> (D, D) { return (t.1, t.0) } fun main() { var p = pair((D(k: 1), D(k: 2))); p = p; "
    ++ codes "var q = p.0; var r = p.1; consume(q, r); print(0) } fun consume(_ a: sink D, _ b: sink D) { print(b.k); var c = b }")) 5 2
    ∷ []

abbrev pub ends : List Row
ends =
    does (codes "4/4") (with_d (codes "fun main() { print(D(k: 4).k) }")) 2 1
    ∷ does (codes "2/1/3") (with_d (codes "fun f() -> Int { var a = D(k: 1); var b = D(k: 2); return a.k + b.k } fun main() { print(f()) }")) 4 2
    ∷ does (codes "0/1/2") (with_d (codes "fun main() { if true { var d = D(k: 1); print(0) }; print(2) }")) 2 1
    ∷ does (codes "1/2") (with_d (codes "fun main() { while true { var d = D(k: 1); break }; print(2) }")) 3 1
    ∷ does (codes "0/1/9") (with_d (codes "fun main() { var i = 0; while i < 2 { var d = D(k: i + 0); i += 1; continue }; print(9) }")) 5 2
    ∷ does (codes "0/1/2") (with_d (codes "fun main() { var t = (D(k: 1), D(k: 2)); print(0) }")) 3 2
    ∷ does (codes "5/6") (with_d (codes "type H { var d: D  deinit { print(5) } } fun main() { var h = H(d: D(k: 6)) }")) 3 2
    ∷ does (codes "1/8") (with_d (codes "type G { var a: D  deinit { a = D(k: 8) } } fun main() { var g = G(a: D(k: 1)) }")) 4 3
    ∷ does (codes "3/2/1")
    (with_d (codes "fun main() { var a = D(k: 1); if true { var b = D(k: 2); while true { var c = D(k: 3); return } } }")) 5 3
    ∷ does (codes "7/2/1/0")
    (with_d (codes "fun f() -> Int { var a = D(k: 1); while true { var b = D(k: 2); return D(k: 7).k + 0 }; return 5 } "
    ++ codes "fun main() { var x = f(); print(x - 7) }")) 6 3
    ∷ []

abbrev pub temporaries : List Row
temporaries =
    does (codes "3/2/1/0") (with_d (codes "fun two(_ a: D, _ b: D) { print(a.k + b.k) } fun main() { two(D(k: 1), D(k: 2)); print(0) }")) 4 4
    ∷ does (codes "0/1/1/2") (with_d (codes "fun main() { let x = D(k: 1).k; print(0); print(x); print(2) }")) 2 2
    ∷ does (codes "3/4") (with_d (codes "fun main() { D(k: 3); print(4) }")) 2 1
    ∷ does (codes "3/4") (with_d (codes "fun main() { _ = D(k: 3); print(4) }")) 2 1
    ∷ does (codes "1/2") (with_d (codes "fun main() { if D(k: 1).k == 1 { print(2) } }")) 2 1
    ∷ does (codes "0/10/1/10/2") (with_d (codes "fun main() { var i = 0; while D(k: i + 0).k < 2 { print(10); i += 1 } }")) 6 3
    ∷ does (codes "1/true") (with_d (codes "fun main() { print(true && D(k: 1).k == 1) }")) 2 1
    ∷ does (codes "1/false") (with_d (codes "fun main() { print(false || D(k: 1).k == 2) }")) 2 1
    ∷ does (codes "true/1") (with_d (codes "fun main() { print(D(k: 1).k == 1 && true) }")) 2 1
    ∷ does (codes "true/1") (with_d (codes "fun main() { print(D(k: 1).k == 1) }")) 2 1
    ∷ does (codes "1/2") (with_d (codes "fun main() { print(if true { D(k: 1).k + 1 } else { 0 }) }")) 2 1
    ∷ does (codes "1/2/2") (with_d (codes "fun main() { print(if D(k: 1).k == 0 { 1 } else { D(k: 2).k + 0 }) }")) 3 2
    ∷ does (codes "3") (codes "fun main() { print([1, 2, 3].count) }") 5 4
    ∷ does (codes "2/1/5")
    (with_d (codes "fun one(_ d: D) -> D { return D(k: d.k + 1) } fun main() { one(D(k: 1)); print(5) }")) 4 3
    ∷ does (codes "1/7/7/1")
    (with_d (codes "fun inc(_ x: inout Int) { x += 6; print(x) } fun main() { var d = D(k: 1); print(d.k); inc(&D(k: 1).k); d.k = 1 }")) 4 3
    ∷ []
