-- Operators, traps, branches, loops, calls.
use Rattle.std.specs.Prelude.{List, [], ◌∷◌, ◌++◌, codes}
use Rattle.hy_base.specs.declared.run.TrapKind.TheVariants as trap
use Rattle.hy_copying_examples.specs.Rows.{Row, does, trapped, spent}

abbrev pub operators : List Row
operators =
    does [] (codes "fun main() {}") 1 0
    ∷ does (codes "42") (codes "fun main() { var x = 40; x = x + 2; print(x) }") 1 0
    ∷ does (codes "7/9/-3/1/-1/5")
    (codes "fun main() { print(1 + 2 * 3); print((1 + 2) * 3); print(7 / -2); print(7 % -2); print(-7 % 2); print(10 - 3 - 2) }") 1 0
    ∷ does (codes "true/true/false/false/true/false/false/false")
    (codes "fun main() { print(1 < 2); print(2 <= 2); print(1 > 2); print(2 >= 3); print(1 == 1); print(1 != 1); print(true == false); "
    ++ codes "print(!true) }") 1 0
    ∷ does (codes "2/false/1/true/1/2/false")
    (codes "fun t() -> Bool { print(1); return true } fun f() -> Bool { print(2); return false } "
    ++ codes "fun main() { print(f() && t()); print(t() || f()); print(t() && f()) }") 5 0
    ∷ does (codes "2/8") (codes "fun main() { var t = (1, (2, 3)); print(t.1.0); t.1.0 = 7; print(t.1.0 + t.0) }") 1 0
    ∷ []

abbrev pub traps : List Row
traps =
    trapped (does (codes "9223372036854775807/-9223372036854775808")
    (codes "fun main() { print(9223372036854775807); var m = -9223372036854775807 - 1; print(m); m = «m - 1» }") 1 0) trap.Overflow
    ∷ trapped (does [] (codes "fun main() { print(«9223372036854775807 + 1» + 1) }") 1 0) trap.Overflow
    ∷ trapped (does [] (codes "fun main() { print((«9223372036854775807 + 1») * 2) }") 1 0) trap.Overflow
    ∷ trapped (does [] (codes "fun main() { print(«(4611686018427387904 + 0) * 2» - 1) }") 1 0) trap.Overflow
    ∷ trapped (does (codes "1") (codes "fun main() { print(1); print(«1 / 0») }") 1 0) trap.Divide
    ∷ trapped (does [] (codes "fun main() { print(«1 % 0») }") 1 0) trap.Divide
    ∷ trapped (does [] (codes "fun main() { var m = -9223372036854775807 - 1; print(«m / -1») }") 1 0) trap.Overflow
    ∷ trapped (does [] (codes "fun main() { var m = -9223372036854775807 - 1; print(«m % -1») }") 1 0) trap.Overflow
    ∷ trapped (does [] (codes "fun main() { var m = -9223372036854775807 - 1; print(«-m») }") 1 0) trap.Overflow
    ∷ trapped (does [] (codes "fun main() { var m = -9223372036854775807 - 1; print(1 + «(-m)») }") 1 0) trap.Overflow
    ∷ trapped (does (codes "1") (codes "fun main() { var x = 9223372036854775807; print(1); «x += 1»; print(2) }") 1 0) trap.Overflow
    ∷ trapped (does (codes "1") (codes "fun main() { precondition(1 == 1); print(1); «precondition(1 == 2)» }") 1 0) trap.Precondition
    ∷ []

abbrev pub branches : List Row
branches =
    does (codes "10/2") (codes "fun main() { var x = if 1 < 2 { 10 } else { 20 }; print(x); print(if false { 1 } else if true { 2 } else { 3 }) }") 1 0
    ∷ does (codes "3")
    (codes "fun main() { var x = 3; if x == 1 { print(1) } else if x == 2 { print(2) } else { print(3) } }") 1 0
    ∷ does (codes "1/3/4") (codes "fun main() { var i = 0; while true { i += 1; if i == 2 { continue }; if i == 5 { break }; print(i) } }") 6 0
    ∷ does (codes "0/1/7")
    (codes "fun main() { var i = 0; while i < 2 { while true { print(i); break }; i += 1 }; print(7) }") 5 0
    ∷ does (codes "3") (codes "fun f() -> Int { var i = 0; while true { i += 1; if i == 3 { return i } }; return 0 } fun main() { print(f()) }") 5 0
    ∷ does (codes "0/1/2/3/4/5/6/7/8/9") (codes "fun main() { var i = 0; while i < 10 { print(i); i += 1 } }") 11 0
    ∷ spent (does (codes "0/1/2/3/4/5/6/7/8") (codes "fun main() { var i = 0; while i < 10 { print(i); i += 1 } }") 0 0) 10
    ∷ spent (does [] (codes "fun main() { while true {} }") 0 0) 5
    ∷ spent (does [] (codes "fun main() { while true {} }") 0 0) 0
    ∷ []

abbrev pub calls : List Row
calls =
    does (codes "7")
    (codes "type P { var a: Int  var b: (Int, Bool) } fun sum(_ p: P) -> Int { if p.b.1 { return p.a + p.b.0 } else { return 0 } } "
    ++ codes "fun main() { var p = P(a: 1, b: (2, true)); p.a = 5; print(sum(p)) }") 2 1
    ∷ does (codes "12")
    (codes "fun g(_ x: inout Int) -> Int { x += 1; return 10 } fun f(_ a: Int, _ b: Int) -> Int { return a + b } "
    ++ codes "fun main() { var x = 1; print(f(x, g(&x))) }") 3 3
    ∷ does (codes "120")
    (codes "fun fact(_ n: Int) -> Int { if n == 0 { return 1 }; return n * fact(n - 1) } fun main() { print(fact(5)) }") 7 6
    ∷ does (codes "true")
    (codes "fun is_even(_ n: Int) -> Bool { if n == 0 { return true }; return is_odd(n - 1) } "
    ++ codes "fun is_odd(_ n: Int) -> Bool { if n == 0 { return false }; return is_even(n - 1) } fun main() { print(is_even(4)) }") 6 5
    ∷ does (codes "1/2/3/6")
    (codes "fun n(_ x: Int) -> Int { print(x); return x.copy() } fun sum(_ a: Int, _ b: Int, _ c: Int) -> Int { return a + b + c } "
    ++ codes "fun main() { print(sum(n(1), n(2), n(3))) }") 5 6
    ∷ does (codes "3/1/2/6")
    (codes "fun n(_ x: Int) -> Int { print(x); return x.copy() } type A { var k: Int fun plus(_ b: Int, _ c: Int) -> Int { return k + b + c } } "
    ++ codes "fun a() -> A { return A(k: n(3)) } fun main() { print(a().plus(n(1), n(2))) }") 6 6
    ∷ does (codes "11")
    (codes "fun g(_ x: inout Int) -> Int { x += 1; return 9 } fun main() { var x = 1; print(x + g(&x)) }") 2 1
    ∷ does (codes "9")
    (codes "fun main() { var x = 1; x += x; x *= x + 1; print(x + 3) }") 1 0
    ∷ []
