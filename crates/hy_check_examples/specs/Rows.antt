-- Small programs and the first rule on names or types that each breaks.
use Rattle.std.specs.Prelude.{◌≡◌, ℕ, List, [], ◌∷◌, ◌++◌, Some, codes}
use Rattle.hy_base.specs.declared.refusal.Rule.{Rule}
use Rattle.hy_tree.specs.declared.operator.Mode.{Mode}
use Rattle.hy_check_examples.specs.Reader.{Refused, Sound, outcome, wanted, picked, type_found, shape_found}
use Rattle.hy_check.specs.Places.{Root}
use Rattle.hy_types.specs.Types.{PlainType}

-- each text breaks the rule at its marks
abbrev pub Refuses : Rule → List (List ℕ) → Type 0
Refuses rule [] = Unit {0}
Refuses rule (text ∷ more) = (outcome text ≡ Refused rule (wanted text)) × Refuses rule more

-- no text breaks a rule
abbrev pub Accepts : List (List ℕ) → Type 0
Accepts [] = Unit {0}
Accepts (text ∷ more) = (outcome text ≡ Sound) × Accepts more

-- NAMES

abbrev pub unknown_names : List (List ℕ)
unknown_names =
    codes "fun main() { print(«y») }"
    ∷ codes "fun main() { if true { var x = 2 }; print(«x») }"
    ∷ codes "fun main() { var x = «x» }"
    ∷ codes "type C { var v: Int subscript at(_ i: Int): Int { set(n) { v = n } let { yield «n» } } } fun main() {}"
    ∷ codes "fun f<T>(_ x: T) { print(«T») } fun main() {}"
    ∷ codes "type A { var n: Int fun f() { «g»() } fun g() {} } fun main() {}"
    ∷ []

abbrev pub declared_twice : List (List ℕ)
declared_twice =
    codes "fun main() { var x = 1; var «x» = 2 }"
    ∷ codes "fun f(_ x: Int) -> Int { return 1 } subscript «f»(_ x: Int): Int { yield x } fun main() {}"
    ∷ codes "type A { fun a(_ x: Int) {} var «a»: Int } fun main() {}"
    ∷ codes "conformance A: Movable { fun f() {} } type A { fun «f»() {} } fun main() {}"
    ∷ codes "trait N { fun «copy»() -> Int } fun main() {}"
    ∷ []

abbrev pub unknown_types : List (List ℕ)
unknown_types = codes "fun f(_ x: «Foo») {} fun main() {}" ∷ []

abbrev pub unknown_members : List (List ℕ)
unknown_members = codes "fun main() { print((1).«foo») }" ∷ []

abbrev pub without_main : List (List ℕ)
without_main = codes "«»" ∷ []

-- names in blocks of their own, and a function with the name of a type
abbrev pub named_again : List (List ℕ)
named_again =
    codes "fun main() { var x = 1; if true { var x = 2; print(x) }; print(x) }"
    ∷ codes "type P { var a: Int } fun P(b x: Int) -> P { return P(a: x.copy()) } fun main() { print(P(b: 1).a) }"
    ∷ []

-- TYPES

abbrev pub operands : List (List ℕ)
operands =
    codes "fun main() { print(1 + «true») }"
    ∷ codes "fun main() { print(«true» + 1) }"
    ∷ codes "fun main() { print(true && «1») }"
    ∷ codes "fun main() { print((1 == 1) == «1») }"
    ∷ codes "fun main() { print(«(1, 2)» == (1, 2)) }"
    ∷ codes "fun main() { print(«true» < false) }"
    ∷ codes "fun main() { print(1 + 2 * «false» + true) }"
    ∷ codes "fun main() { print(-«true») }"
    ∷ codes "fun main() { print(!«1») }"
    ∷ codes "fun main() { if «1» {} }"
    ∷ codes "fun main() { while «1» {} }"
    ∷ codes "fun main() { var x = if «1» { 1 } else { 2 } }"
    ∷ []

abbrev pub wanted_types : List (List ℕ)
wanted_types =
    codes "fun f() -> () { «return» } fun main() {}"
    ∷ codes "fun f() { return «1» } fun main() {}"
    ∷ codes "fun f() -> Int { return «true» } fun main() {}"
    ∷ codes "fun f(_ x: Int, _ y: Bool) {} fun main() { f(1, «2») }"
    ∷ codes "fun main() { var x: Bool = «1» }"
    ∷ codes "fun main() { var x = 1; x = «true» }"
    ∷ codes "fun main() { var x = true; «x» += 1 }"
    ∷ codes "fun main() { var x = 1; x += «true» }"
    ∷ codes "fun main() { var a = [1, «true»] }"
    ∷ codes "fun main() { var x = if true { 1 } else if false { «true» } else { 2 } }"
    ∷ codes "fun main() { var x = if true { 1 } else { «false» } }"
    ∷ codes "fun main() { var a = [1]; print(a[«true»]) }"
    ∷ codes "fun main() { print(«[1]») }"
    ∷ codes "fun main() { precondition(«1») }"
    ∷ codes "type P { var x: Int } fun main() { var p = P(x: «true») }"
    ∷ codes "fun f(_ x: inout Int) {} fun main() { var b = true; f(&«b») }"
    ∷ codes "type A { var n: Int fun inc() inout -> Int { n += 1; return n.copy() } } fun main() { var a = A(n: 1); if «&a.inc()» {} }"
    ∷ (codes "type V { var x: Int fun m() -> Int { let { return 1 } inout { x += 1 } } } fun main() { var v = V(x: 1); var a: Int = "
    ++ codes "v.m(); var b: Int = «&v.m()» }")
    ∷ codes "subscript s(_ x: yielded Int): Int { let { yield «true» } } fun main() {}"
    ∷ codes "fun f<T>(_ x: T, _ y: T) {} fun main() { f(1, «true») }"
    ∷ codes "fun f<T>(_ x: Array<T>, _ y: (T, Bool)) {} fun main() { f([1], «(true, true)») }"
    ∷ codes "fun f<T>(_ x: T) -> Array<T> { return Array<T>() } fun main() { var a: Array<Int> = f(1); var b: Array<Int> = «f(true)» }"
    ∷ []

abbrev pub calls : List (List ℕ)
calls =
    codes "fun f(_ x: Int) {} fun main() { «f()» }"
    ∷ codes "fun f(_ x: Int) {} fun main() { «(f())» }"
    ∷ codes "fun f(a x: Int) {} fun main() { «f(b: 1)» }"
    ∷ codes "fun f() {} fun main() { «f[]» }"
    ∷ codes "fun g(_ x: Int) {} fun main() { «g»; g(); g(a: 1); g[1]; g(1) }"
    ∷ codes "fun main() { print(«Int») }"
    ∷ codes "type P { var x: Int var y: Int } fun main() { var p = «P(y: 1, x: 2)» }"
    ∷ codes "type A { var n: Int } type B { var m: Int } fun main() { var b = B(m: 1); print(«b.n[1]») }"
    ∷ codes "type A { var n: Int fun get() -> Int { return 1 } } fun main() { var a = A(n: 1); print(«a.get») }"
    ∷ codes "type A { var n: Int } fun main() { var a = A(n: 1); print(«a.n(1)») }"
    ∷ codes "fun main() { var x = 1; «x(2)» }"
    ∷ codes "fun main() { var x = 1; print(«x[2]») }"
    ∷ codes "fun main() { print(«(1, 2).2») }"
    ∷ codes "fun main() { print(«(1, 2).5».0) }"
    ∷ codes "fun main() { var a = [1]; print(«a[x: 0]») }"
    ∷ codes "fun main() { var a = [1]; &«a.append(1, 2)» }"
    ∷ codes "fun main() { «print(1, 2)» }"
    ∷ codes "trait N { fun id() -> Int } fun f<T>(_ x: T) { print(«x.id()») } fun main() {}"
    ∷ []

abbrev pub sized : List (List ℕ)
sized =
    codes "fun main() { print(Int8(100) + «1») }"
    ∷ codes "fun main() { print(-«UInt8(1)») }"
    ∷ codes "fun main() { print(UInt8(«true»)) }"
    ∷ codes "fun main() { var x: Int8 = «1» }"
    ∷ codes "fun main() { var x = UInt8(1); x += «1» }"
    ∷ codes "fun main() { var a = [1]; print(a[«UInt8(0)»]) }"
    ∷ codes "fun main() { print(UInt16(1) == «UInt32(1)») }"
    ∷ []

abbrev pub not_conversions : List (List ℕ)
not_conversions = codes "fun main() { «Bool(1)» }" ∷ codes "fun main() { «Int8(x: 1)» }" ∷ codes "fun main() { «UInt8(1, 2)» }" ∷ []

abbrev pub sized_sound : List (List ℕ)
sized_sound =
    codes "fun main() { var a = UInt8(250); a += UInt8(5); print(a); print(Int(a) + 1); a += UInt8(1) }"
    ∷ codes "fun main() { var m = UInt64(9223372036854775807); m = m * UInt64(2) + UInt64(1); print(m); print(m > UInt64(1)); print(Int(m)) }"
    ∷ codes "conformance UInt8: Movable { fun next() -> UInt8 { return self + UInt8(1) } } fun main() { print(UInt8(1).next()) }"
    ∷ []

abbrev pub endless : List (List ℕ)
endless =
    codes "type «A» { var a: A } fun main() {}"
    ∷ codes "type A { var b: B } type «B» { var x: (Int, C) } type C { var b: B } fun main() {}"
    ∷ []

abbrev pub undetermined : List (List ℕ)
undetermined = codes "fun f<T>(_ x: Int) {} fun main() { «f(1)» }" ∷ codes "fun f<T, U>(_ x: T) {} fun main() { var y = «f(1)» }" ∷ []

abbrev pub no_return : List (List ℕ)
no_return =
    codes "fun «f»() -> Int {} fun main() {}"
    ∷ codes "fun «f»() -> () {} fun main() {}"
    ∷ codes "fun «f»(_ c: Bool) -> Int { while c { return 1 } } fun main() {}"
    ∷ codes "fun «f»(_ c: Bool) -> Int { if c { return 1 } } fun main() {}"
    ∷ codes "fun «f»(_ c: Bool) -> Int { if c { return 1 } else if c { } else { return 2 } } fun main() {}"
    ∷ codes "type V { var x: Int fun m() -> Int { let { return 1 } inout { x = 2 } «sink» { } } } fun main() {}"
    ∷ codes "type V { var x: Int subscript at(): Int { let { yield x } «sink» { } } } fun main() {}"
    ∷ []

abbrev pub uncopyable : List (List ℕ)
uncopyable =
    codes "type A { var n: Int } fun main() { var a = A(n: 1); var b = «a.copy()» }"
    ∷ codes "type A { var n: Int } type B: Copyable { var a: «A» } fun main() {}"
    ∷ codes "type A { var n: Int } type B { var a: «(Int, A)» } conformance B: Copyable {} fun main() {}"
    ∷ codes "type A { var n: Int } type B { var a: (Int, A) } fun main() { var a = [«B(a: (1, A(n: 2))).a.copy()»] }"
    ∷ codes "fun f<T>(_ x: T) { var y = «x.copy()» } fun main() {}"
    ∷ codes "fun f<T, U: Copyable>(_ x: T, _ y: U) { var z = y.copy(); var w = «[(x, y)].copy()» } fun main() {}"
    ∷ []

abbrev pub sound : List (List ℕ)
sound =
    codes "fun main() {}"
    ∷ (codes "type P { var a: Int var b: (Int, Bool) } fun sum(_ p: P) -> Int { if p.b.1 { return p.a + p.b.0 } else { return 0 } } "
    ++ codes "fun main() { var p = P(a: 1, b: (2, true)); p.a = 5; print(sum(p)) }")
    ∷ codes "type P { var a: Int } fun P(b x: Int) -> P { return P(a: x.copy()) } fun main() { print(P(b: 1).a) }"
    ∷ codes "fun g(_ x: inout Int) {} fun f(_ x: Int) { (g)(&x) } fun main() {}"
    ∷ codes "conformance Int: Movable { fun twice() -> Int { return self + self } } fun main() { print(4.twice()) }"
    ∷ (codes "trait N { fun id() -> Int } type A: N { var n: Int fun id() -> Int { return 1 } } conformance Int: N { fun id() -> "
    ++ codes "Int { return self + 100 } } fun show<T: N>(_ x: T) { print(x.id()) } fun main() { show(A(n: 0)); show(7) }")
    ∷ codes "fun f<T: Copyable>(_ x: T) { f((x.copy(), x.copy())) } fun main() { f(1) }"
    ∷ (codes "type Tree: Copyable { var kids: Array<Tree> } fun main() { var t = Tree(kids: [Tree(kids: Array<Tree>())]); var u = "
    ++ codes "t.copy(); print(u.kids.count) }")
    ∷ (codes "type M { var mm: Int subscript cm(): Int { inout { var d = mm / 10; yield &d; mm = d * 10 } } } fun main() { var m = "
    ++ codes "M(mm: 250); inout c = &m.cm[]; c += 1; print(c); print(m.mm) }")
    ∷ (codes "type C { var v: Int subscript at(): Int { let { yield v } inout { yield &v } set(new_value) { print(-1); v = "
    ++ codes "new_value } } } fun main() { var c = C(v: 1); c.at[] = 5; c.at[] += 2; print(c.at[]) }")
    ∷ codes "type C { var v: Array<Int> subscript(_ i: Int): Int { yield v[i] } } fun main() { var c = C(v: [1]); print(c[0] + c.v[0]) }"
    ∷ codes "fun main() { var a = [1, 2]; &a.append(3); print(&a.remove_last()); &a.swap_at(0, 1); print(a.count); print(a[0] == 2) }"
    ∷ []

-- VARIANTS AND TYPES

-- each call at its marks picks this variant
abbrev pub Picks : Mode → List (List ℕ) → Type 0
Picks mode [] = Unit {0}
Picks mode (text ∷ more) = (picked text ≡ Some mode) × Picks mode more

-- each expression at its marks has this type
abbrev pub HaveType : PlainType → List (List ℕ) → Type 0
HaveType type [] = Unit {0}
HaveType type (text ∷ more) = (type_found text ≡ Some type) × HaveType type more

-- a method bundle and a subscript, in front of the statements of `main`
abbrev pub with_members : List ℕ → List ℕ
with_members statements =
    codes "type V: Copyable { var x: Int fun m() -> Int { let { return 1 } inout { x += 1 } sink { return 2 } } } "
    ++ (codes "type C { var v: V subscript at(): V { let { yield v } inout { yield &v } set(n) { v = n } sink { return v } } } "
    ++ (codes "fun main() { var v = V(x: 1); var c = C(v: V(x: 2)); " ++ (statements ++ codes " }")))

abbrev pub picks_let : List (List ℕ)
picks_let =
    with_members (codes "«v.m()»")
    ∷ with_members (codes "«c.v.m()»")
    ∷ with_members (codes "print(«c.at[]».x)")
    ∷ with_members (codes "let y = «c.at[]»")
    ∷ with_members (codes "print(«c.at[]».m())")
    ∷ with_members (codes "var y = «c.at[]».x") ∷ []

abbrev pub picks_inout : List (List ℕ)
picks_inout =
    with_members (codes "&«v.m()»")
    ∷ with_members (codes "inout y = &«c.at[]»")
    ∷ with_members (codes "«c.at[]».x = 3")
    ∷ with_members (codes "«c.at[]».x += 3")
    ∷ with_members (codes "&«c.at[]».m()")
    ∷ []

abbrev pub picks_sink : List (List ℕ)
picks_sink = with_members (codes "«V(x: 3).m()»") ∷ with_members (codes "var y = «c.at[]»") ∷ with_members (codes "c.v = «c.at[]»") ∷ []

abbrev pub picks_set : List (List ℕ)
picks_set = with_members (codes "«c.at[]» = V(x: 3)") ∷ []

abbrev pub integers : List (List ℕ)
integers =
    with_members (codes "print(«c.at[].x + 1»)")
    ∷ with_members (codes "var y = «v.m()»")
    ∷ codes "fun id<T: Movable>(_ x: sink T) -> T { return x } fun main() { print(«id(7)») }"
    ∷ []

abbrev pub nothings : List (List ℕ)
nothings = with_members (codes "&«v.m()»") ∷ codes "fun f() {} fun main() { «f()» }" ∷ []

-- each expression at its marks begins so, and has so many steps
abbrev pub Begins : Root → ℕ → List (List ℕ) → Type 0
Begins root steps [] = Unit {0}
Begins root steps (text ∷ more) = (shape_found text ≡ Some (root, steps)) × Begins root steps more

abbrev pub temporaries : List (List ℕ)
temporaries = with_members (codes "print(«V(x: 3).x»)") ∷ with_members (codes "print(«c.v.copy().x»)") ∷ []

abbrev pub in_self : List (List ℕ)
in_self =
    codes "type A { var n: Array<Int> fun f() { print(«n[0]») } } fun main() {}"
    ∷ codes "type A { var n: Array<Int> fun f() { print(«self.n[0]») } } fun main() {}"
    ∷ codes "type A { var n: (Int, (Int, Int)) subscript s(): (Int, Int) { yield «n.1» } } fun main() {}"
    ∷ []
