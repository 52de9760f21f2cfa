-- Small programs and the first rule on conventions and yields that each breaks.
use Rattle.std.specs.Prelude.{◌≡◌, ℕ, List, [], ◌∷◌, ◌++◌, Result, Ok, Err, codes}
use Rattle.hy_base.specs.declared.position.Span.{Span}
use Rattle.hy_base.specs.declared.refusal.Rule.{Rule}
use Rattle.hy_tree.specs.Findings.{findings}
use Rattle.hy_tree.specs.Names.{or}
use Rattle.hy_tree.specs.Numbers.{number_program}
use Rattle.hy_tree.specs.Tree as T
use Rattle.hy_check.specs.Refusals as types
use Rattle.hy_check_examples.specs.Reader.{Outcome, NoProgram, Refused, Sound, reading, tree_of, first_name, first_of, refused, wanted}
use Rattle.hy_conv.specs.Conventions as conventions
use Rattle.hy_conv.specs.Yields as yields

-- the first rule of all on names, types, conventions and yields, in this order
abbrev judged : T.Program → Outcome
judged p =
    refused (or (first_name (findings p))
    (or (first_of (types.refusals p)) (or (first_of (conventions.refusals p)) (first_of (yields.refusals p)))))

abbrev outcome_of : Result T.Program ℕ → Outcome
outcome_of (Err left) = NoProgram left
outcome_of (Ok tree) = judged (number_program tree)

unfoldable pub outcome : List ℕ → Outcome
outcome text = outcome_of (tree_of (reading text).tokens)

-- each text breaks the rule at its marks
abbrev pub Refuses : Rule → List (List ℕ) → Type 0
Refuses rule [] = Unit {0}
Refuses rule (text ∷ more) = (outcome text ≡ Refused rule (wanted text)) × Refuses rule more

-- no text breaks a rule
abbrev pub Accepts : List (List ℕ) → Type 0
Accepts [] = Unit {0}
Accepts (text ∷ more) = (outcome text ≡ Sound) × Accepts more

abbrev pub unchangeable : List (List ℕ)
unchangeable =
    codes "fun f(_ x: Int) { «x» = 2 } fun main() {}"
    ∷ codes "type C { var v: Int subscript at(): Int { inout { yield &v } } } fun f(_ c: C) { «c.at[]» = 5 } fun main() {}"
    ∷ codes "type A { var n: Int fun get() -> Int { return 1 } } fun f(_ a: A) { print(&«a».get()) } fun main() {}"
    ∷ codes "fun g(_ x: inout Int) {} fun f(_ x: Int) { (g)(&«x») } fun main() {}"
    ∷ codes "fun main() { let x = 1; «x» += 1 }"
    ∷ codes "fun main() { var p = (1, 2); let x = p.0; inout y = &«x» }"
    ∷ codes "type A { var n: Int fun f() { «n» = 1 } } fun main() {}"
    ∷ codes "type A { var n: Int fun f() { «self.n» += 1 } } fun main() {}"
    ∷ codes "fun f(_ a: Array<Int>) { «a[0]» = 1 } fun main() {}"
    ∷ codes "fun f(_ a: Array<Int>) { &«a».append(1) } fun main() {}"
    ∷ codes "subscript s(_ x: yielded Int): Int { let { «x» = 1; yield x } inout { yield &x } } fun main() {}"
    ∷ codes "subscript s(_ x: Int): Int { inout { yield &«x» } } fun main() {}"
    ∷ []

abbrev pub badly_marked : List (List ℕ)
badly_marked =
    codes "type A { var n: Int fun get() -> Int { return 1 } } fun main() { var a = A(n: 1); print(«&a.get()») }"
    ∷ codes "type A { var n: Int fun inc() inout { n += 1 } } fun f(_ a: A) { «a.inc()» } fun main() {}"
    ∷ codes "fun f() -> Int { return 1 } fun main() { inout x = «f()» }"
    ∷ codes "fun f(_ x: inout Int, _ y: Int) {} fun main() { var a = 1; f(«a», a) }"
    ∷ codes "fun f(_ x: set Int) { x = 1 } fun main() { var a: Int; f(«a») }"
    ∷ codes "fun f(_ x: Int) {} fun main() { var a = 1; f(&«a») }"
    ∷ codes "fun main() { var a = 1; print(&«a») }"
    ∷ codes "fun main() { var a = [1]; «a.append(2)» }"
    ∷ codes "fun main() { var a = [1]; print(«a.remove_last()») }"
    ∷ codes "type A { var n: Int fun inc() inout -> A { n += 1; return A(n: 0) } } fun main() { var a = A(n: 1); print(«a.inc()».n) }"
    ∷ codes "fun main() { var a = 1; let x = &«a» }"
    ∷ codes "fun main() { var a = 1; print(«&a.copy()») }"
    ∷ []

abbrev pub without_variant : List (List ℕ)
without_variant =
    (codes "type A { var n: Int fun inc() inout { n += 1 } } type B { var a: A subscript at(): A { let { yield a } inout { yield &a } } } "
    ++ codes "fun main() { var b = B(a: A(n: 1)); «b.at[]».inc() }")
    ∷ codes "type B { var a: Int subscript at(): Int { let { yield a } } } fun main() { var b = B(a: 1); «b.at[]» = 2 }"
    ∷ codes "subscript s(_ x: yielded Int): Int { inout { yield &x } } fun main() { var a = 1; print(«s[a]») }"
    ∷ codes "subscript s(_ x: yielded Int): Int { let { yield x } } fun main() { var a = 1; var b = «s[a]» }"
    ∷ []

abbrev pub no_places : List (List ℕ)
no_places =
    codes "fun f() -> Int { return 1 } fun main() { inout x = «&f()» }"
    ∷ codes "type A { var n: Int fun get() -> Int { return 1 } } fun g(_ x: inout Int) {} fun main() { var a = A(n: 1); g(«a.get()») }"
    ∷ codes "type A { var n: Int fun inc() inout { n += 1 } } fun main() { &«A(n: 1)».inc() }"
    ∷ codes "fun f() -> Int { return 1 } fun main() { «f()» = 2 }"
    ∷ codes "fun f() -> Int { return 1 } fun main() { «f()» += 2 }"
    ∷ []

abbrev pub paths_without_yield : List (List ℕ)
paths_without_yield =
    codes "subscript p(_ c: Bool, _ x: yielded Int): Int { «let» { if c { yield x } } } fun main() {}"
    ∷ codes "«subscript» p(_ x: yielded Int): Int {} fun main() {}"
    ∷ codes "subscript p(_ x: yielded Int): Int { let { yield x } «inout» { while true { return }; yield &x } } fun main() {}"
    ∷ codes "subscript p(_ x: yielded Int): Int { «let» { while true { yield x } } } fun main() {}"
    ∷ codes "subscript p(_ c: Bool, _ x: yielded Int): Int { «let» { if c { yield x } else if !c { yield x } } } fun main() {}"
    ∷ codes "subscript p(_ x: yielded Int): Int { «let» { return; yield x } } fun main() {}"
    ∷ []

abbrev pub yields_after_others : List (List ℕ)
yields_after_others =
    codes "subscript p(_ c: Bool, _ x: yielded Int): Int { let { if c { yield x }; «yield» x } } fun main() {}"
    ∷ codes "fun main() { while true { «yield» 1 } }"
    ∷ codes "subscript p(_ x: yielded Int): Int { let { yield x; while true { «yield» x } } } fun main() {}"
    ∷ codes "subscript p(_ c: Bool, _ x: yielded Int): Int { let { if c { yield x } else { yield x; «yield» x } } } fun main() {}"
    ∷ []

abbrev pub yields_in_loops : List (List ℕ)
yields_in_loops =
    codes "subscript p(_ x: yielded Int): Int { let { while true { «yield» x; break }; yield x } } fun main() {}"
    ∷ codes "subscript p(_ x: yielded Int): Int { let { yield x; return; while true { «yield» x } } } fun main() {}"
    ∷ []

abbrev pub yields_elsewhere : List (List ℕ)
yields_elsewhere =
    codes "fun f(_ x: Int) { «yield» x } fun main() {}"
    ∷ codes "subscript p(_ x: yielded Int): Int { let { yield x } sink { «yield» x; return 1 } } fun main() {}"
    ∷ codes "type A { var n: Int deinit { «yield» n } } fun main() {}"
    ∷ []

abbrev pub yielded_badly : List (List ℕ)
yielded_badly =
    codes "type A { var n: Int subscript at(): Int { let { yield &«n» } } } fun main() {}"
    ∷ codes "subscript p(_ x: yielded Int): Int { inout { yield «x» } } fun main() {}"
    ∷ codes "subscript p(_ x: yielded Int): Int { let { yield «1» } } fun main() {}"
    ∷ codes "subscript p(_ x: yielded Int): Int { let { yield «x + 1» } } fun main() {}"
    ∷ []

abbrev pub sound : List (List ℕ)
sound =
    codes "fun main() { var x = 1; &x += 1; print(x) }"
    ∷ codes "fun main() { var x = 1; &x = 2; x = 3 }"
    ∷ codes "fun f(_ x: inout Int) { x += 1 } fun main() { var a = 1; f(&a); inout b = &a; b += 1; f(&b) }"
    ∷ codes "fun f(_ x: sink Int) { x = 1 } fun main() { f(2) }"
    ∷ codes "type A { var n: Int fun set_to(_ x: sink Int) sink { n = x } fun inc() inout { n += 1 } } fun main() { var a = A(n: 1); &a.inc() }"
    ∷ codes "type V { var x: Int fun m() -> Int { let { return 1 } inout { x += 1 } } } fun main() { var v = V(x: 1); print(v.m()); &v.m() }"
    ∷ (codes "type C { var v: Int subscript at(_ i: Int): Int { let { yield v } inout { yield &v } set(n) { n += 1; v = n } } } "
    ++ codes "fun main() { var c = C(v: 1); c.at[0] = 2; c.at[1] += 3; print(c.at[2]) }")
    ∷ codes "fun main() { var a = [1, 2]; a[0] = 3; &a.append(4); print(&a.remove_last()); print(a.count) }"
    ∷ codes "type D { var n: Int deinit { n = 0 } } fun main() { var d = D(n: 1) }"
    ∷ codes "type A { var n: Int } fun main() { A(n: 1).n = 2 }"
    ∷ codes "subscript p(_ c: Bool, _ x: yielded Int): Int { let { if c { yield x } else { yield x } } inout { yield &x; return; yield &x } } fun main() {}"
    ∷ codes "subscript p(_ c: Bool, _ x: yielded Int): Int { let { while c { if !c { break }; continue }; yield x } } fun main() {}"
    ∷ []
