-- Inputs, limits on turns and on events, and integers of the sized types.
use Rattle.std.specs.Prelude.{ℕ, List, [], ◌∷◌, ◌++◌, codes, replicate}
use Rattle.hy_base.specs.declared.run.TrapKind.TheVariants as trap
use Rattle.hy_copying.specs.Runs.{Prints, Reads, TakesTurn, Opens}
use Rattle.hy_copying_examples.specs.Rows.{Row, does, given, trapped, spent, asks, stops, lines}

abbrev indexed : List ℕ
indexed = codes "fun main() { var a = [10, 20]; var i = read(); print(a.count); print(a[i]) }"

abbrev two_reads : List ℕ
two_reads = codes "fun main() { print(read()); print(read()) }"

abbrev one_read : List ℕ
one_read = codes "fun main() { print(«read()») }"

abbrev pub inputs : List Row
inputs =
    given (does (codes "2/20") indexed 4 4) (codes "1") 1
    ∷ given (does (codes "2/20") indexed 4 4) (lines (codes "1")) 2
    ∷ trapped (given (does (codes "2") (codes "fun main() { var a = [10, 20]; var i = read(); print(a.count); print(a[«i»]) }") 1 0) (codes "2") 1) trap.Index
    ∷ trapped (given (does (codes "2") (codes "fun main() { var a = [10, 20]; var i = read(); print(a.count); print(a[«i»]) }") 1 0) (codes "-1") 2) trap.Index
    ∷ trapped (does [] one_read 1 0) trap.Input
    ∷ trapped (given (does [] one_read 1 0) (codes "x") 1) trap.Input
    ∷ trapped (given (does [] one_read 1 0) (10 ∷ []) 1) trap.Input
    ∷ trapped (given (does [] one_read 1 0) (lines (codes "-/7")) 2) trap.Input
    ∷ trapped (given (does [] one_read 1 0) (lines (codes "9223372036854775808/7")) 20) trap.Input
    ∷ given (does (codes "-9223372036854775808") one_read 1 0) (lines (codes "-9223372036854775808/7")) 21
    ∷ given (does (codes "1") one_read 1 0) (32 ∷ 48 ∷ 49 ∷ 32 ∷ 13 ∷ 10 ∷ 55 ∷ []) 6
    ∷ trapped (given (does [] one_read 1 0) (replicate 5000 49) 4097) trap.Input
    ∷ given (does (codes "1") one_read 1 0) (replicate 4095 48 ++ (49 ∷ 10 ∷ 50 ∷ [])) 4097
    ∷ given (does (codes "2") (codes "fun main() { print(read() - read()) }") 1 0) (lines (codes "5/3")) 4
    ∷ given (does (codes "5/true") (codes "fun main() { print(5); print(read() == 7 || read() == 8) }") 1 0) (lines (codes "6/8/9")) 4
    ∷ given (does (codes "5/6") two_reads 1 0) (codes "5" ++ (10 ∷ codes "6")) 3
    ∷ []

abbrev pub cut_inputs : List Row
cut_inputs =
    asks (given (does (codes "5") two_reads 1 0) (lines (codes "5")) 2)
    ∷ asks (given (does [] two_reads 1 0) (codes "5") 0)
    ∷ asks (does [] two_reads 1 0)
    ∷ trapped (asks (given (does [] one_read 1 0) (replicate 4097 49) 4097)) trap.Input
    ∷ []

abbrev limited : List ℕ
limited = codes "fun f() -> Int { print(1); return 2 } fun main() { print(0); print(f()); var a = [7]; print(a[0]) }"

abbrev pub turns : List Row
turns =
    spent (does [] limited 0 0) 0
    ∷ spent (does (codes "0") limited 0 0) 1
    ∷ spent (does (codes "0/1/2/7") limited 0 2) 2
    ∷ spent (does (codes "0/1/2/7") limited 0 2) 3
    ∷ does (codes "0/1/2/7") limited 4 3
    ∷ spent (does (codes "1/2") (codes "fun f() -> Int { return f() } fun main() { print(1); print(2); print(f()) }") 0 0) 20
    ∷ []

abbrev counted : List ℕ
counted = codes "fun main() { var i = 0; while i < 10 { print(i); i += 1 } }"

abbrev pub states : List Row
states =
    stops (does [] limited 0 0) 0 TakesTurn
    ∷ stops (does [] limited 1 0) 1 (Prints (lines (codes "0")))
    ∷ stops (does (codes "0") limited 1 0) 2 TakesTurn
    ∷ stops (does (codes "0") limited 2 0) 3 (Prints (lines (codes "1")))
    ∷ stops (does (codes "0/1") limited 2 0) 4 (Prints (lines (codes "2")))
    ∷ stops (does (codes "0/1/2") limited 2 0) 5 Opens
    ∷ stops (does (codes "0/1/2") limited 2 1) 6 (Prints (lines (codes "7")))
    ∷ stops (does (codes "0/1/2/7") limited 2 1) 7 Opens
    ∷ stops (does (codes "0/1/2/7") limited 2 2) 8 TakesTurn
    ∷ stops (does (codes "0/1/2/7") limited 3 2) 9 TakesTurn
    ∷ stops (does (codes "0/1/2/7") limited 4 2) 10 Opens
    ∷ stops (given (does (codes "5") two_reads 1 0) (lines (codes "5")) 2) 3 Reads
    ∷ stops (does (codes "0/1/2") counted 5 0) 8 (Prints (lines (codes "3")))
    ∷ stops (does [] (codes "fun main() { var x = 40; x = x + 2; print(x) }") 1 0) 1 (Prints (lines (codes "42")))
    ∷ []

abbrev pub sized : List Row
sized =
    trapped (does (codes "255/256")
    (codes "fun main() { var a = UInt8(250); a += UInt8(5); print(a); print(Int(a) + 1); «a += UInt8(1)» }") 1 0) trap.Overflow
    ∷ trapped (does (codes "18446744073709551615/true")
    (codes "fun main() { var m = UInt64(9223372036854775807); m = m * UInt64(2) + UInt64(1); print(m); print(m > UInt64(1)); print(«Int(m)») }") 1 0)
    trap.Overflow
    ∷ trapped (does [] (codes "fun main() { print(«UInt64(0 - 1)») }") 1 0) trap.Overflow
    ∷ trapped (does (codes "-128") (codes "fun main() { print(-Int8(100) - Int8(28)); print(«Int8(-128) / Int8(-1)») }") 1 0) trap.Overflow
    ∷ trapped (does [] (codes "fun main() { print(«-Int8(-128)») }") 1 0) trap.Overflow
    ∷ trapped (does [] (codes "fun main() { print(1 + Int(«UInt8(200) + UInt8(56)»)) }") 1 0) trap.Overflow
    ∷ trapped (does (codes "200") (codes "fun main() { print(UInt8(200)); print(«Int8(UInt8(200))») }") 1 0) trap.Overflow
    ∷ trapped (does [] (codes "fun main() { print(«UInt32(1) % UInt32(0)») }") 1 0) trap.Divide
    ∷ does (codes "65535/-32768/4294967295/true/false")
    (codes "fun main() { print(UInt16(65535)); print(Int16(-32768)); print(UInt32(4294967295)); print(Int32(3) == Int32(3)); "
    ++ codes "print(Int16(-3) >= Int16(-2)) }") 1 0
    ∷ does (codes "110")
    (codes "trait Grown { fun grown() -> Int } conformance UInt8: Grown { fun grown() -> Int { return Int(self) + 100 } } "
    ++ codes "fun show<T: Grown>(_ x: T) { print(x.grown()) } fun main() { show(UInt8(10)) }") 3 2
    ∷ []
