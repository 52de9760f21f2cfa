-- Whole programs, line by line, that break no rule on types.
use Rattle.std.specs.Prelude.{ℕ, List, [], ◌∷◌, ◌++◌, codes}

-- the lines of a text, each ended by a line feed
abbrev pub lines : List (List ℕ) → List ℕ
lines [] = []
lines (line ∷ more) = line ++ (10 ∷ lines more)

abbrev pub two_slides : List ℕ
two_slides =
    lines (
    codes "type D { var k: Int  deinit { print(k) } }"
    ∷ codes "subscript s(_ k: Int, _ x: yielded Int): Int {"
    ∷ codes "  inout {"
    ∷ codes "    print(k)"
    ∷ codes "    yield &x"
    ∷ codes "    print(k + 100)"
    ∷ codes "  }"
    ∷ codes "}"
    ∷ codes "fun main() {"
    ∷ codes "  var u = 1"
    ∷ codes "  var v = 2"
    ∷ codes "  inout a = &s[1, &u]"
    ∷ codes "  inout b = &s[2, &v]"
    ∷ codes "  a += 10"
    ∷ codes "  b += 20"
    ∷ codes "  print(u)"
    ∷ codes "  print(v)"
    ∷ codes "}"
    ∷ [])

abbrev pub early_return : List ℕ
early_return =
    lines (
    codes "type D { var k: Int  deinit { print(k) } }"
    ∷ codes "subscript s(_ k: Int, _ x: yielded Int): Int {"
    ∷ codes "  inout {"
    ∷ codes "    print(k)"
    ∷ codes "    yield &x"
    ∷ codes "    print(k + 100)"
    ∷ codes "  }"
    ∷ codes "}"
    ∷ codes "fun f() -> Int {"
    ∷ codes "  var u = 1"
    ∷ codes "  var v = 2"
    ∷ codes "  while true {"
    ∷ codes "    inout a = &s[1, &u]"
    ∷ codes "    var d = D(k: 7)"
    ∷ codes "    inout b = &s[2, &v]"
    ∷ codes "    a += 1"
    ∷ codes "    if a == 2 { return a + b + d.k }"
    ∷ codes "    b += d.k"
    ∷ codes "  }"
    ∷ codes "  return 0"
    ∷ codes "}"
    ∷ codes "fun main() { print(f()) }"
    ∷ [])

abbrev pub bundle : List ℕ
bundle =
    lines (
    codes "type V: Copyable { var x: Int  var y: Int"
    ∷ codes "  fun moved(by d: Int) -> V {"
    ∷ codes "    let { return V(x: x + d, y: y.copy()) }"
    ∷ codes "    inout { x += d }"
    ∷ codes "    sink { x += d; return self }"
    ∷ codes "  }"
    ∷ codes "}"
    ∷ codes "fun main() {"
    ∷ codes "  var v = V(x: 1, y: 2)"
    ∷ codes "  let w = v.moved(by: 10)"
    ∷ codes "  &v.moved(by: 5)"
    ∷ codes "  print(w.x)"
    ∷ codes "  print(v.x)"
    ∷ codes "  print(v.copy().moved(by: 100).x)"
    ∷ codes "}"
    ∷ [])

abbrev pub accounts : List ℕ
accounts =
    lines (
    codes "trait Priced { fun fee() -> Int }"
    ∷ codes "public type Account: Copyable {"
    ∷ codes "  public var id: Int"
    ∷ codes "  public var cents: Int"
    ∷ codes "  public memberwise init"
    ∷ codes "  fun can_pay(_ k: Int) -> Bool { return cents >= k }"
    ∷ codes "}"
    ∷ codes "type Flat: Priced {"
    ∷ codes "  var k: Int"
    ∷ codes "  fun fee() -> Int { return k.copy() }"
    ∷ codes "}"
    ∷ codes "fun find(_ id: Int, among rows: Array<Account>) -> Int {"
    ∷ codes "  var i = 0"
    ∷ codes "  while i < rows.count {"
    ∷ codes "    if rows[i].id == id { return i }"
    ∷ codes "    i += 1"
    ∷ codes "  }"
    ∷ codes "  precondition(false)"
    ∷ codes "  return 0"
    ∷ codes "}"
    ∷ codes "type Bank {"
    ∷ codes "  var rows: Array<Account>"
    ∷ codes "  var moved: Int"
    ∷ codes "  subscript row(_ id: Int): Account {"
    ∷ codes "    let {"
    ∷ codes "      let i = find(id, among: rows)"
    ∷ codes "      yield rows[i]"
    ∷ codes "    }"
    ∷ codes "    inout {"
    ∷ codes "      let i = find(id, among: rows)"
    ∷ codes "      yield &rows[i]"
    ∷ codes "      moved += 1"
    ∷ codes "    }"
    ∷ codes "  }"
    ∷ codes "  fun pay<T: Priced>(_ k: Int, from a: Int, to b: Int, at price: T) inout -> Bool {"
    ∷ codes "    let cost = k + price.fee()"
    ∷ codes "    if !self.row[a].can_pay(cost) { return false }"
    ∷ codes "    inout x = &self.row[a]"
    ∷ codes "    x.cents -= cost"
    ∷ codes "    inout y = &self.row[b]"
    ∷ codes "    y.cents += k"
    ∷ codes "    return true"
    ∷ codes "  }"
    ∷ codes "  fun total() -> Int {"
    ∷ codes "    var s = 0"
    ∷ codes "    var i = 0"
    ∷ codes "    while i < rows.count {"
    ∷ codes "      s += rows[i].cents"
    ∷ codes "      i += 1"
    ∷ codes "    }"
    ∷ codes "    return s"
    ∷ codes "  }"
    ∷ codes "}"
    ∷ codes "fun main() {"
    ∷ codes "  var bank = Bank(rows: [Account(id: 7, cents: 1000), Account(id: 9, cents: 50)], moved: 0)"
    ∷ codes "  let price = Flat(k: 5)"
    ∷ codes "  var n = read()"
    ∷ codes "  while n > 0 {"
    ∷ codes "    let a = read()"
    ∷ codes "    let b = read()"
    ∷ codes "    let k = read()"
    ∷ codes "    if &bank.pay(k, from: a, to: b, at: price) { print(k) } else { print(-1) }"
    ∷ codes "    n -= 1"
    ∷ codes "  }"
    ∷ codes "  print(bank.row[7].cents)"
    ∷ codes "  print(bank.row[9].cents)"
    ∷ codes "  print(bank.total())"
    ∷ codes "  print(bank.moved)"
    ∷ codes "}"
    ∷ [])

abbrev pub programs : List (List ℕ)
programs = two_slides ∷ early_return ∷ bundle ∷ accounts ∷ []
