-- The rules by which a source is refused: the place of each in their table, its name and its text.
use Rattle.std.specs.Prelude.{ℕ, List, codes}
use Rattle.hy_base.specs.declared.refusal.Rule.{Rule}
use Rattle.hy_base.specs.declared.refusal.Rule.TheVariants.{Z1, L1, L2, L3, L4, P1, P2, N1, N2, N3, N4, N5, X1, T1, T2, T3, T4, T5, T6, R1, R2, R3, R4, G1}
use Rattle.hy_base.specs.declared.refusal.Rule.TheVariants.{G2, G3, C1, C2, C3, C4, Y1, Y2, Y3, Y4, Y5, I1, I2, I3, E1, E2}

-- the place of a rule in their table
abbrev pub place_of : Rule → ℕ
place_of Z1 = 0
place_of L1 = 1
place_of L2 = 2
place_of L3 = 3
place_of L4 = 4
place_of P1 = 5
place_of P2 = 6
place_of N1 = 7
place_of N2 = 8
place_of N3 = 9
place_of N4 = 10
place_of N5 = 11
place_of X1 = 12
place_of T1 = 13
place_of T2 = 14
place_of T3 = 15
place_of T4 = 16
place_of T5 = 17
place_of T6 = 18
place_of R1 = 19
place_of R2 = 20
place_of R3 = 21
place_of R4 = 22
place_of G1 = 23
place_of G2 = 24
place_of G3 = 25
place_of C1 = 26
place_of C2 = 27
place_of C3 = 28
place_of C4 = 29
place_of Y1 = 30
place_of Y2 = 31
place_of Y3 = 32
place_of Y4 = 33
place_of Y5 = 34
place_of I1 = 35
place_of I2 = 36
place_of I3 = 37
place_of E1 = 38
place_of E2 = 39

abbrev pub name_of : Rule → List ℕ
name_of Z1 = codes "Z1"
name_of L1 = codes "L1"
name_of L2 = codes "L2"
name_of L3 = codes "L3"
name_of L4 = codes "L4"
name_of P1 = codes "P1"
name_of P2 = codes "P2"
name_of N1 = codes "N1"
name_of N2 = codes "N2"
name_of N3 = codes "N3"
name_of N4 = codes "N4"
name_of N5 = codes "N5"
name_of X1 = codes "X1"
name_of T1 = codes "T1"
name_of T2 = codes "T2"
name_of T3 = codes "T3"
name_of T4 = codes "T4"
name_of T5 = codes "T5"
name_of T6 = codes "T6"
name_of R1 = codes "R1"
name_of R2 = codes "R2"
name_of R3 = codes "R3"
name_of R4 = codes "R4"
name_of G1 = codes "G1"
name_of G2 = codes "G2"
name_of G3 = codes "G3"
name_of C1 = codes "C1"
name_of C2 = codes "C2"
name_of C3 = codes "C3"
name_of C4 = codes "C4"
name_of Y1 = codes "Y1"
name_of Y2 = codes "Y2"
name_of Y3 = codes "Y3"
name_of Y4 = codes "Y4"
name_of Y5 = codes "Y5"
name_of I1 = codes "I1"
name_of I2 = codes "I2"
name_of I3 = codes "I3"
name_of E1 = codes "E1"
name_of E2 = codes "E2"

-- what is said to the user
abbrev pub text_of : Rule → List ℕ
text_of Z1 = codes "source too long"
text_of L1 = codes "bad character"
text_of L2 = codes "open comment"
text_of L3 = codes "literal too large"
text_of L4 = codes "not UTF-8"
text_of P1 = codes "unexpected token"
text_of P2 = codes "nested too deep"
text_of N1 = codes "unknown name"
text_of N2 = codes "declared twice"
text_of N3 = codes "unknown type or trait"
text_of N4 = codes "unknown member"
text_of N5 = codes "there is no fun main()"
text_of X1 = codes "not built yet"
text_of T1 = codes "type differs"
text_of T2 = codes "no such member, labels or count"
text_of T3 = codes "type of endless size"
text_of T4 = codes "type argument not determined"
text_of T5 = codes "path without a result"
text_of T6 = codes "not copyable"
text_of R1 = codes "requirement missing"
text_of R2 = codes "signature differs"
text_of R3 = codes "bound not met"
text_of R4 = codes "conformance twice"
text_of G1 = codes "too many instances"
text_of G2 = codes "type too large"
text_of G3 = codes "program too large"
text_of C1 = codes "place is immutable"
text_of C2 = codes "mark missing or not wanted"
text_of C3 = codes "no such variant"
text_of C4 = codes "not a place"
text_of Y1 = codes "no yield on a path"
text_of Y2 = codes "two yields on a path"
text_of Y3 = codes "yield in a loop"
text_of Y4 = codes "yield outside a subscript"
text_of Y5 = codes "form of yield"
text_of I1 = codes "use of an unset place"
text_of I2 = codes "place unset at exit"
text_of I3 = codes "move not allowed"
text_of E1 = codes "overlaps a live projection"
text_of E2 = codes "accesses overlap"
