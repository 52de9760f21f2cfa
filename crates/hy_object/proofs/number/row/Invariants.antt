use Rattle.std.proofs.Common.{◌≡◌, ◌-◌, take, length, []}
use Rattle.hy_object.specs.Reading.{read_row}
use Rattle.hy_object.proofs.number.row.Given as goal

abbrev pub invariant-loop-i : goal.invariant-loop-i
invariant-loop-i g l = (length l.row ≡ g.row.N) × (read_row (g.row.N - l.i) (take l.i l.row) l.rest ≡ read_row g.row.N [] l.bytes)
