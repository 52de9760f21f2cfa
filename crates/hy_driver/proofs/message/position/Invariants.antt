use Rattle.std.proofs.Common.{◌≡◌, ◌≤◌, ◌+◌, ◌==◌, take, count_by, fold, if◌then◌else◌}
use Rattle.hy_driver.proofs.message.position.Given as goal

abbrev pub invariant-loop-byte : goal.invariant-loop-byte
invariant-loop-byte l = record {
  line : l.line ≡ 1 + count_by (λ byte. byte == 10) (take l.byte-index l.before);
  column : l.column ≡ fold (λ column byte. if byte == 10 then 1 else column + 1) 1 (take l.byte-index l.before);
  line_small : l.line ≤ l.byte-index + 1;
  column_small : l.column ≤ l.byte-index + 1;
}
