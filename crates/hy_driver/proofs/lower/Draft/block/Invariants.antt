use Rattle.std.proofs.Common.{◌≡◌, List, ◌++◌, drop, length}
use Rattle.hy_base.specs.declared.position.Span.{Span}
use Rattle.hy_tree.specs.Denotes.{stmts_of}
use Rattle.hy_object.specs.declared.instr.Instr.{Instr}
use Rattle.hy_driver.specs.Lower.{block_code, block_spans, declared}
use Rattle.hy_driver.proofs.lower.Draft.block.Given as goal

abbrev pub invariant-loop-stmt : goal.invariant-loop-stmt
invariant-loop-stmt l = record {
  names : declared l.scope (stmts_of (drop l.stmt-index l.stmts)) ≡ declared l.initial.scope (stmts_of l.stmts);
  code : (rest : List Instr)
      → l.self.code ++ block_code l.scope (length l.self.spans) (stmts_of (drop l.stmt-index l.stmts)) rest ≡ l.initial.self.code ++ block_code
      l.initial.scope (length l.initial.self.spans) (stmts_of l.stmts) rest;
  spans : (rest : List Span) → l.self.spans ++ block_spans (stmts_of (drop l.stmt-index l.stmts)) rest ≡ l.initial.self.spans ++ block_spans
      (stmts_of l.stmts) rest;
}
