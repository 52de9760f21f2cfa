use Rattle.std.proofs.Common.{◌≡◌, List, ◌++◌, drop, length}
use Rattle.hy_base.specs.declared.position.Span.{Span}
use Rattle.hy_tree.specs.Denotes.{links_of}
use Rattle.hy_object.specs.declared.instr.Instr.{Instr}
use Rattle.hy_driver.specs.Lower.{more_code, more_spans}
use Rattle.hy_driver.proofs.lower.Draft.add.Given as goal

abbrev pub invariant-loop-link : goal.invariant-loop-link
invariant-loop-link l = record {
  code : (rest : List Instr)
      → l.self.code ++ more_code l.scope (length l.self.spans) (links_of (drop l.link-index l.links)) rest ≡ l.initial.self.code ++ more_code l.scope
      (length l.initial.self.spans) (links_of l.links) rest;
  spans : (rest : List Span) → l.self.spans ++ more_spans (links_of (drop l.link-index l.links)) rest ≡ l.initial.self.spans ++ more_spans
      (links_of l.links) rest;
}
