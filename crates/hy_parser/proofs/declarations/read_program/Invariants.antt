use Rattle.std.proofs.Common.{◌≡◌, ◌≤◌, map, length}
use Rattle.hy_tree.specs.Denotes.{decl_of}
use Rattle.hy_grammar.specs.Machine.{start as begin, walk}
use Rattle.hy_grammar.specs.Stack.{FileReady}
use Rattle.hy_parser.proofs.declarations.read_program.Given as goal

abbrev pub invariant-decls : goal.invariant-decls
invariant-decls l = record {
  within : length l.tokens.rest.now ≤ length l.fn.all;
  reads : walk (length l.fn.all) begin l.fn.all ≡ walk (length l.fn.all) (FileReady (map decl_of l.decls) l.to) l.tokens.rest.now;
}

abbrev pub decreases-decls : goal.decreases-decls
decreases-decls l = length l.tokens.rest.now
