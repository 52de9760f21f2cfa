use Rattle.std.proofs.Common.{◌≡◌, length}
use Rattle.hy_lexer.specs.Tokens.{has_line_feed}
use Rattle.hy_lexer.proofs.lexer.has_line_feed.Given as goal

abbrev pub invariant-loop-byte : goal.invariant-loop-byte
invariant-loop-byte l = has_line_feed l.fn.text ≡ has_line_feed l.rest

abbrev pub decreases-loop-byte : goal.decreases-loop-byte
decreases-loop-byte l = length l.rest
