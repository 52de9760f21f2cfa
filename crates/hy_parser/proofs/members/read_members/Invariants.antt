use Rattle.std.proofs.Common.{◌≡◌, ◌≤◌, ℕ, [], map, length}
use Rattle.hy_tree.specs.Denotes.{member_of}
use Rattle.hy_parser.specs.Headings.{OwnerOf}
use Rattle.hy_grammar.specs.Machine.{walk}
use Rattle.hy_grammar.specs.Stack.{MembersReady}
use Rattle.hy_parser.proofs.members.read_members.Given as goal

abbrev pub invariant-members : goal.invariant-members
invariant-members l = record {
  within : length l.tokens.rest.now ≤ length l.fn.tokens.rest.now;
  reads : (total : ℕ) (x : OwnerOf l.fn.sort) → length l.fn.tokens.rest.now ≤ total
      → walk total (MembersReady x.owner []) l.fn.tokens.rest.now ≡ walk total (MembersReady x.owner (map member_of l.members)) l.tokens.rest.now;
}

abbrev pub decreases-members : goal.decreases-members
decreases-members l = length l.tokens.rest.now
