use Rattle.std.proofs.Common.{◌++◌, List, map, take}
use Rattle.hy_tree.specs.Denotes.{member_of}
use Rattle.hy_tree.specs.Tree as T
use Rattle.hy_types.specs.Types.{Extends}
use Rattle.hy_signatures.specs.MembersShown.{HasMembers}
use Rattle.hy_signatures.specs.Shown.{source_shown}
use Rattle.hy_signatures.proofs.members.Members.add_all.Given as goal

abbrev pub invariant-loop-member : goal.invariant-loop-member
invariant-loop-member l = record {
  members : (before : List T.Member) → HasMembers l.fn.types (source_shown l.source) before l.fn.self
      → HasMembers l.types (source_shown l.source) (before ++ map member_of (take l.member-index l.members)) l.self;
  stays : Extends l.fn.types l.types;
}
