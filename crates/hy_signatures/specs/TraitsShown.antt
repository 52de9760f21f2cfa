-- What the code's table of traits shows: their members.
use Rattle.std.specs.Prelude.{◌==◌, ℕ, List, ◌++◌, Option}
use Rattle.std.specs.Map.{lookup}
use Rattle.hy_tree.specs.Tree as T
use Rattle.hy_types.specs.Types.{Table, Extends}
use Rattle.hy_signatures.specs.Declarations.{Source, members_of_trait}
use Rattle.hy_signatures.specs.MembersShown.{MembersAre}
use Rattle.hy_signatures.specs.declared.members.Members.{Members}
use Rattle.hy_signatures.specs.declared.traits.Traits.{Traits}

-- what is kept of the trait at a node
abbrev pub trait_at : Traits → ℕ → Option Members
trait_at traits node = lookup (λ other. node == other) traits.rows.entries

-- at each node, these members are kept
abbrev pub TraitsAre : Table → Source → (ℕ → List T.Member) → Traits → Type 0
TraitsAre table source members traits = (node : ℕ) → MembersAre table source (members node) (trait_at traits node)

-- what is kept after some declarations, of which `more` says what they add to a trait
pub record AddsTraits (old new : Table) (source : Source) (more : ℕ → List T.Member) (before after : Traits) : Type 0 where
  pub traits : (members : ℕ → List T.Member) → TraitsAre old source members before → TraitsAre new source (λ node. members node ++ more node) after
  pub stays : Extends old new

-- the table of a source
abbrev pub AreTraits : Table → Source → Traits → Type 0
AreTraits table source traits = TraitsAre table source (λ node. members_of_trait node source.decls) traits
