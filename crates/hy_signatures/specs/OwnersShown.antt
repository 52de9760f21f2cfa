-- What the code's table of types shows: their members, and whether they declare `Copyable`.
use Rattle.std.specs.Prelude.{◌≡◌, ◌||◌, Bool as Truth, false, List, [], ◌++◌, Option, Some, None}
use Rattle.std.specs.Map.{lookup}
use Rattle.hy_tree.specs.Tree as T
use Rattle.hy_types.specs.Types.{Table, Extends}
use Rattle.hy_signatures.specs.Declarations.{Source, members_in, declares_copyable}
use Rattle.hy_signatures.specs.MembersShown.{HasMembers}
use Rattle.hy_signatures.specs.NamedShown.{named_shown}
use Rattle.hy_signatures.specs.PlainTypes.{same_type}
use Rattle.hy_signatures.specs.declared.named.Named.{Named}
use Rattle.hy_signatures.specs.declared.owners.Owner.{Owner}
use Rattle.hy_signatures.specs.declared.owners.Owners.{Owners}

abbrev pub same_named : Named → Named → Truth
same_named a b = same_type (named_shown a) (named_shown b)

-- what is kept of a type
abbrev pub owner_at : Owners → Named → Option Owner
owner_at owners named = lookup (λ other. same_named named other) owners.rows.entries

pub record IsOwner (table : Table) (source : Source) (list : List T.Member) (declares : Truth) (kept : Owner) : Type 0 where
  pub members : HasMembers table source list kept.members
  pub copyable : kept.copyable ≡ declares

-- what is kept of a type with these members, which declares `Copyable` or does not; where nothing is kept, it has no members
abbrev pub OwnerIs : Table → Source → List T.Member → Truth → Option Owner → Type 0
OwnerIs table source members copyable None = (members ≡ []) × (copyable ≡ false)
OwnerIs table source members copyable (Some kept) = IsOwner table source members copyable kept

-- the same of each type that a name stands for
abbrev pub OwnersAre : Table → Source → (Named → List T.Member) → (Named → Truth) → Owners → Type 0
OwnersAre table source members copyable owners = (named : Named) → OwnerIs table source (members named) (copyable named) (owner_at owners named)

-- what is kept after some declarations, of which `more` and `declares` say what they add to a type
pub record Adds (old new : Table) (source : Source) (more : Named → List T.Member) (declares : Named → Truth) (before after : Owners) : Type 0 where
  pub owners : (members : Named → List T.Member) (copyable : Named → Truth) → OwnersAre old source members copyable before
      → OwnersAre new source (λ named. members named ++ more named) (λ named. copyable named || declares named) after
  pub stays : Extends old new

-- the table of a source
abbrev pub AreOwners : Table → Source → Owners → Type 0
AreOwners table source owners =
    OwnersAre table source (λ named. members_in source (named_shown named) source.decls)
    (λ named. declares_copyable source (named_shown named) source.decls) owners
