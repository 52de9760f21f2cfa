-- What the tables of the code show.
use Rattle.std.specs.Prelude.{ℕ, List, [], map, reverse, Option, ◌∷◌}
use Rattle.std.specs.Option.{option_map, unwrap_or}
use Rattle.std.specs.Map.{lookup}
use Rattle.std.specs.Str.{bytes_eq}
use Rattle.hy_tree.specs.Names.{Names}
use Rattle.hy_tree.specs.FileNames as N
use Rattle.hy_tree.specs.Findings as F
use Rattle.hy_scope.specs.Noted.{Noted}
use Rattle.hy_scope.specs.declared.around.Around.{Around}
use Rattle.hy_scope.specs.declared.file.File.{File}
use Rattle.hy_scope.specs.declared.blocks.Blocks.{Blocks}
use Rattle.hy_scope.specs.declared.families.Families.{Families}
use Rattle.hy_scope.specs.declared.families.Family.{Family}
use Rattle.hy_scope.specs.declared.notes.Notes.{Notes}
use Rattle.hy_scope.specs.declared.table.Table.{Table}

-- the names of a table
abbrev pub names_of : Table → Names
names_of table = λ name. lookup (λ key. bytes_eq name key.items) table.names.entries

abbrev pub noted : Notes → Noted
noted notes = record { first = notes.first; meant = notes.meant.items }

abbrev pub family_of : Family → N.Family
family_of family = record { fields = names_of family.fields; bases = names_of family.bases; callables = names_of family.callables }

-- the members of each type
abbrev pub families_of : Families → List ℕ → N.Family
families_of families = λ owner. unwrap_or (option_map family_of (lookup (λ key. bytes_eq owner key.items) families.families.entries)) N.no_family

abbrev pub file_of : File → N.File
file_of file = record {
  types = names_of file.types;
  traits = names_of file.traits;
  callables = names_of file.callables;
  bases = names_of file.bases;
  members = names_of file.members;
  families = families_of file.families;
}

abbrev pub around_of : Around → F.Around
around_of around = record { file = file_of around.file.now; fields = names_of around.fields.now; generics = names_of around.generics.now; own = around.own }

abbrev pub blocks_of : Blocks → List Names
blocks_of blocks = names_of blocks.here ∷ map names_of (reverse blocks.around.items)

-- the blocks around the innermost; the outermost stays
abbrev pub outer : List Names → List Names
outer [] = []
outer (block ∷ []) = block ∷ []
outer (block ∷ next ∷ more) = next ∷ more
