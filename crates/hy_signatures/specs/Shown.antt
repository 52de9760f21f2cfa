-- What the code's tables show.
use Rattle.std.specs.Prelude.{map, unwrap_or, slice_get}
use Rattle.hy_tree.specs.Denotes.{decl_of}
use Rattle.hy_tree.specs.declared.meant.Meant.TheVariants as meant
use Rattle.hy_signatures.specs.Declarations as D
use Rattle.hy_signatures.specs.declared.source.Source.{Source}

abbrev pub source_shown : Source → D.Source
source_shown source = record { decls = map decl_of source.decls.now; meant = λ node. unwrap_or (slice_get source.meant.now node) meant.Nothing }
