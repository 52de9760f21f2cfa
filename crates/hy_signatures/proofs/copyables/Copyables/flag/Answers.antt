use Rattle.std.proofs.Common.{length, Some, sym, ap, subst, ◌∙◌}
use Rattle.std.proofs.lemmas.Option.{slice_get-get_or}
use Rattle.hy_types.specs.Types.{AllBelow, mentioned, type_of_row}
use Rattle.hy_types.specs.declared.kinds.Ty.{Ty}
use Rattle.hy_signatures.specs.Declarations as declarations
use Rattle.hy_signatures.specs.Shown.{source_shown}
use Rattle.hy_signatures.specs.declared.named.Named.TheVariants as named
use Rattle.hy_signatures.proofs.copyables.Copyables.flag.Goals as goal

pub returns-in-Product : goal.returns-in-Product
returns-in-Product c table owners tells =
    let source = source_shown c.args.source.now in
    c.declares_copyable.ensures table source _ _ (owners (named.Product c.in-Product.node))
    ∙ ap (λ (row : Ty). declarations.is_copyable source c.args.generics.now (type_of_row table row)) (sym c.in-Product.is)

pub returns-in-Array : goal.returns-in-Array
returns-in-Array c table owners tells =
    let source = source_shown c.args.source.now in
    let flags = c.args.self.now.flags.items in
    let element = c.in-Array.element in
    let below = subst (λ (row : Ty). AllBelow (length flags) (mentioned row)) c.in-Array.is c.requires in
    tells element c.index.result.now (slice_get-get_or flags element.at c.index.result.now below.0 ∙ ap Some (sym c.index.ensures))
    ∙ ap (λ (row : Ty). declarations.is_copyable source c.args.generics.now (type_of_row table row)) (sym c.in-Array.is)
