use Rattle.std.proofs.Common.{sym, ap, ◌∙◌}
use Rattle.hy_tree.specs.declared.declaration.TypeParam.{TypeParam}
use Rattle.hy_signatures.specs.Declarations as declarations
use Rattle.hy_signatures.specs.Shown.{source_shown}
use Rattle.hy_signatures.proofs.CopyTables.{bounds_there, bounds_none}
use Rattle.hy_signatures.proofs.copyables.is_bound_copyable.Goals as goal

pub returns-in-Some : goal.returns-in-Some
returns-in-Some c =
    c.lists_copyable.ensures
    ∙ ap (declarations.lists_copyable (source_shown c.args.source.now)) (c.as_slice.ensures ∙ ap (λ (p : TypeParam). p.bounds) c.in-Some.ensures.lookup.1
    ∙ sym (bounds_there c.args.generics.now c.args.place c.in-Some.p.now c.in-Some.ensures.lookup.3.0))

pub returns-in-None : goal.returns-in-None
returns-in-None c =
    ap (declarations.lists_copyable (source_shown c.args.source.now)) (sym (bounds_none c.args.generics.now c.args.place c.in-None.ensures.lookup.3))
