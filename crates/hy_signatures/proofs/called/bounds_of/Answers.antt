use Rattle.std.proofs.Common.{sym, ap, ◌∙◌}
use Rattle.hy_tree.specs.declared.declaration.TypeParam.{TypeParam}
use Rattle.hy_signatures.proofs.CopyTables.{bounds_there, bounds_none}
use Rattle.hy_signatures.proofs.called.bounds_of.Goals as goal

pub returns-in-Some : goal.returns-in-Some
returns-in-Some c =
    c.as_slice.ensures ∙ ap (λ (p : TypeParam). p.bounds) c.in-Some.ensures.lookup.1
    ∙ sym (bounds_there c.args.generics.now c.args.place c.in-Some.p.now c.in-Some.ensures.lookup.3.0)

pub returns-in-None : goal.returns-in-None
returns-in-None c = sym (bounds_none c.args.generics.now c.args.place c.in-None.ensures.lookup.3)
