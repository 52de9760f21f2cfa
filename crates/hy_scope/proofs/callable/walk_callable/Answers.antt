use Rattle.std.proofs.Common.{◌++◌, sym, ap, ◌∙◌}
use Rattle.hy_tree.specs.Denotes.{callable_of}
use Rattle.hy_tree.specs.Findings.{find_generics, find_inside, find_callable, with_generics}
use Rattle.hy_tree.specs.Names.{no_names}
use Rattle.hy_scope.specs.Shown.{around_of, file_of, names_of, noted}
use Rattle.hy_scope.proofs.Walks.{found_rest}
use Rattle.hy_scope.proofs.callable.walk_callable.Goals as goal

pub returns : goal.returns
returns c =
    let around = around_of c.args.around.now in
    let whole = callable_of c.args.c.now in
    found_rest c.walk_inside.result (find_callable around whole) (find_generics around.file no_names 0 c.as_slice.result.now)
    (find_inside (record around { generics = names_of c.in_ok-generics.generics }) whole) (noted c.args.notes.now) (noted c.walk_generics.new.notes)
    (noted c.walk_inside.new.notes)
    (λ i. find_generics around.file no_names 0 (sym c.as_slice.ensures i)
    ++ find_inside (record around { generics = (sym (c.in_ok-generics.ensures.names ∙ ap (with_generics no_names 0) c.as_slice.ensures)) i }) whole)
    c.in_ok-generics.ensures.notes c.walk_inside.ensures
