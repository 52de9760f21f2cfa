use Rattle.std.proofs.Common.{◌≡◌, ◌∷◌, ◌++◌, [], List, ap, sym, subst, ◌∙◌, append_assoc, map}
use Rattle.std.specs.Option.{option_map}
use Rattle.hy_tree.specs.Denotes.{type_of, param_of, variant_of, callable_of}
use Rattle.hy_tree.specs.Findings.{find_params, find_written, find_variants, find_inside, with_params}
use Rattle.hy_tree.specs.Names.{Names, no_names}
use Rattle.hy_scope.specs.Shown.{around_of, blocks_of, names_of, noted}
use Rattle.hy_base.proofs.Walks.{then}
use Rattle.hy_scope.proofs.Walks.{found_rest}
use Rattle.hy_scope.specs.Noted.{note}
use Rattle.hy_scope.proofs.callable.walk_inside.Goals as goal

pub returns : goal.returns
returns c =
    let around = around_of c.args.around.now in
    let whole = callable_of c.args.c.now in
    let params = find_params around no_names (map param_of c.as_slice.result.now) in
    let written = find_written around (option_map type_of c.args.c.now.result) in
    let variants = find_variants around (blocks_of c.new-blocks.result) no_names (map variant_of c.as_slice-2.result.now) in
    let blocks : blocks_of c.new-blocks.result ≡ with_params no_names (map param_of c.args.c.now.params) ∷ [] =
    c.new-blocks.ensures ∙ ap (λ names. names ∷ []) (c.in_ok-params.ensures.names ∙ ap (λ params. with_params no_names (map param_of params))
    c.as_slice.ensures) in
    found_rest c.walk_variants.result (find_inside around whole) (params ++ written) variants (noted c.args.notes.now) (noted c.walk_written.new.notes)
    (noted c.walk_variants.new.notes)
    ((λ i. find_params around no_names (map param_of (sym c.as_slice.ensures i))
    ++ (written ++ find_variants around (sym blocks i) no_names (map variant_of (sym c.as_slice-2.ensures i))))
    ∙ sym (append_assoc params written variants))
    (then note params written (noted c.args.notes.now) (noted c.walk_params.new.notes) (noted c.walk_written.new.notes) c.in_ok-params.ensures.notes
    c.walk_written.ensures)
    c.walk_variants.ensures
