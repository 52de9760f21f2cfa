use Rattle.std.proofs.Common.{◌++◌, Some, ap, sym, ◌∙◌, append_assoc, map}
use Rattle.std.specs.Option.{unwrap_or}
use Rattle.hy_base.specs.declared.refusal.Rule.TheVariants.{N3}
use Rattle.hy_tree.specs.Denotes.{product_of, member_of}
use Rattle.hy_tree.specs.Findings.{find_decl, find_members, find_traits, known}
use Rattle.hy_tree.specs.Names.{no_names}
use Rattle.hy_tree.specs.Tree.{DeclProduct}
use Rattle.hy_tree.specs.declared.meant.Meant.TheVariants as meant
use Rattle.hy_scope.specs.Shown.{families_of, file_of, names_of, noted}
use Rattle.hy_base.proofs.Walks.{then}
use Rattle.hy_scope.proofs.Walks.{found_rest}
use Rattle.hy_scope.specs.Noted.{note}
use Rattle.hy_scope.proofs.declaration.walk_product.Goals as goal

pub returns : goal.returns
returns c =
    let file = file_of c.args.file.now in
    let own = Some (meant.Product c.args.p.now.node) in
    let fields = c.fields.ensures ∙ ap (λ owner. (families_of c.args.file.now.families owner).fields) c.as_slice-2.ensures in
    found_rest c.walk_members.result (find_decl file (DeclProduct (product_of c.args.p.now))) (find_traits file c.as_slice.result.now)
    (find_members (record { file = file; fields = names_of c.fields.result.now; generics = names_of c.args.none.now; own = own })
    (map member_of c.as_slice-3.result.now)) (noted c.args.notes.now) (noted c.walk_traits.new.notes) (noted c.walk_members.new.notes)
    (λ i. find_traits file (sym c.as_slice.ensures i) ++ find_members (record {
      file = file;
      fields = sym fields i;
      generics = sym c.requires i;
      own =
          own;
    }) (map member_of (sym c.as_slice-3.ensures i)))
    c.walk_traits.ensures c.walk_members.ensures
