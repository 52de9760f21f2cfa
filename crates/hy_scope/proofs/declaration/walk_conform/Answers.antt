use Rattle.std.proofs.Common.{◌++◌, Some, ap, sym, ◌∙◌, append_assoc, map}
use Rattle.std.specs.Option.{unwrap_or}
use Rattle.hy_base.specs.declared.refusal.Rule.TheVariants.{N3}
use Rattle.hy_tree.specs.Denotes.{conform_of, member_of}
use Rattle.hy_tree.specs.Findings.{find_decl, find_members, find_traits, known}
use Rattle.hy_tree.specs.Names.{no_names}
use Rattle.hy_tree.specs.Tree.{DeclConform}
use Rattle.hy_tree.specs.declared.meant.Meant.TheVariants as meant
use Rattle.hy_scope.specs.Shown.{families_of, file_of, names_of, noted}
use Rattle.hy_base.proofs.Walks.{then}
use Rattle.hy_scope.proofs.Walks.{found_rest}
use Rattle.hy_scope.specs.Noted.{note}
use Rattle.hy_scope.proofs.declaration.walk_conform.Goals as goal

pub returns : goal.returns
returns c =
    let file = file_of c.args.file.now in
    let target = c.args.c.now.target in
    let fields = c.fields.ensures ∙ ap (λ owner. (families_of c.args.file.now.families owner).fields) c.as_slice-target.ensures in
    let found = c.find-meant.ensures ∙ ap (names_of c.args.file.now.types) c.as_slice-target.ensures in
    let own = c.unwrap_or.ensures ∙ ap (λ found. unwrap_or found meant.Nothing) found in
    let here = known N3 target.span target.node c.find-meant.result in
    let traits = find_traits file c.as_slice.result.now in
    let members = find_members (record {
      file = file;
      fields = names_of c.fields.result.now;
      generics = names_of c.args.none.now;
      own =
          Some c.unwrap_or.result;
    }) (map member_of c.as_slice-2.result.now) in
    found_rest c.walk_members.result (find_decl file (DeclConform (conform_of c.args.c.now))) (here ++ traits) members (noted c.args.notes.now)
    (noted c.walk_traits.new.notes) (noted c.walk_members.new.notes)
    ((λ i. known N3 target.span target.node (sym found i)
    ++ (find_traits file (sym c.as_slice.ensures i) ++ find_members (record {
      file = file;
      fields = sym fields i;
      generics = sym c.requires i;
      own =
          Some (sym own i);
    }) (map member_of (sym c.as_slice-2.ensures i)))) ∙ sym (append_assoc here traits members))
    (then note here traits (noted c.args.notes.now) (noted c.known.new.self) (noted c.walk_traits.new.notes) c.known.ensures c.walk_traits.ensures)
    c.walk_members.ensures
