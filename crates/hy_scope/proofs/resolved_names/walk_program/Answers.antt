use Rattle.std.proofs.Common.{◌++◌, List, map, not, ap, ◌∙◌}
use Rattle.hy_base.specs.declared.refusal.Rule.TheVariants.{N5}
use Rattle.hy_tree.specs.Denotes.{decl_of}
use Rattle.hy_tree.specs.FileNames.{predeclared, with_decls}
use Rattle.hy_tree.specs.Findings.{Broken, when, twice_decls, find_decls, has_main}
use Rattle.hy_scope.specs.Noted.{note, after}
use Rattle.hy_scope.specs.Shown.{file_of, noted}
use Rattle.hy_base.proofs.Walks.{then}
use Rattle.hy_scope.proofs.resolved_names.walk_program.Goals as goal

pub returns : goal.returns
returns c =
    let decls = c.as_slice-decls.ensures in
    let made = c.as_slice-decls.result.now in
    let file = c.in_ok-file.ensures in
    let twice = twice_decls (file_of c.in_ok-file.file) (map decl_of made) in
    let inside = find_decls (file_of c.declare_decls.new.file) (map decl_of made) in
    let main = when (not c.has_main-missing.result) (Broken N5 (record { from = 0; to = 0 })) in
    let whole = c.in_ok-declare_decls.ensures.file ∙ (λ i. with_decls (file i) (map decl_of (decls i))) in
    let there = c.has_main-missing.ensures ∙ ap (λ decls. has_main (map decl_of decls)) decls in
    then note twice (inside ++ main) (noted c.args.notes.now) (noted c.declare_decls.new.notes) (noted c.when.new.self) c.in_ok-declare_decls.ensures.notes
    (then note inside main (noted c.declare_decls.new.notes) (noted c.walk_decls.new.notes) (noted c.when.new.self) c.in_ok-walk_decls.ensures c.when.ensures)
    ∙ (λ i. after (twice_decls (file i) (map decl_of (decls i)) ++ (find_decls (whole i) (map decl_of (decls i))
    ++ when (not (there i)) (Broken N5 (record { from = 0; to = 0 })))) (noted c.args.notes.now))
