use Rattle.std.proofs.Common.{◌∙◌, ap, map}
use Rattle.hy_tree.specs.Denotes.{member_of}
use Rattle.hy_tree.specs.FileNames.{with_members, with_all_asked, with_family}
use Rattle.hy_scope.specs.Shown.{family_of, families_of, file_of, names_of}
use Rattle.hy_scope.proofs.Members.{put_back, file_with}
use Rattle.hy_scope.proofs.file.File.declare_members.Goals as goal

pub returns-clause-file : goal.returns-clause-file
returns-clause-file c =
    let members = map member_of c.args.members.now in
    let old = families_of c.args.self.now.families in
    file_with c.put.result (file_of c.args.self.now) (names_of c.declare_members.new.asked) (with_all_asked (names_of c.args.self.now.members) members)
    (families_of c.put.new.self) (with_family c.args.owner.now members old) c.in_ok-declare_members.ensures.asked
    (put_back c.put.result old (families_of c.take.new.self) (families_of c.put.new.self) c.args.owner.now members (family_of c.declare_members.new.family)
    c.in_ok-family.ensures.rest
    (c.in_ok-declare_members.ensures.family ∙ ap (λ family. with_members family members) c.in_ok-family.ensures.family) c.put.ensures)
