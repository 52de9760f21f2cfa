use Rattle.std.proofs.Common.{[], ◌∷◌, ◌++◌, map, refl, sym, ap, ◌∙◌, arith}
use Rattle.hy_tree.specs.Denotes as D
use Rattle.hy_grammar.specs.Machine.{walk}
use Rattle.std.proofs.lemmas.List.{map-append}
use Rattle.hy_grammar.specs.Stack.{MembersReady}
use Rattle.hy_parser.proofs.Follows.{passed_counted}
use Rattle.hy_parser.proofs.MemberSteps.{members_close, owner_depth, after_member}
use Rattle.hy_phrases.proofs.Walks.{taken, from_there}
use Rattle.hy_parser.proofs.members.read_members.Goals as goal

pub returns-in-Some-clause-reads : goal.returns-in-Some-clause-reads
returns-in-Some-clause-reads c = λ total x n le.
    let members = map D.member_of c.members.members in
    let d = owner_depth x.owner members c.in-Some.close in
    c.members.invariant.reads total x n ∙ taken total (members_close x.owner members) c.in-Some.ensures.token (omega (arith, d))

pub returns-in_err-read_member-clause-reads : goal.returns-in_err-read_member-clause-reads
returns-in_err-read_member-clause-reads c = passed_counted 199 _ _ _ _ _ _ c.from_residual.ensures.1 (λ total x n le.
    let members = map D.member_of c.members.members in
    let lacking = c.in_default.ensures.token in
    from_there _ _ _ (c.members.invariant.reads total x n ∙ ap (walk total (MembersReady x.owner members)) (sym lacking.1))
    (c.in_err-read_member.ensures.reads total (record { owner = x.owner; members = members; is = x.is }) (omega (arith, n)) le))

pub members-preserved : goal.members-preserved
members-preserved c = record {
  within = omega arith;
  reads = λ total x n.
      let members = map D.member_of c.members.members in
      let lacking = c.in_default.ensures.token in
      let m = c.in_ok-read_member.field-0 in
      c.members.invariant.reads total x n ∙ ap (walk total (MembersReady x.owner members)) (sym lacking.1)
      ∙ c.in_ok-read_member.ensures.reads total (record { owner = x.owner; members = members; is = x.is }) (omega (arith, n)) refl
      ∙ after_member total x.owner (members ++ D.member_of m ∷ []) c.take-in-members.result _ _ c.take-in-members.ensures.token
      ∙ ap (λ made. walk total (MembersReady x.owner made) c.take-in-members.new.self.rest.now)
      (sym (ap (map D.member_of) c.in_ok-push.ensures.ok ∙ map-append D.member_of c.members.members (m ∷ [])));
}
