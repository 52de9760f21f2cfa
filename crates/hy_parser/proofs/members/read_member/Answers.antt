use Rattle.std.proofs.Common.{◌≤◌, ◌-◌, [], ◌∷◌, ◌++◌, length, refl, sym, ap, ◌∙◌, arith}
use Rattle.hy_tree.specs.Denotes as D
use Rattle.hy_grammar.specs.Machine.{walk}
use Rattle.hy_grammar.specs.DeclSteps.{begins_at}
use Rattle.hy_grammar.specs.Machine.{finish}
use Rattle.hy_grammar.specs.Nodes as node
use Rattle.hy_grammar.specs.Stack.{MembersReady, MembersDone}
use Rattle.hy_parser.proofs.Follows.{passed_counted}
use Rattle.hy_parser.proofs.MemberSteps.{member_begins, member_counted}
use Rattle.hy_phrases.proofs.Walks.{stopped, lacks, from_there}
use Rattle.hy_parser.proofs.members.read_member.Goals as goal

pub returns-in_default-clause-reads : goal.returns-in_default-clause-reads
unfolding finish
returns-in_default-clause-reads c =
    λ total x n le. stopped c.stop.result c.args.tokens.now.rest.now _ c.stop.ensures
    (lacks total (MembersReady x.owner x.members) c.args.tokens.now.rest.now c.in_default.ensures.token (λ place. refl))

pub returns-in_err-kind-clause-reads : goal.returns-in_err-kind-clause-reads
returns-in_err-kind-clause-reads c = passed_counted 199 _ _ _ _ _ _ c.from_residual.ensures.1 (λ total x n le.
    let public = c.take_member_public-public.result in
    let old = c.args.tokens.now.rest.now in
    let first = c.in-Some.first.now in
    from_there _ _ _ (member_begins c.args.sort public total x.owner x.members old first _ x.is c.in-Some.ensures.token c.requires
    c.take_member_public-public.ensures.token)
    (c.in_err-kind.ensures.reads total (record { owner = x.owner; members = x.members; start = begins_at public first (total - length old); is = x.is }) le))

pub returns-clause-reads : goal.returns-clause-reads
returns-clause-reads c = λ total x n le.
    let public = c.take_member_public-public.result in
    let old = c.args.tokens.now.rest.now in
    let first = c.in-Some.first.now in
    let kind = D.member_kind_of c.in_ok-kind.kind in
    let to = c.in_ok-kind.to in
    let new = c.read_member_kind.new.tokens.rest.now in
    let within : length new ≤ length old = omega arith in
    member_begins c.args.sort public total x.owner x.members old first _ x.is c.in-Some.ensures.token c.requires c.take_member_public-public.ensures.token
    ∙ c.in_ok-kind.ensures.reads total (record { owner = x.owner; members = x.members; start = begins_at public first (total - length old); is = x.is }) le
    ∙ member_counted total x.owner x.members public first kind to old new n within
    ∙ ap (λ m. walk total (MembersDone x.owner (x.members ++ m ∷ [])) new) (sym (c.member.ensures
    ∙ ap (λ k. node.member public kind k first.span.from to) c.in_ok-count.ensures.count))
