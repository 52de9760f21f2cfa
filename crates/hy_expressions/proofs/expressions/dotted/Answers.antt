use Rattle.std.proofs.Common.{rules, ap, ◌∙◌}
use Rattle.std.proofs.lemmas.Int.{to_z-of_z}
use mir.Val.{SFits}
use mir.Syntax.{w64}
use Rattle.hy_tree.specs.Denotes.{expr_of}
use Rattle.hy_grammar.specs.Nodes as node
use Rattle.hy_expressions.proofs.StepWalks.{over_member, over_part, undotted, nothing_dotted}
use Rattle.hy_expressions.proofs.Stepped.{member_made, part_made}
use Rattle.hy_phrases.proofs.Walks.{stopped, took}
use Rattle.hy_expressions.proofs.expressions.dotted.Goals as goal

pub returns-in_default-clause-reads : goal.returns-in_default-clause-reads
returns-in_default-clause-reads c =
    λ levels total x h. stopped _ c.args.tokens.now.rest.now _ c.stop.ensures
    (nothing_dotted total (expr_of c.args.primary.now) x.steps x.spot _ c.in_default.ensures.token)

pub returns-in_default-kind : goal.returns-in_default-kind
returns-in_default-kind c = record {
  reads = λ levels total x h. stopped _ c.args.tokens.now.rest.now _ c.stop-in_default-kind.ensures
      (undotted total (expr_of c.args.primary.now) x.steps x.spot c.in-Some.token.now _ _ c.in-Some.ensures.token c.in_default-kind.not-Name
      c.in_default-kind.not-Number);
  within = search rules;
}

pub returns-in_ok-copy_text-in-Name-clause-reads : goal.returns-in_ok-copy_text-in-Name-clause-reads
returns-in_ok-copy_text-in-Name-clause-reads c = λ levels total x h.
    over_member total (expr_of c.args.primary.now) x.steps x.spot c.in-Some.token.now _ _ (took _ _ _ c.in-Some.ensures.token c.skip.ensures.rest) levels h
    c.in-Name.text c.in-Name.is
    ∙ member_made total (expr_of c.args.primary.now) c.in-Name.text c.in-Some.token.now.span _ x c.skip.new.self.rest.now (c.member_step.ensures
    ∙ ap (λ text. node.member_step (expr_of c.args.primary.now) text c.in-Some.token.now.span) c.in_ok-copy_text-in-Name.ensures)

pub returns-in-Number-clause-reads : goal.returns-in-Number-clause-reads
returns-in-Number-clause-reads c = λ levels total x h.
    let f : SFits w64 c.in-Number.value = search rules in
    over_part total (expr_of c.args.primary.now) x.steps x.spot c.in-Some.token.now _ _ (took _ _ _ c.in-Some.ensures.token c.skip-in-Number.ensures.rest)
    levels h c.in-Number.value c.in-Number.is
    ∙ part_made total (expr_of c.args.primary.now) c.in-Number.value c.in-Some.token.now.span _ x c.skip-in-Number.new.self.rest.now (c.part_step.ensures
    ∙ ap (λ n. node.part_step (expr_of c.args.primary.now) n c.in-Some.token.now.span) (to_z-of_z w64 c.in-Number.value f))
