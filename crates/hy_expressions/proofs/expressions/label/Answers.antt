use Rattle.std.proofs.Common.{◌≡◌, Some, rules, sym, ap, ◌∙◌}
use Rattle.hy_lexer.specs.declared.token.TokenKind.TheVariants as k
use Rattle.hy_grammar.specs.Machine.{walk}
use Rattle.hy_grammar.specs.OperandSteps.{beginning}
use Rattle.hy_grammar.specs.Stack.{ForArgument, Operand}
use Rattle.hy_expressions.proofs.StepWalks.{no_label_left, no_label_name, no_label_colon, over_label}
use Rattle.hy_phrases.proofs.Walks.{empty, unseen_at_end, unseen}
use Rattle.hy_expressions.proofs.expressions.label.Goals as goal

pub returns-in_default-clause-reads : goal.returns-in_default-clause-reads
returns-in_default-clause-reads c = λ levels total x h. no_label_left total x.callee x.args x.spot _ (empty _ c.in_default.ensures.cases)

pub returns-in_default-split_first-clause-reads : goal.returns-in_default-split_first-clause-reads
returns-in_default-split_first-clause-reads c =
    λ levels total x h. no_label_colon total x.callee x.args x.spot levels h c.in-Some.name.now c.in-Name.text c.in-Name.is _ c.in-Some.behind.now
    c.in-Some.ensures.cases.0
    (unseen_at_end k.Colon _ (empty _ c.in_default-split_first.ensures.cases))

pub returns-in_default-kind : goal.returns-in_default-kind
returns-in_default-kind c = record {
  reads = λ levels total x h. no_label_name total x.callee x.args x.spot c.in-Some.name.now _ c.in-Some.behind.now c.in-Some.ensures.cases.0
      c.in_default-kind.not-Name;
  within = search rules;
}

pub returns-then-not-is-clause-reads : goal.returns-then-not-is-clause-reads
returns-then-not-is-clause-reads c =
    λ levels total x h. no_label_colon total x.callee x.args x.spot levels h c.in-Some.name.now c.in-Name.text c.in-Name.is _ c.in-Some.behind.now
    c.in-Some.ensures.cases.0
    (let other : c.in-Some-split_first.colon.now.kind ≡ k.Colon → ⊥ = λ e. search rules in
    unseen k.Colon _ c.in-Some-split_first.rest.now c.in-Some-split_first.colon.now c.in-Some-split_first.ensures.cases.0 other)

pub returns-clause-reads : goal.returns-clause-reads
returns-clause-reads c = λ levels total x h.
    let found : c.in-Some-split_first.colon.now.kind ≡ k.Colon = search rules in
    over_label total x.callee x.args x.spot levels h c.in-Some.name.now c.in-Name.text c.in-Name.is _ c.in-Some.behind.now c.in-Some.ensures.cases.0
    c.in-Some-split_first.colon.now c.in-Some-split_first.rest.now c.in-Some-split_first.ensures.cases.0 found
    ∙ ap (λ text. walk total (Operand (beginning (ForArgument x.callee x.args (Some text) x.spot))) c.in-Some-split_first.rest.now)
    (sym c.in_ok-copy_text.ensures)
