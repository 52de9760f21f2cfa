use Rattle.std.proofs.Common.{◌≡◌, None, Err, true, rules, sym, ap, ◌∙◌, arith}
use Rattle.hy_tree.specs.Denotes.{expr_of}
use Rattle.hy_phrases.specs.Infixes.{level_of}
use Rattle.hy_grammar.specs.Machine.{walk}
use Rattle.hy_phrases.specs.OpenChains.{tiers_of}
use Rattle.hy_grammar.specs.OperandSteps.{beginning, no_chains}
use Rattle.hy_grammar.specs.Stack.{State, Use, Operand, Operated, Valued}
use Rattle.hy_expressions.proofs.ChainWalks.{chain_ends, second_comparison}
use Rattle.hy_expressions.proofs.OperandWalks.{no_second_comparison}
use Rattle.hy_phrases.proofs.Walks.{stopped, from_there, passes}
use Rattle.hy_expressions.proofs.expressions.Expressions.chain.Goals as goal

abbrev need : Use → State
need u = Operand (beginning u)

pub returns-in_err-operand-clause-reads : goal.returns-in_err-operand-clause-reads
returns-in_err-operand-clause-reads g c = passes c.args.self.now.levels expr_of need Valued _ _ c.from_residual.result _ c.from_residual.ensures.1
    (λ total u h. c.in_err-operand.ensures.reads total (no_chains, u) h)

pub operators-init : goal.operators-init
operators-init g c = record {
  within = search rules;
  reads = λ total u h. c.in_ok-operand.ensures.reads total (no_chains, u) (omega (arith, h))
      ∙ ap (λ tiers. walk total (Operated (expr_of c.in_ok-operand.operand) tiers u) c.operand.new.tokens.rest.now) (sym c.new-tiers.ensures);
}

pub returns-in-Err-clause-reads : goal.returns-in-Err-clause-reads
returns-in-Err-clause-reads g c =
    passes c.args.self.now.levels expr_of need Valued c.args.tokens.now.rest.now c.args.tokens.now.rest.now (Err c.without-in-Err.result) _
    (c.without-in-Err.ensures ∙ c.without.ensures)
    (λ total u h.
    let d = c.in-Err.ensures in
    let yes : c.compares.result ≡ true = d.3 in
    let open_chain : c.operators.tiers.comparison ≡ None → ⊥ = search rules in
    from_there _ _ _ (c.operators.invariant.reads total u (omega (arith, h)))
    (stopped _ _ _ d.4 (no_second_comparison total (expr_of c.operators.operand) (tiers_of c.operators.tiers) u d.1.token _ _ d.1.front
    (record { level = level_of d.0.level; operator = d.0.operator }) d.1.is
    (second_comparison c.operators.tiers (expr_of c.operators.operand) d.0 d.1.token.span d.2 open_chain))))

pub returns-in-Ok-None-clause-reads : goal.returns-in-Ok-None-clause-reads
returns-in-Ok-None-clause-reads g c = λ total u h.
    c.operators.invariant.reads total u (omega (arith, h))
    ∙ chain_ends total (expr_of c.operators.operand) (tiers_of c.operators.tiers) u _ c.compares.result c.in-Ok-None.field-0 c.in-Ok-None.field-0-is
    c.in-Ok-None.ensures
    ∙ ap (λ e. walk total (Valued e u) c.operators.tokens.rest.now) (sym c.in_ok-joined-in-Ok-None.ensures)
