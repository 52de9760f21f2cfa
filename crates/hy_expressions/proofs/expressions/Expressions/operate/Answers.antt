use Rattle.std.proofs.Common.{Err, ap, ◌∙◌, arith}
use Rattle.hy_tree.specs.Denotes.{expr_of}
use Rattle.hy_tree.specs.Tree as T
use Rattle.hy_phrases.specs.Infixes.{level_of}
use Rattle.hy_grammar.specs.Kinds.{infix_of}
use Rattle.hy_phrases.specs.OpenChains.{tiers_of}
use Rattle.hy_expressions.specs.ReadsExpressions.{operated_of}
use Rattle.hy_grammar.specs.Stack as stack
use Rattle.hy_grammar.specs.Stack.{State, Use, Operated}
use Rattle.hy_expressions.proofs.OperandWalks.{over_operator, one_front}
use Rattle.hy_phrases.proofs.Walks.{from_there, passes, took}
use Rattle.hy_expressions.proofs.expressions.Expressions.operate.Goals as goal

abbrev need : T.Expr → stack.Tiers → Use → State
need operand tiers u = Operated operand tiers u

abbrev have : stack.Tiers × T.Expr → Use → State
have r u = Operated r.1 r.0 u

pub returns-in-Err-clause-reads : goal.returns-in-Err-clause-reads
returns-in-Err-clause-reads g c =
    passes c.args.self.now.levels operated_of (need (expr_of c.args.operand) (tiers_of c.args.tiers)) have c.args.tokens.now.rest.now
    c.args.tokens.now.rest.now (Err c.without-in-Err.result) _ c.without-in-Err.ensures
    (λ total u h.
    let a = c.requires.ahead in
    let same = one_front c.args.tokens.now.rest.now c.in-Some.token.now a.token _ _ c.in-Some.ensures.token a.front in
    from_there _ _ _ (over_operator total (expr_of c.args.operand) (tiers_of c.args.tiers) u c.in-Some.token.now _ _
    (took _ _ _ c.in-Some.ensures.token c.skip.ensures.rest)
    (record { level = level_of c.args.found.level; operator = c.args.found.operator }) (tiers_of c.in_ok-tiers.tiers) c.args.self.now.levels
    (ap (λ t. infix_of t.kind) same ∙ a.is) c.in_ok-tiers.ensures h)
    (c.in-Err.ensures.reads total (tiers_of c.in_ok-tiers.tiers, u) (omega (arith, h))))

pub returns-in-Ok-clause-reads : goal.returns-in-Ok-clause-reads
returns-in-Ok-clause-reads g c = λ total u h.
    let a = c.requires.ahead in
    let same = one_front c.args.tokens.now.rest.now c.in-Some.token.now a.token _ _ c.in-Some.ensures.token a.front in
    over_operator total (expr_of c.args.operand) (tiers_of c.args.tiers) u c.in-Some.token.now _ _ (took _ _ _ c.in-Some.ensures.token c.skip.ensures.rest)
    (record { level = level_of c.args.found.level; operator = c.args.found.operator }) (tiers_of c.in_ok-tiers.tiers) c.args.self.now.levels
    (ap (λ t. infix_of t.kind) same ∙ a.is) c.in_ok-tiers.ensures h
    ∙ c.in-Ok.ensures.reads total (tiers_of c.in_ok-tiers.tiers, u) (omega (arith, h))
