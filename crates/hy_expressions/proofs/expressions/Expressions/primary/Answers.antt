use Rattle.std.proofs.Common.{◌≡◌, ◌+◌, List, [], rules, sym, ap, refl, ◌∙◌, arith}
use Rattle.std.proofs.lemmas.Int.{to_z-of_z}
use mir.Val.{SFits}
use mir.Syntax.{w64}
use Rattle.hy_lexer.specs.declared.token.Token.{Token}
use Rattle.hy_tree.specs.Denotes.{expr_of}
use Rattle.hy_tree.specs.Tree as T
use Rattle.hy_grammar.specs.Machine.{walk}
use Rattle.hy_grammar.specs.Nodes as node
use Rattle.hy_grammar.specs.OperandSteps.{beginning}
use Rattle.hy_expressions.specs.ReadsExpressions.{PostfixSpot}
use Rattle.hy_grammar.specs.Stack.{ForCondition, ForElement, PartsOpened, ArrayWord, Spot, State, Operand, Postfixed}
use Rattle.hy_phrases.proofs.Walks.{stopped, stopped_deep, passes, took, leads}
use Rattle.hy_expressions.proofs.OperandWalks.{no_operand_left, no_primary_there, over_number, over_true, over_false, over_self_value, over_named}
use Rattle.hy_expressions.proofs.OperandWalks.{over_array, over_paren, over_bracket, over_if, paren_too_deep, bracket_too_deep, if_too_deep}
use Rattle.hy_expressions.proofs.expressions.Expressions.primary.Goals as goal

abbrev need : (old : List Token) → PostfixSpot old → State
need old x = Operand x.spot

abbrev have : (old : List Token) → T.Expr → PostfixSpot old → State
have old e x = Postfixed e [] 0 x.spot

abbrev behind : T.Expr → Spot → State
behind e spot = Postfixed e [] 0 spot

pub returns-in_default-clause-reads : goal.returns-in_default-clause-reads
returns-in_default-clause-reads g c =
    λ total x h. stopped _ c.args.tokens.now.rest.now _ c.stop.ensures (no_operand_left total x.spot _ c.in_default.ensures.token)

pub returns-in_default-kind : goal.returns-in_default-kind
returns-in_default-kind g c = record {
  reads = λ total x h. stopped _ c.args.tokens.now.rest.now _ c.stop-in_default-kind.ensures
      (no_primary_there total x.spot c.in-Some.token.now _ _ c.in-Some.ensures.token (x.begins c.in-Some.token.now _ c.in-Some.ensures.token)
      c.in_default-kind.not-Number c.in_default-kind.not-True c.in_default-kind.not-False c.in_default-kind.not-SelfValue
      c.in_default-kind.not-Name c.in_default-kind.not-Array c.in_default-kind.not-LeftParen c.in_default-kind.not-LeftBracket c.in_default-kind.not-If);
  within = search rules;
  progress = tt;
}

pub returns-in-Number-clause-reads : goal.returns-in-Number-clause-reads
returns-in-Number-clause-reads g c = λ total x h.
    let f : SFits w64 c.in-Number.value = search rules in
    over_number total x.spot c.in-Some.token.now _ _ (took _ _ _ c.in-Some.ensures.token c.skip.ensures.rest) c.args.levels h c.in-Number.value c.in-Number.is
    ∙ ap (λ e. walk total (behind e x.spot) c.skip.new.self.rest.now) (sym (c.number.ensures
    ∙ ap (λ n. node.number n c.in-Some.token.now.span) (to_z-of_z w64 c.in-Number.value f)))

pub returns-in_ok-copy_text-in-Name-clause-reads : goal.returns-in_ok-copy_text-in-Name-clause-reads
returns-in_ok-copy_text-in-Name-clause-reads g c = λ total x h.
    over_named total x.spot c.in-Some.token.now _ _ (took _ _ _ c.in-Some.ensures.token c.skip-in-Name.ensures.rest)
    c.args.levels h c.in-Name.text c.in-Name.is
    ∙ ap (λ e. walk total (behind e x.spot) c.skip-in-Name.new.self.rest.now) (sym (c.named.ensures
    ∙ ap (λ text. node.named text c.in-Some.token.now.span) c.in_ok-copy_text-in-Name.ensures))

pub returns-in-True-clause-reads : goal.returns-in-True-clause-reads
returns-in-True-clause-reads g c = λ total x h.
    over_true total x.spot c.in-Some.token.now _ _ (took _ _ _ c.in-Some.ensures.token c.skip-in-True.ensures.rest) c.args.levels h c.in-True.is
    ∙ ap (λ e. walk total (behind e x.spot) c.skip-in-True.new.self.rest.now) (sym c.truth.ensures)

pub returns-in-False-clause-reads : goal.returns-in-False-clause-reads
returns-in-False-clause-reads g c = λ total x h.
    over_false total x.spot c.in-Some.token.now _ _ (took _ _ _ c.in-Some.ensures.token c.skip-in-False.ensures.rest) c.args.levels h c.in-False.is
    ∙ ap (λ e. walk total (behind e x.spot) c.skip-in-False.new.self.rest.now) (sym c.truth-in-False.ensures)

pub returns-in-SelfValue-clause-reads : goal.returns-in-SelfValue-clause-reads
returns-in-SelfValue-clause-reads g c = λ total x h.
    over_self_value total x.spot c.in-Some.token.now _ _ (took _ _ _ c.in-Some.ensures.token c.skip-in-SelfValue.ensures.rest)
    c.args.levels h c.in-SelfValue.is
    ∙ ap (λ e. walk total (behind e x.spot) c.skip-in-SelfValue.new.self.rest.now) (sym c.self_value.ensures)

pub returns-in-Array-clause-reads : goal.returns-in-Array-clause-reads
returns-in-Array-clause-reads g c =
    leads c.args.levels c.args.levels expr_of (need c.args.tokens.now.rest.now) (have c.args.tokens.now.rest.now) (ArrayWord c.in-Some.token.now.span)
    behind _ _ _ c.empty_array.result (λ x. x.spot)
    (λ total x h. over_array total x.spot c.in-Some.token.now _ _ (took _ _ _ c.in-Some.ensures.token c.skip-in-Array.ensures.rest) c.args.levels h
    c.in-Array.is)
    (λ x h. h) (λ total b x. refl) c.empty_array.ensures.reads

pub returns-in_err-inner-in-LeftParen-clause-reads : goal.returns-in_err-inner-in-LeftParen-clause-reads
returns-in_err-inner-in-LeftParen-clause-reads g c =
    passes c.args.levels expr_of (need c.args.tokens.now.rest.now) (have c.args.tokens.now.rest.now) _ _ c.from_residual-in_err-inner-in-LeftParen.result _
    c.from_residual-in_err-inner-in-LeftParen.ensures.1
    (λ total x h.
    let d = c.in_err-inner-in-LeftParen.ensures in
    stopped_deep _ _ _ d.1 (paren_too_deep total x.spot c.in-Some.token.now _ _ c.in-Some.ensures.token (omega (arith, h, d.0)) c.in-LeftParen.is))

pub returns-in_ok-inner-in-LeftParen-clause-reads : goal.returns-in_ok-inner-in-LeftParen-clause-reads
returns-in_ok-inner-in-LeftParen-clause-reads g c =
    let d : c.in_ok-inner-in-LeftParen.inner + 1 ≡ c.args.levels = c.in_ok-inner-in-LeftParen.ensures in
    leads c.args.levels c.in_ok-inner-in-LeftParen.inner expr_of (need c.args.tokens.now.rest.now) (have c.args.tokens.now.rest.now)
    (PartsOpened c.in-Some.token.now.span) behind _ _ _ c.parts.result (λ x. x.spot)
    (λ total x h. over_paren total x.spot c.in-Some.token.now _ _ (took _ _ _ c.in-Some.ensures.token c.skip-in-LeftParen.ensures.rest)
    c.in_ok-inner-in-LeftParen.inner (omega (arith, h, d)) c.in-LeftParen.is)
    (λ x h. omega (arith, h, d)) (λ total b x. refl) c.parts.ensures.reads

pub returns-in_err-inner-in-LeftBracket-clause-reads : goal.returns-in_err-inner-in-LeftBracket-clause-reads
returns-in_err-inner-in-LeftBracket-clause-reads g c =
    passes c.args.levels expr_of (need c.args.tokens.now.rest.now) (have c.args.tokens.now.rest.now) _ _ c.from_residual-in_err-inner-in-LeftBracket.result
    _ c.from_residual-in_err-inner-in-LeftBracket.ensures.1
    (λ total x h.
    let d = c.in_err-inner-in-LeftBracket.ensures in
    stopped_deep _ _ _ d.1 (bracket_too_deep total x.spot c.in-Some.token.now _ _ c.in-Some.ensures.token (omega (arith, h, d.0)) c.in-LeftBracket.is))

pub returns-in_ok-inner-in-LeftBracket-clause-reads : goal.returns-in_ok-inner-in-LeftBracket-clause-reads
returns-in_ok-inner-in-LeftBracket-clause-reads g c =
    let d : c.in_ok-inner-in-LeftBracket.inner + 1 ≡ c.args.levels = c.in_ok-inner-in-LeftBracket.ensures in
    leads c.args.levels c.in_ok-inner-in-LeftBracket.inner expr_of (need c.args.tokens.now.rest.now) (have c.args.tokens.now.rest.now)
    (λ spot. Operand (beginning (ForElement c.in-Some.token.now.span [] spot))) behind _ _ _ c.array.result (λ x. x.spot)
    (λ total x h. over_bracket total x.spot c.in-Some.token.now _ _ (took _ _ _ c.in-Some.ensures.token c.skip-in-LeftBracket.ensures.rest)
    c.in_ok-inner-in-LeftBracket.inner (omega (arith, h, d)) c.in-LeftBracket.is)
    (λ x h. omega (arith, h, d)) (λ total b x. refl) c.array.ensures.reads

pub returns-in_err-inner-in-If-clause-reads : goal.returns-in_err-inner-in-If-clause-reads
returns-in_err-inner-in-If-clause-reads g c =
    passes c.args.levels expr_of (need c.args.tokens.now.rest.now) (have c.args.tokens.now.rest.now) _ _ c.from_residual-in_err-inner-in-If.result _
    c.from_residual-in_err-inner-in-If.ensures.1
    (λ total x h.
    let d = c.in_err-inner-in-If.ensures in
    stopped_deep _ _ _ d.1 (if_too_deep total x.spot c.in-Some.token.now _ _ c.in-Some.ensures.token (omega (arith, h, d.0)) c.in-If.is))

pub returns-in_ok-inner-in-If-clause-reads : goal.returns-in_ok-inner-in-If-clause-reads
returns-in_ok-inner-in-If-clause-reads g c =
    let d : c.in_ok-inner-in-If.inner + 1 ≡ c.args.levels = c.in_ok-inner-in-If.ensures in
    leads c.args.levels c.in_ok-inner-in-If.inner expr_of (need c.args.tokens.now.rest.now) (have c.args.tokens.now.rest.now)
    (λ spot. Operand (beginning (ForCondition c.in-Some.token.now.span.from [] c.in-Some.token.now.span spot))) behind _ _ _ c.choices.result
    (λ x. x.spot)
    (λ total x h. over_if total x.spot c.in-Some.token.now _ _ (took _ _ _ c.in-Some.ensures.token c.skip-in-If.ensures.rest) c.in_ok-inner-in-If.inner
    (omega (arith, h, d)) c.in-If.is)
    (λ x h. omega (arith, h, d)) (λ total b x. refl) c.choices.ensures.reads
