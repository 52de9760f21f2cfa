use Rattle.std.proofs.Common.{◌≡◌, ◌≤◌, ◌+◌, ℕ, List, [], ◌∷◌, map, length, MatchOption, Option, Some, None, rules, sym, ap, subst, refl, ◌∙◌, arith}
use Rattle.hy_lexer.specs.declared.token.Token.{Token}
use Rattle.std.proofs.lemmas.List.{map-append, length-append, length-map}
use Rattle.hy_base.specs.declared.position.Span.{Span}
use Rattle.hy_lexer.specs.declared.token.TokenKind.TheVariants as k
use Rattle.hy_tree.specs.Denotes.{expr_of}
use Rattle.hy_tree.specs.Tree as T
use Rattle.hy_grammar.specs.Machine.{walk, most_levels}
use Rattle.hy_grammar.specs.OperandSteps.{no_prefixes}
use Rattle.hy_expressions.specs.ReadsExpressions.{PostfixSpot, operated}
use Rattle.hy_grammar.specs.Stack.{ForArgument, Callee, ForCondition, ForElement, PartsOpened, ArrayWord, Spot, State, Use, depth_use, depth_spot, Operand}
use Rattle.hy_grammar.specs.Stack.{Postfixed, Dotted, ArgumentsOpened, ArgumentWanted, ArgumentsRead}
use Rattle.hy_phrases.specs.Wanted.{Sees, Takes}
use Rattle.hy_phrases.proofs.Walks.{taken, stopped_deep, from_there, passes, took}
use Rattle.hy_expressions.specs.ReadsExpressions.{prefix_at, IsPrefixAhead}
use Rattle.hy_grammar.specs.Stack as stack
use Rattle.hy_expressions.proofs.OperandWalks.{with_operators, one_more, over_prefix, prefix_too_deep, over_mark, marked_spot, plain_spot}
use Rattle.hy_expressions.proofs.expressions.Expressions.operand.Goals as goal

abbrev need : stack.Tiers × Use → State
need x = Operand (stack.InExpr no_prefixes x.0 x.1)

abbrev have : T.Expr → stack.Tiers × Use → State
have e x = stack.Operated e x.0 x.1

pub returns-in_err-levels-clause-reads : goal.returns-in_err-levels-clause-reads
returns-in_err-levels-clause-reads g c = passes c.args.self.now.levels expr_of need have _ _ c.from_residual.result _ c.from_residual.ensures.1
    (λ total x h.
    let d = c.in_err-levels.ensures in
    let a = c.in-Some.ensures in
    from_there _ _ _ (c.prefixes.invariant.reads total x.0 x.1 (omega (arith, h)))
    (stopped_deep _ _ _ d.1 (prefix_too_deep (map prefix_at c.prefixes.prefixes) x.0 x.1 total a.0 _ _ a.1 c.in-Some.prefix.operator a.2
    (let n = length-map c.prefixes.prefixes prefix_at in let s = c.prefixes.invariant.spent in omega (arith, h, d.0, n, s)))))

pub prefixes-preserved : goal.prefixes-preserved
prefixes-preserved g c = record {
  within = search rules;
  spent = let p = ap length c.in_ok-push.ensures.ok in let l = length-append c.prefixes.prefixes (c.in-Some.prefix ∷ []) in let s =
      c.prefixes.invariant.spent in let d : c.in_ok-levels.levels + 1 ≡ c.prefixes.levels = c.in_ok-levels.ensures in omega (arith, p, l, s, d);
  reads = λ total tiers u h.
      let a = c.in-Some.ensures in
      let d : c.in_ok-levels.levels + 1 ≡ c.prefixes.levels = c.in_ok-levels.ensures in
      c.prefixes.invariant.reads total tiers u h
      ∙ over_prefix (map prefix_at c.prefixes.prefixes) tiers u total a.0 _ _ (took _ _ _ a.1 c.skip.ensures.rest) c.in-Some.prefix.operator a.2
      c.in_ok-levels.levels
      (let n = length-map c.prefixes.prefixes prefix_at in let s = c.prefixes.invariant.spent in omega (arith, h, d, n, s))
      ∙ ap (λ token. walk total
      (Operand (stack.InExpr (with_operators (one_more (map prefix_at c.prefixes.prefixes) c.in-Some.prefix.operator token) None) tiers u))
      c.skip.new.self.rest.now) a.3
      ∙ ap (λ l. walk total (Operand (stack.InExpr (with_operators l None) tiers u)) c.skip.new.self.rest.now)
      (sym (ap (map prefix_at) c.in_ok-push.ensures.ok ∙ map-append prefix_at c.prefixes.prefixes (c.in-Some.prefix ∷ [])));
}

-- before the postfix expression
before : (total : ℕ) (operators : List stack.Prefix) (x : stack.Tiers × Use) (old new : List Token) (mark : Option Span) → IsPrefixAhead old None
    → MatchOption mark ((Sees k.Ampersand old → ⊥) × (new ≡ old)) (λ span. Takes k.Ampersand old span new)
    → depth_use x.1 + length operators ≤ most_levels
    → (s : PostfixSpot new) × (s.spot ≡ stack.InExpr (with_operators operators mark) x.0 x.1)
    × (walk total (Operand (stack.InExpr (with_operators operators None) x.0 x.1)) old ≡ walk total (Operand s.spot) new)
before total operators x old new None p m le = (
  plain_spot operators x.0 x.1 new (λ t more front. p t more (sym m.1 ∙ front)) (subst (λ l. Sees k.Ampersand l → ⊥) (sym m.1) m.0),
  refl,
  ap (walk total (Operand (stack.InExpr (with_operators operators None) x.0 x.1))) (sym m.1),
)
before total operators x old new (Some token) p m le =
    (marked_spot operators x.0 x.1 new token, refl, taken total (over_mark operators x.0 x.1) m le)

pub returns-in_err-operand-clause-reads : goal.returns-in_err-operand-clause-reads
returns-in_err-operand-clause-reads g c =
    passes c.args.self.now.levels expr_of need have _ _ c.from_residual-in_err-operand.result _ c.from_residual-in_err-operand.ensures.1
    (λ total x h.
    let n = length-map c.prefixes.prefixes prefix_at in
    let s = c.prefixes.invariant.spent in
    let b = before total (map prefix_at c.prefixes.prefixes) x _ _ c.take-mark.result c.in_default.ensures
    c.take-mark.ensures.token (omega (arith, h, n, s)) in
    from_there _ _ _ (c.prefixes.invariant.reads total x.0 x.1 (omega (arith, h)) ∙ b.2)
    (c.in_err-operand.ensures.reads total b.0 (ap (λ z. c.prefixes.levels + depth_spot z) b.1 ∙ omega (arith, h, n, s))))

pub returns-clause-reads : goal.returns-clause-reads
returns-clause-reads g c = λ total x h.
    let n = length-map c.prefixes.prefixes prefix_at in
    let s = c.prefixes.invariant.spent in
    let b = before total (map prefix_at c.prefixes.prefixes) x _ _ c.take-mark.result c.in_default.ensures
    c.take-mark.ensures.token (omega (arith, h, n, s)) in
    c.prefixes.invariant.reads total x.0 x.1 (omega (arith, h)) ∙ b.2
    ∙ c.in_ok-operand.ensures.reads total b.0 (ap (λ z. c.prefixes.levels + depth_spot z) b.1 ∙ omega (arith, h, n, s))
    ∙ ap (λ z. walk total (operated (expr_of c.in_ok-operand.operand) z) c.postfix.new.tokens.rest.now) b.1
    ∙ ap (λ e. walk total (stack.Operated e x.0 x.1) c.postfix.new.tokens.rest.now) (sym c.in_ok-with_prefixes.ensures)
