use Rattle.std.proofs.Common.{◌≡◌, ◌+◌, rules, sym, ap, ◌∙◌, refl, arith}
use Rattle.hy_tree.specs.Denotes.{type_of}
use Rattle.hy_grammar.specs.Machine.{walk}
use Rattle.hy_grammar.specs.Nodes as node
use Rattle.hy_grammar.specs.Stack.{TypeWanted, ArrayTypeWord, TypesOpened}
use Rattle.hy_grammar.specs.TypeSteps.{typed}
use Rattle.hy_phrases.proofs.TypeWalks.{over_name, over_self, over_array_word, over_bracket, bracket_too_deep, no_type_there, no_type_left}
use Rattle.hy_phrases.proofs.Walks.{stopped, stopped_deep, took, leads, passes}
use Rattle.hy_phrases.proofs.types.+read_type.Goals as goal

pub returns-in_default-clause-reads : goal.returns-in_default-clause-reads
returns-in_default-clause-reads t c = λ total u h. stopped _ c.args.tokens.now.rest.now _ c.stop.ensures (no_type_left total u _ c.in_default.ensures.token)

pub returns-in_default-kind : goal.returns-in_default-kind
returns-in_default-kind t c = record {
  reads = λ total u h. stopped _ c.args.tokens.now.rest.now _ c.stop-in_default-kind.ensures
      (no_type_there total u c.in-Some.token.now _ _ c.in-Some.ensures.token c.in_default-kind.not-Name c.in_default-kind.not-SelfType
      c.in_default-kind.not-Array c.in_default-kind.not-LeftParen);
  within = search rules;
  progress = tt;
}

pub returns-in_ok-copy_text-in-Name-clause-reads : goal.returns-in_ok-copy_text-in-Name-clause-reads
returns-in_ok-copy_text-in-Name-clause-reads t c = λ total u h.
    over_name total u c.in-Some.token.now _ _ (took _ _ _ c.in-Some.ensures.token c.skip.ensures.rest) c.args.levels h c.in-Name.text c.in-Name.is
    ∙ ap (λ e. walk total (typed e u) c.skip.new.self.rest.now) (sym (c.named_type.ensures
    ∙ ap (λ text. node.named_type text c.in-Some.token.now.span) c.in_ok-copy_text-in-Name.ensures))

pub returns-in-SelfType-clause-reads : goal.returns-in-SelfType-clause-reads
returns-in-SelfType-clause-reads t c = λ total u h.
    over_self total u c.in-Some.token.now _ _ (took _ _ _ c.in-Some.ensures.token c.skip-in-SelfType.ensures.rest) c.args.levels h c.in-SelfType.is
    ∙ ap (λ e. walk total (typed e u) c.skip-in-SelfType.new.self.rest.now) (sym c.self_type.ensures)

pub returns-in-Array-clause-reads : goal.returns-in-Array-clause-reads
returns-in-Array-clause-reads t c =
    leads c.args.levels c.args.levels type_of TypeWanted typed (ArrayTypeWord c.in-Some.token.now.span) typed _ _ _ c.array.result (λ u. u)
    (λ total u h. over_array_word total u c.in-Some.token.now _ _ (took _ _ _ c.in-Some.ensures.token c.skip-in-Array.ensures.rest) c.args.levels h
    c.in-Array.is)
    (λ u h. h) (λ total b u. refl) c.array.ensures.reads

pub returns-in_err-inner-in-LeftParen-clause-reads : goal.returns-in_err-inner-in-LeftParen-clause-reads
returns-in_err-inner-in-LeftParen-clause-reads t c =
    passes c.args.levels type_of TypeWanted typed _ _ c.from_residual-in_err-inner-in-LeftParen.result _ c.from_residual-in_err-inner-in-LeftParen.ensures.1
    (λ total u h.
    let d = c.in_err-inner-in-LeftParen.ensures in
    stopped_deep _ _ _ d.1 (bracket_too_deep total u c.in-Some.token.now _ _ c.in-Some.ensures.token (omega (arith, h, d.0)) c.in-LeftParen.is))

pub returns-in_ok-inner-in-LeftParen-clause-reads : goal.returns-in_ok-inner-in-LeftParen-clause-reads
returns-in_ok-inner-in-LeftParen-clause-reads t c =
    let d : c.in_ok-inner-in-LeftParen.inner + 1 ≡ c.args.levels = c.in_ok-inner-in-LeftParen.ensures in
    leads c.args.levels c.in_ok-inner-in-LeftParen.inner type_of TypeWanted typed (TypesOpened c.in-Some.token.now.span) typed _ _ _ c.tuple.result (λ u. u)
    (λ total u h. over_bracket total u c.in-Some.token.now _ _ (took _ _ _ c.in-Some.ensures.token c.skip-in-LeftParen.ensures.rest)
    c.in_ok-inner-in-LeftParen.inner (omega (arith, h, d)) c.in-LeftParen.is)
    (λ u h. omega (arith, h, d)) (λ total b u. refl) c.tuple.ensures.reads
