use Rattle.std.proofs.Common.{◌∷◌, ◌++◌, [], sym, ap, ◌∙◌, arith}
use Rattle.hy_lexer.specs.declared.token.TokenKind.TheVariants as k
use Rattle.hy_grammar.specs.DeclSteps.{with_generic}
use Rattle.hy_parser.specs.Headings.{generic_done}
use Rattle.hy_grammar.specs.Machine.{walk}
use Rattle.hy_grammar.specs.Nodes as node
use Rattle.hy_grammar.specs.Stack.{BoundWanted, BoundListed}
use Rattle.hy_parser.proofs.Follows.{passed, still}
use Rattle.hy_parser.proofs.HeadingSteps.{bound_wants, bounds_separate, more_bounds, generic_ended}
use Rattle.hy_parser.proofs.Separators.{on_neither}
use Rattle.hy_phrases.proofs.Walks.{fits, over, named, unnamed, from_there}
use Rattle.hy_parser.proofs.generics.read_bounds.Goals as goal

pub returns-in_err-name-clause-reads : goal.returns-in_err-name-clause-reads
returns-in_err-name-clause-reads c = λ levels. passed levels _ _ _ _ _ _ c.from_residual.ensures.1 (λ total x le.
    from_there _ _ _ (c.bounds.invariant.reads total x (fits levels _ le))
    (unnamed total (bound_wants x c.args.name c.bounds.bounds) _ _ c.in_err-name.ensures.token))

pub bounds-preserved : goal.bounds-preserved
bounds-preserved c = record {
  within = omega arith;
  reads = λ total x le.
      let name = c.in_ok-name.field-0 in
      let listed = c.bounds.bounds ++ node.used name.text name.span ∷ [] in
      let t = c.in-Some.ensures.token in
      c.bounds.invariant.reads total x le
      ∙ named total (bound_wants x c.args.name c.bounds.bounds) c.in_ok-name.ensures.token le
      ∙ over total (BoundListed x c.args.name listed) (BoundWanted x c.args.name listed) t.token _ _ t.front
      (λ place. more_bounds x c.args.name listed t.token place t.is) le
      ∙ ap (λ bounds. walk total (BoundWanted x c.args.name bounds) c.take.new.self.rest.now) (ap (λ u. c.bounds.bounds ++ u ∷ []) (sym c.name_use.ensures)
      ∙ sym c.in_ok-push.ensures.ok);
}

pub returns-in_err-more-clause-reads : goal.returns-in_err-more-clause-reads
returns-in_err-more-clause-reads c = λ levels. passed levels _ _ _ _ _ _ c.from_residual-in_err-more.ensures.1 (λ total x le.
    let name = c.in_ok-name.field-0 in
    let listed = c.bounds.bounds ++ node.used name.text name.span ∷ [] in
    let lacking = c.in_default.ensures.token in
    let h = c.in_err-more.ensures.token in
    from_there _ _ _
    (c.bounds.invariant.reads total x (fits levels _ le)
    ∙ named total (bound_wants x c.args.name c.bounds.bounds) c.in_ok-name.ensures.token (fits levels _ le)
    ∙ ap (walk total (BoundListed x c.args.name listed)) (sym lacking.1))
    (on_neither total (bounds_separate x c.args.name listed) (still k.Ampersand _ _ lacking.0 lacking.1) h.0 h.1))

pub returns-clause-reads : goal.returns-clause-reads
returns-clause-reads c = λ levels total x le.
    let name = c.in_ok-name.field-0 in
    let listed = c.bounds.bounds ++ node.used name.text name.span ∷ [] in
    let lacking = c.in_default.ensures.token in
    c.bounds.invariant.reads total x (fits levels _ le)
    ∙ named total (bound_wants x c.args.name c.bounds.bounds) c.in_ok-name.ensures.token (fits levels _ le)
    ∙ ap (walk total (BoundListed x c.args.name listed)) (sym lacking.1)
    ∙ generic_ended total (bounds_separate x c.args.name listed) _ _ c.in_ok-more.more c.in_ok-more.ensures.token (fits levels _ le)
    ∙ ap (λ bounds. walk total (generic_done c.in_ok-more.more (with_generic x c.args.name bounds)) c.goes_on.new.tokens.rest.now)
    (ap (λ u. c.bounds.bounds ++ u ∷ []) (sym c.name_use.ensures) ∙ sym c.in_ok-push.ensures.ok)
