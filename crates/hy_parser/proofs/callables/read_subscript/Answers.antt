use Rattle.std.proofs.Common.{◌≡◌, inl, inr, true, false, refl, sym, ap, ◌∙◌}
use Rattle.hy_tree.specs.Denotes as D
use Rattle.hy_parser.specs.Headings.{Below, BelowSubscript, BelowName, headed, callable_done}
use Rattle.hy_grammar.specs.Machine.{walk}
use Rattle.std.proofs.Common.{Bool}
use Rattle.hy_parser.specs.declared.heading.Heading.{Heading}
use Rattle.hy_grammar.specs.Stack.{Subscript, SubscriptWord, ParamsWanted}
use Rattle.hy_parser.proofs.CallableSteps.{bare_subscript}
use Rattle.hy_parser.proofs.Follows.{follows}
use Rattle.hy_parser.proofs.callables.read_subscript.Goals as goal

pub returns-then-in_file-clause-reads : goal.returns-then-in_file-clause-reads
returns-then-in_file-clause-reads c =
    let f : BelowSubscript c.args.in_file → BelowName c.args.tokens.now.rest.now =
    λ x. record { home = x.home; start = x.start; names = inl (x.is ∙ c.if-in_file.true) } in
    follows c.args.levels c.args.levels D.callable_of (λ (x : BelowSubscript c.args.in_file). SubscriptWord x.home x.start c.args.keyword) f
    (λ y. SubscriptWord y.home y.start c.args.keyword) (λ z y. callable_done z y.home y.start) _ _ _ _
    (λ total x le. refl) (λ x le. le) c.read_named_subscript.ensures.reads

pub returns-then-sees-clause-reads : goal.returns-then-sees-clause-reads
returns-then-sees-clause-reads c =
    let f : BelowSubscript c.args.in_file → Below Subscript = λ x. record { home = x.home; start = x.start; fits = tt } in
    follows c.args.levels c.args.levels D.callable_of (λ (x : BelowSubscript c.args.in_file). SubscriptWord x.home x.start c.args.keyword) f
    (λ y. ParamsWanted (headed Subscript c.new-heading.result y)) (λ z y. callable_done z y.home y.start) _ _ _ _
    (λ total x le. bare_subscript total x.home x.start c.args.keyword c.args.tokens.now.rest.now (x.is ∙ c.if-in_file.false) (c.if-sees.ensures.seen.0 refl)
    ∙ ap (λ (h : Heading). walk total (ParamsWanted (headed Subscript h (f x))) c.args.tokens.now.rest.now) (sym c.new-heading.ensures))
    (λ x le. le) c.read_opened.ensures.reads

pub returns-clause-reads : goal.returns-clause-reads
returns-clause-reads c =
    let f : BelowSubscript c.args.in_file → BelowName c.args.tokens.now.rest.now =
    λ x. record {
      home = x.home;
      start = x.start;
      names =
          inr (λ h. let w : ◌≡◌ {A = Bool} false true = c.if-sees.ensures.seen.1 h in let z : ⊥ = cc in z);
    } in
    follows c.args.levels c.args.levels D.callable_of (λ (x : BelowSubscript c.args.in_file). SubscriptWord x.home x.start c.args.keyword) f
    (λ y. SubscriptWord y.home y.start c.args.keyword) (λ z y. callable_done z y.home y.start) _ _ _ _
    (λ total x le. refl) (λ x le. le) c.read_named_subscript-2.ensures.reads
