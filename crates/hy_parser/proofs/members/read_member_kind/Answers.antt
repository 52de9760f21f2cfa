use Rattle.std.proofs.Common.{ℕ, length, Some, refl, sym, ap, ◌∙◌}
use Rattle.hy_tree.specs.Denotes as D
use Rattle.hy_grammar.specs.Machine.{walk}
use Rattle.hy_tree.specs.declared.declaration.MemberKind.{MemberKind}
use Rattle.hy_phrases.specs.declared.stop.Stop.TheVariants as stop
use Rattle.hy_parser.specs.Headings.{MemberAt, Begun, member_word, word_state}
use Rattle.hy_parser.specs.ReadsDeclarations.{read_kind}
use Rattle.hy_grammar.specs.Stack.{InOwner, PublicMember, MemberRead, FieldWord, MemberwiseWord}
use Rattle.hy_parser.proofs.Follows.{passed, follows}
use Rattle.hy_parser.proofs.MemberSteps.{word_begins, no_word, function_sort}
use Rattle.hy_phrases.proofs.Walks.{stopped, from_there}
use Rattle.hy_parser.proofs.members.read_member_kind.Goals as goal

pub returns-in_default-clause-reads : goal.returns-in_default-clause-reads
returns-in_default-clause-reads c = λ total x le.
    let lacking = c.in_default.ensures.token in
    stopped c.stop.result c.args.tokens.now.rest.now _ (c.stop.ensures ∙ ap (λ l. stop.Unexpected (length l)) lacking.1)
    (no_word total x.owner c.args.sort x.members x.start c.args.tokens.now.rest.now x.is lacking.0)

pub returns-in_err-read_deinit-in-Deinit-clause-reads : goal.returns-in_err-read_deinit-in-Deinit-clause-reads
returns-in_err-read_deinit-in-Deinit-clause-reads c = passed 199 _ _ _ _ _ _ c.from_residual.ensures.1 (λ total x le.
    from_there _ _ _ (word_begins total x.owner c.args.sort x.members x.start c.in-Some.word _ c.in-Some.span _ x.is c.in-Some.ensures.token
    ∙ ap (λ w. walk total (word_state w x.owner x.members x.start c.in-Some.span) c.take_member_word.new.tokens.rest.now) c.in-Deinit.is)
    (c.in_err-read_deinit-in-Deinit.ensures.reads total (record { home = InOwner x.owner x.members; start = x.start }) le))

pub returns-in_ok-read_deinit-in-Deinit-clause-reads : goal.returns-in_ok-read_deinit-in-Deinit-clause-reads
returns-in_ok-read_deinit-in-Deinit-clause-reads c = λ total x le.
    word_begins total x.owner c.args.sort x.members x.start c.in-Some.word _ c.in-Some.span _ x.is c.in-Some.ensures.token
    ∙ ap (λ w. walk total (word_state w x.owner x.members x.start c.in-Some.span) c.take_member_word.new.tokens.rest.now) c.in-Deinit.is
    ∙ c.in_ok-read_deinit-in-Deinit.ensures.reads total (record { home = InOwner x.owner x.members; start = x.start }) le
    ∙ ap (λ (r : MemberKind × ℕ). walk total (MemberRead x.owner x.members x.start (D.member_kind_of r.0) r.1) c.read_deinit.new.tokens.rest.now)
    (sym c.called.ensures)

pub returns-in_err-read_subscript-in-Subscript-clause-reads : goal.returns-in_err-read_subscript-in-Subscript-clause-reads
returns-in_err-read_subscript-in-Subscript-clause-reads c = passed 199 _ _ _ _ _ _ c.from_residual-in_err-read_subscript-in-Subscript.ensures.1 (λ total x le.
    from_there _ _ _ (word_begins total x.owner c.args.sort x.members x.start c.in-Some.word _ c.in-Some.span _ x.is c.in-Some.ensures.token
    ∙ ap (λ w. walk total (word_state w x.owner x.members x.start c.in-Some.span) c.take_member_word.new.tokens.rest.now) c.in-Subscript.is)
    (c.in_err-read_subscript-in-Subscript.ensures.reads total (record { home = InOwner x.owner x.members; start = x.start; is = refl }) le))

pub returns-in_ok-read_subscript-in-Subscript-clause-reads : goal.returns-in_ok-read_subscript-in-Subscript-clause-reads
returns-in_ok-read_subscript-in-Subscript-clause-reads c = λ total x le.
    word_begins total x.owner c.args.sort x.members x.start c.in-Some.word _ c.in-Some.span _ x.is c.in-Some.ensures.token
    ∙ ap (λ w. walk total (word_state w x.owner x.members x.start c.in-Some.span) c.take_member_word.new.tokens.rest.now) c.in-Subscript.is
    ∙ c.in_ok-read_subscript-in-Subscript.ensures.reads total (record { home = InOwner x.owner x.members; start = x.start; is = refl }) le
    ∙ ap (λ (r : MemberKind × ℕ). walk total (MemberRead x.owner x.members x.start (D.member_kind_of r.0) r.1) c.read_subscript.new.tokens.rest.now)
    (sym c.called-in-Subscript.ensures)

pub returns-in_err-read_function-in-Function-clause-reads : goal.returns-in_err-read_function-in-Function-clause-reads
returns-in_err-read_function-in-Function-clause-reads c = passed 199 _ _ _ _ _ _ c.from_residual-in_err-read_function-in-Function.ensures.1 (λ total x le.
    from_there _ _ _ (word_begins total x.owner c.args.sort x.members x.start c.in-Some.word _ c.in-Some.span _ x.is c.in-Some.ensures.token
    ∙ ap (λ w. walk total (word_state w x.owner x.members x.start c.in-Some.span) c.take_member_word.new.tokens.rest.now) c.in-Function.is)
    (c.in_err-read_function-in-Function.ensures.reads total (record {
      home = InOwner x.owner x.members;
      start = x.start;
      is = let t =
          c.in-Some.ensures.token in function_sort x.owner t.token.kind c.in-Function.of x.members (ap (λ s. member_word s t.token.kind) x.is ∙ t.is
          ∙ ap Some c.in-Function.is);
    }) le))

pub returns-in_ok-read_function-in-Function-clause-reads : goal.returns-in_ok-read_function-in-Function-clause-reads
returns-in_ok-read_function-in-Function-clause-reads c = λ total x le.
    word_begins total x.owner c.args.sort x.members x.start c.in-Some.word _ c.in-Some.span _ x.is c.in-Some.ensures.token
    ∙ ap (λ w. walk total (word_state w x.owner x.members x.start c.in-Some.span) c.take_member_word.new.tokens.rest.now) c.in-Function.is
    ∙ c.in_ok-read_function-in-Function.ensures.reads total (record {
      home = InOwner x.owner x.members;
      start = x.start;
      is = let t =
          c.in-Some.ensures.token in function_sort x.owner t.token.kind c.in-Function.of x.members (ap (λ s. member_word s t.token.kind) x.is ∙ t.is
          ∙ ap Some c.in-Function.is);
    }) le
    ∙ ap (λ (r : MemberKind × ℕ). walk total (MemberRead x.owner x.members x.start (D.member_kind_of r.0) r.1) c.read_function.new.tokens.rest.now)
    (sym c.called-in-Function.ensures)

pub returns-in-Field-clause-reads : goal.returns-in-Field-clause-reads
returns-in-Field-clause-reads c =
    let f : Begun c.args.sort → MemberAt = λ x. record { owner = x.owner; members = x.members; start = x.start } in
    follows 199 199 read_kind (λ (x : Begun c.args.sort). PublicMember x.owner x.members x.start) f (λ y. FieldWord y.owner y.members y.start)
    (λ r y. MemberRead y.owner y.members y.start r.0 r.1) _ _ _ _
    (λ total x le. word_begins total x.owner c.args.sort x.members x.start c.in-Some.word _ c.in-Some.span _ x.is c.in-Some.ensures.token
    ∙ ap (λ w. walk total (word_state w x.owner x.members x.start c.in-Some.span) c.take_member_word.new.tokens.rest.now) c.in-Field.is) (λ x le. le)
    c.read_field.ensures.reads

pub returns-in-Memberwise-clause-reads : goal.returns-in-Memberwise-clause-reads
returns-in-Memberwise-clause-reads c =
    let f : Begun c.args.sort → MemberAt = λ x. record { owner = x.owner; members = x.members; start = x.start } in
    follows 199 199 read_kind (λ (x : Begun c.args.sort). PublicMember x.owner x.members x.start) f (λ y. MemberwiseWord y.owner y.members y.start)
    (λ r y. MemberRead y.owner y.members y.start r.0 r.1) _ _ _ _
    (λ total x le. word_begins total x.owner c.args.sort x.members x.start c.in-Some.word _ c.in-Some.span _ x.is c.in-Some.ensures.token
    ∙ ap (λ w. walk total (word_state w x.owner x.members x.start c.in-Some.span) c.take_member_word.new.tokens.rest.now) c.in-Memberwise.is) (λ x le. le)
    c.read_memberwise.ensures.reads
