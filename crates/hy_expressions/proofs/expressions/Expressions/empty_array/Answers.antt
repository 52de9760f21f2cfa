use Rattle.std.proofs.Common.{[], sym, ap, ◌∙◌, arith}
use Rattle.hy_tree.specs.Denotes.{type_of, expr_of}
use Rattle.hy_tree.specs.Tree as T
use Rattle.hy_grammar.specs.Machine.{walk}
use Rattle.hy_grammar.specs.Stack.{ForEmptyArray, Spot, State, ArrayWord, Postfixed}
use Rattle.hy_expressions.proofs.PartWalks.{wants_type, wants_type_end, wants_open, wants_close}
use Rattle.hy_phrases.proofs.Walks.{fits, wanted, missed, unopened, from_there, passes}
use Rattle.hy_expressions.proofs.expressions.Expressions.empty_array.Goals as goal

abbrev behind : T.Expr → Spot → State
behind e spot = Postfixed e [] 0 spot

pub returns-in_err-inner-clause-reads : goal.returns-in_err-inner-clause-reads
returns-in_err-inner-clause-reads g c = passes c.args.levels expr_of (ArrayWord c.args.word) behind _ _ c.from_residual.result _ c.from_residual.ensures.1
    (λ total x h. unopened total (wants_type c.args.word x) _ _ _ c.in_err-inner.ensures.token (λ span none. omega (arith, h, none)))

pub returns-in_err-element-clause-reads : goal.returns-in_err-element-clause-reads
returns-in_err-element-clause-reads g c =
    passes c.args.levels expr_of (ArrayWord c.args.word) behind _ _ c.from_residual-in_err-element.result _ c.from_residual-in_err-element.ensures.1
    (λ total x h.
    let o = c.in_ok-inner.ensures.token in
    from_there _ _ _ (wanted total (wants_type c.args.word x) o.0 (omega (arith, h, o.1)))
    (c.in_err-element.ensures.reads total (ForEmptyArray c.args.word x) (omega (arith, h, o.1))))

pub returns-in_err-want-clause-reads : goal.returns-in_err-want-clause-reads
returns-in_err-want-clause-reads g c =
    passes c.args.levels expr_of (ArrayWord c.args.word) behind _ _ c.from_residual-in_err-want.result _ c.from_residual-in_err-want.ensures.1
    (λ total x h.
    let o = c.in_ok-inner.ensures.token in
    from_there _ _ _ (wanted total (wants_type c.args.word x) o.0 (omega (arith, h, o.1))
    ∙ c.in_ok-element.ensures.reads total (ForEmptyArray c.args.word x) (omega (arith, h, o.1)))
    (missed total (wants_type_end c.args.word x (type_of c.in_ok-element.element)) c.in_err-want.ensures.token))

pub returns-in_err-want-2-clause-reads : goal.returns-in_err-want-2-clause-reads
returns-in_err-want-2-clause-reads g c =
    passes c.args.levels expr_of (ArrayWord c.args.word) behind _ _ c.from_residual-in_err-want-2.result _ c.from_residual-in_err-want-2.ensures.1
    (λ total x h.
    let o = c.in_ok-inner.ensures.token in
    from_there _ _ _ (wanted total (wants_type c.args.word x) o.0 (omega (arith, h, o.1))
    ∙ c.in_ok-element.ensures.reads total (ForEmptyArray c.args.word x) (omega (arith, h, o.1))
    ∙ wanted total (wants_type_end c.args.word x (type_of c.in_ok-element.element)) c.in_ok-want.ensures.token (fits c.args.levels _ h))
    (missed total (wants_open c.args.word x (type_of c.in_ok-element.element)) c.in_err-want-2.ensures.token))

pub returns-in_err-close-clause-reads : goal.returns-in_err-close-clause-reads
returns-in_err-close-clause-reads g c =
    passes c.args.levels expr_of (ArrayWord c.args.word) behind _ _ c.from_residual-in_err-close.result _ c.from_residual-in_err-close.ensures.1
    (λ total x h.
    let o = c.in_ok-inner.ensures.token in
    from_there _ _ _ (wanted total (wants_type c.args.word x) o.0 (omega (arith, h, o.1))
    ∙ c.in_ok-element.ensures.reads total (ForEmptyArray c.args.word x) (omega (arith, h, o.1))
    ∙ wanted total (wants_type_end c.args.word x (type_of c.in_ok-element.element)) c.in_ok-want.ensures.token (fits c.args.levels _ h)
    ∙ wanted total (wants_open c.args.word x (type_of c.in_ok-element.element)) c.in_ok-want-2.ensures.token (omega (arith, h, o.1)))
    (missed total (wants_close c.args.word x (type_of c.in_ok-element.element)) c.in_err-close.ensures.token))

pub returns-clause-reads : goal.returns-clause-reads
returns-clause-reads g c = λ total x h.
    let o = c.in_ok-inner.ensures.token in
    wanted total (wants_type c.args.word x) o.0 (omega (arith, h, o.1))
    ∙ c.in_ok-element.ensures.reads total (ForEmptyArray c.args.word x) (omega (arith, h, o.1))
    ∙ wanted total (wants_type_end c.args.word x (type_of c.in_ok-element.element)) c.in_ok-want.ensures.token (fits c.args.levels _ h)
    ∙ wanted total (wants_open c.args.word x (type_of c.in_ok-element.element)) c.in_ok-want-2.ensures.token (omega (arith, h, o.1))
    ∙ wanted total (wants_close c.args.word x (type_of c.in_ok-element.element)) c.in_ok-close.ensures.token (fits c.args.levels _ h)
    ∙ ap (λ e. walk total (Postfixed e [] 0 x) c.want-3.new.self.rest.now) (sym c.empty_array.ensures)
