use Rattle.std.proofs.Common.{sym, ap, ◌∙◌, arith}
use Rattle.hy_tree.specs.Denotes.{type_of}
use Rattle.hy_grammar.specs.Machine.{walk}
use Rattle.hy_grammar.specs.Nodes as node
use Rattle.hy_grammar.specs.Stack.{ForElementType, ArrayTypeWord}
use Rattle.hy_grammar.specs.TypeSteps.{typed}
use Rattle.hy_phrases.proofs.TypeWalks.{wants_less, wants_greater, typed_fits}
use Rattle.hy_phrases.proofs.Walks.{wanted, missed, unopened, from_there, passes}
use Rattle.hy_phrases.proofs.types.Types.array.Goals as goal

pub returns-in_err-levels-clause-reads : goal.returns-in_err-levels-clause-reads
returns-in_err-levels-clause-reads g c =
    passes c.args.self.now.levels type_of (ArrayTypeWord c.args.word) typed _ _ c.from_residual.result _ c.from_residual.ensures.1
    (λ total u h. unopened total (wants_less c.args.word u) _ _ _ c.in_err-levels.ensures.token (λ span none. omega (arith, h, none)))

pub returns-in_err-element-clause-reads : goal.returns-in_err-element-clause-reads
returns-in_err-element-clause-reads g c =
    passes c.args.self.now.levels type_of (ArrayTypeWord c.args.word) typed _ _ c.from_residual-in_err-element.result _
    c.from_residual-in_err-element.ensures.1
    (λ total u h.
    let o = c.in_ok-levels.ensures.token in
    from_there _ _ _ (wanted total (wants_less c.args.word u) o.0 (omega (arith, h, o.1)))
    (c.in_err-element.ensures.reads total (ForElementType c.args.word u) (omega (arith, h, o.1))))

pub returns-in_err-close-clause-reads : goal.returns-in_err-close-clause-reads
returns-in_err-close-clause-reads g c =
    passes c.args.self.now.levels type_of (ArrayTypeWord c.args.word) typed _ _ c.from_residual-in_err-close.result _ c.from_residual-in_err-close.ensures.1
    (λ total u h.
    let o = c.in_ok-levels.ensures.token in
    from_there _ _ _ (wanted total (wants_less c.args.word u) o.0 (omega (arith, h, o.1))
    ∙ c.in_ok-element.ensures.reads total (ForElementType c.args.word u) (omega (arith, h, o.1)))
    (missed total (wants_greater c.args.word (type_of c.in_ok-element.element) u) c.in_err-close.ensures.token))

pub returns-clause-reads : goal.returns-clause-reads
returns-clause-reads g c = λ total u h.
    let o = c.in_ok-levels.ensures.token in
    wanted total (wants_less c.args.word u) o.0 (omega (arith, h, o.1))
    ∙ c.in_ok-element.ensures.reads total (ForElementType c.args.word u) (omega (arith, h, o.1))
    ∙ wanted total (wants_greater c.args.word (type_of c.in_ok-element.element) u) c.in_ok-close.ensures.token
    (typed_fits c.args.self.now.levels (node.array_type c.args.word (type_of c.in_ok-element.element) c.in_ok-close.close) u h)
    ∙ ap (λ e. walk total (typed e u) c.want.new.self.rest.now) (sym c.in_ok-array_type.ensures)
