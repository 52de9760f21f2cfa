use Rattle.std.proofs.Common.{map, sym, ap, ◌∙◌}
use Rattle.hy_parser.specs.Headings.{sort_of, headed, callable_done}
use Rattle.hy_grammar.specs.Machine.{walk}
use Rattle.hy_tree.specs.Denotes as D
use Rattle.hy_grammar.specs.StmtSteps.{callable_of}
use Rattle.hy_parser.proofs.BodySteps.{requirement_done, is_requirement, fits_owner}
use Rattle.hy_parser.proofs.bodies.read_body.Goals as goal

pub returns-clause-reads : goal.returns-clause-reads
returns-clause-reads c = λ total x le.
    let head = headed (sort_of c.args.sort) c.args.heading x in
    let is = is_requirement (sort_of c.args.sort) (sym c.if-has_body.ensures) in
    requirement_done total head c.args.heading.end c.args.tokens.now.rest.now is (fits_owner (sort_of c.args.sort) x.home is x.fits)
    ∙ ap (λ z. walk total (callable_done z x.home x.start) c.args.tokens.now.rest.now) (sym (c.callable.ensures x
    ∙ ap (λ variants. callable_of head (map D.variant_of variants) c.args.heading.end) c.new.ensures))

pub read_braced-requires : goal.read_braced-requires
read_braced-requires c = sym c.if-has_body.ensures
