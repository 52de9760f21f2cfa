use Rattle.std.proofs.Common.{refl, sym, ap, ◌∙◌}
use Rattle.hy_grammar.specs.Machine.{walk}
use Rattle.hy_grammar.specs.Stack.{FileReady}
use Rattle.hy_parser.proofs.DeclarationSteps.{file_semicolon, file_goes_on}
use Rattle.hy_phrases.proofs.Walks.{fits, taken}
use Rattle.hy_parser.proofs.declarations.read_end.Goals as goal

pub returns-in-Some-clause-reads : goal.returns-in-Some-clause-reads
returns-in-Some-clause-reads c = λ total decls. taken total (file_semicolon decls c.args.before) c.in-Some.ensures.token (fits 200 0 refl)

pub returns-in-None-clause-reads : goal.returns-in-None-clause-reads
returns-in-None-clause-reads c = λ total decls.
    let lacking = c.in-None.ensures.token in
    file_goes_on total decls c.args.before c.args.tokens.now.rest.now lacking.0 ∙ ap (walk total (FileReady decls c.args.before)) (sym lacking.1)
