use Rattle.std.proofs.Common.{sym, ◌∙◌, ◌++◌}
use Rattle.hy_lexer.specs.Words.{conventions, declarations, statements, values}
use Rattle.hy_lexer.proofs.Tables.{kind_in-append, kind_in_lacks}
use Rattle.hy_lexer.proofs.words.reserved_word.Goals as goal

pub returns-in-Some-declaration : goal.returns-in-Some-declaration
returns-in-Some-declaration c =
    sym (kind_in_lacks conventions (declarations ++ (statements ++ values)) c.args.word.now (sym c.in_default.ensures)
    ∙ kind_in-append declarations (statements ++ values) c.args.word.now _ (sym c.in-Some-declaration.ensures))

pub returns-in-Some-statement : goal.returns-in-Some-statement
returns-in-Some-statement c =
    sym (kind_in_lacks conventions (declarations ++ (statements ++ values)) c.args.word.now (sym c.in_default.ensures)
    ∙ kind_in_lacks declarations (statements ++ values) c.args.word.now (sym c.in_default-declaration.ensures)
    ∙ kind_in-append statements values c.args.word.now _ (sym c.in-Some-statement.ensures))
