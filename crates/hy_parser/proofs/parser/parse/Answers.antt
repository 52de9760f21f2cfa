use Rattle.std.proofs.Common.{◌-◌, drop, ap, subst, ◌∙◌, length}
use Rattle.hy_grammar.specs.Machine.{Unexpected, TooDeep, start as begin, walk}
use Rattle.hy_grammar.specs.Parses.{unexpected_at, too_deep_at}
use Rattle.hy_phrases.specs.Reads.{Halts}
use Rattle.hy_parser.specs.ReadsDeclarations.{refused}
use Rattle.hy_parser.proofs.Programs.{answers_tree, answers_refusal}
use Rattle.hy_parser.proofs.parser.parse.Goals as goal

pub returns-in_ok-numbered-in-Ok-clause-tree : goal.returns-in_ok-numbered-in-Ok-clause-tree
returns-in_ok-numbered-in-Ok-clause-tree c =
    answers_tree c.args.tokens.now c.args.size c.in-Ok.plain c.in_ok-numbered-in-Ok.numbered c.requires c.in-Ok.ensures c.in_ok-numbered-in-Ok.ensures.same

pub returns-in-Err-Unexpected-clause-tree : goal.returns-in-Err-Unexpected-clause-tree
returns-in-Err-Unexpected-clause-tree c =
    answers_refusal c.args.tokens.now c.args.size (Unexpected c.in-Err-Unexpected.left) c.unexpected.result c.requires
    (subst (λ e. Halts e (walk (length c.args.tokens.now) begin c.args.tokens.now)) c.in-Err-Unexpected.field-0-is c.in-Err-Unexpected.ensures)
    (c.unexpected.ensures ∙ ap (λ l. refused (unexpected_at c.args.size l)) c.last_tokens.ensures
    ∙ ap (λ n. refused (unexpected_at c.args.size (drop (length c.args.tokens.now - n) c.args.tokens.now))) c.in-Err-Unexpected.left-is)

pub returns-in-Err-TooDeep-clause-tree : goal.returns-in-Err-TooDeep-clause-tree
returns-in-Err-TooDeep-clause-tree c =
    answers_refusal c.args.tokens.now c.args.size (TooDeep c.in-Err-TooDeep.left) c.too_deep.result c.requires
    (subst (λ e. Halts e (walk (length c.args.tokens.now) begin c.args.tokens.now)) c.in-Err-TooDeep.field-0-is c.in-Err-TooDeep.ensures)
    (c.too_deep.ensures ∙ ap (λ l. refused (too_deep_at c.args.size l)) c.last_tokens-in-Err-TooDeep.ensures
    ∙ ap (λ n. refused (too_deep_at c.args.size (drop (length c.args.tokens.now - n) c.args.tokens.now))) c.in-Err-TooDeep.left-is)
