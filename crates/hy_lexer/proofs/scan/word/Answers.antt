use Rattle.std.proofs.Common.{refl, ◌≡◌, true, false}
use Rattle.hy_lexer.proofs.Scanning.{scan_word, scan_bad_character}
use Rattle.hy_lexer.proofs.scan.word.Goals as goal

pub returns-then-not-starts_word : goal.returns-then-not-starts_word
returns-then-not-starts_word c =
    scan_bad_character c.args.text.now c.first_char-c.result.1.now c.first_char-c.result.0 _ c.first_char-c.ensures.spelled
    (λ h. let clash : false ≡ true = c.if-not-starts_word.ensures.1 h in cc) c.requires c.first_char-c.ensures.utf8 refl

pub returns : goal.returns
returns c =
    scan_word c.args.text.now c.first_char-c.result.1.now c.behind_word-after.result.now c.first_char-c.result.0 _ c.first_char-c.ensures.spelled
    (c.if-not-starts_word.ensures.0 refl) c.behind_word-after.ensures c.behind_word-after.utf8 refl
