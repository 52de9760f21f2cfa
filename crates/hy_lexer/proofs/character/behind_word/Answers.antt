use Rattle.std.proofs.Common.{◌≡◌, ℕ, List, ◌++◌, length, sym, ◌∙◌, arith, ap, true, false, length-append, ◌==◌, Bool}
use Rattle.std.proofs.lemmas.Bool.Decides.{nat_tests}
use Rattle.std.specs.Char.{encode_utf8}
use Rattle.std.proofs.lemmas.Str.{encode_same}
use Rattle.unicode_ident.specs.Ident.{is_xid_continue}
use Rattle.hy_lexer.specs.Scans.{StopsWord}
use Rattle.hy_lexer.proofs.Forms.{encode_some}
use Rattle.hy_lexer.proofs.Runs.{passes_word_more, passes_word_end}
use Rattle.hy_lexer.proofs.character.behind_word.Goals as goal

-- the end of the text
no_word : (text : List ℕ) → length text ≡ 0 → StopsWord text
no_word text none c rest e is = omega (arith, encode_some c, length-append (encode_utf8 c) rest, ap length e)

-- another character
other_word : (text behind : List ℕ) (c : ℕ) → text ≡ encode_utf8 c ++ behind → is_xid_continue c ≡ false → StopsWord text
other_word text behind c e none d rest f is =
    let same = (encode_same c d behind rest (sym e ∙ f)).0 in
    let clash : false ≡ true = sym none ∙ ap is_xid_continue same ∙ is in cc

ended : (n : ℕ) (b : Bool) → b ≡ (n == 0) → b ≡ true → n ≡ 0
ended n b e t = grind (arith, nat_tests)

pub loop-c-preserved : goal.loop-c-preserved
loop-c-preserved c = (
  c.first_char-c.ensures.utf8,
  passes_word_more c.args.text.now c.loop-c.rest.now c.first_char-c.result.1.now c.first_char-c.result.0 c.loop-c.invariant.1 c.first_char-c.ensures.spelled
      (sym c.continues_word.ensures ∙ c.if-not-continues_word.false),
)

pub returns-after-loop-c : goal.returns-after-loop-c
returns-after-loop-c c =
    passes_word_end c.args.text.now c.loop-c.rest.now c.loop-c.invariant.1 (no_word c.loop-c.rest.now (ended _ _ c.is_empty.ensures c.loop-c-test.false))

pub returns-then-not-continues_word : goal.returns-then-not-continues_word
returns-then-not-continues_word c =
    passes_word_end c.args.text.now c.loop-c.rest.now c.loop-c.invariant.1
    (other_word c.loop-c.rest.now c.first_char-c.result.1.now c.first_char-c.result.0 c.first_char-c.ensures.spelled (sym c.continues_word.ensures
    ∙ c.if-not-continues_word.true))
