use Rattle.std.proofs.Common.{◌≡◌, ℕ, ◌∙◌, ◌||◌, sym, ap, true, false}
use Rattle.std.specs.Char.{is_ascii, is_ascii_alphanumeric}
use Rattle.std.proofs.Common.{ltb-true, ◌==◌}
use Rattle.unicode_ident.specs.Ident.{is_xid_continue}
use Rattle.unicode_ident.proofs.IdentLemmas.{is_xid_continue-ascii}
use Rattle.hy_lexer.proofs.character.continues_word.Goals as goal

of_letter : (c : ℕ) → is_ascii c ≡ true → is_ascii_alphanumeric c ≡ true → is_xid_continue c ≡ true
of_letter c small h = is_xid_continue-ascii c (ltb-true c 128 small) ∙ ap (λ b. b || (c == 95)) h

of_other : (c : ℕ) → is_ascii c ≡ true → is_ascii_alphanumeric c ≡ false → is_xid_continue c ≡ (c == 95)
of_other c small h = is_xid_continue-ascii c (ltb-true c 128 small) ∙ ap (λ b. b || (c == 95)) h

pub returns-then-is_ascii_alphanumeric : goal.returns-then-is_ascii_alphanumeric
returns-then-is_ascii_alphanumeric c = c.if-is_ascii_alphanumeric.true
    ∙ sym (of_letter c.args.c (sym c.is_ascii.ensures ∙ c.if-is_ascii.true) (sym c.is_ascii_alphanumeric.ensures.value ∙ c.if-is_ascii_alphanumeric.true))

pub returns-else-is_ascii_alphanumeric : goal.returns-else-is_ascii_alphanumeric
returns-else-is_ascii_alphanumeric c =
    sym (of_other c.args.c (sym c.is_ascii.ensures ∙ c.if-is_ascii.true) (sym c.is_ascii_alphanumeric.ensures.value ∙ c.if-is_ascii_alphanumeric.false))
