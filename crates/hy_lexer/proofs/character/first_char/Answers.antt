use Rattle.std.proofs.Common.{◌≡◌, ◌<◌, ℕ, List, length, get_or, subst, IsUtf8, IsCharBoundary}
use Rattle.std.proofs.lemmas.Str.{IsCharBoundary-after_ascii}
use Rattle.hy_lexer.proofs.character.first_char.Goals as goal

cut_first : (text bytes : List ℕ) → bytes ≡ text → IsUtf8 text → 0 < length text → get_or bytes 0 0 < 128 → IsCharBoundary text 1
cut_first text bytes e utf8 some small = IsCharBoundary-after_ascii text 0 utf8 some (subst (λ t. get_or t 0 0 < 128) e small)

pub split_at-requires : goal.split_at-requires
split_at-requires c = cut_first c.args.text.now c.as_bytes.result.now c.as_bytes.ensures.value c.utf8.text c.requires c.if-byte-lt128.true
