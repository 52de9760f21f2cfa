-- One word, or none, is no command.
use Rattle.std.proofs.Common.{◌≡◌, ◌<◌, List, [], ◌∷◌, length, map, None, String, Global, string_bytes, refl, arith}
use Rattle.hy_words.specs.Commands.{command_of}

pub too_short : (words : List (String Global)) → length words < 2 → command_of (map string_bytes words) ≡ None
too_short [] few = refl
too_short (verb ∷ []) few = refl
too_short (verb ∷ file ∷ words) few = absurd (omega arith)
