use Rattle.std.proofs.Common.{◌≡◌, ◌<◌, ◌+◌, ◌-◌, ◌*◌, ◌^◌, ℕ, List, ◌∷◌, min, length, drop, get_or, refl, sym, ap, ◌∙◌, arith}
use Rattle.std.proofs.lemmas.List.{at_drop_more}
use Rattle.hy_base.specs.Digits.{capped_from}
use Rattle.hy_base.proofs.Numerals.{one_digit}
use Rattle.hy_base.proofs.line_number.digits.Goals as goal

pub loop-byte-preserved : goal.loop-byte-preserved
loop-byte-preserved c =
    let text : List ℕ = c.args.text.now in
    let i : ℕ = c.loop-byte.byte-index in
    let n : ℕ = c.loop-byte.number in
    let b : ℕ = get_or text i 0 in
    let rest : List ℕ = drop (i + 1) text in
    let inside : i < length text = omega arith in
    let sum : c.saturating_add-number.result ≡ min (min (n * 10) (2 ^ 64 - 1) + (b - 48)) (2 ^ 64 - 1) =
    c.saturating_add-number.ensures ∙ (λ j. min (c.saturating_mul.ensures j + c.from.ensures j) (2 ^ 64 - 1)) in
    let below : c.saturating_add-number.result < 2 ^ 64 = omega arith in (
      ap (λ k. capped_from k rest) sum ∙ one_digit (b ∷ rest) rest b n refl (sym c.if-not-is_ascii_digit.ensures.value)
          ∙ sym (at_drop_more (capped_from n) text i 0 inside) ∙ c.loop-byte.invariant.0,
      below,
    )
