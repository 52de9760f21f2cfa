use Rattle.std.proofs.Common.{◌-◌, arith, drop, length, map, string_bytes, take}
use Rattle.hy_words.proofs.Few.{options_within}
use Rattle.hy_words.proofs.Short.{too_short}
use Rattle.hy_words.proofs.words.read_words.Goals as goal

pub returns-in_default-clause-usage : goal.returns-in_default-clause-usage
returns-in_default-clause-usage c = too_short c.args.words.now c.in_default.len_below

pub returns-clause-within : goal.returns-clause-within
returns-clause-within c = (
  let many = c.in-len2-up.len_at_least in
      omega (arith, many),
  options_within (map string_bytes (take (length c.args.words.now - 2) (drop 2 c.args.words.now))) c.options_of.result
      c.in-Some.field-0 c.options_of.ensures c.in-Some.is,
)
