-- The chains of operators that an expression is read with, as plain data.
use Rattle.std.specs.Prelude.{Option, Some, None, map}
use Rattle.hy_tree.specs.Denotes.{expr_of, link_of}
use Rattle.hy_phrases.specs.declared.tiers.OpenChain.{OpenChain}
use Rattle.hy_phrases.specs.declared.tiers.Tiers.{Tiers}
use Rattle.hy_grammar.specs.Stack as stack

abbrev pub tier_of : Option OpenChain → stack.Tier
tier_of None = stack.NoChain
tier_of (Some chain) = stack.OpenChain (expr_of chain.first) (map link_of chain.links) chain.operator chain.token

abbrev pub tiers_of : Tiers → stack.Tiers
tiers_of tiers = record {
  disjunction = tier_of tiers.disjunction;
  conjunction = tier_of tiers.conjunction;
  comparison = tier_of tiers.comparison;
  addition = tier_of tiers.addition;
  multiplication = tier_of tiers.multiplication;
}
