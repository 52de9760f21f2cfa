-- What a walk over phrases knows, and what it knows after some phrases.
use Rattle.std.specs.Prelude.{◌≡◌, ℕ, List, Option, flat_map}
use Rattle.hy_base.specs.First.{Refusal}
use Rattle.hy_tree.specs.Names.{or}
use Rattle.hy_types.specs.Types.{Table, Extends, PlainType}
use Rattle.hy_check.specs.Facts.{Fact, type_among, phrase_types}
use Rattle.hy_check.specs.Noted.{after}
use Rattle.hy_check.specs.Phrases.{Phrase}
use Rattle.hy_check.specs.Refusals.{broken_by}
use Rattle.hy_check.specs.Typing.{Around}

-- the table of types, what is known around the next phrase, the first of the broken rules so far, and the types of nodes so far
pub record Known : Type 0 where
  pub table : Table
  pub around : Around
  pub first : Option Refusal
  pub types : ℕ → Option PlainType

-- After some broken rules and some types of nodes: the first one of the rules, and of a node that has a type already, that type. The
-- table of types may have grown.
pub record Learns (old new : Known) (broken : List Refusal) (facts : List Fact) : Type 0 where
  pub around : new.around ≡ old.around
  pub first : new.first ≡ after broken old.first
  pub types : (node : ℕ) → new.types node ≡ or (old.types node) (type_among node facts)
  pub stays : Extends old.table new.table

-- after some phrases
abbrev pub Walks : Known → Known → List Phrase → Type 0
Walks old new phrases = Learns old new (flat_map broken_by phrases) (flat_map phrase_types phrases)
