-- Where a file goes wrong that is no object's.
use Rattle.std.specs.Prelude.{◌≡◌, ◌≤◌, ◌⊎◌, ℕ, List, length, take, Result, Ok, Err}
use Rattle.std.specs.List.{concat}
use Rattle.hy_object.specs.declared.object.Object.{Object}
use Rattle.hy_object.specs.declared.object.ObjectFault.{ObjectFault}
use Rattle.hy_object.specs.declared.object.ObjectFault.TheVariants.{Bad, NoMemory}
use Rattle.hy_object.specs.Grammar.{IsInGrammar}
use Rattle.hy_object.specs.Bytes.{fields, bytes_of}

-- the bytes are those of an object
abbrev pub Spells : List ℕ → Object → Type 0
Spells bytes object = IsInGrammar object × (bytes ≡ bytes_of object)

-- The first n bytes are whole fields and instructions: the first ones of some object.
pub record Begins (bytes : List ℕ) (n : ℕ) : Type 0 where
  pub object : Object
  pub in_grammar : IsInGrammar object
  pub count : ℕ
  pub within : n ≤ length bytes
  pub same : take n bytes ≡ concat (take count (fields object))

-- Bytes are bad at a place where they are no object's, an object begins with what is before it, and none begins with more:
-- there stands the first field or instruction up to and with which they begin no object. One that is cut off is none, and
-- so is what follows the last instruction.
pub record IsBadAt (bytes : List ℕ) (place : ℕ) : Type 0 where
  pub no_object : (object : Object) → Spells bytes object → ⊥
  pub begins : Begins bytes place
  pub longest : (n : ℕ) → Begins bytes n → n ≤ place

-- Unless memory runs out, what is answered is the object whose bytes these are, or where they are bad.
abbrev pub Decodes : List ℕ → Result Object ObjectFault → Type 0
Decodes bytes (Ok object) = Spells bytes object
Decodes bytes (Err (Bad place)) = IsBadAt bytes place
Decodes bytes (Err NoMemory) = Unit {0}

-- unless memory runs out, this object is answered
abbrev pub Gives : Object → Result Object ObjectFault → Type 0
Gives object (Ok made) = made ≡ object
Gives object (Err (Bad place)) = ⊥
Gives object (Err NoMemory) = Unit {0}

-- unless memory runs out, this place is answered
abbrev pub Refuses : ℕ → Result Object ObjectFault → Type 0
Refuses place (Ok made) = ⊥
Refuses place (Err (Bad other)) = other ≡ place
Refuses place (Err NoMemory) = Unit {0}

-- LAWS

-- no two objects have the same bytes
abbrev pub OneSpelling : Type 0
OneSpelling = (one other : Object) → IsInGrammar one → IsInGrammar other → bytes_of one ≡ bytes_of other → one ≡ other

-- bytes are bad at one place at most
abbrev pub OnePlace : Type 0
OnePlace = (bytes : List ℕ) (one other : ℕ) → IsBadAt bytes one → IsBadAt bytes other → one ≡ other

-- bytes are an object's, or bad at some place
abbrev pub ObjectOrPlace : Type 0
ObjectOrPlace = (bytes : List ℕ) → ((object : Object) × Spells bytes object) ⊎ ((place : ℕ) × IsBadAt bytes place)

-- what is decoded of an object's own bytes is that object
abbrev pub DecodesAgain : Type 0
DecodesAgain = (object : Object) (result : Result Object ObjectFault) → IsInGrammar object → Decodes (bytes_of object) result → Gives object result
