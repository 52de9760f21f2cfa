-- What a walk has noted: the first broken rule so far, and what names stand for.
use Rattle.std.specs.Prelude.{List, Option, slice_set}
use Rattle.hy_base.specs.First.{Refusal, sooner}
use Rattle.hy_base.specs.Walked as Walked
use Rattle.hy_tree.specs.Findings.{Finding, Stands, Broken}
use Rattle.hy_tree.specs.declared.meant.Meant.{Meant}

pub record Noted : Type 0 where
  pub first : Option Refusal
  pub meant : List Meant

abbrev pub note : Finding → Noted → Noted
note (Stands node meaning) noted = record { first = noted.first; meant = slice_set noted.meant node meaning }
note (Broken rule span) noted = record { first = sooner noted.first (record { rule = rule; span = span }); meant = noted.meant }

abbrev pub after : List Finding → Noted → Noted
after = Walked.after note
