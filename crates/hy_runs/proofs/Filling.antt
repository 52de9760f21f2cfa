-- What was taken of the input for a line, by what came after its bytes.
use Rattle.std.proofs.Common.{◌≡◌, ◌≢◌, ◌<◌, ◌≤◌, ◌+◌, ℕ, List, [], ◌∷◌, ◌++◌, length, Option, Some, None, Ok, Err, refl, subst, length-append, arith}
use Rattle.hy_base.specs.declared.streams.Failed.{Failed}
use Rattle.hy_base.specs.Outside.{StillTells}
use Rattle.hy_base.specs.Streams.{Tape, Takes}
use Rattle.hy_runs.specs.declared.line.LineEnd.TheVariants as line_end
use Rattle.hy_runs.specs.Runs.{AllTaken}
use Rattle.hy_runs.specs.Taking.{Fills, Filling}
use Rattle.hy_runs.proofs.Splitting.{all_in_line, splits_line, splits_last, splits_long}
use Rattle.hy_runs.proofs.Tellings.{took_none, took_more, took_all, at_end, took_so_far}
use Rattle.hy_base.proofs.Numerals.{differs}

pub nothing_taken : (old : Option Tape) (bytes : List ℕ) → bytes ≡ [] → Filling old old bytes 0
nothing_taken old bytes e = rw e (record { size = refl; in_line = tt; told = took_none old })

module _ (old mid new : Option Tape) (bytes : List ℕ) (count : ℕ) (so_far : Filling old mid bytes count) where
  pub one_more : (more : List ℕ) (byte : ℕ) → more ≡ bytes ++ byte ∷ [] → byte ≢ 10 → StillTells mid new (Takes (Ok (Some byte)))
      → Filling old new more (count + 1)
  one_more more byte e other taken = rw e (record {
    size = omega (arith, length-append {A = ℕ}, so_far.size);
    in_line = all_in_line bytes byte so_far.in_line (differs byte 10 other);
    told = took_more old mid new bytes byte so_far.told taken;
  })

  module _ (room : count < 4097) where
    fits : length bytes < 4097
    fits = let e = so_far.size in omega arith

    pub at_feed : (byte : ℕ) → byte ≡ 10 → StillTells mid new (Takes (Ok (Some byte))) → Fills old new bytes (Ok line_end.Feed)
    at_feed byte e taken = record {
      told = subst (λ b. StillTells old new (AllTaken (bytes ++ b ∷ []))) e (took_more old mid new bytes byte so_far.told taken);
      is_split = splits_line 4097 bytes so_far.in_line fits;
    }

    pub at_input : StillTells mid new (Takes (Ok None)) → Fills old new bytes (Ok line_end.Input)
    at_input taken = (
      record { told = took_all old mid new bytes so_far.told taken; is_split = splits_last 4097 bytes so_far.in_line fits },
      at_end old mid new bytes so_far.told taken,
    )

    pub at_failure : (failed : Failed) → StillTells mid new (Takes (Err failed)) → Fills old new bytes (Err failed)
    at_failure failed taken = record { told = took_so_far old mid new bytes failed so_far.told taken; is_split = splits_last 4097 bytes so_far.in_line fits }

  pub at_room : 4097 ≤ count → count ≤ 4097 → Fills old mid bytes (Ok line_end.Room)
  at_room full most = record { told = so_far.told; is_split = splits_long 4097 bytes so_far.in_line (let e = so_far.size in omega arith) }
