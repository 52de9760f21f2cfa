-- What a source or a sink tells over several calls.
use Rattle.std.proofs.Common.{◌≡◌, ◌≢◌, ℕ, ℤ, Bool, true, false, List, [], ◌∷◌, ◌++◌, take, Option, Some, None, Ok, Err, refl, sym, ap, ◌∙◌, subst}
use Rattle.std.specs.Fmt.{signed_decimal}
use Rattle.std.specs.Prelude.{if◌then◌else◌, codes}
use Rattle.std.proofs.lemmas.List.{append-nil, append_assoc}
use Rattle.hy_base.specs.declared.streams.Failed.{Failed}
use Rattle.hy_base.specs.Outside.{StillTells}
use Rattle.hy_base.specs.Streams.{Tape, Takes}
use Rattle.hy_object.specs.declared.instr.Shown.{Shown}
use Rattle.hy_object.specs.declared.instr.Shown.TheVariants as shown
use Rattle.hy_object.specs.Words.{line_of, is_zero}
use Rattle.hy_runs.specs.Runs.{Appends, AllTaken}
use Rattle.hy_runs.specs.Taking.{IsAtEnd}

-- OUTPUT

-- nothing is known to be written
pub told_none : (old : Option (List ℕ)) → StillTells old old (Appends [])
told_none None = tt
told_none (Some bytes) = sym (append-nil bytes)

-- what is written after something else
pub told_more : (old mid new : Option (List ℕ)) (xs ys : List ℕ) → StillTells old mid (Appends xs) → StillTells mid new (Appends ys)
    → StillTells old new (Appends (xs ++ ys))
told_more old mid None xs ys a b = tt
told_more old None (Some new) xs ys a b = absurd b
told_more None (Some mid) (Some new) xs ys a b = absurd a
told_more (Some old) (Some mid) (Some new) xs ys a b = rw (b, a) (append_assoc old xs ys)

-- some front of a line is written, also where nothing is known
pub some_front : (old new : Option (List ℕ)) (line : List ℕ) → StillTells old new (λ old new. (k : ℕ) × (new ≡ old ++ take k line)) → (k : ℕ)
    × StillTells old new (Appends (take k line))
some_front old None line h = (0, tt)
some_front None (Some new) line h = absurd h
some_front (Some old) (Some new) line h = h

-- a line has bytes
not_nil_after : (xs : List ℕ) (byte : ℕ) → xs ++ byte ∷ [] ≡ [] → ⊥
not_nil_after [] byte e = cc
not_nil_after (x ∷ xs) byte e = cc

pub some_line : (shown : Shown) (n : ℤ) → line_of shown n ≢ []
some_line shown.Int n = λ e. not_nil_after (signed_decimal n) 10 e
some_line shown.Bool n = if_line (is_zero n)
  where
    if_line : (b : Bool) → (if b then codes "false" ++ 10 ∷ [] else codes "true" ++ 10 ∷ []) ≢ []
    if_line true = λ e. cc
    if_line false = λ e. cc

-- INPUT

-- nothing is known to be taken
pub took_none : (old : Option Tape) → StillTells old old (AllTaken [])
took_none None = tt
took_none (Some tape) = record { left = refl; taken = sym (append-nil tape.taken) }

-- one byte more is taken
pub took_more : (old mid new : Option Tape) (bytes : List ℕ) (byte : ℕ) → StillTells old mid (AllTaken bytes) → StillTells mid new (Takes (Ok (Some byte))) →
    StillTells old new (AllTaken (bytes ++ byte ∷ []))
took_more old mid None bytes byte a b = tt
took_more old None (Some new) bytes byte a b = absurd b
took_more None (Some mid) (Some new) bytes byte a b = absurd a
took_more (Some old) (Some mid) (Some new) bytes byte a b = record {
  left = a.left ∙ ap (λ l. bytes ++ l) b.0 ∙ sym (append_assoc bytes (byte ∷ []) new.left);
  taken = b.1 ∙ ap (λ l. l ++ byte ∷ []) a.taken ∙ append_assoc old.taken bytes (byte ∷ []);
}

-- no byte more is there
pub took_all : (old mid new : Option Tape) (bytes : List ℕ) → StillTells old mid (AllTaken bytes) → StillTells mid new (Takes (Ok None))
    → StillTells old new (AllTaken bytes)
took_all old mid None bytes a b = tt
took_all old None (Some new) bytes a b = absurd b
took_all None (Some mid) (Some new) bytes a b = absurd a
took_all (Some old) (Some mid) (Some new) bytes a b = subst (AllTaken bytes old) (sym b.1) a

pub at_end : (old mid new : Option Tape) (bytes : List ℕ) → StillTells old mid (AllTaken bytes) → StillTells mid new (Takes (Ok None))
    → StillTells old new IsAtEnd
at_end old mid None bytes a b = tt
at_end old None (Some new) bytes a b = absurd b
at_end None (Some mid) (Some new) bytes a b = absurd a
at_end (Some old) (Some mid) (Some new) bytes a b = ap (λ tape. tape.left) b.1 ∙ b.0

-- the next byte was not given
pub took_so_far : (old mid new : Option Tape) (bytes : List ℕ) (failed : Failed) → StillTells old mid (AllTaken bytes)
    → StillTells mid new (Takes (Err failed)) → StillTells old new (AllTaken bytes)
took_so_far old mid None bytes failed a b = tt
took_so_far old None (Some new) bytes failed a b = absurd b
took_so_far None (Some mid) (Some new) bytes failed a b = absurd a
took_so_far (Some old) (Some mid) (Some new) bytes failed a b = subst (AllTaken bytes old) (sym b) a
