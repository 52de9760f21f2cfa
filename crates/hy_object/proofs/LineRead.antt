-- What `Read` leaves of the input is what stands after the bytes that it took.
use Rattle.std.proofs.Common.{◌≡◌, ℕ, zero, suc, Bool, true, false, List, [], ◌∷◌, ◌++◌, Option, Some, None, ℤ, ◌==◌, if◌then◌else◌, refl, ap, sym}
use Rattle.std.proofs.lemmas.List.{append-nil}
use Rattle.hy_base.specs.Lines.{Split, Line, Last, TooLong, ahead, split_line, trimmed, number_of}
use Rattle.hy_base.specs.Lines.{Got, Gives, Fails, Wants, got, got_last, got_line, read_line}

-- the list ends with that one
abbrev pub EndsWith : List ℕ → List ℕ → Type 0
EndsWith list rest = (front : List ℕ) × (list ≡ front ++ rest)

abbrev Splits : List ℕ → Split → Type 0
Splits input (Line bytes rest) = EndsWith input rest
Splits input (Last bytes) = Unit {0}
Splits input (TooLong rest) = EndsWith input rest

splits_ahead : (b : ℕ) (input : List ℕ) (x : Split) → Splits input x → Splits (b ∷ input) (ahead b x)
splits_ahead b input (Line bytes rest) (front, q) = (b ∷ front, ap (λ list. b ∷ list) q)
splits_ahead b input (Last bytes) h = tt
splits_ahead b input (TooLong rest) (front, q) = (b ∷ front, ap (λ list. b ∷ list) q)

splits_at : (b : ℕ) (input : List ℕ) (x : Split) (is_feed : Bool) → Splits input x → Splits (b ∷ input) (if is_feed then Line [] input else ahead b x)
splits_at b input x true h = (b ∷ [], refl)
splits_at b input x false h = splits_ahead b input x h

splits : (n : ℕ) (input : List ℕ) → Splits input (split_line n input)
splits zero input = ([], refl)
splits (suc n) [] = tt
splits (suc n) (b ∷ input) = splits_at b input (split_line n input) (b == 10) (splits n input)

abbrev pub ReadsFrom : Bool → List ℕ → Got → Type 0
ReadsFrom cut input (Gives n rest) = EndsWith input rest
ReadsFrom cut input (Fails rest) = EndsWith input rest
ReadsFrom cut input Wants = cut ≡ true

reads_got : (cut : Bool) (input rest : List ℕ) (o : Option ℤ) → EndsWith input rest → ReadsFrom cut input (got o rest)
reads_got cut input rest None h = h
reads_got cut input rest (Some n) h = h

all_taken : (input : List ℕ) → EndsWith input []
all_taken input = (input, sym (append-nil input))

reads_last : (cut : Bool) (input bytes : List ℕ) → ReadsFrom cut input (got_last cut bytes)
reads_last true input bytes = refl
reads_last false input [] = all_taken input
reads_last false input (b ∷ bytes) = reads_got false input [] (number_of (trimmed (b ∷ bytes))) (all_taken input)

reads_line : (cut : Bool) (input : List ℕ) (x : Split) → Splits input x → ReadsFrom cut input (got_line cut x)
reads_line cut input (Line bytes rest) h = reads_got cut input rest (number_of (trimmed bytes)) h
reads_line cut input (Last bytes) h = reads_last cut input bytes
reads_line cut input (TooLong rest) h = h

pub reads_from : (cut : Bool) (input : List ℕ) → ReadsFrom cut input (read_line cut input)
reads_from cut input = reads_line cut input (split_line 4097 input) (splits 4097 input)
