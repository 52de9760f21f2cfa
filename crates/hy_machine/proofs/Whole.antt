-- Whole runs of the program are whole runs of the object.
use Rattle.std.proofs.Common.{◌≡◌, ◌≢◌, inl, ℕ, zero, suc, ◌+◌, ◌-◌, ◌++◌, List, [], ◌∷◌, length, take, drop, false, Option, Some, None, slice_get, refl}
use Rattle.std.proofs.Common.{ap, sym, ◌∙◌, subst, arith}
use Rattle.std.proofs.lemmas.List.{append-nil, drop_at}
use Rattle.hy_base.specs.declared.run.Counts.{Counts}
use Rattle.hy_base.specs.declared.run.End.{End}
use Rattle.hy_base.specs.declared.run.End.TheVariants as end
use Rattle.hy_base.specs.declared.run.RunCause.{RunCause}
use Rattle.hy_base.specs.declared.run.RunCause.TheVariants as cause
use Rattle.hy_base.specs.Outside.{StillTells}
use Rattle.hy_base.specs.Streams.{Tape}
use Rattle.hy_machine.specs.declared.machine.Machine.{Machine}
use Rattle.hy_object.specs.declared.object.Object.{Object}
use Rattle.hy_object.specs.declared.object.Fun.{Fun}
use Rattle.hy_object.specs.declared.stuck.Kind.{Kind}
use Rattle.hy_object.specs.Grammar.{IsInGrammar}
use Rattle.hy_object.specs.Runs.{IsSafe, after, next_piece}
use Rattle.hy_object.specs.States.{Stop, Ended, Allocated}
use Rattle.hy_object.specs.Steps as object_steps
use Rattle.hy_base.specs.Counted.{no_counts}
use Rattle.hy_object.proofs.OneEnd as object_ends
use Rattle.hy_machine.specs.Built.{IsBuilt}
use Rattle.hy_machine.specs.Machine.{State, begin, seen, steps, words_of}
use Rattle.hy_machine.specs.Walks.{IsStart, Unkept, standing, written, piece, IsPart, IsEndAt, ComesToEnd, ComesToStop, ComesToCut, faults_of}
use Rattle.hy_machine.specs.declared.frame.Halt.TheVariants as halt
use Rattle.hy_runs.specs.Runs.{told, Appends, IsTaken, IsFront, RanToItsEnd, IsCutOffAt, WasCutOff, faults, CountsCause}
use Rattle.hy_runs.proofs.Tellings.{told_none}
use Rattle.hy_machine.proofs.Ends.{steps_add}
use Rattle.hy_machine.proofs.Simulates.{Alike, alike, runs}
use Rattle.hy_machine.proofs.Writes.{step_writes}

-- the input that a source has left, if it tells
abbrev input_of : Option Tape → List ℕ
input_of None = []
input_of (Some tape) = tape.left

-- nothing is taken
taken_none : (tape : Option Tape) (left : List ℕ) → left ≡ input_of tape
    → StillTells tape tape (IsTaken (input_of tape) (length (input_of tape) - length left))
taken_none None left h = tt
taken_none (Some tape) left h = let z : length tape.left - length left ≡ 0 = rw h (omega arith) in
    rw z (record { whole = refl; left = refl; taken = sym (append-nil tape.taken) })

seen_at : (input : List ℕ) (s : State) (o : Option Stop) (e : Stop) → o ≡ Some e →
    seen input s o ≡ Some (record { output = s.output; stop = e; taken = length input - length s.input; counts = s.counts; journal = s.journal })
seen_at input s o e h = rw h refl

front_of : (c : RunCause) (line : List ℕ) (front : ℕ) → IsPart c line front → IsFront c line front
front_of cause.Input line front h = absurd h
front_of cause.Output line front h = h
front_of cause.NoMemory line front h = h

-- no input is read
reads_nothing : (c : RunCause) (line : List ℕ) (front : ℕ) → IsPart c line front → c ≢ cause.Input
reads_nothing cause.Input line front h = absurd h
reads_nothing cause.Output line front h = λ e. cc
reads_nothing cause.NoMemory line front h = λ e. cc

-- the faults of a run that is cut off
-- what is not kept does not matter
nothing_kept : Unkept
nothing_kept = record { input = []; output = []; left = 0; journal = [] }

pub cut_reads_nothing : (object : Object) (m m' : Machine) (old new : Option (List ℕ)) (c : RunCause) → ComesToCut object m m' old new c → c ≢ cause.Input
cut_reads_nothing object m m' old new c x = reads_nothing c (piece object (standing m' nothing_kept)) x.front (x.short nothing_kept)

counts_so : (c : RunCause) (i k k' : ℕ) → c ≢ cause.Input → k' ≡ faults_of k (halt.Cut c) → CountsCause c (faults i k) (faults i k')
counts_so cause.Input i k k' h e = absurd (h refl)
counts_so cause.Output i k k' h e = (refl, e)
counts_so cause.NoMemory i k k' h e = (refl, e)

pub counts_cause : (object : Object) (m m' : Machine) (old new : Option (List ℕ)) (c : RunCause) (i k k' : ℕ) → ComesToCut object m m' old new c
    → k' ≡ faults_of k (halt.Cut c) → CountsCause c (faults i k) (faults i k')
counts_cause object m m' old new c i k k' x e = counts_so c i k k' (cut_reads_nothing object m m' old new c x) e

words_at : (o : Option Fun) (main : Fun) → o ≡ Some main → words_of o ≡ main.words
words_at o main h = rw h refl

-- what the program does not keep of the start
abbrev start : ℕ → List ℕ → Unkept
start left input = record { input = input; output = []; left = left; journal = Allocated 0 ∷ [] }

begins : (object : Object) (n : ℕ) (main : Fun) (m : Machine) → n ≢ 0 → slice_get object.funs 0 ≡ Some main → IsStart m main.words →
    (left : ℕ) × ((input : List ℕ) → begin object input n ≡ standing m (start left input))
begins object zero main m h f fresh = absurd (h refl)
begins object (suc n) main m h f fresh = (n, λ input. rw (words_at (slice_get object.funs 0) main f, fresh.frame, fresh.place, fresh.counts) refl)

module _ (object : Object) (n : ℕ) (in_grammar : IsInGrammar object) (built : IsBuilt object) where
  -- a state that the run comes to is an end
  ran : (k : ℕ) (tape : Option Tape) (old new : Option (List ℕ)) (e : End) (counts : Counts) (u : Unkept) (bytes : List ℕ) →
      u.input ≡ input_of tape → u.output ≡ [] → IsEndAt (steps object k (begin object (input_of tape) n)) e counts (written u bytes)
      → StillTells old new (Appends bytes) →
      RanToItsEnd object n (told tape old) (told tape new) (Ended e) counts
  ran k tape old new e counts u bytes i o x t =
      let s : State = steps object k (begin object (input_of tape) n) in
      let wrote : s.output ≡ bytes = x.output ∙ ap (λ l. l ++ bytes) o in
      record {
        input = input_of tape;
        run = record { output = s.output; stop = Ended e; taken = length (input_of tape) - length s.input; counts = s.counts; journal = s.journal };
        runs = runs object in_grammar built (input_of tape) false n _ (k, seen_at (input_of tape) s s.stop (Ended e) x.stop);
        stopped = refl;
        same_counts = x.counts;
        taken = taken_none tape s.input (x.input ∙ i);
        output = subst (λ b. StillTells old new (Appends b)) (sym wrote) t;
      }

  -- with no turn
  pub spent : (tape : Option Tape) (old : Option (List ℕ)) (counts : Counts) → n ≡ 0 → counts ≡ no_counts
      → RanToItsEnd object n (told tape old) (told tape old) (Ended end.Spent) counts
  spent tape old counts z c =
      ran 0 tape old old end.Spent counts (record { input = input_of tape; output = []; left = 0; journal = [] }) [] refl refl
      (rw (z, c) (record { stop = refl; counts = refl; input = refl; output = refl })) (told_none old)

  -- what the next step writes
  piece_is : (input : List ℕ) (k : ℕ) → (steps object k (begin object input n)).stop ≡ None
      → piece object (steps object k (begin object input n)) ≡ next_piece object (after object input false n k)
  piece_is input k going =
      let s : State = steps object k (begin object input n) in
      let now : Alike s (after object input false n k) = alike object in_grammar built input false n k in
      let one : Alike (steps object 1 s) (object_steps.steps object 1 (after object input false n k)) =
      subst (λ t. Alike t (object_steps.steps object 1 (after object input false n k))) (steps_add object k 1 (begin object input n))
      (subst (λ t. Alike (steps object (k + 1) (begin object input n)) t) (object_ends.steps_add object k 1 (object_steps.begin object input false n))
      (alike object in_grammar built input false n (k + 1))) in
      sym ((λ j. drop (length (now.output j)) ((one.output ∙ step_writes object s going) j)) ∙ drop_at s.output (piece object s) (length s.output) refl)

  module _ (main : Fun) (m : Machine) (some : n ≢ 0) (first : slice_get object.funs 0 ≡ Some main) (fresh : IsStart m main.words) where
    pub ended : (m' : Machine) (tape : Option Tape) (old new : Option (List ℕ)) (e : End) → ComesToEnd object m m' old new e →
        RanToItsEnd object n (told tape old) (told tape new) (Ended e) m'.counts
    ended m' tape old new e x =
        let b = begins object n main m some first fresh in
        let u : Unkept = start b.0 (input_of tape) in
        ran x.count tape old new e m'.counts u x.bytes refl refl
        (subst (λ s. IsEndAt (steps object x.count s) e m'.counts (written u x.bytes)) (sym (b.1 (input_of tape))) (x.ends u)) x.told

    pub never_stuck : (why : Kind) → IsSafe object → ComesToStop object m why → ⊥
    never_stuck why safe x =
        let b = begins object n main m some first fresh in
        safe [] false n x.count why x.at
        ((alike object in_grammar built [] false n x.count).stop ∙ (ap (λ s. (steps object x.count s).stop) (b.1 []) ∙ x.stops (start b.0 [])))

    cut_at : (m' : Machine) (tape : Option Tape) (old new : Option (List ℕ)) (c : RunCause) → ComesToCut object m m' old new c →
        IsCutOffAt object n (told tape old) (told tape new) (record { cause = c; counts = m'.counts })
    cut_at m' tape old new c x =
        let b = begins object n main m some first fresh in
        let input : List ℕ = input_of tape in
        let u : Unkept = start b.0 input in
        let s : State = steps object x.count (begin object input n) in
        let same : s ≡ standing m' (written u x.bytes) = ap (steps object x.count) (b.1 input) ∙ x.path u in
        let now : Alike s (after object input false n x.count) = alike object in_grammar built input false n x.count in
        let going : s.stop ≡ None = ap (λ s. s.stop) same in
        record {
          input = input;
          steps = x.count;
          front = x.front;
          short = subst (λ line. IsFront c line x.front) (piece_is input x.count going)
              (front_of c (piece object s) x.front (subst (λ s. IsPart c (piece object s) x.front) (sym same) (x.short (written u x.bytes))));
          going = now.stop ∙ going;
          counts = ap (λ s. s.counts) (sym same) ∙ sym now.counts;
          taken = taken_none tape (after object input false n x.count).input (now.input ∙ ap (λ s. s.input) same);
          output = subst (λ bytes. StillTells old new (Appends bytes)) (λ j. sym now.output j ++ take x.front (piece_is input x.count going j))
              (subst (λ s. StillTells old new (Appends (s.output ++ take x.front (piece object s)))) (sym same) (x.told (written u x.bytes)));
        }

    pub cut_off : (m' : Machine) (tape : Option Tape) (old new : Option (List ℕ)) (c : RunCause) → ComesToCut object m m' old new c →
        WasCutOff object n (told tape old) (told tape new) (record { cause = c; counts = m'.counts })
    cut_off m' tape old new cause.Input x = absurd (x.short nothing_kept)
    cut_off m' tape old new cause.Output x = cut_at m' tape old new cause.Output x
    cut_off m' tape old new cause.NoMemory x = inl (cut_at m' tape old new cause.NoMemory x)
