-- The first of all broken rules, phase by phase.
use Rattle.std.proofs.Common.{◌≡◌, ◌<◌, ◌≤◌, inl, inr, ⊎_elim, ℕ, List, [], ◌∷◌, length, Option, Some, None, refl, sym, ap, subst, ◌∙◌, arith, Result, Ok}
use Rattle.std.proofs.Common.{Err, IsErrAnd}
use Rattle.hy_base.specs.Answers.{Answers}
use Rattle.hy_base.specs.declared.refusal.Fault.{Fault}
use Rattle.hy_base.specs.declared.refusal.Fault.TheVariants.{Refused, NoMemory}
use Rattle.hy_base.specs.First.{Refusal, Precedes, IsFirst}
use Rattle.hy_base.specs.declared.refusal.Rule.TheVariants.{Z1}
use Rattle.hy_lexer.specs.Tokens as L
use Rattle.hy_lexer.specs.declared.token.Token.{Token}
use Rattle.hy_grammar.specs.Grammar.{IsProgram}
use Rattle.hy_grammar.specs.Parses as P
use Rattle.hy_tree.specs.Findings as N
use Rattle.hy_tree.specs.Numbers.{number_program}
use Rattle.hy_tree.specs.Tree as T
use Rattle.hy_front.specs.Phases.{InPhases, longest, BreaksLength, BreaksGrammar, HasTree, BreaksNames, BreaksForms, Breaks, IsTree}
use Rattle.hy_front.specs.Unbuilt as X

module _ (phase : Refusal → Type 0) (later : List (Refusal → Type 0)) where
  -- the first of a phase in which a rule is broken, and in which a place breaks one alone
  pub in_this : (f : Refusal) → IsFirst phase (Some f) → IsFirst (InPhases (phase ∷ later)) (Some f)
  in_this f first = (inl first.0, λ g h p. ⊎_elim (λ here. first.1 g here p) (λ there. there.0 f first.0) h)

  -- no rule of a phase is broken
  pub in_later : (o : Option Refusal) → IsFirst phase None → IsFirst (InPhases later) o → IsFirst (InPhases (phase ∷ later)) o
  in_later None none first = λ g h. ⊎_elim (λ here. none g here) (λ there. first g there.1) h
  in_later (Some f) none first = (inr (none, first.0), λ g h p. ⊎_elim (λ here. none g here) (λ there. first.1 g there.1 p) h)

-- phases that say the same
first_as : (one other : Refusal → Type 0) (o : Option Refusal) → ((f : Refusal) → one f → other f) → ((f : Refusal) → other f → one f) → IsFirst one o
    → IsFirst other o
first_as one other None to back first = λ f h. first f (back f h)
first_as one other (Some g) to back first = (to g first.0, λ f h p. first.1 f (back f h) p)

nothing_later : (o : Option Refusal) (phase : Refusal → Type 0) → IsFirst phase o → IsFirst (InPhases (phase ∷ [])) o
nothing_later None phase first = in_later phase [] None first (λ f h. h)
nothing_later (Some f) phase first = in_this phase [] f first

abbrev pub too_long : Refusal
too_long = record { rule = Z1; span = record { from = longest; to = longest } }

module _ (bytes : List ℕ) where
  pub refused_length : longest < length bytes → IsFirst (Breaks bytes) (Some too_long)
  refused_length long = in_this (BreaksLength bytes) (L.Breaks bytes ∷ BreaksGrammar bytes ∷ BreaksNames bytes ∷ BreaksForms bytes ∷ []) too_long
      ((refl, long), λ g h p. subst (λ (g : Refusal). Precedes g too_long → ⊥) (sym h.0) (λ p. itself p) p)
    where
      itself : Precedes too_long too_long → ⊥
      itself p = omega (arith, p)

  module _ (fits : length bytes ≤ longest) where
    length_sound : IsFirst (BreaksLength bytes) None
    length_sound = λ f h. let long = h.1 in omega (arith, long, fits)

    pub refused_lexically : (f : Refusal) → IsFirst (L.Breaks bytes) (Some f) → IsFirst (Breaks bytes) (Some f)
    refused_lexically f first =
        in_later (BreaksLength bytes) (L.Breaks bytes ∷ BreaksGrammar bytes ∷ BreaksNames bytes ∷ BreaksForms bytes ∷ []) (Some f) length_sound
        (in_this (L.Breaks bytes) (BreaksGrammar bytes ∷ BreaksNames bytes ∷ BreaksForms bytes ∷ []) f first)

    module _ (one_list : (bytes : List ℕ) (one other : List Token) → L.HasTokens bytes one → L.HasTokens bytes other → one ≡ other)
        (tokens : List Token) (lexed : IsFirst (L.Breaks bytes) None) (has : L.HasTokens bytes tokens) where
      behind_lexer : (o : Option Refusal) → IsFirst (InPhases (BreaksGrammar bytes ∷ BreaksNames bytes ∷ BreaksForms bytes ∷ [])) o → IsFirst (Breaks bytes) o
      behind_lexer o first =
          in_later (BreaksLength bytes) (L.Breaks bytes ∷ BreaksGrammar bytes ∷ BreaksNames bytes ∷ BreaksForms bytes ∷ []) o length_sound
          (in_later (L.Breaks bytes) (BreaksGrammar bytes ∷ BreaksNames bytes ∷ BreaksForms bytes ∷ []) o lexed first)

      grammar_as : (o : Option Refusal) → IsFirst (P.Breaks tokens (length bytes)) o → IsFirst (BreaksGrammar bytes) o
      grammar_as o first =
          first_as (P.Breaks tokens (length bytes)) (BreaksGrammar bytes) o (λ f h. (tokens, has, h))
          (λ f h. subst (λ tokens. P.Breaks tokens (length bytes) f) (one_list bytes h.0 tokens h.1 has) h.2) first

      pub refused_by_grammar : (f : Refusal) → IsFirst (P.Breaks tokens (length bytes)) (Some f) → IsFirst (Breaks bytes) (Some f)
      refused_by_grammar f first = behind_lexer (Some f) (in_this (BreaksGrammar bytes) (BreaksNames bytes ∷ BreaksForms bytes ∷ []) f
          (grammar_as (Some f) first))

      module _ (one_program : (tokens : List Token) (one other : T.Program) → IsProgram tokens one → IsProgram tokens other → one ≡ other)
          (tree : T.Program) (parsed : IsFirst (P.Breaks tokens (length bytes)) None) (is : P.HasTree tokens tree) where
        same_tree : (other : T.Program) → HasTree bytes other → other ≡ tree
        same_tree other h =
            let read : P.HasTree tokens other = subst (λ tokens. P.HasTree tokens other) (one_list bytes h.0 tokens h.1 has) h.2 in
            read.2 ∙ ap number_program (one_program tokens read.0 is.0 read.1 is.1) ∙ sym is.2

        behind_grammar : (o : Option Refusal) → IsFirst (InPhases (BreaksNames bytes ∷ BreaksForms bytes ∷ [])) o → IsFirst (Breaks bytes) o
        behind_grammar o first = behind_lexer o (in_later (BreaksGrammar bytes) (BreaksNames bytes ∷ BreaksForms bytes ∷ []) o (grammar_as None parsed) first)

        -- what a phase says of the tree of the source
        of_tree : (breaks : T.Program → Refusal → Type 0) (o : Option Refusal) → IsFirst (breaks tree) o
            → IsFirst (λ f. (tree : T.Program) × HasTree bytes tree × breaks tree f) o
        of_tree breaks o first = first_as (breaks tree) (λ f. (tree : T.Program) × HasTree bytes tree × breaks tree f) o
            (λ f h. (tree, (tokens, has, is), h)) (λ f h. subst (λ tree. breaks tree f) (same_tree h.0 h.1) h.2) first

        pub refused_by_names : (f : Refusal) → IsFirst (N.Breaks tree) (Some f) → IsFirst (Breaks bytes) (Some f)
        refused_by_names f first = behind_grammar (Some f) (in_this (BreaksNames bytes) (BreaksForms bytes ∷ []) f (of_tree N.Breaks (Some f) first))

        pub by_forms : IsFirst (N.Breaks tree) None → (o : Option Refusal) → IsFirst (X.Breaks tree) o → IsFirst (Breaks bytes) o
        by_forms named o first =
            behind_grammar o (in_later (BreaksNames bytes) (BreaksForms bytes ∷ []) o (of_tree N.Breaks None named)
            (nothing_later o (BreaksForms bytes) (of_tree X.Breaks o first)))

-- a source has one tree
pub one_tree_of : ((bytes : List ℕ) (one other : List Token) → L.HasTokens bytes one → L.HasTokens bytes other → one ≡ other)
    → ((tokens : List Token) (one other : T.Program) → IsProgram tokens one → IsProgram tokens other → one ≡ other)
    → (bytes : List ℕ) (one other : T.Program) → IsTree bytes one → IsTree bytes other → one ≡ other
one_tree_of one_list one_program bytes one other h k =
    let these = h.read in
    let those : P.HasTree these.0 other = subst (λ tokens. P.HasTree tokens other) (one_list bytes k.read.0 these.0 k.read.1 these.1) k.read.2 in
    these.2.2 ∙ ap number_program (one_program these.0 these.2.0 those.0 these.2.1 those.1) ∙ sym those.2

-- what a pass answers, with the rules of all
module _ {T : Type 0} (bytes : List ℕ) (Gives : T → Type 0) (phase : Refusal → Type 0) (to : (o : Option Refusal) → IsFirst phase o
    → IsFirst (Breaks bytes) o) where
  pub answers_by : {Gives' : T → Type 0} (r : Result T Fault) → ((value : T) → IsFirst (Breaks bytes) None → Gives' value → Gives value)
      → Answers phase Gives' r → Answers (Breaks bytes) Gives r
  answers_by (Ok value) gives h = let first = to None h.0 in (first, gives value first h.1)
  answers_by (Err (Refused rule span)) gives h = to (Some (record { rule = rule; span = span })) h
  answers_by (Err NoMemory) gives h = tt

-- a fault that a pass answered is handed on
pub hands_on : {T U : Type 0} (bytes : List ℕ) (Gives : T → Type 0) (phase : Refusal → Type 0) (Had : U → Type 0) → ((f : Refusal) → IsFirst phase (Some f)
    → IsFirst (Breaks bytes) (Some f))
    → (fault : Fault) (result : Result T Fault) → IsErrAnd result (λ e. e ≡ fault) → Answers phase Had (Err fault) → Answers (Breaks bytes) Gives result
hands_on bytes Gives phase Had to fault (Ok value) same h = absurd same
hands_on {T} {U} bytes Gives phase Had to fault (Err f) same h = by f (subst (λ g. Answers {T = U} phase Had (Err g)) (sym same) h)
  where
    by : (f : Fault) → Answers {T = U} phase Had (Err f) → Answers {T = T} (Breaks bytes) Gives (Err f)
    by (Refused rule span) h = to (record { rule = rule; span = span }) h
    by NoMemory h = tt

-- the tree of a source that is accepted breaks no rule on names, and all its forms are built

module _ (bytes : List ℕ) (tree : T.Program) (is : IsTree bytes tree) where
  behind_the_grammar : (f : Refusal) → InPhases (BreaksNames bytes ∷ BreaksForms bytes ∷ []) f → ⊥
  behind_the_grammar f h =
      let length_kept : IsFirst (BreaksLength bytes) None = λ g b. is.sound g (inl b) in
      let lexed : IsFirst (L.Breaks bytes) None = λ g b. is.sound g (inr (length_kept, inl b)) in
      let parsed : IsFirst (BreaksGrammar bytes) None = λ g b. is.sound g (inr (length_kept, inr (lexed, inl b))) in
      is.sound f (inr (length_kept, inr (lexed, inr (parsed, h))))

  pub all_named : IsFirst (N.Breaks tree) None
  all_named f h = behind_the_grammar f (inl (tree, is.read, h))

  pub all_built : IsFirst (X.Breaks tree) None
  all_built f h =
      let named : IsFirst (BreaksNames bytes) None = λ g b. behind_the_grammar g (inl b) in
      behind_the_grammar f (inr (named, inl (tree, is.read, h)))
