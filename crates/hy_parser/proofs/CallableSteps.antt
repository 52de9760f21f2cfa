-- What the machine wants after the keyword of something callable.
use Rattle.std.proofs.Common.{◌≡◌, ◌≤◌, ◌⊎◌, inl, inr, ℕ, true, false, Some, None, Err, List, [], ◌∷◌, refl, sym, ap, ◌∙◌}
use Rattle.hy_base.specs.declared.position.Span.{Span}
use Rattle.hy_lexer.specs.declared.token.Token.{Token}
use Rattle.hy_lexer.specs.declared.token.TokenKind.{TokenKind}
use Rattle.hy_lexer.specs.declared.token.TokenKind.TheVariants as k
use Rattle.hy_tree.specs.declared.name.Name.{Name}
use Rattle.hy_parser.specs.declared.heading.Sort as declared
use Rattle.hy_parser.specs.declared.heading.Sort.TheVariants as sort
use Rattle.hy_phrases.specs.declared.stop.Stop.{Stop}
use Rattle.hy_phrases.specs.declared.stop.Stop.TheVariants as stop
use Rattle.hy_grammar.specs.DeclSteps.{head_of, sort_in, unnamed, at_subscript_word}
use Rattle.hy_parser.specs.Headings.{sort_of, Fits, is_file}
use Rattle.hy_grammar.specs.Machine.{step, finish, Unexpected, most_levels, walk}
use Rattle.hy_grammar.specs.Nodes as node
use Rattle.hy_phrases.specs.Reads.{Halts}
use Rattle.hy_grammar.specs.Stack.{Start, Home, InFile, InOwner, Subscript, Head, depth_home, FunctionWord, FunctionName, SubscriptWord, ParamsWanted}
use Rattle.hy_grammar.specs.Stack.{ParamsOpened}
use Rattle.hy_phrases.specs.Wanted.{Sees, LacksName, TakesName, MissesName}
use Rattle.hy_parser.proofs.Follows.{OnNext, stops_on}
use Rattle.hy_phrases.proofs.Walks.{Wants, WantsName, over, alike}
use Rattle.hy_phrases.proofs.WantedKinds.{no_left_paren, no_text}

pub function_names : (home : Home) (start : Start) (keyword : Span)
    → WantsName (FunctionWord home start keyword) (λ n. FunctionName (head_of home start (sort_in home) keyword (Some n)))
unfolding step finish
function_names home start keyword = record {
  takes = λ t text place h. rw (h, step) refl;
  refuses_others = λ t place h. no_text t.kind _ h;
  unfinished =
      λ place. refl;
}

pub params_want : (head : Head) → Wants k.LeftParen (ParamsWanted head) (λ span. ParamsOpened head)
unfolding step finish
params_want head = record { takes = λ t place h. rw (h, step) refl; refuses_others = λ t place h. no_left_paren t.kind _ h; unfinished = λ place. refl }

-- what may stand below, of a function
pub fits_function : (s : declared.Sort) (home : Home) → sort_in home ≡ sort_of s → Fits (sort_of s) home
fits_function sort.Function home h = h
fits_function sort.Method home h = h
fits_function sort.Requirement home h = h
fits_function sort.Subscript home h = tt
fits_function sort.Deinit home h = tt

-- A SUBSCRIPT

pub subscript_takes : (home : Home) (start : Start) (keyword : Span) (t : Token) (text : List ℕ) (place : ℕ) → t.kind ≡ k.Name text
    → step (SubscriptWord home start keyword) t place ≡ Some (ParamsWanted (head_of home start Subscript keyword (Some (node.spelled text t.span))))
unfolding step
subscript_takes home start keyword t text place h = rw (h, step) refl

unnamed_file : (home : Home) (start : Start) (keyword : Span) → (is_file home ≡ true) ⊎ (k.LeftParen ≡ k.LeftParen → ⊥) → unnamed home start keyword ≡ None
unnamed_file (InFile decls) start keyword h = refl
unnamed_file (InOwner owner members) start keyword (inl h) = cc
unnamed_file (InOwner owner members) start keyword (inr h) = absurd (h refl)

no_subscript : (it : TokenKind) (t : Span) (home : Home) (start : Start) (keyword : Span) → (is_file home ≡ true) ⊎ (it ≡ k.LeftParen → ⊥)
    → ((text : List ℕ) → it ≡ k.Name text → ⊥) → at_subscript_word it t home start keyword ≡ None
no_subscript (k.Name text) t home start keyword a b = absurd (b text refl)
no_subscript k.LeftParen t home start keyword a b = unnamed_file home start keyword a
no_subscript _ t home start keyword a b = refl

subscript_lacks : (home : Home) (start : Start) (keyword : Span) (old : List Token) → (is_file home ≡ true) ⊎ (Sees k.LeftParen old → ⊥) → LacksName old
    → OnNext (λ t. (place : ℕ) → step (SubscriptWord home start keyword) t place ≡ None) old
unfolding step
subscript_lacks home start keyword [] a b = tt
subscript_lacks home start keyword (t ∷ ts) a b = λ place. no_subscript t.kind t.span home start keyword a b

pub subscript_unnamed : (total : ℕ) (home : Home) (start : Start) (keyword : Span) (old : List Token) (e : Stop) → (is_file home ≡ true)
    ⊎ (Sees k.LeftParen old → ⊥) → MissesName old e → Halts e (walk total (SubscriptWord home start keyword) old)
unfolding finish
subscript_unnamed total home start keyword old stop.NoMemory a h = tt
subscript_unnamed total home start keyword old (stop.Unexpected left) a h =
    stops_on total (SubscriptWord home start keyword) old (λ place. refl) (subscript_lacks home start keyword old a h.0)
    ∙ ap (λ n. Err (Unexpected n)) (sym h.1)
subscript_unnamed total home start keyword old (stop.TooDeep left) a h = absurd h

pub subscript_named : (total : ℕ) (home : Home) (start : Start) (keyword : Span) (old : List Token) (name : Name) (new : List Token)
    → TakesName old name new → depth_home home ≤ most_levels
    → walk total (SubscriptWord home start keyword) old ≡ walk total (ParamsWanted (head_of home start Subscript keyword (Some name))) new
subscript_named total home start keyword old name new t le =
    over total (SubscriptWord home start keyword) (ParamsWanted (head_of home start Subscript keyword (Some (node.spelled name.text t.token.span)))) t.token
    old new t.front (λ place. subscript_takes home start keyword t.token name.text place t.is) le
    ∙ ap (λ s. walk total (ParamsWanted (head_of home start Subscript keyword (Some (node.spelled name.text s)))) new) t.stands

unnamed_owner : (home : Home) (start : Start) (keyword : Span) → is_file home ≡ false
    → unnamed home start keyword ≡ Some (ParamsOpened (head_of home start Subscript keyword None))
unnamed_owner (InFile decls) start keyword h = cc
unnamed_owner (InOwner owner members) start keyword h = refl

-- one without a name
pub bare_subscript : (total : ℕ) (home : Home) (start : Start) (keyword : Span) (old : List Token) → is_file home ≡ false → Sees k.LeftParen old
    → walk total (SubscriptWord home start keyword) old ≡ walk total (ParamsWanted (head_of home start Subscript keyword None)) old
unfolding step
bare_subscript total home start keyword [] is h = absurd h
bare_subscript total home start keyword (t ∷ ts) is h =
    alike total (SubscriptWord home start keyword) (ParamsWanted (head_of home start Subscript keyword None)) t (t ∷ ts) ts refl
    (λ place. rw (h, step) (unnamed_owner home start keyword is))
