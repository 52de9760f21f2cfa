-- What the machine wants in the states of type parameters and parameters.
use Rattle.std.proofs.Common.{◌≡◌, ◌≤◌, ℕ, Bool, true, false, Some, None, Ok, List, [], ◌∷◌, ◌++◌, refl}
use Rattle.hy_lexer.specs.declared.token.Token.{Token}
use Rattle.hy_lexer.specs.declared.token.TokenKind.{TokenKind}
use Rattle.hy_lexer.specs.declared.token.TokenKind.TheVariants as k
use Rattle.hy_tree.specs.declared.name.Name.{Name}
use Rattle.hy_tree.specs.declared.name.NameUse.{NameUse}
use Rattle.hy_parser.specs.declared.heading.Sort as declared
use Rattle.hy_parser.specs.declared.heading.Sort.TheVariants as sort
use Rattle.hy_phrases.specs.declared.mark.Mark.TheVariants as m
use Rattle.hy_grammar.specs.DeclSteps.{with_generic, generics_of, at_function_name, at_generic_name, at_bound_listed}
use Rattle.hy_parser.specs.Headings.{sort_of, generic_done}
use Rattle.hy_grammar.specs.Kinds as kind
use Rattle.hy_grammar.specs.Machine.{step, finish, most_levels, walk}
use Rattle.hy_grammar.specs.Nodes as node
use Rattle.hy_parser.specs.Separated.{GoesOn}
use Rattle.hy_grammar.specs.Stack.{Sort, FileFunction, Method, Requirement, Subscript, Deinit, Head, State, depth_head, FunctionName, GenericWanted}
use Rattle.hy_grammar.specs.Stack.{GenericName, BoundWanted, BoundListed, ParamsWanted, ParamsOpened}
use Rattle.hy_phrases.specs.Wanted.{Sees}
use Rattle.hy_parser.proofs.Separators.{Separates, on_comma, on_close}
use Rattle.hy_parser.proofs.Follows.{alike_on, on_each}
use Rattle.hy_phrases.proofs.Walks.{WantsName, alike_without}
use Rattle.hy_phrases.proofs.WantedKinds.{no_text}

-- TYPE PARAMETERS

pub generic_wants : (head : Head) → WantsName (GenericWanted head) (λ n. GenericName head n)
unfolding step finish
generic_wants head = record {
  takes = λ t text place h. rw (h, step) refl;
  refuses_others = λ t place no. no_text t.kind _ no;
  unfinished = λ place. refl;
}

pub bound_wants : (head : Head) (name : Name) (bounds : List NameUse)
    → WantsName (BoundWanted head name bounds) (λ n. BoundListed head name (bounds ++ node.used n.text n.span ∷ []))
unfolding step finish
bound_wants head name bounds = record {
  takes = λ t text place h. rw (h, step) refl;
  refuses_others = λ t place no. no_text t.kind _ no;
  unfinished = λ place. refl;
}

no_generic_name : (it : TokenKind) (head : Head) (name : Name) → (it ≡ k.Colon → ⊥) → (it ≡ k.Comma → ⊥) → (it ≡ k.Greater → ⊥)
    → at_generic_name it head name ≡ None
no_generic_name k.Colon head name a b c = absurd (a refl)
no_generic_name k.Comma head name a b c = absurd (b refl)
no_generic_name k.Greater head name a b c = absurd (c refl)
no_generic_name _ head name a b c = refl

pub generic_name_separates : (head : Head) (name : Name)
    → Separates k.Colon k.Greater (GenericName head name) (GenericWanted (with_generic head name [])) (λ span. ParamsWanted (with_generic head name []))
unfolding step finish
generic_name_separates head name = record {
  goes_on = λ t place h. rw (h, step) refl;
  closes = λ t place h. rw (h, step) refl;
  refuses_others = λ t place a b c. no_generic_name t.kind head name a b c;
  unfinished = λ place. refl;
}

no_bound_listed : (it : TokenKind) (head : Head) (name : Name) (bounds : List NameUse) → (it ≡ k.Ampersand → ⊥) → (it ≡ k.Comma → ⊥) → (it ≡ k.Greater → ⊥)
    → at_bound_listed it head name bounds ≡ None
no_bound_listed k.Ampersand head name bounds a b c = absurd (a refl)
no_bound_listed k.Comma head name bounds a b c = absurd (b refl)
no_bound_listed k.Greater head name bounds a b c = absurd (c refl)
no_bound_listed _ head name bounds a b c = refl

pub bounds_separate : (head : Head) (name : Name) (bounds : List NameUse)
    → Separates k.Ampersand k.Greater (BoundListed head name bounds) (GenericWanted (with_generic head name bounds))
    (λ span. ParamsWanted (with_generic head name bounds))
unfolding step finish
bounds_separate head name bounds = record {
  goes_on = λ t place h. rw (h, step) refl;
  closes = λ t place h. rw (h, step) refl;
  refuses_others = λ t place a b c. no_bound_listed t.kind head name bounds a b c;
  unfinished = λ place. refl;
}

-- `:` after the name of a type parameter, and `&` after a bound
pub colon_of_generic : (head : Head) (name : Name) (t : Token) (place : ℕ) → t.kind ≡ k.Colon
    → step (GenericName head name) t place ≡ Some (BoundWanted head name [])
unfolding step
colon_of_generic head name t place h = rw (h, step) refl

pub more_bounds : (head : Head) (name : Name) (bounds : List NameUse) (t : Token) (place : ℕ) → t.kind ≡ k.Ampersand
    → step (BoundListed head name bounds) t place ≡ Some (BoundWanted head name bounds)
unfolding step
more_bounds head name bounds t place h = rw (h, step) refl

-- after a type parameter
pub generic_ended : {but : TokenKind} {s : State} {head : Head} (total : ℕ) → Separates but k.Greater s (GenericWanted head) (λ span. ParamsWanted head)
    → (old new : List Token) (more : Bool) → GoesOn m.Greater old (Ok more) new
    → depth_head head ≤ most_levels → walk total s old ≡ walk total (generic_done more head) new
generic_ended total w old new true h le = on_comma total w h.1 le
generic_ended total w old new false h le = on_close total w h.2 le

-- a function's name, after which no type parameters stand
function_alike : (it : TokenKind) (head : Head) → (it ≡ k.Less → ⊥) → at_function_name it head ≡ kind.left_paren it (ParamsOpened head)
function_alike k.Less head h = absurd (h refl)
function_alike k.LeftParen head h = refl
function_alike _ head h = refl

pub no_generics : (total : ℕ) (head : Head) (old : List Token) → (Sees k.Less old → ⊥)
    → walk total (FunctionName head) old ≡ walk total (ParamsWanted head) old
unfolding step finish
no_generics total head old none_such =
    alike_without total k.Less (FunctionName head) (ParamsWanted head) old none_such (λ t place h. function_alike t.kind head h) (λ place. refl)

requirement_sort : (sort : Sort) (head : Head) → sort ≡ Requirement → generics_of sort head ≡ None
requirement_sort FileFunction head h = cc
requirement_sort Method head h = cc
requirement_sort Requirement head h = refl
requirement_sort Subscript head h = cc
requirement_sort Deinit head h = cc

requirement_alike : (it : TokenKind) (head : Head) → head.sort ≡ Requirement → at_function_name it head ≡ kind.left_paren it (ParamsOpened head)
requirement_alike k.Less head h = requirement_sort head.sort head h
requirement_alike k.LeftParen head h = refl
requirement_alike _ head h = refl

pub requirement_name : (total : ℕ) (head : Head) (old : List Token) → head.sort ≡ Requirement
    → walk total (FunctionName head) old ≡ walk total (ParamsWanted head) old
unfolding step finish
requirement_name total head old h =
    alike_on total (FunctionName head) (ParamsWanted head) old (λ place. refl) (on_each old (λ t place. requirement_alike t.kind head h))

generic_sort : (sort : Sort) (head : Head) → (sort ≡ Requirement → ⊥) → generics_of sort head ≡ Some (GenericWanted head)
generic_sort FileFunction head h = refl
generic_sort Method head h = refl
generic_sort Requirement head h = absurd (h refl)
generic_sort Subscript head h = refl
generic_sort Deinit head h = refl

pub less_of_function : (head : Head) → (head.sort ≡ Requirement → ⊥) → (t : Token) (place : ℕ) → t.kind ≡ k.Less
    → step (FunctionName head) t place ≡ Some (GenericWanted head)
unfolding step
less_of_function head h t place e = rw (e, step) (generic_sort head.sort head h)

pub not_requirement : (it : declared.Sort) → (it ≡ sort.Requirement → ⊥) → sort_of it ≡ Requirement → ⊥
not_requirement sort.Requirement h e = h refl
not_requirement sort.Function h e = cc
not_requirement sort.Method h e = cc
not_requirement sort.Subscript h e = cc
not_requirement sort.Deinit h e = cc

pub not_subscript : (it : declared.Sort) → (it ≡ sort.Subscript → ⊥) → sort_of it ≡ Subscript → ⊥
not_subscript sort.Subscript h e = h refl
not_subscript sort.Function h e = cc
not_subscript sort.Method h e = cc
not_subscript sort.Requirement h e = cc
not_subscript sort.Deinit h e = cc
