-- What the machine wants among declarations.
use Rattle.std.proofs.Common.{◌≡◌, ◌≤◌, ◌-◌, ℕ, suc, Bool, true, false, Some, None, Ok, Err, List, [], ◌∷◌, ◌++◌, length, refl, sym, ap, subst, ◌∙◌, arith}
use Rattle.hy_base.specs.declared.position.Span.{Span}
use Rattle.hy_lexer.specs.declared.token.Token.{Token}
use Rattle.hy_lexer.specs.declared.token.TokenKind.{TokenKind}
use Rattle.hy_lexer.specs.declared.token.TokenKind.TheVariants as k
use Rattle.hy_tree.specs.Tree as T
use Rattle.hy_tree.specs.declared.name.Name.{Name}
use Rattle.hy_tree.specs.declared.name.NameUse.{NameUse}
use Rattle.hy_parser.specs.declared.heading.DeclWord.{DeclWord}
use Rattle.hy_parser.specs.declared.heading.DeclWord.TheVariants as begun
use Rattle.hy_phrases.specs.declared.stop.Stop.{Stop}
use Rattle.hy_grammar.specs.DeclSteps.{begins_at, at_decl, at_file, at_file_done, decl_of, at_type_name, at_trait_listed}
use Rattle.hy_parser.specs.Headings.{decl_word, decl_state, separates, separator_next, TakesSeparator}
use Rattle.hy_grammar.specs.Machine.{step, finish, accepted_within, Unexpected, most_levels, walk}
use Rattle.hy_grammar.specs.Nodes as node
use Rattle.hy_phrases.specs.Reads.{Halts}
use Rattle.hy_parser.specs.Separated.{ahead, TakesSome, TakesPublic}
use Rattle.hy_grammar.specs.Stack.{Start, Opening, Subject, TypeSubject, ConformanceSubject, TraitOwner, ListedOwner, depth, FileReady, FileDone}
use Rattle.hy_grammar.specs.Stack.{PublicDecl, DeclRead, TypeWord, TypeName, TraitWord, TraitName, ConformanceWord, ConformanceName, TraitWanted}
use Rattle.hy_grammar.specs.Stack.{TraitListed, MembersReady}
use Rattle.hy_phrases.specs.Wanted.{Sees, Takes, Misses, tail}
use Rattle.hy_parser.proofs.MemberSteps.{same_first, count_is}
use Rattle.hy_parser.proofs.Follows.{OnNext, stops_on, none_ahead}
use Rattle.hy_phrases.proofs.Walks.{Follows, Wants, WantsName, fits, moves, over, alike_at, alike_without}
use Rattle.hy_phrases.proofs.WantedKinds.{no_colon, no_left_brace, no_text}

-- TYPES, TRAITS AND CONFORMANCES

pub type_names : (o : Opening) → WantsName (TypeWord o) (λ n. TypeName o n)
unfolding step finish
type_names o = record { takes = λ t text place h. rw (h, step) refl; refuses_others = λ t place h. no_text t.kind _ h; unfinished = λ place. refl }

pub trait_names : (o : Opening) → WantsName (TraitWord o) (λ n. TraitName o n)
unfolding step finish
trait_names o = record { takes = λ t text place h. rw (h, step) refl; refuses_others = λ t place h. no_text t.kind _ h; unfinished = λ place. refl }

pub trait_opens : (o : Opening) (name : Name) → Wants k.LeftBrace (TraitName o name) (λ span. MembersReady (TraitOwner o name) [])
unfolding step finish
trait_opens o name = record { takes = λ t place h. rw (h, step) refl; refuses_others = λ t place h. no_left_brace t.kind _ h; unfinished = λ place. refl }

pub conformance_names : (o : Opening) → WantsName (ConformanceWord o) (λ n. ConformanceName o (node.used n.text n.span))
unfolding step finish
conformance_names o = record { takes = λ t text place h. rw (h, step) refl; refuses_others = λ t place h. no_text t.kind _ h; unfinished = λ place. refl }

pub conformance_colon : (o : Opening) (target : NameUse) → Wants k.Colon (ConformanceName o target) (λ span. TraitWanted o (ConformanceSubject target) [])
unfolding step finish
conformance_colon o target = record { takes = λ t place h. rw (h, step) refl; refuses_others = λ t place h. no_colon t.kind _ h; unfinished = λ place. refl }

pub type_colon : (o : Opening) (name : Name) → Follows k.Colon (TypeName o name) (λ span. TraitWanted o (TypeSubject name) [])
unfolding step
type_colon o name = record { takes = λ t place h. rw (h, step) refl }

pub type_opens : (o : Opening) (name : Name) → Follows k.LeftBrace (TypeName o name) (λ span. MembersReady (ListedOwner o (TypeSubject name) []) [])
unfolding step
type_opens o name = record { takes = λ t place h. rw (h, step) refl }

no_type_name : (it : TokenKind) (o : Opening) (name : Name) → (it ≡ k.Colon → ⊥) → (it ≡ k.LeftBrace → ⊥) → at_type_name it o name ≡ None
no_type_name k.Colon o name a b = absurd (a refl)
no_type_name k.LeftBrace o name a b = absurd (b refl)
no_type_name _ o name a b = refl

type_next : (o : Opening) (name : Name) (old : List Token) → (Sees k.Colon old → ⊥) → (Sees k.LeftBrace old → ⊥)
    → OnNext (λ t. (place : ℕ) → step (TypeName o name) t place ≡ None) old
unfolding step
type_next o name [] a b = tt
type_next o name (t ∷ ts) a b = λ place. no_type_name t.kind o name a b

pub type_stops : (total : ℕ) (o : Opening) (name : Name) (old : List Token) (e : Stop) → (Sees k.Colon old → ⊥) → Misses k.LeftBrace old e
    → Halts e (walk total (TypeName o name) old)
unfolding finish
type_stops total o name old e a h =
    subst (λ z. Halts z (walk total (TypeName o name) old)) (sym h.stops)
    (stops_on total (TypeName o name) old (λ place. refl) (type_next o name old a h.lacks))

-- TRAITS

pub listed_names : (o : Opening) (subject : Subject) (traits : List NameUse)
    → WantsName (TraitWanted o subject traits) (λ n. TraitListed o subject (traits ++ node.used n.text n.span ∷ []))
unfolding step finish
listed_names o subject traits = record {
  takes = λ t text place h. rw (h, step) refl;
  refuses_others = λ t place h. no_text t.kind _ h;
  unfinished =
      λ place. refl;
}

separated : (it : TokenKind) (o : Opening) (subject : Subject) (traits : List NameUse) → separates it ≡ true
    → at_trait_listed it o subject traits ≡ Some (TraitWanted o subject traits)
separated k.Comma o subject traits h = refl
separated k.Ampersand o subject traits h = refl
separated _ o subject traits h = cc

pub more_traits : (total : ℕ) (o : Opening) (subject : Subject) (traits : List NameUse) (old new : List Token) → TakesSeparator old new
    → walk total (TraitListed o subject traits) old ≡ walk total (TraitWanted o subject traits) new
unfolding step
more_traits total o subject traits old new h =
    over total (TraitListed o subject traits) (TraitWanted o subject traits) h.token old new h.front (λ place. separated h.token.kind o subject traits h.is)
    (fits 200 0 refl)

pub traits_open : (o : Opening) (subject : Subject) (traits : List NameUse)
    → Follows k.LeftBrace (TraitListed o subject traits) (λ span. MembersReady (ListedOwner o subject traits) [])
unfolding step
traits_open o subject traits = record { takes = λ t place h. rw (h, step) refl }

no_listed : (it : TokenKind) (o : Opening) (subject : Subject) (traits : List NameUse) → separates it ≡ false → (it ≡ k.LeftBrace → ⊥)
    → at_trait_listed it o subject traits ≡ None
no_listed k.Comma o subject traits a b = cc
no_listed k.Ampersand o subject traits a b = cc
no_listed k.LeftBrace o subject traits a b = absurd (b refl)
no_listed _ o subject traits a b = refl

listed_next : (o : Opening) (subject : Subject) (traits : List NameUse) (old : List Token) → separator_next old ≡ false → (Sees k.LeftBrace old → ⊥)
    → OnNext (λ t. (place : ℕ) → step (TraitListed o subject traits) t place ≡ None) old
unfolding step
listed_next o subject traits [] a b = tt
listed_next o subject traits (t ∷ ts) a b = λ place. no_listed t.kind o subject traits a b

pub traits_stop : (total : ℕ) (o : Opening) (subject : Subject) (traits : List NameUse) (old : List Token) (e : Stop) → separator_next old ≡ false
    → Misses k.LeftBrace old e → Halts e (walk total (TraitListed o subject traits) old)
unfolding finish
traits_stop total o subject traits old e a h =
    subst (λ z. Halts z (walk total (TraitListed o subject traits) old)) (sym h.stops)
    (stops_on total (TraitListed o subject traits) old (λ place. refl) (listed_next o subject traits old a h.lacks))

-- A DECLARATION

one_decl : (it : TokenKind) (w : DeclWord) (t : Span) (decls : List T.Decl) (start : Start) → decl_word it ≡ Some w
    → at_decl it t decls start ≡ Some (decl_state w decls start t)
one_decl k.Fun w t decls start h = let e : begun.Function ≡ w = cc in ap (λ z. Some (decl_state z decls start t)) e
one_decl k.Subscript w t decls start h = let e : begun.Subscript ≡ w = cc in ap (λ z. Some (decl_state z decls start t)) e
one_decl k.Type w t decls start h = let e : begun.Type ≡ w = cc in ap (λ z. Some (decl_state z decls start t)) e
one_decl k.Trait w t decls start h = let e : begun.Trait ≡ w = cc in ap (λ z. Some (decl_state z decls start t)) e
one_decl k.Conformance w t decls start h = let e : begun.Conformance ≡ w = cc in ap (λ z. Some (decl_state z decls start t)) e
one_decl _ w t decls start h = cc

word_depth : (w : DeclWord) (decls : List T.Decl) (start : Start) (t : Span) → depth (decl_state w decls start t) ≡ 0
word_depth begun.Function decls start t = refl
word_depth begun.Subscript decls start t = refl
word_depth begun.Type decls start t = refl
word_depth begun.Trait decls start t = refl
word_depth begun.Conformance decls start t = refl

at_none : (n : ℕ) → n ≡ 0 → n ≤ most_levels
at_none n h = omega (arith, h)

pub decl_begins : (total : ℕ) (decls : List T.Decl) (start : Start) (w : DeclWord) (old : List Token) (span : Span) (new : List Token)
    → TakesSome decl_word old w span new → walk total (PublicDecl decls start) old ≡ walk total (decl_state w decls start span) new
unfolding step
decl_begins total decls start w old span new t =
    over total (PublicDecl decls start) (decl_state w decls start t.token.span) t.token old new t.front
    (λ place. one_decl t.token.kind w t.token.span decls start t.is) (at_none _ (word_depth w decls start t.token.span))
    ∙ ap (λ s. walk total (decl_state w decls start s) new) t.stands

no_decl : (it : TokenKind) (t : Span) (decls : List T.Decl) (start : Start) → decl_word it ≡ None → at_decl it t decls start ≡ None
no_decl k.Fun t decls start h = cc
no_decl k.Subscript t decls start h = cc
no_decl k.Type t decls start h = cc
no_decl k.Trait t decls start h = cc
no_decl k.Conformance t decls start h = cc
no_decl _ t decls start h = refl

pub no_decl_word : (total : ℕ) (decls : List T.Decl) (start : Start) (old : List Token) → ahead decl_word old ≡ None
    → walk total (PublicDecl decls start) old ≡ Err (Unexpected (length old))
unfolding step finish
no_decl_word total decls start old h =
    stops_on total (PublicDecl decls start) old (λ place. refl) (none_ahead decl_word old h (λ t e place. no_decl t.kind t.span decls start e))

bare_step : (it : TokenKind) (decls : List T.Decl) (t : Token) (place : ℕ) → (it ≡ k.Public → ⊥)
    → at_file it t place decls ≡ at_decl it t.span decls (begins_at false t place)
bare_step k.Public decls t place b = absurd (b refl)
bare_step _ decls t place b = refl

public_begins : (total : ℕ) (decls : List T.Decl) (to : ℕ) (old : List Token) (first : Token) (span : Span) (new : List Token) → old ≡ first ∷ tail old
    → Takes k.Public old span new
    → walk total (FileReady decls to) old ≡ walk total (PublicDecl decls (begins_at true first (total - length old))) new
unfolding step
public_begins total decls to old first span new front h =
    let same = same_first h.token first new (tail old) (sym h.front ∙ front) in
    ap (walk total (FileReady decls to)) h.front
    ∙ moves total (FileReady decls to) (PublicDecl decls (begins_at true h.token (total - suc (length new)))) h.token new
    (ap (λ z. at_file z h.token (total - suc (length new)) decls) h.is) (fits 200 0 refl)
    ∙ (λ i. walk total (PublicDecl decls (begins_at true (same i) (total - length (sym h.front i)))) new)

bare_begins : (total : ℕ) (decls : List T.Decl) (to : ℕ) (old : List Token) (first : Token) → old ≡ first ∷ tail old → (Sees k.Public old → ⊥)
    → walk total (FileReady decls to) old ≡ walk total (PublicDecl decls (begins_at false first (total - length old))) old
unfolding step
bare_begins total decls to [] first front b = cc
bare_begins total decls to (t ∷ ts) first front b =
    let same = same_first t first ts ts front in
    alike_at total (FileReady decls to) (PublicDecl decls (begins_at false t (total - suc (length ts)))) t ts
    (bare_step t.kind decls t (total - suc (length ts)) b)
    ∙ ap (λ z. walk total (PublicDecl decls (begins_at false z (total - suc (length ts)))) (t ∷ ts)) same

pub file_begins : (public : Bool) (total : ℕ) (decls : List T.Decl) (to : ℕ) (old : List Token) (first : Token) (new : List Token) → old ≡ first ∷ tail old
    → TakesPublic old public new
    → walk total (FileReady decls to) old ≡ walk total (PublicDecl decls (begins_at public first (total - length old))) new
file_begins true total decls to old first new front h = public_begins total decls to old first h.0 new front h.1
file_begins false total decls to old first new front h = bare_begins total decls to old first front h.0
    ∙ ap (walk total (PublicDecl decls (begins_at false first (total - length old)))) (sym h.1)

whole : (n : ℕ) → n ≡ n - 0
whole n = omega arith

decl_ended : (total : ℕ) (decls : List T.Decl) (start : Start) (kind : T.DeclKind) (to : ℕ) (rest : List Token)
    → walk total (DeclRead decls start kind to) rest ≡ walk total (FileDone (decls ++ decl_of start kind (total - length rest) to ∷ []) to) rest
unfolding step finish walk
decl_ended total decls start kind to [] = ap (λ n. accepted_within (Some (node.program (decls ++ decl_of start kind n to ∷ []) to))) (whole total)
decl_ended total decls start kind to (t ∷ ts) =
    alike_at total (DeclRead decls start kind to) (FileDone (decls ++ decl_of start kind (total - suc (length ts)) to ∷ []) to) t ts refl

pub decl_counted : (total : ℕ) (decls : List T.Decl) (public : Bool) (first : Token) (kind : T.DeclKind) (to : ℕ) (old rest : List Token)
    → length old ≤ total → length rest ≤ length old
    → walk total (DeclRead decls (begins_at public first (total - length old)) kind to) rest ≡ walk total
    (FileDone (decls ++ node.decl public kind (length old - length rest) first.span.from to ∷ []) to) rest
decl_counted total decls public first kind to old rest h g =
    decl_ended total decls (begins_at public first (total - length old)) kind to rest
    ∙ ap (λ n. walk total (FileDone (decls ++ node.decl public kind n first.span.from to ∷ []) to) rest) (count_is total (length old) (length rest) h g)

-- THE FILE

pub file_semicolon : (decls : List T.Decl) (to : ℕ) → Follows k.Semicolon (FileDone decls to) (λ span. FileReady decls span.to)
unfolding step
file_semicolon decls to = record { takes = λ t place h. rw (h, step) refl }

no_semicolon : (it : TokenKind) (t : Token) (place : ℕ) (decls : List T.Decl) → (it ≡ k.Semicolon → ⊥)
    → at_file_done it t place decls ≡ at_file it t place decls
no_semicolon k.Semicolon t place decls h = absurd (h refl)
no_semicolon _ t place decls h = refl

pub file_goes_on : (total : ℕ) (decls : List T.Decl) (to : ℕ) (old : List Token) → (Sees k.Semicolon old → ⊥)
    → walk total (FileDone decls to) old ≡ walk total (FileReady decls to) old
unfolding step finish
file_goes_on total decls to old h =
    alike_without total k.Semicolon (FileDone decls to) (FileReady decls to) old h (λ t place g. no_semicolon t.kind t place decls g) (λ place. refl)

pub file_ends : (total : ℕ) (decls : List T.Decl) (to : ℕ) (old : List Token) → old ≡ [] → walk total (FileReady decls to) old ≡ Ok (node.program decls to)
unfolding finish walk
file_ends total decls to old e = ap (walk total (FileReady decls to)) e
