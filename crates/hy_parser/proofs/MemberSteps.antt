-- What the machine wants among members.
use Rattle.std.proofs.Common.{◌≡◌, ◌≤◌, ◌-◌, ◌⊎◌, inl, inr, ℕ, suc, Bool, true, false, Option, Some, None, MatchOption, Err, List, [], ◌∷◌, ◌++◌, length}
use Rattle.std.proofs.Common.{refl, sym, ap, ◌∙◌, arith}
use Rattle.hy_base.specs.declared.position.Span.{Span}
use Rattle.hy_lexer.specs.declared.token.Token.{Token}
use Rattle.hy_lexer.specs.declared.token.TokenKind.{TokenKind}
use Rattle.hy_lexer.specs.declared.token.TokenKind.TheVariants as k
use Rattle.hy_tree.specs.Tree as T
use Rattle.hy_tree.specs.declared.name.Name.{Name}
use Rattle.hy_parser.specs.declared.heading.MemberWord.{MemberWord}
use Rattle.hy_parser.specs.declared.heading.MemberWord.TheVariants as word
use Rattle.hy_parser.specs.declared.heading.OwnerSort.{OwnerSort}
use Rattle.hy_parser.specs.declared.heading.OwnerSort.TheVariants as owner
use Rattle.hy_parser.specs.declared.heading.Sort as declared
use Rattle.hy_parser.specs.declared.heading.Sort.TheVariants as sort
use Rattle.hy_grammar.specs.DeclSteps.{begins_at, sort_in, at_member, at_trait_member, at_type_member, at_conformance_member, at_members, at_members_done}
use Rattle.hy_grammar.specs.DeclSteps.{owner_read, member_of}
use Rattle.hy_parser.specs.Headings.{sort_of, owner_sort, member_word, trait_word, product_word, conformance_word, word_state}
use Rattle.hy_grammar.specs.Machine.{step, finish, Unexpected, most_levels, walk}
use Rattle.hy_grammar.specs.Nodes as node
use Rattle.hy_parser.specs.Separated.{ahead, TakesSome, TakesPublic, TakesMemberPublic}
use Rattle.hy_grammar.specs.Stack.{Start, Owner, TraitOwner, ListedOwner, TypeSubject, ConformanceSubject, InOwner, depth, MembersReady, MembersDone}
use Rattle.hy_grammar.specs.Stack.{PublicMember, MemberRead, FieldWord, FieldName, MemberwiseWord, TypeWanted, ForField}
use Rattle.hy_phrases.specs.Wanted.{Sees, Takes, tail}
use Rattle.hy_parser.proofs.Follows.{stops_on, none_ahead, alike_on}
use Rattle.hy_phrases.proofs.Walks.{Follows, Wants, WantsName, fits, moves, over, alike_at, alike_without, taken}
use Rattle.hy_phrases.proofs.WantedKinds.{no_colon, no_init, no_text}

-- FIELDS

pub field_names : (owner : Owner) (members : List T.Member) (start : Start) → WantsName (FieldWord owner members start) (λ n. FieldName owner members start n)
unfolding step finish
field_names owner members start = record {
  takes = λ t text place h. rw (h, step) refl;
  refuses_others = λ t place h. no_text t.kind _ h;
  unfinished =
      λ place. refl;
}

pub field_colon : (owner : Owner) (members : List T.Member) (start : Start) (name : Name)
    → Wants k.Colon (FieldName owner members start name) (λ span. TypeWanted (ForField owner members start name))
unfolding step finish
field_colon owner members start name = record {
  takes = λ t place h. rw (h, step) refl;
  refuses_others = λ t place h. no_colon t.kind _ h;
  unfinished =
      λ place. refl;
}

pub init_wanted : (owner : Owner) (members : List T.Member) (start : Start)
    → Wants k.Init (MemberwiseWord owner members start) (λ span. MemberRead owner members start T.MemberwiseInit span.to)
unfolding step finish
init_wanted owner members start = record {
  takes = λ t place h. rw (h, step) refl;
  refuses_others = λ t place h. no_init t.kind _ h;
  unfinished =
      λ place. refl;
}

-- A MEMBER

one_conformance : (it : TokenKind) (w : MemberWord) (t : Span) (o : Owner) (members : List T.Member) (start : Start) → conformance_word it ≡ Some w
    → at_conformance_member it t o members start ≡ Some (word_state w o members start t)
one_conformance k.Fun w t o members start h = let e : word.Function sort.Method ≡ w = cc in ap (λ z. Some (word_state z o members start t)) e
one_conformance k.Subscript w t o members start h = let e : word.Subscript ≡ w = cc in ap (λ z. Some (word_state z o members start t)) e
one_conformance _ w t o members start h = cc

one_product : (it : TokenKind) (w : MemberWord) (t : Span) (o : Owner) (members : List T.Member) (start : Start) → product_word it ≡ Some w
    → at_type_member it t o members start ≡ Some (word_state w o members start t)
one_product k.Var w t o members start h = let e : word.Field ≡ w = cc in ap (λ z. Some (word_state z o members start t)) e
one_product k.Memberwise w t o members start h = let e : word.Memberwise ≡ w = cc in ap (λ z. Some (word_state z o members start t)) e
one_product k.Deinit w t o members start h = let e : word.Deinit ≡ w = cc in ap (λ z. Some (word_state z o members start t)) e
one_product k.Fun w t o members start h = let e : word.Function sort.Method ≡ w = cc in ap (λ z. Some (word_state z o members start t)) e
one_product k.Subscript w t o members start h = let e : word.Subscript ≡ w = cc in ap (λ z. Some (word_state z o members start t)) e
one_product _ w t o members start h = cc

one_trait : (it : TokenKind) (w : MemberWord) (t : Span) (o : Owner) (members : List T.Member) (start : Start) → trait_word it ≡ Some w
    → at_trait_member it t o members start ≡ Some (word_state w o members start t)
one_trait k.Fun w t o members start h = let e : word.Function sort.Requirement ≡ w = cc in ap (λ z. Some (word_state z o members start t)) e
one_trait _ w t o members start h = cc

one_member : (o : Owner) (it : TokenKind) (w : MemberWord) (t : Span) (members : List T.Member) (start : Start) → member_word (owner_sort o) it ≡ Some w
    → at_member it t o members start ≡ Some (word_state w o members start t)
one_member (TraitOwner opening name) it w t members start h = one_trait it w t (TraitOwner opening name) members start h
one_member (ListedOwner opening (TypeSubject name) traits) it w t members start h =
    one_product it w t (ListedOwner opening (TypeSubject name) traits) members start h
one_member (ListedOwner opening (ConformanceSubject target) traits) it w t members start h =
    one_conformance it w t (ListedOwner opening (ConformanceSubject target) traits) members start h

pub word_depth : (w : MemberWord) (o : Owner) (members : List T.Member) (start : Start) (t : Span) → depth (word_state w o members start t) ≡ 1
word_depth word.Field o members start t = refl
word_depth word.Memberwise o members start t = refl
word_depth word.Deinit o members start t = refl
word_depth word.Subscript o members start t = refl
word_depth (word.Function s) o members start t = refl

at_one : (n : ℕ) → n ≡ 1 → n ≤ most_levels
at_one n h = omega (arith, h)

pub word_begins : (total : ℕ) (o : Owner) (sort : OwnerSort) (members : List T.Member) (start : Start) (w : MemberWord) (old : List Token) (span : Span)
    (new : List Token) → owner_sort o ≡ sort → TakesSome (member_word sort) old w span new
    → walk total (PublicMember o members start) old ≡ walk total (word_state w o members start span) new
unfolding step
word_begins total o sort members start w old span new is t =
    over total (PublicMember o members start) (word_state w o members start t.token.span) t.token old new t.front
    (λ place. one_member o t.token.kind w t.token.span members start (ap (λ s. member_word s t.token.kind) is ∙ t.is))
    (at_one _ (word_depth w o members start t.token.span))
    ∙ ap (λ s. walk total (word_state w o members start s) new) t.stands

no_conformance : (it : TokenKind) (t : Span) (o : Owner) (members : List T.Member) (start : Start) → conformance_word it ≡ None
    → at_conformance_member it t o members start ≡ None
no_conformance k.Fun t o members start h = cc
no_conformance k.Subscript t o members start h = cc
no_conformance _ t o members start h = refl

no_product : (it : TokenKind) (t : Span) (o : Owner) (members : List T.Member) (start : Start) → product_word it ≡ None
    → at_type_member it t o members start ≡ None
no_product k.Var t o members start h = cc
no_product k.Memberwise t o members start h = cc
no_product k.Deinit t o members start h = cc
no_product k.Fun t o members start h = cc
no_product k.Subscript t o members start h = cc
no_product _ t o members start h = refl

no_trait : (it : TokenKind) (t : Span) (o : Owner) (members : List T.Member) (start : Start) → trait_word it ≡ None
    → at_trait_member it t o members start ≡ None
no_trait k.Fun t o members start h = cc
no_trait _ t o members start h = refl

no_member : (o : Owner) (it : TokenKind) (t : Span) (members : List T.Member) (start : Start) → member_word (owner_sort o) it ≡ None
    → at_member it t o members start ≡ None
no_member (TraitOwner opening name) it t members start h = no_trait it t (TraitOwner opening name) members start h
no_member (ListedOwner opening (TypeSubject name) traits) it t members start h =
    no_product it t (ListedOwner opening (TypeSubject name) traits) members start h
no_member (ListedOwner opening (ConformanceSubject target) traits) it t members start h =
    no_conformance it t (ListedOwner opening (ConformanceSubject target) traits) members start h

pub no_word : (total : ℕ) (o : Owner) (sort : OwnerSort) (members : List T.Member) (start : Start) (old : List Token) → owner_sort o ≡ sort
    → ahead (member_word sort) old ≡ None → walk total (PublicMember o members start) old ≡ Err (Unexpected (length old))
unfolding step finish
no_word total o sort members start old is h =
    stops_on total (PublicMember o members start) old (λ place. refl)
    (none_ahead (member_word sort) old h (λ t e place. no_member o t.kind t.span members start (ap (λ s. member_word s t.kind) is ∙ e)))

trait_function : (it : TokenKind) (s : declared.Sort) → trait_word it ≡ Some (word.Function s) → sort.Requirement ≡ s
trait_function k.Fun s h = cc
trait_function _ s h = cc

conformance_function : (it : TokenKind) (s : declared.Sort) → conformance_word it ≡ Some (word.Function s) → sort.Method ≡ s
conformance_function k.Fun s h = cc
conformance_function k.Subscript s h = cc
conformance_function _ s h = cc

product_function : (it : TokenKind) (s : declared.Sort) → product_word it ≡ Some (word.Function s) → sort.Method ≡ s
product_function k.Var s h = cc
product_function k.Memberwise s h = cc
product_function k.Deinit s h = cc
product_function k.Fun s h = cc
product_function k.Subscript s h = cc
product_function _ s h = cc

-- the sort of a function among members
pub function_sort : (o : Owner) (it : TokenKind) (s : declared.Sort) (members : List T.Member) → member_word (owner_sort o) it ≡ Some (word.Function s)
    → sort_in (InOwner o members) ≡ sort_of s
function_sort (TraitOwner opening name) it s members h = ap sort_of (trait_function it s h)
function_sort (ListedOwner opening (TypeSubject name) traits) it s members h = ap sort_of (product_function it s h)
function_sort (ListedOwner opening (ConformanceSubject target) traits) it s members h = ap sort_of (conformance_function it s h)

-- WHERE IT BEGINS AND ENDS

pub same_first : (one other : Token) (a b : List Token) → one ∷ a ≡ other ∷ b → one ≡ other
same_first one other a b h = cc

public_step : (o : Owner) (members : List T.Member) (it : TokenKind) (t : Token) (place : ℕ) → it ≡ k.Public → (owner_sort o ≡ owner.Trait → ⊥)
    → at_members it t place o members ≡ Some (PublicMember o members (begins_at true t place))
public_step (TraitOwner opening name) members it t place e h = absurd (h refl)
public_step (ListedOwner opening subject traits) members it t place e h = ap (λ z. at_members z t place (ListedOwner opening subject traits) members) e

bare_step : (it : TokenKind) (o : Owner) (members : List T.Member) (t : Token) (place : ℕ) → (it ≡ k.RightBrace → ⊥) → (it ≡ k.Public → ⊥)
    → at_members it t place o members ≡ at_member it t.span o members (begins_at false t place)
bare_step k.RightBrace o members t place a b = absurd (a refl)
bare_step k.Public o members t place a b = absurd (b refl)
bare_step _ o members t place a b = refl

trait_step : (it : TokenKind) (o : Owner) (members : List T.Member) (t : Token) (place : ℕ) → (it ≡ k.RightBrace → ⊥) → owner_sort o ≡ owner.Trait
    → at_members it t place o members ≡ at_member it t.span o members (begins_at false t place)
trait_step k.RightBrace o members t place a b = absurd (a refl)
trait_step k.Public (TraitOwner opening name) members t place a b = refl
trait_step k.Public (ListedOwner opening (TypeSubject name) traits) members t place a b = cc
trait_step k.Public (ListedOwner opening (ConformanceSubject target) traits) members t place a b = cc
trait_step _ o members t place a b = refl

public_begins : (total : ℕ) (o : Owner) (members : List T.Member) (old : List Token) (first : Token) (span : Span) (new : List Token)
    → old ≡ first ∷ tail old → (owner_sort o ≡ owner.Trait → ⊥) → Takes k.Public old span new
    → walk total (MembersReady o members) old ≡ walk total (PublicMember o members (begins_at true first (total - length old))) new
unfolding step
public_begins total o members old first span new front other h =
    let same = same_first h.token first new (tail old) (sym h.front ∙ front) in
    ap (walk total (MembersReady o members)) h.front
    ∙ moves total (MembersReady o members) (PublicMember o members (begins_at true h.token (total - suc (length new)))) h.token new
    (public_step o members h.token.kind h.token (total - suc (length new)) h.is other) (fits 199 1 refl)
    ∙ (λ i. walk total (PublicMember o members (begins_at true (same i) (total - length (sym h.front i)))) new)

bare_begins : (total : ℕ) (o : Owner) (members : List T.Member) (old : List Token) (first : Token) → old ≡ first ∷ tail old → (Sees k.RightBrace old → ⊥)
    → (owner_sort o ≡ owner.Trait) ⊎ (Sees k.Public old → ⊥)
    → walk total (MembersReady o members) old ≡ walk total (PublicMember o members (begins_at false first (total - length old))) old
unfolding step
bare_begins total o members [] first front a b = cc
bare_begins total o members (t ∷ ts) first front a (inl b) =
    let same = same_first t first ts ts front in
    alike_at total (MembersReady o members) (PublicMember o members (begins_at false t (total - suc (length ts)))) t ts
    (trait_step t.kind o members t (total - suc (length ts)) a b)
    ∙ ap (λ z. walk total (PublicMember o members (begins_at false z (total - suc (length ts)))) (t ∷ ts)) same
bare_begins total o members (t ∷ ts) first front a (inr b) =
    let same = same_first t first ts ts front in
    alike_at total (MembersReady o members) (PublicMember o members (begins_at false t (total - suc (length ts)))) t ts
    (bare_step t.kind o members t (total - suc (length ts)) a b)
    ∙ ap (λ z. walk total (PublicMember o members (begins_at false z (total - suc (length ts)))) (t ∷ ts)) same

listed_begins : (public : Bool) (total : ℕ) (o : Owner) (members : List T.Member) (old : List Token) (first : Token) (new : List Token)
    → old ≡ first ∷ tail old → (Sees k.RightBrace old → ⊥) → (owner_sort o ≡ owner.Trait → ⊥) → TakesPublic old public new
    → walk total (MembersReady o members) old ≡ walk total (PublicMember o members (begins_at public first (total - length old))) new
listed_begins true total o members old first new front a other h = public_begins total o members old first h.0 new front other h.1
listed_begins false total o members old first new front a other h = bare_begins total o members old first front a (inr h.0)
    ∙ ap (walk total (PublicMember o members (begins_at false first (total - length old)))) (sym h.1)

pub member_begins : (sort : OwnerSort) (public : Bool) (total : ℕ) (o : Owner) (members : List T.Member) (old : List Token) (first : Token)
    (new : List Token) → owner_sort o ≡ sort → old ≡ first ∷ tail old → (Sees k.RightBrace old → ⊥) → TakesMemberPublic sort old public new
    → walk total (MembersReady o members) old ≡ walk total (PublicMember o members (begins_at public first (total - length old))) new
member_begins owner.Trait public total o members old first new is front a h =
    bare_begins total o members old first front a (inl is)
    ∙ (λ i. walk total (PublicMember o members (begins_at (sym h.0 i) first (total - length old))) (sym h.1 i))
member_begins owner.Product public total o members old first new is front a h =
    listed_begins public total o members old first new front a (λ e. let w : owner.Product ≡ owner.Trait = sym is ∙ e in cc) h
member_begins owner.Conformance public total o members old first new is front a h =
    listed_begins public total o members old first new front a (λ e. let w : owner.Conformance ≡ owner.Trait = sym is ∙ e in cc) h

pub member_ended : (total : ℕ) (o : Owner) (members : List T.Member) (start : Start) (kind : T.MemberKind) (to : ℕ) (rest : List Token)
    → walk total (MemberRead o members start kind to) rest ≡ walk total (MembersDone o (members ++ member_of start kind (total - length rest) to ∷ [])) rest
unfolding step finish
member_ended total o members start kind to [] =
    alike_on total (MemberRead o members start kind to) (MembersDone o (members ++ member_of start kind (total - 0) to ∷ [])) [] (λ place. refl) tt
member_ended total o members start kind to (t ∷ ts) =
    alike_at total (MemberRead o members start kind to) (MembersDone o (members ++ member_of start kind (total - suc (length ts)) to ∷ [])) t ts refl

pub count_is : (total before after : ℕ) → before ≤ total → after ≤ before → (total - after) - (total - before) ≡ before - after
count_is total before after h g = omega (arith, h, g)

-- the member that is made is the one that the machine makes
pub member_counted : (total : ℕ) (o : Owner) (members : List T.Member) (public : Bool) (first : Token) (kind : T.MemberKind) (to : ℕ)
    (old rest : List Token) → length old ≤ total → length rest ≤ length old
    → walk total (MemberRead o members (begins_at public first (total - length old)) kind to) rest ≡ walk total
    (MembersDone o (members ++ node.member public kind (length old - length rest) first.span.from to ∷ [])) rest
member_counted total o members public first kind to old rest h g =
    member_ended total o members (begins_at public first (total - length old)) kind to rest
    ∙ ap (λ n. walk total (MembersDone o (members ++ node.member public kind n first.span.from to ∷ [])) rest) (count_is total (length old) (length rest) h g)

-- THE LIST

pub members_close : (o : Owner) (members : List T.Member) → Follows k.RightBrace (MembersReady o members) (λ span. owner_read o members span)
unfolding step
members_close o members = record { takes = λ t place h. rw (h, step) refl }

pub owner_depth : (o : Owner) (members : List T.Member) (close : Span) → depth (owner_read o members close) ≡ 0
owner_depth (TraitOwner opening name) members close = refl
owner_depth (ListedOwner opening subject traits) members close = refl

semicolon : (o : Owner) (members : List T.Member) → Follows k.Semicolon (MembersDone o members) (λ span. MembersReady o members)
unfolding step
semicolon o members = record { takes = λ t place h. rw (h, step) refl }

no_semicolon : (it : TokenKind) (t : Token) (place : ℕ) (o : Owner) (members : List T.Member) → (it ≡ k.Semicolon → ⊥)
    → at_members_done it t place o members ≡ at_members it t place o members
no_semicolon k.Semicolon t place o members h = absurd (h refl)
no_semicolon _ t place o members h = refl

pub after_member : (total : ℕ) (o : Owner) (members : List T.Member) (found : Option Span) (old new : List Token)
    → MatchOption found ((Sees k.Semicolon old → ⊥) × (new ≡ old)) (λ span. Takes k.Semicolon old span new)
    → walk total (MembersDone o members) old ≡ walk total (MembersReady o members) new
unfolding step finish
after_member total o members (Some span) old new h = taken total (semicolon o members) h (fits 199 1 refl)
after_member total o members None old new h =
    alike_without total k.Semicolon (MembersDone o members) (MembersReady o members) old h.0 (λ t place g. no_semicolon t.kind t place o members g)
    (λ place. refl) ∙ ap (walk total (MembersReady o members)) (sym h.1)
