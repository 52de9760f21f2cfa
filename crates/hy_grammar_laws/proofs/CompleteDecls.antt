-- What the grammar has the machine goes over: members, declarations and programs.
use Rattle.std.proofs.Common.{◌≡◌, ◌≤◌, ◌-◌, ℕ, suc, Bool, true, false, Option, Some, None, Ok, List, [], ◌∷◌, ◌++◌, length, refl, sym, ap, subst, ◌∙◌, arith}
use Rattle.hy_lexer.specs.declared.token.Token.{Token}
use Rattle.hy_lexer.specs.declared.token.TokenKind.{TokenKind}
use Rattle.hy_lexer.specs.declared.token.TokenKind.TheVariants as k
use Rattle.hy_tree.specs.Tree as T
use Rattle.hy_tree.specs.declared.name.Name.{Name}
use Rattle.hy_tree.specs.declared.name.NameUse.{NameUse}
use Rattle.hy_grammar.specs.Kinds.{Is, effect_of}
use Rattle.hy_grammar.specs.Nodes as node
use Rattle.hy_grammar.specs.DeclSteps.{begins_at, opening, at_decl, at_file, at_file_done, decl_of, owner_read, at_member, at_public, at_members}
use Rattle.hy_grammar.specs.DeclSteps.{at_members_done, member_of}
use Rattle.hy_grammar.specs.Machine.{step, finish, start as initial, go, run}
use Rattle.hy_grammar.specs.Grammar as g
use Rattle.hy_grammar.specs.Grammar.{HasTraits, HasTraitList, HasFunction, HasSubscript, Group, OfType, OfTrait, OfConformance, MayBePublic, HasMemberKind}
use Rattle.hy_grammar.specs.Grammar.{HasMember, HasMembers, HasDeclKind, HasDecl, HasDecls, IsProgram}
use Rattle.hy_grammar.specs.Stack.{Start, Opening, Subject, Owner, Sort, State, TypeSubject, ConformanceSubject, TraitOwner, ListedOwner, InFile, InOwner}
use Rattle.hy_grammar.specs.Stack.{ForField, FileReady, FileDone, PublicDecl, DeclRead, TypeWord, TypeName, TraitWord, TraitName, ConformanceWord}
use Rattle.hy_grammar.specs.Stack.{ConformanceName, TraitWanted, TraitListed, MembersReady, MembersDone, PublicMember, MemberRead, FieldWord, FieldName}
use Rattle.hy_grammar.specs.Stack.{MemberwiseWord, TypeWanted}
use Rattle.hy_grammar_laws.proofs.Reading.{MayLack}
use Rattle.hy_grammar_laws.proofs.Reading as r
use Rattle.hy_grammar_laws.proofs.Runs.{ends}
use Rattle.hy_grammar_laws.proofs.Ends.{Goes, thens, eats, stays, alike, not_more, OnFront, begins, on_begins}
use Rattle.hy_grammar_laws.proofs.Complete.{c_type}
use Rattle.hy_grammar_laws.proofs.CompleteHeads.{NoEffect, NoArrow, is_arrow}
use Rattle.hy_grammar_laws.proofs.CompleteBodies.{FunStart, SubscriptStart, DeinitStart, c_file_function, c_method, c_requirement, c_deinit, c_subscript}

-- ---- what members and declarations begin with

abbrev starts_kind : TokenKind → Bool
starts_kind k.Var = true
starts_kind k.Memberwise = true
starts_kind k.Deinit = true
starts_kind k.Fun = true
starts_kind k.Subscript = true
starts_kind k.Type = true
starts_kind k.Trait = true
starts_kind k.Conformance = true
starts_kind _ = false

abbrev starts_part : TokenKind → Bool
starts_part k.Public = true
starts_part kind = starts_kind kind

kind_part : (kind : TokenKind) → starts_kind kind ≡ true → starts_part kind ≡ true
kind_part k.Public h = refl
kind_part _ h = h

begins_function : {sort : Sort} {c : T.Callable} {to : ℕ} {old new : List Token} → HasFunction sort old c to new → begins starts_kind old ≡ true
begins_function (g.file_function w n x p r b) = ap starts_kind w
begins_function (g.method w n x p e r b) = ap starts_kind w
begins_function (g.requirement w n p e r) = ap starts_kind w
begins_function (g.deinit w b) = ap starts_kind w

begins_subscript : {name : Option Name} {c : T.Callable} {to : ℕ} {old new : List Token} → HasSubscript name old c to new → begins starts_kind old ≡ true
begins_subscript (g.subscript w n p c t b) = ap starts_kind w

begins_kind : {group : Group} {kind : T.MemberKind} {to : ℕ} {old new : List Token} → HasMemberKind group old kind to new → begins starts_kind old ≡ true
begins_kind (g.field w n c t) = ap starts_kind w
begins_kind (g.memberwise m i) = ap starts_kind m
begins_kind (g.type_deinit f) = begins_function f
begins_kind (g.type_method f) = begins_function f
begins_kind (g.type_subscript f) = begins_subscript f
begins_kind (g.trait_requirement f) = begins_function f
begins_kind (g.conformance_method f) = begins_function f
begins_kind (g.conformance_subscript f) = begins_subscript f

begins_member : {group : Group} {m : T.Member} {old new : List Token} → HasMember group old m new → begins starts_part old ≡ true
begins_member (g.hidden_member {t = t} h) = kind_part t.kind (begins_kind h)
begins_member (g.public_member m p h) = ap starts_part p

begins_decl_kind : {kind : T.DeclKind} {to : ℕ} {old new : List Token} → HasDeclKind old kind to new → begins starts_kind old ≡ true
begins_decl_kind (g.function f) = begins_function f
begins_decl_kind (g.file_subscript f) = begins_subscript f
begins_decl_kind (g.product w n t o m c) = ap starts_kind w
begins_decl_kind (g.trait w n o m c) = ap starts_kind w
begins_decl_kind (g.conformance w n l t o m c) = ap starts_kind w

begins_decl : {d : T.Decl} {to : ℕ} {old new : List Token} → HasDecl old d to new → begins starts_part old ≡ true
begins_decl (g.hidden_decl {t = t} h) = kind_part t.kind (begins_decl_kind h)
begins_decl (g.public_decl p h) = ap starts_part p

-- ---- tokens after members and declarations

abbrev is_semicolon : TokenKind → Bool
is_semicolon k.Semicolon = true
is_semicolon _ = false

-- At this token a member ends, and another comes or none.
record MemberEnds (t : Token) : Type 0 where
  no_effect : NoEffect t
  no_arrow : NoArrow t

part_effect : (kind : TokenKind) → starts_part kind ≡ true → effect_of kind ≡ None
part_effect k.Let h = cc
part_effect k.Inout h = cc
part_effect k.Sink h = cc
part_effect _ h = refl

part_arrow : (kind : TokenKind) → starts_part kind ≡ true → is_arrow kind ≡ false
part_arrow k.Arrow h = cc
part_arrow _ h = refl

part_semicolon : (kind : TokenKind) → starts_part kind ≡ true → is_semicolon kind ≡ false
part_semicolon k.Semicolon h = cc
part_semicolon _ h = refl

part_ends : (t : Token) → starts_part t.kind ≡ true → MemberEnds t
part_ends t h = record { no_effect = part_effect t.kind h; no_arrow = part_arrow t.kind h }

kind_ends : (kind : TokenKind) (t : Token) → effect_of kind ≡ None → is_arrow kind ≡ false → t.kind ≡ kind → MemberEnds t
kind_ends kind t e a h = record { no_effect = ap effect_of h ∙ e; no_arrow = ap is_arrow h ∙ a }

on_effect : (ts : List Token) → OnFront MemberEnds ts → OnFront NoEffect ts
on_effect [] x = tt
on_effect (t ∷ ts) x = x.no_effect

on_arrow : (ts : List Token) → OnFront MemberEnds ts → OnFront NoArrow ts
on_arrow [] x = tt
on_arrow (t ∷ ts) x = x.no_arrow

-- ---- owners

data OwnerOf : Owner → Group → Type 0 where
  type_owner : {o : Opening} {name : Name} {traits : List NameUse} → OwnerOf (ListedOwner o (TypeSubject name) traits) OfType
  trait_owner : {o : Opening} {name : Name} → OwnerOf (TraitOwner o name) OfTrait
  conformance_owner : {o : Opening} {target : NameUse} {traits : List NameUse} → OwnerOf (ListedOwner o (ConformanceSubject target) traits) OfConformance

-- the tokens of a part are those between two places
between : (n old new : ℕ) → old ≤ n → (n - new) - (n - old) ≡ old - new
between n old new h = omega (arith, h)

within : (a b c : ℕ) → a ≤ b → b ≤ c → a ≤ c
within a b c h g = omega (arith, h, g)

type_fun : (o : Opening) (subject : Subject) (traits : List NameUse) (members : List T.Member) (start : Start)
    → FunStart (PublicMember (ListedOwner o subject traits) members start) (InOwner (ListedOwner o subject traits) members) start
unfolding step
type_fun o (TypeSubject name) traits members start = record { opens = λ w n h. rw (h, step) refl }
type_fun o (ConformanceSubject target) traits members start = record { opens = λ w n h. rw (h, step) refl }

trait_fun : (o : Opening) (name : Name) (members : List T.Member) (start : Start)
    → FunStart (PublicMember (TraitOwner o name) members start) (InOwner (TraitOwner o name) members) start
unfolding step
trait_fun o name members start = record { opens = λ w n h. rw (h, step) refl }

type_subscript : (o : Opening) (subject : Subject) (traits : List NameUse) (members : List T.Member) (start : Start)
    → SubscriptStart (PublicMember (ListedOwner o subject traits) members start) (InOwner (ListedOwner o subject traits) members) start
unfolding step
type_subscript o (TypeSubject name) traits members start = record { opens = λ w n h. rw (h, step) refl }
type_subscript o (ConformanceSubject target) traits members start = record { opens = λ w n h. rw (h, step) refl }

type_deinit : (o : Opening) (name : Name) (traits : List NameUse) (members : List T.Member) (start : Start)
    → DeinitStart (PublicMember (ListedOwner o (TypeSubject name) traits) members start) (InOwner (ListedOwner o (TypeSubject name) traits) members) start
unfolding step
type_deinit o name traits members start = record { opens = λ w n h. rw (h, step) refl }

file_fun : (decls : List T.Decl) (start : Start) → FunStart (PublicDecl decls start) (InFile decls) start
unfolding step
file_fun decls start = record { opens = λ w n h. rw (h, step) refl }

file_subscript : (decls : List T.Decl) (start : Start) → SubscriptStart (PublicDecl decls start) (InFile decls) start
unfolding step
file_subscript decls start = record { opens = λ w n h. rw (h, step) refl }

may_lack : {owner : Owner} {members : List T.Member} (name : Option Name) → MayLack (InOwner owner members) name
may_lack (Some name) = r.has_one
may_lack None = r.lacks_it

hidden_kind : (kind : TokenKind) (t : Token) (n : ℕ) (owner : Owner) (members : List T.Member) → starts_kind kind ≡ true
    → at_members kind t n owner members ≡ at_member kind t.span owner members (begins_at false t n)
hidden_kind k.RightBrace t n owner members h = cc
hidden_kind k.Public t n owner members h = cc
hidden_kind _ t n owner members h = refl

done_kind : (kind : TokenKind) (t : Token) (n : ℕ) (owner : Owner) (members : List T.Member) → is_semicolon kind ≡ false
    → at_members_done kind t n owner members ≡ at_members kind t n owner members
done_kind k.Semicolon t n owner members h = cc
done_kind _ t n owner members h = refl

public_at : {group : Group} (owner : Owner) (members : List T.Member) (start : Start) → OwnerOf owner group → MayBePublic group
    → at_public owner members start ≡ Some (PublicMember owner members start)
public_at owner members start type_owner m = refl
public_at owner members start conformance_owner m = refl
public_at owner members start trait_owner m = elim m [ ]

hidden_decl_kind : (kind : TokenKind) (t : Token) (n : ℕ) (decls : List T.Decl) → starts_kind kind ≡ true
    → at_file kind t n decls ≡ at_decl kind t.span decls (begins_at false t n)
hidden_decl_kind k.Public t n decls h = cc
hidden_decl_kind _ t n decls h = refl

file_done_kind : (kind : TokenKind) (t : Token) (n : ℕ) (decls : List T.Decl) → is_semicolon kind ≡ false
    → at_file_done kind t n decls ≡ at_file kind t n decls
file_done_kind k.Semicolon t n decls h = cc
file_done_kind _ t n decls h = refl

module _ {total : ℕ} where
  -- states that go on alike at this token, with so many before it
  alike_at : {s s' : State} {t : Token} {ts : List Token} → step s t (total - suc (length ts)) ≡ step s' t (total - suc (length ts))
      → Goes total s (t ∷ ts) s' (t ∷ ts)
  unfolding run
  alike_at {t = t} {ts = ts} h = record { same = ap (λ o. go o (λ x. run total x ts) (suc (length ts))) h; less = not_more (t ∷ ts) }

  -- MEMBERS

  field_word : {t : Token} {ts : List Token} {o : Opening} {name : Name} {traits : List NameUse} {members : List T.Member} {start : Start} → Is t k.Var
      → Goes total (PublicMember (ListedOwner o (TypeSubject name) traits) members start) (t ∷ ts)
      (FieldWord (ListedOwner o (TypeSubject name) traits) members start) ts
  unfolding step
  field_word h = eats (rw (h, step) refl)

  field_name : {t : Token} {text : List ℕ} {ts : List Token} {owner : Owner} {members : List T.Member} {start : Start} → Is t (k.Name text)
      → Goes total (FieldWord owner members start) (t ∷ ts) (FieldName owner members start (node.spelled text t.span)) ts
  unfolding step
  field_name h = eats (rw (h, step) refl)

  field_colon : {t : Token} {ts : List Token} {owner : Owner} {members : List T.Member} {start : Start} {name : Name} → Is t k.Colon
      → Goes total (FieldName owner members start name) (t ∷ ts) (TypeWanted (ForField owner members start name)) ts
  unfolding step
  field_colon h = eats (rw (h, step) refl)

  memberwise_word : {t : Token} {ts : List Token} {o : Opening} {name : Name} {traits : List NameUse} {members : List T.Member} {start : Start}
      → Is t k.Memberwise
      → Goes total (PublicMember (ListedOwner o (TypeSubject name) traits) members start) (t ∷ ts)
      (MemberwiseWord (ListedOwner o (TypeSubject name) traits) members start) ts
  unfolding step
  memberwise_word h = eats (rw (h, step) refl)

  of_init : {t : Token} {ts : List Token} {owner : Owner} {members : List T.Member} {start : Start} → Is t k.Init
      → Goes total (MemberwiseWord owner members start) (t ∷ ts) (MemberRead owner members start T.MemberwiseInit t.span.to) ts
  unfolding step
  of_init h = eats (rw (h, step) refl)

  c_kind : {group : Group} {kind : T.MemberKind} {to : ℕ} {old new : List Token} → HasMemberKind group old kind to new
      → (owner : Owner) (members : List T.Member) (start : Start) → OwnerOf owner group → OnFront MemberEnds new
      → Goes total (PublicMember owner members start) old (MemberRead owner members start kind to) new
  c_kind (g.field w n c t) owner members start type_owner x =
      thens (field_word w) (thens (field_name n) (thens (field_colon c) (c_type t (ForField owner members start _))))
  c_kind (g.memberwise m i) owner members start type_owner x = thens (memberwise_word m) (of_init i)
  c_kind (g.type_deinit f) owner members start (type_owner {o = o} {name = name} {traits = traits}) x =
      c_deinit _ (InOwner owner members) start (type_deinit o name traits members start) f
  c_kind (g.type_method f) owner members start (type_owner {o = o} {name = name} {traits = traits}) x =
      c_method _ (InOwner owner members) start (type_fun o (TypeSubject name) traits members start) refl f
  c_kind (g.type_subscript {name = called} f) owner members start (type_owner {o = o} {name = name} {traits = traits}) x =
      c_subscript _ (InOwner owner members) start (type_subscript o (TypeSubject name) traits members start) (may_lack called) f
  c_kind (g.trait_requirement {new = new} f) owner members start (trait_owner {o = o} {name = name}) x =
      c_requirement _ owner members start (trait_fun o name members start) refl (on_effect new x) (on_arrow new x) f
  c_kind (g.conformance_method f) owner members start (conformance_owner {o = o} {target = target} {traits = traits}) x =
      c_method _ (InOwner owner members) start (type_fun o (ConformanceSubject target) traits members start) refl f
  c_kind (g.conformance_subscript {name = called} f) owner members start (conformance_owner {o = o} {target = target} {traits = traits}) x =
      c_subscript _ (InOwner owner members) start (type_subscript o (ConformanceSubject target) traits members start) (may_lack called) f

  -- a member is counted at the next token
  counted : (owner : Owner) (members : List T.Member) (start : Start) (kind : T.MemberKind) (to : ℕ) (new : List Token)
      → Goes total (MemberRead owner members start kind to) new (MembersDone owner (members ++ member_of start kind (total - length new) to ∷ [])) new
  unfolding step finish
  counted owner members start kind to [] = alike refl tt
  counted owner members start kind to (t ∷ ts) = alike_at refl

  hidden : (t : Token) (ts : List Token) (owner : Owner) (members : List T.Member) → starts_kind t.kind ≡ true
      → Goes total (MembersReady owner members) (t ∷ ts) (PublicMember owner members (begins_at false t (total - length (t ∷ ts)))) (t ∷ ts)
  unfolding step
  hidden t ts owner members h = alike_at (hidden_kind t.kind t _ owner members h)

  public : {group : Group} {t : Token} {ts : List Token} (owner : Owner) (members : List T.Member) → OwnerOf owner group → MayBePublic group → Is t k.Public
      → Goes total (MembersReady owner members) (t ∷ ts) (PublicMember owner members (begins_at true t (total - length (t ∷ ts)))) ts
  unfolding step
  public {t = t} {ts = ts} owner members o m h = eats (ap (λ z. at_members z t (total - suc (length ts)) owner members) h ∙ public_at owner members _ o m)

  member_counted : (owner : Owner) (members : List T.Member) (is_public : Bool) (t : Token) (ts : List Token) (kind : T.MemberKind) (to : ℕ) (s : State)
      (old new : List Token) → length (t ∷ ts) ≤ total
      → Goes total s old (MembersDone owner (members ++ member_of (begins_at is_public t (total - length (t ∷ ts))) kind (total - length new) to ∷ [])) new
      → Goes total s old (MembersDone owner (members ++ node.member is_public kind (length (t ∷ ts) - length new) t.span.from to ∷ [])) new
  member_counted owner members is_public t ts kind to s old new le x =
      subst (λ n. Goes total s old (MembersDone owner (members ++ node.member is_public kind n t.span.from to ∷ [])) new)
      (between total (length (t ∷ ts)) (length new) le) x

  c_member : {group : Group} {m : T.Member} {old new : List Token} → HasMember group old m new → (owner : Owner) (members : List T.Member)
      → OwnerOf owner group → length old ≤ total → OnFront MemberEnds new
      → Goes total (MembersReady owner members) old (MembersDone owner (members ++ m ∷ [])) new
  c_member (g.hidden_member {t = t} {kind = kind} {to = to} {old = old} {new = new} h) owner members o le x =
      member_counted owner members false t old kind to _ (t ∷ old) new le
      (thens (hidden t old owner members (begins_kind h)) (thens (c_kind h owner members _ o x) (counted owner members _ kind to new)))
  c_member (g.public_member {t = t} {kind = kind} {to = to} {old = old} {new = new} m p h) owner members o le x =
      member_counted owner members true t old kind to _ (t ∷ old) new le
      (thens (public owner members o m p) (thens (c_kind h owner members _ o x) (counted owner members _ kind to new)))

  another : (owner : Owner) (members : List T.Member) (ts : List Token) → OnFront (λ t. is_semicolon t.kind ≡ false) ts
      → Goes total (MembersDone owner members) ts (MembersReady owner members) ts
  unfolding step finish
  another owner members [] x = alike refl tt
  another owner members (t ∷ ts) x = alike refl (λ n. done_kind t.kind t n owner members x)

  past_semicolon : {t : Token} {ts : List Token} {owner : Owner} {members : List T.Member} → Is t k.Semicolon
      → Goes total (MembersDone owner members) (t ∷ ts) (MembersReady owner members) ts
  unfolding step
  past_semicolon h = eats (rw (h, step) refl)

  -- members, up to a token that is no `;`
  c_members : {group : Group} {members : List T.Member} {old new : List Token} → HasMembers group old members new → (owner : Owner) → OwnerOf owner group
      → length old ≤ total → OnFront MemberEnds new → OnFront (λ t. is_semicolon t.kind ≡ false) new
      → Goes total (MembersReady owner []) old (MembersReady owner members) new
  c_members g.no_member owner o le x y = stays
  c_members (g.next_member {members = members} {m = m} {old = old} {mid = mid} {new = new} h a) owner o le x y =
      let before = c_members h owner o le (on_begins starts_part MemberEnds part_ends mid (begins_member a))
      (on_begins starts_part (λ t. is_semicolon t.kind ≡ false) (λ t z. part_semicolon t.kind z) mid (begins_member a)) in
      thens before (thens (c_member a owner members o (within (length mid) (length old) total before.less le) x) (another owner (members ++ m ∷ []) new y))
  c_members (g.next_with_semicolon {s = s} {members = members} {m = m} {old = old} {mid = mid} {new = new} h a hs) owner o le x y =
      let before = c_members h owner o le (on_begins starts_part MemberEnds part_ends mid (begins_member a))
      (on_begins starts_part (λ t. is_semicolon t.kind ≡ false) (λ t z. part_semicolon t.kind z) mid (begins_member a)) in
      thens before (thens (c_member a owner members o (within (length mid) (length old) total before.less le) (kind_ends k.Semicolon s refl refl hs))
      (past_semicolon hs))

  members_close : {t : Token} {ts : List Token} {owner : Owner} {members : List T.Member} → Is t k.RightBrace
      → Goes total (MembersReady owner members) (t ∷ ts) (owner_read owner members t.span) ts
  unfolding step
  members_close h = eats (rw (h, step) refl)

  c_owned : {group : Group} {members : List T.Member} {c : Token} {old ts : List Token} → HasMembers group old members (c ∷ ts) → Is c k.RightBrace
      → (owner : Owner) → OwnerOf owner group → length old ≤ total → Goes total (MembersReady owner []) old (owner_read owner members c.span) ts
  c_owned {c = c} h hc owner o le = thens (c_members h owner o le (kind_ends k.RightBrace c refl refl hc) (ap is_semicolon hc)) (members_close hc)

  -- DECLARATIONS

  type_word : {t : Token} {ts : List Token} {decls : List T.Decl} {start : Start} → Is t k.Type
      → Goes total (PublicDecl decls start) (t ∷ ts) (TypeWord (opening decls start t.span)) ts
  unfolding step
  type_word h = eats (rw (h, step) refl)

  type_name : {t : Token} {text : List ℕ} {ts : List Token} {o : Opening} → Is t (k.Name text)
      → Goes total (TypeWord o) (t ∷ ts) (TypeName o (node.spelled text t.span)) ts
  unfolding step
  type_name h = eats (rw (h, step) refl)

  type_brace : {t : Token} {ts : List Token} {o : Opening} {name : Name} → Is t k.LeftBrace
      → Goes total (TypeName o name) (t ∷ ts) (MembersReady (ListedOwner o (TypeSubject name) []) []) ts
  unfolding step
  type_brace h = eats (rw (h, step) refl)

  type_colon : {t : Token} {ts : List Token} {o : Opening} {name : Name} → Is t k.Colon
      → Goes total (TypeName o name) (t ∷ ts) (TraitWanted o (TypeSubject name) []) ts
  unfolding step
  type_colon h = eats (rw (h, step) refl)

  listed_name : {t : Token} {text : List ℕ} {ts : List Token} {o : Opening} {subject : Subject} {traits : List NameUse} → Is t (k.Name text)
      → Goes total (TraitWanted o subject traits) (t ∷ ts) (TraitListed o subject (traits ++ node.used text t.span ∷ [])) ts
  unfolding step
  listed_name h = eats (rw (h, step) refl)

  listed_comma : {t : Token} {ts : List Token} {o : Opening} {subject : Subject} {traits : List NameUse} → Is t k.Comma
      → Goes total (TraitListed o subject traits) (t ∷ ts) (TraitWanted o subject traits) ts
  unfolding step
  listed_comma h = eats (rw (h, step) refl)

  listed_and : {t : Token} {ts : List Token} {o : Opening} {subject : Subject} {traits : List NameUse} → Is t k.Ampersand
      → Goes total (TraitListed o subject traits) (t ∷ ts) (TraitWanted o subject traits) ts
  unfolding step
  listed_and h = eats (rw (h, step) refl)

  listed_brace : {t : Token} {ts : List Token} {o : Opening} {subject : Subject} {traits : List NameUse} → Is t k.LeftBrace
      → Goes total (TraitListed o subject traits) (t ∷ ts) (MembersReady (ListedOwner o subject traits) []) ts
  unfolding step
  listed_brace h = eats (rw (h, step) refl)

  c_traits : {traits : List NameUse} {old new : List Token} → HasTraits old traits new → (o : Opening) (subject : Subject)
      → Goes total (TraitWanted o subject []) old (TraitListed o subject traits) new
  c_traits (g.one_trait n) o subject = listed_name n
  c_traits (g.comma_trait h c n) o subject = thens (c_traits h o subject) (thens (listed_comma c) (listed_name n))
  c_traits (g.and_trait h a n) o subject = thens (c_traits h o subject) (thens (listed_and a) (listed_name n))

  c_trait_list : {traits : List NameUse} {b : Token} {old mid ts : List Token} → HasTraitList old traits mid → mid ≡ b ∷ ts → Is b k.LeftBrace
      → (o : Opening) (name : Name) → Goes total (TypeName o name) old (MembersReady (ListedOwner o (TypeSubject name) traits) []) ts
  c_trait_list {ts = ts} g.no_traits q h o name =
      subst (λ z. Goes total (TypeName o name) z (MembersReady (ListedOwner o (TypeSubject name) []) []) ts) (sym q) (type_brace h)
  c_trait_list {ts = ts} (g.traits {list = list} c x) q h o name =
      thens (type_colon c)
      (thens (c_traits x o (TypeSubject name))
      (subst (λ z. Goes total (TraitListed o (TypeSubject name) list) z (MembersReady (ListedOwner o (TypeSubject name) list) []) ts) (sym q)
      (listed_brace h)))

  trait_word : {t : Token} {ts : List Token} {decls : List T.Decl} {start : Start} → Is t k.Trait
      → Goes total (PublicDecl decls start) (t ∷ ts) (TraitWord (opening decls start t.span)) ts
  unfolding step
  trait_word h = eats (rw (h, step) refl)

  trait_name : {t : Token} {text : List ℕ} {ts : List Token} {o : Opening} → Is t (k.Name text)
      → Goes total (TraitWord o) (t ∷ ts) (TraitName o (node.spelled text t.span)) ts
  unfolding step
  trait_name h = eats (rw (h, step) refl)

  trait_brace : {t : Token} {ts : List Token} {o : Opening} {name : Name} → Is t k.LeftBrace
      → Goes total (TraitName o name) (t ∷ ts) (MembersReady (TraitOwner o name) []) ts
  unfolding step
  trait_brace h = eats (rw (h, step) refl)

  conformance_word : {t : Token} {ts : List Token} {decls : List T.Decl} {start : Start} → Is t k.Conformance
      → Goes total (PublicDecl decls start) (t ∷ ts) (ConformanceWord (opening decls start t.span)) ts
  unfolding step
  conformance_word h = eats (rw (h, step) refl)

  conformance_name : {t : Token} {text : List ℕ} {ts : List Token} {o : Opening} → Is t (k.Name text)
      → Goes total (ConformanceWord o) (t ∷ ts) (ConformanceName o (node.used text t.span)) ts
  unfolding step
  conformance_name h = eats (rw (h, step) refl)

  conformance_colon : {t : Token} {ts : List Token} {o : Opening} {target : NameUse} → Is t k.Colon
      → Goes total (ConformanceName o target) (t ∷ ts) (TraitWanted o (ConformanceSubject target) []) ts
  unfolding step
  conformance_colon h = eats (rw (h, step) refl)

  c_decl_kind : {kind : T.DeclKind} {to : ℕ} {old new : List Token} → HasDeclKind old kind to new → (decls : List T.Decl) (start : Start)
      → length old ≤ total → Goes total (PublicDecl decls start) old (DeclRead decls start kind to) new
  c_decl_kind (g.function f) decls start le = c_file_function _ (InFile decls) start (file_fun decls start) refl f
  c_decl_kind (g.file_subscript f) decls start le = c_subscript _ (InFile decls) start (file_subscript decls start) r.has_one f
  c_decl_kind (g.product {w = w} {n = n} {text = text} {traits = traits} {old = old} {mid = mid} hw hn hl ho hm hc) decls start le =
      let before = thens (type_word {decls = decls} {start = start} hw)
      (thens (type_name hn) (c_trait_list hl refl ho (opening decls start w.span) (node.spelled text n.span))) in
      thens before (c_owned hm hc (ListedOwner (opening decls start w.span) (TypeSubject (node.spelled text n.span)) traits) type_owner
      (within (length mid) (length (w ∷ n ∷ old)) total before.less le))
  c_decl_kind (g.trait {w = w} {n = n} {o = o} {text = text} {old = old} hw hn ho hm hc) decls start le =
      let before = thens (trait_word {ts = n ∷ o ∷ old} {decls = decls} {start = start} hw) (thens (trait_name hn) (trait_brace ho)) in
      thens before (c_owned hm hc (TraitOwner (opening decls start w.span) (node.spelled text n.span)) trait_owner
      (within (length old) (length (w ∷ n ∷ o ∷ old)) total before.less le))
  c_decl_kind (g.conformance {w = w} {n = n} {l = l} {text = text} {traits = traits} {old = old} {mid = mid} hw hn hl ht ho hm hc) decls start le =
      let before = thens (conformance_word {decls = decls} {start = start} hw)
      (thens (conformance_name hn)
      (thens (conformance_colon hl) (thens (c_traits ht (opening decls start w.span) (ConformanceSubject (node.used text n.span))) (listed_brace ho))))
      in
      thens before (c_owned hm hc (ListedOwner (opening decls start w.span) (ConformanceSubject (node.used text n.span)) traits) conformance_owner
      (within (length mid) (length (w ∷ n ∷ l ∷ old)) total before.less le))

  decl_counted : (decls : List T.Decl) (start : Start) (kind : T.DeclKind) (to : ℕ) (new : List Token)
      → Goes total (DeclRead decls start kind to) new (FileDone (decls ++ decl_of start kind (total - length new) to ∷ []) to) new
  unfolding step finish
  decl_counted decls start kind to [] = alike (ap (λ n. Some (node.program (decls ++ decl_of start kind n to ∷ []) to)) (no_less total)) tt
    where
      no_less : (n : ℕ) → n ≡ n - length {A = Token} []
      no_less n = omega arith
  decl_counted decls start kind to (t ∷ ts) = alike_at refl

  hidden_decl : (t : Token) (ts : List Token) (decls : List T.Decl) (to : ℕ) → starts_kind t.kind ≡ true
      → Goes total (FileReady decls to) (t ∷ ts) (PublicDecl decls (begins_at false t (total - length (t ∷ ts)))) (t ∷ ts)
  unfolding step
  hidden_decl t ts decls to h = alike_at (hidden_decl_kind t.kind t _ decls h)

  public_decl : {t : Token} {ts : List Token} (decls : List T.Decl) (to : ℕ) → Is t k.Public
      → Goes total (FileReady decls to) (t ∷ ts) (PublicDecl decls (begins_at true t (total - length (t ∷ ts)))) ts
  unfolding step
  public_decl {t = t} decls to h = eats (rw (h, step) refl)

  decl_measured : (decls : List T.Decl) (is_public : Bool) (t : Token) (ts : List Token) (kind : T.DeclKind) (to : ℕ) (s : State) (old new : List Token)
      → length (t ∷ ts) ≤ total
      → Goes total s old (FileDone (decls ++ decl_of (begins_at is_public t (total - length (t ∷ ts))) kind (total - length new) to ∷ []) to) new
      → Goes total s old (FileDone (decls ++ node.decl is_public kind (length (t ∷ ts) - length new) t.span.from to ∷ []) to) new
  decl_measured decls is_public t ts kind to s old new le x =
      subst (λ n. Goes total s old (FileDone (decls ++ node.decl is_public kind n t.span.from to ∷ []) to) new)
      (between total (length (t ∷ ts)) (length new) le) x

  one_less : (t : Token) (ts : List Token) → length (t ∷ ts) ≤ total → length ts ≤ total
  one_less t ts h = let q : length ts ≤ length (t ∷ ts) = omega arith in omega (arith, h, q)

  c_decl : {d : T.Decl} {to : ℕ} {old new : List Token} → HasDecl old d to new → (decls : List T.Decl) (far : ℕ) → length old ≤ total
      → Goes total (FileReady decls far) old (FileDone (decls ++ d ∷ []) to) new
  c_decl (g.hidden_decl {t = t} {kind = kind} {to = to} {old = old} {new = new} h) decls far le = decl_measured decls false t old kind to _ (t ∷ old) new le
      (thens (hidden_decl t old decls far (begins_decl_kind h)) (thens (c_decl_kind h decls _ le) (decl_counted decls _ kind to new)))
  c_decl (g.public_decl {t = t} {kind = kind} {to = to} {old = old} {new = new} p h) decls far le = decl_measured decls true t old kind to _ (t ∷ old) new le
      (thens (public_decl decls far p) (thens (c_decl_kind h decls _ (one_less t old le)) (decl_counted decls _ kind to new)))

  another_decl : (decls : List T.Decl) (to : ℕ) (ts : List Token) → OnFront (λ t. is_semicolon t.kind ≡ false) ts
      → Goes total (FileDone decls to) ts (FileReady decls to) ts
  unfolding step finish
  another_decl decls to [] x = alike refl tt
  another_decl decls to (t ∷ ts) x = alike refl (λ n. file_done_kind t.kind t n decls x)

  decl_semicolon : {t : Token} {ts : List Token} {decls : List T.Decl} {to : ℕ} → Is t k.Semicolon
      → Goes total (FileDone decls to) (t ∷ ts) (FileReady decls t.span.to) ts
  unfolding step
  decl_semicolon h = eats (rw (h, step) refl)

  c_decls : {decls : List T.Decl} {to : ℕ} {old new : List Token} → HasDecls old decls to new → length old ≤ total
      → OnFront (λ t. is_semicolon t.kind ≡ false) new → Goes total initial old (FileReady decls to) new
  c_decls g.no_decl le y = stays
  c_decls (g.next_decl {decls = decls} {d = d} {far = far} {to = to} {old = old} {mid = mid} {new = new} h a) le y =
      let before = c_decls h le (on_begins starts_part (λ t. is_semicolon t.kind ≡ false) (λ t z. part_semicolon t.kind z) mid (begins_decl a)) in
      thens before (thens (c_decl a decls far (within (length mid) (length old) total before.less le)) (another_decl (decls ++ d ∷ []) to new y))
  c_decls (g.next_decl_with_semicolon {s = s} {decls = decls} {d = d} {far = far} {old = old} {mid = mid} {new = new} h a hs) le y =
      let before = c_decls h le (on_begins starts_part (λ t. is_semicolon t.kind ≡ false) (λ t z. part_semicolon t.kind z) mid (begins_decl a)) in
      thens before (thens (c_decl a decls far (within (length mid) (length old) total before.less le)) (decl_semicolon hs))

file_ends : (total : ℕ) (decls : List T.Decl) (to : ℕ) → run total (FileReady decls to) [] ≡ Ok (node.program decls to)
unfolding finish
file_ends total decls to = ends total _ _ refl

-- what the grammar has is accepted
pub complete : (tokens : List Token) (tree : T.Program) → IsProgram tokens tree → run (length tokens) initial tokens ≡ Ok tree
complete tokens tree (g.program {decls = decls} {to = to} ds) = (c_decls ds (not_more tokens) tt).same ∙ file_ends (length tokens) decls to
