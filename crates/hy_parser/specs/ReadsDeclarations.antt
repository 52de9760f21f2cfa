-- What the functions that read declarations ensure.
use Rattle.std.specs.Prelude.{◌≡◌, ◌≤◌, ◌+◌, ℕ, Bool, List, [], ◌∷◌, ◌++◌, Option, None, Result, Ok, Err, length, map}
use Rattle.hy_base.specs.First.{Refusal}
use Rattle.hy_base.specs.declared.position.Span.{Span}
use Rattle.hy_base.specs.declared.refusal.Fault.{Fault}
use Rattle.hy_base.specs.declared.refusal.Fault.TheVariants.{Refused}
use Rattle.hy_lexer.specs.declared.token.Token.{Token}
use Rattle.hy_tree.specs.Denotes as D
use Rattle.hy_tree.specs.Tree as T
use Rattle.hy_tree.specs.declared.declaration.Callable.{Callable}
use Rattle.hy_tree.specs.declared.declaration.Decl.{Decl}
use Rattle.hy_tree.specs.declared.declaration.DeclKind.{DeclKind}
use Rattle.hy_tree.specs.declared.declaration.Program.{Program}
use Rattle.hy_tree.specs.declared.declaration.Label.{Label}
use Rattle.hy_tree.specs.declared.declaration.Member.{Member}
use Rattle.hy_tree.specs.declared.declaration.MemberKind.{MemberKind}
use Rattle.hy_tree.specs.declared.declaration.Param.{Param}
use Rattle.hy_tree.specs.declared.declaration.TypeParam.{TypeParam}
use Rattle.hy_tree.specs.declared.declaration.Variant.{Variant}
use Rattle.hy_tree.specs.declared.name.Name.{Name}
use Rattle.hy_tree.specs.declared.name.NameUse.{NameUse}
use Rattle.hy_tree.specs.declared.operator.Mode.{Mode}
use Rattle.hy_parser.specs.declared.heading.Heading.{Heading}
use Rattle.hy_parser.specs.declared.heading.OwnerSort.{OwnerSort}
use Rattle.hy_parser.specs.declared.heading.Sort as declared
use Rattle.hy_phrases.specs.declared.stop.Stop.{Stop}
use Rattle.hy_parser.specs.Headings.{sort_of, DeclAt, FileAt, TypeNamed, Listing, MemberAt, OwnerOf, BelowFunction, BelowName, BelowDeinit, OfSort, Below}
use Rattle.hy_parser.specs.Headings.{BelowSubscript, headed, callable_done, with_generics, generic_done, variant_word, Varying, Owned, Begun}
use Rattle.hy_grammar.specs.DeclSteps.{head_of, opening, owner_read}
use Rattle.hy_grammar.specs.Machine.{most_levels, start as begin, walk}
use Rattle.hy_phrases.specs.Reads.{Halts, Reads, ReadsCounted}
use Rattle.hy_grammar.specs.Stack.{TypeSubject, ListedOwner, FileReady, FileDone, DeclRead, PublicDecl, TypeName, TraitWanted, FieldWord, MemberwiseWord}
use Rattle.hy_grammar.specs.Stack.{PublicMember, MemberRead, MembersReady, MembersDone, depth_head, depth_home, Subscript, Deinit, ParamUnlabelled, Head}
use Rattle.hy_grammar.specs.Stack.{State, Opening, FunctionWord, FunctionName, SubscriptWord, GenericWanted, BoundWanted, ParamsWanted, ParamsOpened}
use Rattle.hy_grammar.specs.Stack.{ParamWanted, ParamFirst, ParamColon, ParamRead, ParamsRead, EffectRead, ResultRead, TypeWanted, ForParam, ForResult}
use Rattle.hy_grammar.specs.Stack.{BodyWanted, VariantBody, PlainBody, InBody, BodyOpened, BlockOpened, VariantsRead}
use Rattle.hy_grammar.specs.TypeSteps.{with_param}

-- a part that opens no level by itself, at any level
abbrev pub ReadsAnywhere : {A B X : Type 0} → (plain : A → B) → (need : X → State) → (have : B → X → State) → List Token → Result A Stop → List Token → Type 0
ReadsAnywhere plain need have old result new = (levels : ℕ) → Reads levels plain need have old result new

-- TYPE PARAMETERS

-- a type parameter with the `,` or `>` after it
abbrev pub generic_behind : TypeParam × Bool → Head → State
generic_behind read head = generic_done read.1 (with_generics head (read.0 ∷ []))

abbrev pub ReadsBounds : Name → List Token → Result (TypeParam × Bool) Stop → List Token → Type 0
ReadsBounds name = ReadsAnywhere (λ read. read) (λ head. BoundWanted head name []) generic_behind

abbrev pub ReadsGeneric : List Token → Result (TypeParam × Bool) Stop → List Token → Type 0
ReadsGeneric = ReadsAnywhere (λ read. read) GenericWanted generic_behind

abbrev pub ReadsTypeParams : declared.Sort → Heading → List Token → Result Heading Stop → List Token → Type 0
ReadsTypeParams sort heading =
    ReadsAnywhere {X = Below (sort_of sort)} (λ h. h) (λ x. GenericWanted (headed (sort_of sort) heading x))
    (λ h x. ParamsWanted (headed (sort_of sort) h x))

abbrev pub ReadsGenerics : declared.Sort → Heading → List Token → Result Heading Stop → List Token → Type 0
ReadsGenerics sort heading =
    ReadsAnywhere {X = Below (sort_of sort)} (λ h. h) (λ x. FunctionName (headed (sort_of sort) heading x))
    (λ h x. ParamsWanted (headed (sort_of sort) h x))

-- PARAMETERS

abbrev pub ReadsParams : ℕ → declared.Sort → Heading → List Token → Result Heading Stop → List Token → Type 0
ReadsParams levels sort heading =
    Reads {X = Below (sort_of sort)} levels (λ h. h) (λ x. ParamsOpened (headed (sort_of sort) heading x))
    (λ h x. ParamsRead (headed (sort_of sort) h x) h.end)

abbrev pub ReadsParam : ℕ → declared.Sort → List Token → Result Param Stop → List Token → Type 0
ReadsParam levels sort = Reads {X = OfSort (sort_of sort)} levels D.param_of (λ x. ParamWanted x.head) (λ p x. ParamRead (with_param x.head p))

-- where a parameter begins, its label and its name, with the `:`
abbrev pub ReadsParamName : List Token → Result (ℕ × Label × Name) Stop → List Token → Type 0
ReadsParamName = ReadsAnywhere {X = Head} (λ r. r) ParamWanted (λ r head. ParamColon head r.0 r.1 r.2)

-- the same after `_`, which begins there
abbrev pub ReadsUnlabelled : ℕ → List Token → Result (ℕ × Label × Name) Stop → List Token → Type 0
ReadsUnlabelled from = ReadsAnywhere {X = Head} (λ r. r) (λ head. ParamUnlabelled head from) (λ r head. ParamColon head r.0 r.1 r.2)

-- the same after a name
abbrev pub ReadsSecondName : Name → List Token → Result (ℕ × Label × Name) Stop → List Token → Type 0
ReadsSecondName first = ReadsAnywhere {X = Head} (λ r. r) (λ head. ParamFirst head first) (λ r head. ParamColon head r.0 r.1 r.2)

abbrev pub ReadsMode : declared.Sort → List Token → Mode → List Token → Type 0
ReadsMode sort old mode new = (total : ℕ) (head : Head) (from : ℕ) (label : Label) (name : Name) → head.sort ≡ sort_of sort
    → depth_head head + 1 ≤ most_levels
    → walk total (ParamColon head from label name) old ≡ walk total (TypeWanted (ForParam head from label name mode)) new

-- BODIES

abbrev pub ReadsResult : ℕ → declared.Sort → Heading → List Token → Result Heading Stop → List Token → Type 0
ReadsResult levels sort heading =
    Reads {X = Below (sort_of sort)} levels (λ h. h) (λ x. TypeWanted (ForResult (headed (sort_of sort) heading x)))
    (λ h x. ResultRead (headed (sort_of sort) h x) h.end)

abbrev pub ReadsArrow : ℕ → declared.Sort → Heading → List Token → Result Heading Stop → List Token → Type 0
ReadsArrow levels sort heading =
    Reads {X = Below (sort_of sort)} levels (λ h. h) (λ x. EffectRead (headed (sort_of sort) heading x) heading.end)
    (λ h x. ResultRead (headed (sort_of sort) h x) h.end)

abbrev pub ReadsEffect : declared.Sort → Heading → List Token → Heading → List Token → Type 0
ReadsEffect sort heading old made new = (total : ℕ) (x : Below (sort_of sort)) → (sort_of sort ≡ Subscript → ⊥) → depth_home x.home ≤ most_levels
    → walk total (ParamsRead (headed (sort_of sort) heading x) heading.end) old ≡ walk total (EffectRead (headed (sort_of sort) made x) made.end) new

abbrev pub ReadsOutcome : ℕ → declared.Sort → Heading → List Token → Result Heading Stop → List Token → Type 0
ReadsOutcome levels sort heading =
    Reads {X = Below (sort_of sort)} levels (λ h. h) (λ x. ParamsRead (headed (sort_of sort) heading x) heading.end)
    (λ h x. ResultRead (headed (sort_of sort) h x) h.end)

abbrev pub ReadsBody : ℕ → declared.Sort → Heading → List Token → Result Callable Stop → List Token → Type 0
ReadsBody levels sort heading =
    Reads {X = Below (sort_of sort)} levels D.callable_of (λ x. ResultRead (headed (sort_of sort) heading x) heading.end)
    (λ c x. callable_done c x.home x.start)

-- after the `{` of one plain body, and of one that may be variants
abbrev pub ReadsPlainBody : ℕ → declared.Sort → Heading → Span → List Token → Result Callable Stop → List Token → Type 0
ReadsPlainBody levels sort heading brace =
    Reads {X = Below (sort_of sort)} levels D.callable_of (λ x. BlockOpened (InBody (PlainBody (headed (sort_of sort) heading x)) brace))
    (λ c x. callable_done c x.home x.start)

abbrev pub ReadsVaryingBody : ℕ → declared.Sort → Heading → Span → List Token → Result Callable Stop → List Token → Type 0
ReadsVaryingBody levels sort heading brace =
    Reads {X = Below (sort_of sort)} levels D.callable_of (λ x. BodyOpened (headed (sort_of sort) heading x) brace) (λ c x. callable_done c x.home x.start)

abbrev pub ReadsVariants : ℕ → declared.Sort → Heading → List Token → Result Callable Stop → List Token → Type 0
ReadsVariants levels sort heading old result new = (brace : Span)
    → Reads {X = Below (sort_of sort)} levels D.callable_of (λ x. VariantsRead (headed (sort_of sort) heading x) brace [])
    (λ c x. callable_done c x.home x.start) old result new

-- a variant after its word
abbrev pub ReadsVariant : ℕ → Span → Mode → List Token → Result Variant Stop → List Token → Type 0
ReadsVariant levels keyword mode =
    Reads {X = Varying} levels D.variant_of (λ x. variant_word mode x.head x.brace x.variants keyword)
    (λ v x. VariantsRead x.head x.brace (x.variants ++ v ∷ []))

abbrev pub ReadsValueName : ℕ → Span → Mode → List Token → Result (Option Name) Stop → List Token → Type 0
ReadsValueName levels keyword mode =
    Reads {X = Varying} levels (λ v. v) (λ x. variant_word mode x.head x.brace x.variants keyword)
    (λ v x. BodyWanted (VariantBody x.head x.brace x.variants keyword mode v))

-- CALLABLES

-- after the name of something callable, or where it may stand
abbrev pub ReadsOpened : ℕ → declared.Sort → Heading → List Token → Result Callable Stop → List Token → Type 0
ReadsOpened levels sort heading =
    Reads {X = Below (sort_of sort)} levels D.callable_of (λ x. ParamsWanted (headed (sort_of sort) heading x)) (λ c x. callable_done c x.home x.start)

abbrev pub ReadsFunction : ℕ → declared.Sort → Span → List Token → Result Callable Stop → List Token → Type 0
ReadsFunction levels sort keyword =
    Reads {X = BelowFunction (sort_of sort)} levels D.callable_of (λ x. FunctionWord x.home x.start keyword) (λ c x. callable_done c x.home x.start)

abbrev pub ReadsSubscript : ℕ → Bool → Span → List Token → Result Callable Stop → List Token → Type 0
ReadsSubscript levels in_file keyword =
    Reads {X = BelowSubscript in_file} levels D.callable_of (λ x. SubscriptWord x.home x.start keyword) (λ c x. callable_done c x.home x.start)

abbrev pub ReadsNamedSubscript : ℕ → Span → List Token → Result Callable Stop → List Token → Type 0
ReadsNamedSubscript levels keyword old =
    Reads {X = BelowName old} levels D.callable_of (λ x. SubscriptWord x.home x.start keyword) (λ c x. callable_done c x.home x.start) old

abbrev pub ReadsDeinit : ℕ → Span → List Token → Result Callable Stop → List Token → Type 0
ReadsDeinit levels keyword =
    Reads {X = BelowDeinit} levels D.callable_of (λ x. BodyWanted (PlainBody (head_of x.home x.start Deinit keyword None)))
    (λ c x. callable_done c x.home x.start)

-- what a member is, with where it ends, as plain data
abbrev pub read_kind : MemberKind × ℕ → T.MemberKind × ℕ
read_kind r = (D.member_kind_of r.0, r.1)

-- MEMBERS
-- They stand at level 1.

abbrev pub ReadsField : List Token → Result (MemberKind × ℕ) Stop → List Token → Type 0
ReadsField = Reads {X = MemberAt} 199 read_kind (λ x. FieldWord x.owner x.members x.start) (λ r x. MemberRead x.owner x.members x.start r.0 r.1)

abbrev pub ReadsMemberwise : List Token → Result (MemberKind × ℕ) Stop → List Token → Type 0
ReadsMemberwise = Reads {X = MemberAt} 199 read_kind (λ x. MemberwiseWord x.owner x.members x.start) (λ r x. MemberRead x.owner x.members x.start r.0 r.1)

-- after `public`, or where it may stand
abbrev pub ReadsMemberKind : OwnerSort → List Token → Result (MemberKind × ℕ) Stop → List Token → Type 0
ReadsMemberKind sort = Reads {X = Begun sort} 199 read_kind (λ x. PublicMember x.owner x.members x.start) (λ r x. MemberRead x.owner x.members x.start r.0 r.1)

abbrev pub ReadsMember : OwnerSort → List Token → Result Member Stop → List Token → Type 0
ReadsMember sort = ReadsCounted {X = Owned sort} 199 D.member_of (λ x. MembersReady x.owner x.members) (λ m x. MembersDone x.owner (x.members ++ m ∷ []))

abbrev pub ReadsMembers : OwnerSort → List Token → Result (List Member × Span) Stop → List Token → Type 0
ReadsMembers sort =
    ReadsCounted {X = OwnerOf sort} 199 (λ (r : List Member × Span). r) (λ x. MembersReady x.owner []) (λ r x. owner_read x.owner (map D.member_of r.0) r.1)

-- DECLARATIONS

-- after a name, or the `:` after it, up to the `{` of the members
abbrev pub ReadsTraits : List Token → Result (List NameUse) Stop → List Token → Type 0
ReadsTraits =
    Reads {X = Listing} 200 (λ (traits : List NameUse). traits) (λ x. TraitWanted x.opening x.subject [])
    (λ traits x. MembersReady (ListedOwner x.opening x.subject traits) [])

abbrev pub ReadsConformed : List Token → Result (List NameUse) Stop → List Token → Type 0
ReadsConformed =
    Reads {X = TypeNamed} 200 (λ (traits : List NameUse). traits) (λ x. TypeName x.opening x.name)
    (λ traits x. MembersReady (ListedOwner x.opening (TypeSubject x.name) traits) [])

-- what a declaration is, with where it ends, as plain data
abbrev pub read_decl_kind : DeclKind × ℕ → T.DeclKind × ℕ
read_decl_kind r = (D.decl_kind_of r.0, r.1)

-- after the word of a type, trait or conformance
abbrev pub ReadsBehind : (Opening → State) → Span → List Token → Result (DeclKind × ℕ) Stop → List Token → Type 0
ReadsBehind need keyword = ReadsCounted {X = DeclAt} 200 read_decl_kind (λ x. need (opening x.decls x.start keyword)) (λ r x. DeclRead x.decls x.start r.0 r.1)

-- after `public`, or where it may stand
abbrev pub ReadsDeclKind : List Token → Result (DeclKind × ℕ) Stop → List Token → Type 0
ReadsDeclKind = ReadsCounted {X = DeclAt} 200 read_decl_kind (λ x. PublicDecl x.decls x.start) (λ r x. DeclRead x.decls x.start r.0 r.1)

abbrev pub ReadsDecl : List Token → Result Decl Stop → List Token → Type 0
ReadsDecl = ReadsCounted {X = FileAt} 200 D.decl_of (λ x. FileReady x.decls x.to) (λ d x. FileDone (x.decls ++ d ∷ []) d.at.span.to)

-- where the file ends after a declaration, with the `;` after it
abbrev pub ReadsEnd : ℕ → List Token → ℕ → List Token → Type 0
ReadsEnd before old to new = (total : ℕ) (decls : List T.Decl) → walk total (FileDone decls before) old ≡ walk total (FileReady decls to) new

-- the machine ends with the program, or stops where the parser does
abbrev pub ReadsProgram : List Token → Result Program Stop → Type 0
ReadsProgram tokens (Ok p) = walk (length tokens) begin tokens ≡ Ok (D.program_of p)
ReadsProgram tokens (Err e) = Halts e (walk (length tokens) begin tokens)

-- the fault that a refusal is given by
abbrev pub refused : Refusal → Fault
refused refusal = Refused refusal.rule refusal.span
