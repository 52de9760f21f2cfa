-- How the machine goes on at a token of a declaration.
use Rattle.std.specs.Prelude.{◌-◌, ℕ, Bool, true, false, List, [], ◌∷◌, ◌++◌, Option, Some, None}
use Rattle.hy_base.specs.declared.position.Span.{Span}
use Rattle.hy_lexer.specs.declared.token.Token.{Token}
use Rattle.hy_lexer.specs.declared.token.TokenKind.{TokenKind}
use Rattle.hy_lexer.specs.declared.token.TokenKind.TheVariants as k
use Rattle.hy_tree.specs.Tree as T
use Rattle.hy_tree.specs.declared.declaration.Label.{Label}
use Rattle.hy_tree.specs.declared.declaration.Label.TheVariants as label
use Rattle.hy_tree.specs.declared.name.Name.{Name}
use Rattle.hy_tree.specs.declared.name.NameUse.{NameUse}
use Rattle.hy_tree.specs.declared.operator.Introducer.{Introducer}
use Rattle.hy_tree.specs.declared.operator.Introducer.TheVariants as introducer
use Rattle.hy_tree.specs.declared.operator.Mode.{Mode}
use Rattle.hy_tree.specs.declared.operator.Mode.TheVariants as mode
use Rattle.hy_grammar.specs.Kinds.{effect_of, function_mode_of, subscript_mode_of}
use Rattle.hy_grammar.specs.Nodes as node
use Rattle.hy_grammar.specs.TypeSteps.{at_type}
use Rattle.hy_grammar.specs.StmtSteps.{callable_of, callable_read, at_block_opened}
use Rattle.hy_grammar.specs.Stack.{Start, Opening, Subject, TypeSubject, ConformanceSubject, Owner, TraitOwner, ListedOwner, Home, InFile, InOwner, Sort}
use Rattle.hy_grammar.specs.Stack.{FileFunction, Method, Requirement, Subscript, Deinit, Head, PlainBody, VariantBody, InBody, ForParam, ForResult, State}
use Rattle.hy_grammar.specs.Stack.{FileReady, PublicDecl, DeclRead, TypeWord, TraitWord, ConformanceWord, TraitWanted, MembersReady, PublicMember}
use Rattle.hy_grammar.specs.Stack.{FieldWord, MemberwiseWord, FunctionWord, SubscriptWord, GenericWanted, BoundWanted, ParamsWanted, ParamsOpened}
use Rattle.hy_grammar.specs.Stack.{ParamWanted, ParamFirst, ParamUnlabelled, ParamName, ParamColon, ParamsRead, EffectRead, BodyWanted, BodyOpened}
use Rattle.hy_grammar.specs.Stack.{BodyWord, SetWord, BlockOpened, BindingName, TypeWanted}

-- A declaration or member that begins at a token, with so many tokens before it.
abbrev pub begins_at : Bool → Token → ℕ → Start
begins_at public t place = record { public = public; place = place; from = t.span.from }

abbrev pub head_of : Home → Start → Sort → Span → Option Name → Head
head_of home start sort keyword name = record {
  home = home;
  start = start;
  sort = sort;
  keyword = keyword;
  name = name;
  generics = [];
  params =
      [];
  effect = None;
  result = None;
}

-- a `fun` here
abbrev pub sort_in : Home → Sort
sort_in (InFile decls) = FileFunction
sort_in (InOwner (TraitOwner opening name) members) = Requirement
sort_in (InOwner (ListedOwner opening subject traits) members) = Method

abbrev pub opening : List T.Decl → Start → Span → Opening
opening decls start keyword = record { decls = decls; start = start; keyword = keyword }

-- THE FILE

abbrev pub at_decl : TokenKind → Span → List T.Decl → Start → Option State
at_decl k.Fun t decls start = Some (FunctionWord (InFile decls) start t)
at_decl k.Subscript t decls start = Some (SubscriptWord (InFile decls) start t)
at_decl k.Type t decls start = Some (TypeWord (opening decls start t))
at_decl k.Trait t decls start = Some (TraitWord (opening decls start t))
at_decl k.Conformance t decls start = Some (ConformanceWord (opening decls start t))
at_decl _ t decls start = None

abbrev pub at_file : TokenKind → Token → ℕ → List T.Decl → Option State
at_file k.Public t place decls = Some (PublicDecl decls (begins_at true t place))
at_file kind t place decls = at_decl kind t.span decls (begins_at false t place)

abbrev pub at_file_done : TokenKind → Token → ℕ → List T.Decl → Option State
at_file_done k.Semicolon t place decls = Some (FileReady decls t.span.to)
at_file_done kind t place decls = at_file kind t place decls

-- the declaration that begins at `start`, and before whose end stand so many tokens
abbrev pub decl_of : Start → T.DeclKind → ℕ → ℕ → T.Decl
decl_of start kind place to = node.decl start.public kind (place - start.place) start.from to

abbrev pub at_decl_read : Token → ℕ → List T.Decl → Start → T.DeclKind → ℕ → Option State
at_decl_read t place decls start kind to = at_file_done t.kind t place (decls ++ decl_of start kind place to ∷ [])

-- TYPES, TRAITS AND CONFORMANCES

abbrev pub at_type_name : TokenKind → Opening → Name → Option State
at_type_name k.Colon o name = Some (TraitWanted o (TypeSubject name) [])
at_type_name k.LeftBrace o name = Some (MembersReady (ListedOwner o (TypeSubject name) []) [])
at_type_name _ o name = None

abbrev pub at_trait_listed : TokenKind → Opening → Subject → List NameUse → Option State
at_trait_listed k.Comma o subject traits = Some (TraitWanted o subject traits)
at_trait_listed k.Ampersand o subject traits = Some (TraitWanted o subject traits)
at_trait_listed k.LeftBrace o subject traits = Some (MembersReady (ListedOwner o subject traits) [])
at_trait_listed _ o subject traits = None

abbrev pub listed_kind : Opening → Subject → List NameUse → List T.Member → Span → T.DeclKind
listed_kind o (TypeSubject name) traits members close = T.DeclProduct (node.product o.keyword name traits members close)
listed_kind o (ConformanceSubject target) traits members close = T.DeclConform (node.conformance o.keyword target traits members close)

-- after the `}` of the members
abbrev pub owner_read : Owner → List T.Member → Span → State
owner_read (TraitOwner o name) members close = DeclRead o.decls o.start (T.DeclTrait (node.trait o.keyword name members close)) close.to
owner_read (ListedOwner o subject traits) members close = DeclRead o.decls o.start (listed_kind o subject traits members close) close.to

-- MEMBERS

abbrev pub at_trait_member : TokenKind → Span → Owner → List T.Member → Start → Option State
at_trait_member k.Fun t owner members start = Some (FunctionWord (InOwner owner members) start t)
at_trait_member _ t owner members start = None

abbrev pub at_type_member : TokenKind → Span → Owner → List T.Member → Start → Option State
at_type_member k.Var t owner members start = Some (FieldWord owner members start)
at_type_member k.Memberwise t owner members start = Some (MemberwiseWord owner members start)
at_type_member k.Deinit t owner members start = Some (BodyWanted (PlainBody (head_of (InOwner owner members) start Deinit t None)))
at_type_member k.Fun t owner members start = Some (FunctionWord (InOwner owner members) start t)
at_type_member k.Subscript t owner members start = Some (SubscriptWord (InOwner owner members) start t)
at_type_member _ t owner members start = None

abbrev pub at_conformance_member : TokenKind → Span → Owner → List T.Member → Start → Option State
at_conformance_member k.Fun t owner members start = Some (FunctionWord (InOwner owner members) start t)
at_conformance_member k.Subscript t owner members start = Some (SubscriptWord (InOwner owner members) start t)
at_conformance_member _ t owner members start = None

abbrev pub at_member : TokenKind → Span → Owner → List T.Member → Start → Option State
at_member kind t (TraitOwner o name) members start = at_trait_member kind t (TraitOwner o name) members start
at_member kind t (ListedOwner o (TypeSubject name) traits) members start = at_type_member kind t (ListedOwner o (TypeSubject name) traits) members start
at_member kind t (ListedOwner o (ConformanceSubject target) traits) members start =
    at_conformance_member kind t (ListedOwner o (ConformanceSubject target) traits) members start

-- No member of a trait is `public`.
abbrev pub at_public : Owner → List T.Member → Start → Option State
at_public (TraitOwner o name) members start = None
at_public (ListedOwner o subject traits) members start = Some (PublicMember (ListedOwner o subject traits) members start)

abbrev pub at_members : TokenKind → Token → ℕ → Owner → List T.Member → Option State
at_members k.RightBrace t place owner members = Some (owner_read owner members t.span)
at_members k.Public t place owner members = at_public owner members (begins_at true t place)
at_members kind t place owner members = at_member kind t.span owner members (begins_at false t place)

abbrev pub at_members_done : TokenKind → Token → ℕ → Owner → List T.Member → Option State
at_members_done k.Semicolon t place owner members = Some (MembersReady owner members)
at_members_done kind t place owner members = at_members kind t place owner members

abbrev pub member_of : Start → T.MemberKind → ℕ → ℕ → T.Member
member_of start kind place to = node.member start.public kind (place - start.place) start.from to

abbrev pub at_member_read : Token → ℕ → Owner → List T.Member → Start → T.MemberKind → ℕ → Option State
at_member_read t place owner members start kind to = at_members_done t.kind t place owner (members ++ member_of start kind place to ∷ [])

-- FUNCTIONS AND SUBSCRIPTS

abbrev pub generics_of : Sort → Head → Option State
generics_of Requirement head = None
generics_of _ head = Some (GenericWanted head)

abbrev pub at_function_name : TokenKind → Head → Option State
at_function_name k.Less head = generics_of head.sort head
at_function_name k.LeftParen head = Some (ParamsOpened head)
at_function_name _ head = None

-- A subscript of the file has a name.
abbrev pub unnamed : Home → Start → Span → Option State
unnamed (InFile decls) start keyword = None
unnamed (InOwner owner members) start keyword = Some (ParamsOpened (head_of (InOwner owner members) start Subscript keyword None))

abbrev pub at_subscript_word : TokenKind → Span → Home → Start → Span → Option State
at_subscript_word (k.Name text) t home start keyword = Some (ParamsWanted (head_of home start Subscript keyword (Some (node.spelled text t))))
at_subscript_word k.LeftParen t home start keyword = unnamed home start keyword
at_subscript_word _ t home start keyword = None

abbrev pub with_generic : Head → Name → List NameUse → Head
with_generic head name bounds = record head { generics = head.generics ++ node.type_param name bounds ∷ [] }

abbrev pub at_generic_name : TokenKind → Head → Name → Option State
at_generic_name k.Colon head name = Some (BoundWanted head name [])
at_generic_name k.Comma head name = Some (GenericWanted (with_generic head name []))
at_generic_name k.Greater head name = Some (ParamsWanted (with_generic head name []))
at_generic_name _ head name = None

abbrev pub at_bound_listed : TokenKind → Head → Name → List NameUse → Option State
at_bound_listed k.Ampersand head name bounds = Some (BoundWanted head name bounds)
at_bound_listed k.Comma head name bounds = Some (GenericWanted (with_generic head name bounds))
at_bound_listed k.Greater head name bounds = Some (ParamsWanted (with_generic head name bounds))
at_bound_listed _ head name bounds = None

-- PARAMETERS

abbrev pub at_param : TokenKind → Span → Head → Option State
at_param (k.Name text) t head = Some (ParamFirst head (node.spelled text t))
at_param k.Underscore t head = Some (ParamUnlabelled head t.from)
at_param _ t head = None

abbrev pub at_params_opened : TokenKind → Span → Head → Option State
at_params_opened k.RightParen t head = Some (ParamsRead head t.to)
at_params_opened kind t head = at_param kind t head

abbrev pub at_param_first : TokenKind → Span → Head → Name → Option State
at_param_first k.Colon t head name = Some (ParamColon head name.span.from label.Same name)
at_param_first (k.Name text) t head name = Some (ParamName head name.span.from (label.Text name.text) (node.spelled text t))
at_param_first _ t head name = None

abbrev pub mode_in : Sort → TokenKind → Option Mode
mode_in Subscript kind = subscript_mode_of kind
mode_in _ kind = function_mode_of kind

abbrev pub at_mode : Option Mode → TokenKind → Span → Head → ℕ → Label → Name → Option State
at_mode (Some mode) kind t head from label name = Some (TypeWanted (ForParam head from label name mode))
at_mode None kind t head from label name = at_type kind t (ForParam head from label name mode.Let)

abbrev pub at_param_colon : TokenKind → Span → Head → ℕ → Label → Name → Option State
at_param_colon kind t head from label name = at_mode (mode_in head.sort kind) kind t head from label name

abbrev pub at_param_read : TokenKind → Span → Head → Option State
at_param_read k.Comma t head = Some (ParamWanted head)
at_param_read k.RightParen t head = Some (ParamsRead head t.to)
at_param_read _ t head = None

-- BODIES

abbrev pub plain_only : Head → Span → State
plain_only head t = BlockOpened (InBody (PlainBody head) t)

-- A method with its effect after the parameters has one plain body.
abbrev pub method_body : Option Mode → Head → Span → State
method_body None head t = BodyOpened head t
method_body (Some effect) head t = plain_only head t

-- after the `{` of a body
abbrev pub body_opened : Sort → Head → Span → State
body_opened Method head t = method_body head.effect head t
body_opened Subscript head t = BodyOpened head t
body_opened _ head t = plain_only head t

-- a requirement has come to its end
abbrev pub at_callable_read : Home → Token → ℕ → Head → ℕ → Option State
at_callable_read (InFile decls) t place head to = at_decl_read t place decls head.start (T.DeclCallable (callable_of head [] to)) to
at_callable_read (InOwner owner members) t place head to = at_member_read t place owner members head.start (T.MemberCallable (callable_of head [] to)) to

-- what may stand after parameters, effect and result: the body, but of a requirement the next member
abbrev pub at_body : Sort → TokenKind → Token → ℕ → Head → ℕ → Option State
at_body Requirement kind t place head to = at_callable_read head.home t place head to
at_body sort k.LeftBrace t place head to = Some (body_opened sort head t.span)
at_body sort _ t place head to = None

abbrev pub at_result : TokenKind → Token → ℕ → Head → ℕ → Option State
at_result k.Arrow t place head to = Some (TypeWanted (ForResult head))
at_result kind t place head to = at_body head.sort kind t place head to

abbrev pub with_effect : Head → Mode → Head
with_effect head mode = record head { effect = Some mode }

abbrev pub at_effect : Option Mode → Token → ℕ → Head → ℕ → Option State
at_effect (Some mode) t place head to = Some (EffectRead (with_effect head mode) t.span.to)
at_effect None t place head to = at_result t.kind t place head to

abbrev pub at_colon : TokenKind → Head → Option State
at_colon k.Colon head = Some (TypeWanted (ForResult head))
at_colon _ head = None

abbrev pub at_params_read : Sort → Token → ℕ → Head → ℕ → Option State
at_params_read Subscript t place head to = at_colon t.kind head
at_params_read Method t place head to = at_effect (effect_of t.kind) t place head to
at_params_read Requirement t place head to = at_effect (effect_of t.kind) t place head to
at_params_read _ t place head to = at_result t.kind t place head to

-- VARIANTS

-- Only a subscript has a `set` variant.
abbrev pub at_set : Sort → Span → Head → Span → List T.Variant → Option State
at_set Subscript t head brace variants = Some (SetWord head brace variants t)
at_set _ t head brace variants = None

abbrev pub at_body_opened : TokenKind → Token → Head → Span → Option State
at_body_opened k.Let t head brace = Some (BodyWord head brace introducer.Let mode.Let t.span)
at_body_opened k.Inout t head brace = Some (BodyWord head brace introducer.Inout mode.Inout t.span)
at_body_opened k.Sink t head brace = Some (BodyWanted (VariantBody head brace [] t.span mode.Sink None))
at_body_opened k.Set t head brace = at_set head.sort t.span head brace []
at_body_opened kind t head brace = at_block_opened kind t (InBody (PlainBody head) brace)

abbrev pub at_body_word : TokenKind → Span → Head → Span → Introducer → Mode → Span → Option State
at_body_word k.LeftBrace t head brace introducer mode word = Some (BlockOpened (InBody (VariantBody head brace [] word mode None) t))
at_body_word (k.Name text) t head brace introducer mode word = Some (BindingName introducer word (node.spelled text t) [] (InBody (PlainBody head) brace))
at_body_word _ t head brace introducer mode word = None

abbrev pub at_variants_read : TokenKind → Span → Head → Span → List T.Variant → Option State
at_variants_read k.Let t head brace variants = Some (BodyWanted (VariantBody head brace variants t mode.Let None))
at_variants_read k.Inout t head brace variants = Some (BodyWanted (VariantBody head brace variants t mode.Inout None))
at_variants_read k.Sink t head brace variants = Some (BodyWanted (VariantBody head brace variants t mode.Sink None))
at_variants_read k.Set t head brace variants = at_set head.sort t head brace variants
at_variants_read k.RightBrace t head brace variants = Some (callable_read head variants t.to)
at_variants_read _ t head brace variants = None
