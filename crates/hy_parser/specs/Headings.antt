-- What the functions that read declarations have in hand, in the machine's terms.
use Rattle.std.specs.Prelude.{◌≡◌, ◌⊎◌, ℕ, Bool, true, false, List, [], ◌∷◌, ◌++◌, Option, Some, None, map}
use Rattle.std.specs.Option.{option_map}
use Rattle.hy_base.specs.declared.position.Span.{Span}
use Rattle.hy_lexer.specs.declared.token.Token.{Token}
use Rattle.hy_lexer.specs.declared.token.TokenKind.{TokenKind}
use Rattle.hy_lexer.specs.declared.token.TokenKind.TheVariants as k
use Rattle.hy_tree.specs.Denotes.{param_of, type_of}
use Rattle.hy_tree.specs.Tree as T
use Rattle.hy_tree.specs.declared.declaration.TypeParam.{TypeParam}
use Rattle.hy_tree.specs.declared.name.Name.{Name}
use Rattle.hy_tree.specs.declared.operator.Mode.{Mode}
use Rattle.hy_tree.specs.declared.operator.Mode.TheVariants as mode
use Rattle.hy_parser.specs.declared.heading.DeclWord.{DeclWord}
use Rattle.hy_parser.specs.declared.heading.DeclWord.TheVariants as begun
use Rattle.hy_parser.specs.declared.heading.Heading.{Heading}
use Rattle.hy_parser.specs.declared.heading.MemberWord.{MemberWord}
use Rattle.hy_parser.specs.declared.heading.MemberWord.TheVariants as word
use Rattle.hy_parser.specs.declared.heading.OwnerSort.{OwnerSort}
use Rattle.hy_parser.specs.declared.heading.OwnerSort.TheVariants as owner
use Rattle.hy_parser.specs.declared.heading.Role.{Role}
use Rattle.hy_parser.specs.declared.heading.Role.TheVariants as role
use Rattle.hy_parser.specs.declared.heading.Sort as declared
use Rattle.hy_parser.specs.declared.heading.Sort.TheVariants as sort
use Rattle.hy_grammar.specs.DeclSteps.{sort_in, mode_in, head_of, opening}
use Rattle.hy_grammar.specs.Kinds.{effect_of}
use Rattle.hy_phrases.specs.Wanted.{Sees}
use Rattle.hy_grammar.specs.Stack.{Opening, Subject, TypeWord, TraitWord, ConformanceWord, Start, Home, InFile, InOwner, Owner, TraitOwner, ListedOwner}
use Rattle.hy_grammar.specs.Stack.{TypeSubject, ConformanceSubject, Sort, FileFunction, Method, Requirement, Subscript, Deinit, Head, PlainBody}
use Rattle.hy_grammar.specs.Stack.{VariantBody, State, FieldWord, MemberwiseWord, SubscriptWord, FunctionWord, DeclRead, MemberRead, GenericWanted}
use Rattle.hy_grammar.specs.Stack.{ParamsWanted, SetWord, BodyWanted}

-- SORTS

abbrev pub sort_of : declared.Sort → Sort
sort_of sort.Function = FileFunction
sort_of sort.Method = Method
sort_of sort.Requirement = Requirement
sort_of sort.Subscript = Subscript
sort_of sort.Deinit = Deinit

-- where something callable of a sort may stand
abbrev pub Fits : Sort → Home → Type 0
Fits Subscript home = Unit {0}
Fits Deinit home = Unit {0}
Fits sort home = sort_in home ≡ sort

-- what stands below something callable
pub record Below (sort : Sort) : Type 0 where
  pub home : Home
  pub start : Start
  pub fits : Fits sort home

-- what stands below a function, method or requirement
pub record BelowFunction (sort : Sort) : Type 0 where
  pub home : Home
  pub start : Start
  pub is : sort_in home ≡ sort

abbrev pub is_file : Home → Bool
is_file (InFile decls) = true
is_file (InOwner owner members) = false

-- what stands below a subscript, whether or not it is one of the file
pub record BelowSubscript (in_file : Bool) : Type 0 where
  pub home : Home
  pub start : Start
  pub is : is_file home ≡ in_file

-- what stands below a subscript that has a name, where these tokens come
pub record BelowName (old : List Token) : Type 0 where
  pub home : Home
  pub start : Start
  pub names : (is_file home ≡ true) ⊎ (Sees k.LeftParen old → ⊥)

pub record BelowDeinit : Type 0 where
  pub home : Home
  pub start : Start

-- HEADINGS

abbrev pub headed : (sort : Sort) → Heading → Below sort → Head
headed sort h x = record {
  home = x.home;
  start = x.start;
  sort = sort;
  keyword = h.keyword;
  name = h.name;
  generics = h.generics;
  params =
      map param_of h.params;
  effect = h.effect;
  result = option_map type_of h.result;
}

-- after something callable
abbrev pub callable_done : T.Callable → Home → Start → State
callable_done c (InFile decls) start = DeclRead decls start (T.DeclCallable c) c.at.span.to
callable_done c (InOwner owner members) start = MemberRead owner members start (T.MemberCallable c) c.at.span.to

abbrev pub with_generics : Head → List TypeParam → Head
with_generics head generics = record head { generics = head.generics ++ generics }

-- after the `,` or `>` after a type parameter
abbrev pub generic_done : Bool → Head → State
generic_done true head = GenericWanted head
generic_done false head = ParamsWanted head

-- a head of this sort
pub record OfSort (sort : Sort) : Type 0 where
  pub head : Head
  pub is : head.sort ≡ sort

-- BODIES

-- the effect that may stand after parameters
abbrev pub effect_in : Sort → TokenKind → Option Mode
effect_in Method kind = effect_of kind
effect_in Requirement kind = effect_of kind
effect_in _ kind = None

-- A method with its effect after the parameters has one plain body.
abbrev pub may_vary : Sort → Option Mode → Bool
may_vary Method None = true
may_vary Subscript effect = true
may_vary _ effect = false

abbrev pub is_left_brace : TokenKind → Bool
is_left_brace k.LeftBrace = true
is_left_brace _ = false

abbrev pub opens_block : List Token → Bool
opens_block [] = false
opens_block (t ∷ ts) = is_left_brace t.kind

abbrev pub is_subscript : Sort → Bool
is_subscript Subscript = true
is_subscript _ = false

-- whether a token begins variants, with these after it
abbrev pub begins_variant : Sort → TokenKind → List Token → Bool
begins_variant sort k.Let behind = opens_block behind
begins_variant sort k.Inout behind = opens_block behind
begins_variant sort k.Sink behind = true
begins_variant sort k.Set behind = is_subscript sort
begins_variant sort _ behind = false

abbrev pub begins_variants : Sort → List Token → Bool
begins_variants sort [] = false
begins_variants sort (t ∷ ts) = begins_variant sort t.kind ts

-- the convention of a variant
abbrev pub set_in : Sort → Option Mode
set_in Subscript = Some mode.Set
set_in _ = None

abbrev pub variant_mode : Sort → TokenKind → Option Mode
variant_mode sort k.Set = set_in sort
variant_mode sort kind = effect_of kind

-- the convention that a token of a kind is
abbrev pub mode_as : Role → Sort → TokenKind → Option Mode
mode_as role.Param sort kind = mode_in sort kind
mode_as role.Effect sort kind = effect_in sort kind
mode_as role.Body sort kind = variant_mode sort kind

-- after the word of a variant
abbrev pub variant_word : Mode → Head → Span → List T.Variant → Span → State
variant_word mode.Set head brace variants keyword = SetWord head brace variants keyword
variant_word mode head brace variants keyword = BodyWanted (VariantBody head brace variants keyword mode None)

-- a requirement has no body
abbrev pub has_body : Sort → Bool
has_body Requirement = false
has_body _ = true

-- what stands below a variant
pub record Varying : Type 0 where
  pub head : Head
  pub brace : Span
  pub variants : List T.Variant

-- MEMBERS

abbrev pub owner_sort : Owner → OwnerSort
owner_sort (TraitOwner opening name) = owner.Trait
owner_sort (ListedOwner opening (TypeSubject name) traits) = owner.Product
owner_sort (ListedOwner opening (ConformanceSubject target) traits) = owner.Conformance

-- whose members are read
pub record OwnerOf (sort : OwnerSort) : Type 0 where
  pub owner : Owner
  pub is : owner_sort owner ≡ sort

pub record MemberAt : Type 0 where
  pub owner : Owner
  pub members : List T.Member
  pub start : Start

-- the state after the word that begins a member
abbrev pub word_state : MemberWord → Owner → List T.Member → Start → Span → State
word_state word.Field owner members start t = FieldWord owner members start
word_state word.Memberwise owner members start t = MemberwiseWord owner members start
word_state word.Deinit owner members start t = BodyWanted (PlainBody (head_of (InOwner owner members) start Deinit t None))
word_state word.Subscript owner members start t = SubscriptWord (InOwner owner members) start t
word_state (word.Function sort) owner members start t = FunctionWord (InOwner owner members) start t

-- what stands below members
pub record Owned (sort : OwnerSort) : Type 0 where
  pub owner : Owner
  pub members : List T.Member
  pub is : owner_sort owner ≡ sort

-- what stands below a member that is begun
pub record Begun (sort : OwnerSort) : Type 0 where
  pub owner : Owner
  pub members : List T.Member
  pub start : Start
  pub is : owner_sort owner ≡ sort

abbrev pub trait_word : TokenKind → Option MemberWord
trait_word k.Fun = Some (word.Function sort.Requirement)
trait_word _ = None

abbrev pub conformance_word : TokenKind → Option MemberWord
conformance_word k.Fun = Some (word.Function sort.Method)
conformance_word k.Subscript = Some word.Subscript
conformance_word _ = None

abbrev pub product_word : TokenKind → Option MemberWord
product_word k.Var = Some word.Field
product_word k.Memberwise = Some word.Memberwise
product_word k.Deinit = Some word.Deinit
product_word kind = conformance_word kind

-- the word that begins a member
abbrev pub member_word : OwnerSort → TokenKind → Option MemberWord
member_word owner.Trait kind = trait_word kind
member_word owner.Product kind = product_word kind
member_word owner.Conformance kind = conformance_word kind

-- DECLARATIONS

abbrev pub decl_word : TokenKind → Option DeclWord
decl_word k.Fun = Some begun.Function
decl_word k.Subscript = Some begun.Subscript
decl_word k.Type = Some begun.Type
decl_word k.Trait = Some begun.Trait
decl_word k.Conformance = Some begun.Conformance
decl_word _ = None

-- the state after the word that begins a declaration
abbrev pub decl_state : DeclWord → List T.Decl → Start → Span → State
decl_state begun.Function decls start t = FunctionWord (InFile decls) start t
decl_state begun.Subscript decls start t = SubscriptWord (InFile decls) start t
decl_state begun.Type decls start t = TypeWord (opening decls start t)
decl_state begun.Trait decls start t = TraitWord (opening decls start t)
decl_state begun.Conformance decls start t = ConformanceWord (opening decls start t)

-- what stands below a declaration that is begun
pub record DeclAt : Type 0 where
  pub decls : List T.Decl
  pub start : Start

-- the declarations of the file before, and where they end
pub record FileAt : Type 0 where
  pub decls : List T.Decl
  pub to : ℕ

-- a type whose name is read
pub record TypeNamed : Type 0 where
  pub opening : Opening
  pub name : Name

-- what has a list of traits
pub record Listing : Type 0 where
  pub opening : Opening
  pub subject : Subject

-- what separates traits
abbrev pub separates : TokenKind → Bool
separates k.Comma = true
separates k.Ampersand = true
separates _ = false

abbrev pub separator_next : List Token → Bool
separator_next [] = false
separator_next (t ∷ ts) = separates t.kind

-- a separator was taken
pub record TakesSeparator (old new : List Token) : Type 0 where
  pub token : Token
  pub is : separates token.kind ≡ true
  pub front : old ≡ token ∷ new

abbrev pub Separator : List Token → Bool → List Token → Type 0
Separator old true new = TakesSeparator old new
Separator old false new = (separator_next old ≡ false) × (new ≡ old)
