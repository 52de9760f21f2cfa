-- What is known of the nodes of a source: the types of its expressions, steps, operators, variables, parameters and written types,
-- and its calls.
use Rattle.std.specs.Prelude.{ℕ, ◌==◌, Bool as Truth, List, [], ◌∷◌, ◌++◌, Option, Some, None, cond, flat_map}
use Rattle.hy_tree.specs.Tree as T
use Rattle.hy_tree.specs.declared.name.Name.{Name}
use Rattle.hy_signatures.specs.Declarations.{Source, written_type, result_type}
use Rattle.hy_check.specs.Phrases.{Phrase, AnExpr, AStep, AStmt, bound_type, phrases}
use Rattle.hy_check.specs.Postfix.{value_of, Seen, CallStep}
use Rattle.hy_signatures.specs.Operators.{joined}
use Rattle.hy_check.specs.Typing.{Around, type_in, typed, valued, seen, after, step_types, all_there}
use Rattle.hy_check.specs.Uses.{Use, Sig, sig_of, on_place}
use Rattle.hy_types.specs.Types.{PlainType}

pub data Fact : Type 0 where
  HasType : (node : ℕ) → PlainType → Fact
  Calls : (node : ℕ) → Sig → Fact

abbrev pub has_type : ℕ → Option PlainType → List Fact
has_type node None = []
has_type node (Some type) = HasType node type ∷ []

-- WRITTEN TYPES
-- Parts stand first.

abbrev mutual
  pub type_facts : Source → T.TypeExp → List Fact
  type_facts source (T.NamedType name at) = HasType at.node (written_type source (T.NamedType name at)) ∷ []
  type_facts source (T.SelfType token at) = HasType at.node (written_type source (T.SelfType token at)) ∷ []
  type_facts source (T.ArrayType element at) = type_facts source element ++ HasType at.node (written_type source (T.ArrayType element at)) ∷ []
  type_facts source (T.TupleType parts at) = types_facts source parts ++ HasType at.node (written_type source (T.TupleType parts at)) ∷ []

  pub types_facts : Source → T.TypeExps → List Fact
  types_facts source T.NoType = []
  types_facts source (T.ThenType written more) = type_facts source written ++ types_facts source more

abbrev pub written_facts : Source → Option T.TypeExp → List Fact
written_facts source None = []
written_facts source (Some written) = type_facts source written

-- PHRASES

-- what each operator of a chain gives, from the left operand on
abbrev pub link_facts : Around → Option PlainType → T.Links → List Fact
link_facts around left T.NoLink = []
link_facts around left (T.ThenLink operator token operand at more) =
    has_type at.node (joined operator left (typed around operand)) ++ link_facts around (joined operator left (typed around operand)) more

abbrev pub inner_facts : Around → T.Expr → List Fact
inner_facts around (T.Chain first links at) = link_facts around (typed around first) links
inner_facts around (T.EmptyArray element at) = type_facts around.source element
inner_facts around e = []

-- the call that a step is, where it is one
abbrev pub call_facts : ℕ → Seen → Option (List PlainType) → (marked on_place : Truth) → Use → List Fact
call_facts node (CallStep s) given marked place used = Calls node (sig_of s given marked place used) ∷ []
call_facts node other given marked place used = []

abbrev pub stmt_facts : Around → T.Stmt → List Fact
stmt_facts around (T.Binding introducer name written value at) = has_type at.node (bound_type around written value) ++ written_facts around.source written
stmt_facts around (T.Declare name written at) = HasType at.node (written_type around.source written) ∷ type_facts around.source written
stmt_facts around stmt = []

-- the types of a phrase
abbrev pub phrase_types : Phrase → List Fact
phrase_types (AnExpr around used marked e) = inner_facts around e ++ has_type (T.at_expr e).node (type_in (valued around marked e))
phrase_types (AStep around used marked before step more span) =
    has_type (T.at_step step).node (type_in (value_of (after around marked before step more)))
phrase_types (AStmt around body stmt) = stmt_facts around stmt

-- the call that it is
abbrev pub phrase_calls : Phrase → List Fact
phrase_calls (AnExpr around used marked e) = []
phrase_calls (AStep around used marked before step more span) =
    call_facts (T.at_step step).node (seen around before step more) (all_there (step_types around step)) marked (on_place before) used
phrase_calls (AStmt around body stmt) = []

abbrev pub phrase_facts : Phrase → List Fact
phrase_facts phrase = phrase_types phrase ++ phrase_calls phrase

-- DECLARATIONS

abbrev pub param_facts : Source → T.Param → List Fact
param_facts source p = type_facts source p.written ++ HasType p.at.node (written_type source p.written) ∷ []

-- the new value of a `set` variant has the type of what the subscript yields
abbrev pub variant_facts : Source → T.Callable → T.Variant → List Fact
variant_facts source c v = new_value v.value
  where
    new_value : Option Name → List Fact
    new_value None = []
    new_value (Some name) = HasType v.at.node (result_type source c.result) ∷ []

abbrev pub callable_facts : Source → T.Callable → List Fact
callable_facts source c = flat_map (param_facts source) c.params ++ (written_facts source c.result ++ flat_map (variant_facts source c) c.variants)

abbrev pub kind_facts : Source → T.MemberKind → List Fact
kind_facts source (T.Field name written) = type_facts source written
kind_facts source T.MemberwiseInit = []
kind_facts source (T.MemberCallable c) = callable_facts source c

abbrev pub members_facts : Source → List T.Member → List Fact
members_facts source members = flat_map (λ (member : T.Member). kind_facts source member.kind) members

abbrev pub decl_facts : Source → T.DeclKind → List Fact
decl_facts source (T.DeclCallable c) = callable_facts source c
decl_facts source (T.DeclProduct p) = members_facts source p.members
decl_facts source (T.DeclTrait t) = members_facts source t.members
decl_facts source (T.DeclConform c) = members_facts source c.members

-- all that is known of a source
abbrev pub facts : Source → List Fact
facts source = flat_map (λ (decl : T.Decl). decl_facts source decl.kind) source.decls ++ flat_map phrase_facts (phrases source)

-- BY NODE

abbrev pub type_among : ℕ → List Fact → Option PlainType
type_among wanted [] = None
type_among wanted (HasType node type ∷ more) = cond (node == wanted) (Some type) (type_among wanted more)
type_among wanted (Calls node sig ∷ more) = type_among wanted more

abbrev pub call_among : ℕ → List Fact → Option Sig
call_among wanted [] = None
call_among wanted (HasType node type ∷ more) = call_among wanted more
call_among wanted (Calls node sig ∷ more) = cond (node == wanted) (Some sig) (call_among wanted more)
