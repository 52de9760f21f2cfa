-- The grammar of declarations and of a whole program. Each relation has the tokens before a part, the part, and the tokens
-- after it. `docs/GRAMMAR.md` has the grammar as a text.
use Rattle.std.specs.Prelude.{◌≡◌, ◌-◌, ℕ, true, false, List, [], ◌∷◌, ◌++◌, length, Option, Some, None}
use Rattle.hy_lexer.specs.declared.token.Token.{Token}
use Rattle.hy_lexer.specs.declared.token.TokenKind.TheVariants as k
use Rattle.hy_tree.specs.Tree as T
use Rattle.hy_tree.specs.declared.declaration.Label.{Label}
use Rattle.hy_tree.specs.declared.declaration.Label.TheVariants as label
use Rattle.hy_tree.specs.declared.declaration.TypeParam.{TypeParam}
use Rattle.hy_tree.specs.declared.name.Name.{Name}
use Rattle.hy_tree.specs.declared.name.NameUse.{NameUse}
use Rattle.hy_tree.specs.declared.operator.Mode.{Mode}
use Rattle.hy_tree.specs.declared.operator.Mode.TheVariants as mode
use Rattle.hy_grammar.specs.DeclSteps.{mode_in}
use Rattle.hy_grammar.specs.Kinds.{Is, effect_of}
use Rattle.hy_grammar.specs.Nodes as node
use Rattle.hy_grammar.specs.Stack.{Sort, FileFunction, Method, Requirement, Subscript, Deinit}
use Rattle.hy_grammar.specs.StmtSteps.{kind_of, plain_mode}
use Rattle.hy_grammar.specs.StmtGrammar.{HasBlock}
use Rattle.hy_grammar.specs.TypeGrammar.{HasType}

-- PARAMETERS

-- NAME { "&" NAME }
pub data HasBounds : List Token → List NameUse → List Token → Type 0 where
  one_bound : {n : Token} {text : List ℕ} {new : List Token} → Is n (k.Name text) → HasBounds (n ∷ new) (node.used text n.span ∷ []) new
  more_bounds : {a n : Token} {text : List ℕ} {bounds : List NameUse} {old new : List Token} → HasBounds old bounds (a ∷ n ∷ new) → Is a k.Ampersand
      → Is n (k.Name text) → HasBounds old (bounds ++ node.used text n.span ∷ []) new

-- gparam = NAME [ ":" NAME { "&" NAME } ]
pub data HasGeneric : List Token → TypeParam → List Token → Type 0 where
  without_bound : {n : Token} {text : List ℕ} {new : List Token} → Is n (k.Name text)
      → HasGeneric (n ∷ new) (node.type_param (node.spelled text n.span) []) new
  with_bounds : {n c : Token} {text : List ℕ} {bounds : List NameUse} {old new : List Token} → Is n (k.Name text) → Is c k.Colon → HasBounds old bounds new
      → HasGeneric (n ∷ c ∷ old) (node.type_param (node.spelled text n.span) bounds) new

-- gparam { "," gparam }
pub data HasSomeGenerics : List Token → List TypeParam → List Token → Type 0 where
  one_generic : {g : TypeParam} {old new : List Token} → HasGeneric old g new → HasSomeGenerics old (g ∷ []) new
  more_generics : {c : Token} {generics : List TypeParam} {g : TypeParam} {old mid new : List Token} → HasSomeGenerics old generics (c ∷ mid) → Is c k.Comma
      → HasGeneric mid g new → HasSomeGenerics old (generics ++ g ∷ []) new

-- [generics], generics = "<" gparam { "," gparam } ">"
pub data HasGenerics : List Token → List TypeParam → List Token → Type 0 where
  no_generics : {old : List Token} → HasGenerics old [] old
  generics : {l g : Token} {params : List TypeParam} {old new : List Token} → Is l k.Less → HasSomeGenerics old params (g ∷ new) → Is g k.Greater
      → HasGenerics (l ∷ old) params new

-- NAME NAME | "_" NAME | NAME, with where it begins
pub data HasParamName : List Token → ℕ → Label → Name → List Token → Type 0 where
  two_names : {l n : Token} {word text : List ℕ} {new : List Token} → Is l (k.Name word) → Is n (k.Name text)
      → HasParamName (l ∷ n ∷ new) l.span.from (label.Text word) (node.spelled text n.span) new
  no_label : {u n : Token} {text : List ℕ} {new : List Token} → Is u k.Underscore → Is n (k.Name text)
      → HasParamName (u ∷ n ∷ new) u.span.from label.Nothing (node.spelled text n.span) new
  one_name : {n : Token} {text : List ℕ} {new : List Token} → Is n (k.Name text) → HasParamName (n ∷ new) n.span.from label.Same (node.spelled text n.span) new

-- [conv], conv = "let" | "inout" | "sink" | "set" | "yielded"
-- `yielded` stands in parameters of subscripts alone, and `set` in all others alone. `let` is meant where none is written.
pub data HasMode : Sort → List Token → Mode → List Token → Type 0 where
  no_mode : {sort : Sort} {old : List Token} → HasMode sort old mode.Let old
  a_mode : {sort : Sort} {t : Token} {mode : Mode} {new : List Token} → mode_in sort t.kind ≡ Some mode → HasMode sort (t ∷ new) mode new

-- param = ( NAME NAME | "_" NAME | NAME ) ":" [conv] type
pub data HasParam : Sort → List Token → T.Param → List Token → Type 0 where
  param : {sort : Sort} {c : Token} {from : ℕ} {label : Label} {name : Name} {mode : Mode} {written : T.TypeExp} {old mid end new : List Token}
      → HasParamName old from label name (c ∷ mid) → Is c k.Colon → HasMode sort mid mode end → HasType end written new
      → HasParam sort old (node.param from label name mode written) new

-- param { "," param }
pub data HasSomeParams : Sort → List Token → List T.Param → List Token → Type 0 where
  one_param : {sort : Sort} {p : T.Param} {old new : List Token} → HasParam sort old p new → HasSomeParams sort old (p ∷ []) new
  more_params : {sort : Sort} {c : Token} {params : List T.Param} {p : T.Param} {old mid new : List Token} → HasSomeParams sort old params (c ∷ mid)
      → Is c k.Comma → HasParam sort mid p new → HasSomeParams sort old (params ++ p ∷ []) new

-- params = "(" [ param { "," param } ] ")", with where they end
pub data HasParams : Sort → List Token → List T.Param → ℕ → List Token → Type 0 where
  no_params : {sort : Sort} {o c : Token} {new : List Token} → Is o k.LeftParen → Is c k.RightParen → HasParams sort (o ∷ c ∷ new) [] c.span.to new
  params : {sort : Sort} {o c : Token} {list : List T.Param} {old new : List Token} → Is o k.LeftParen → HasSomeParams sort old list (c ∷ new)
      → Is c k.RightParen → HasParams sort (o ∷ old) list c.span.to new

-- [effect], effect = "let" | "inout" | "sink"; with where what stands before ends, and with it
pub data HasEffect : List Token → ℕ → Option Mode → ℕ → List Token → Type 0 where
  no_effect : {to : ℕ} {old : List Token} → HasEffect old to None to old
  an_effect : {t : Token} {to : ℕ} {mode : Mode} {new : List Token} → effect_of t.kind ≡ Some mode → HasEffect (t ∷ new) to (Some mode) t.span.to new

-- ["->" type]
pub data HasResult : List Token → ℕ → Option T.TypeExp → ℕ → List Token → Type 0 where
  no_result : {to : ℕ} {old : List Token} → HasResult old to None to old
  a_result : {a : Token} {to : ℕ} {written : T.TypeExp} {old new : List Token} → Is a k.Arrow → HasType old written new
      → HasResult (a ∷ old) to (Some written) (node.type_to written) new

-- BODIES

-- effect block | "set" "(" NAME ")" block; `set` in a subscript alone
pub data HasVariant : Sort → List Token → T.Variant → List Token → Type 0 where
  effect_variant : {sort : Sort} {w : Token} {mode : Mode} {body : T.Block} {old new : List Token} → effect_of w.kind ≡ Some mode
      → HasBlock false old body new → HasVariant sort (w ∷ old) (node.variant mode w.span None body) new
  set_variant : {w o n c : Token} {text : List ℕ} {body : T.Block} {old new : List Token} → Is w k.Set → Is o k.LeftParen → Is n (k.Name text)
      → Is c k.RightParen → HasBlock false old body new
      → HasVariant Subscript (w ∷ o ∷ n ∷ c ∷ old) (node.variant mode.Set w.span (Some (node.spelled text n.span)) body) new

-- one or more
pub data HasVariants : Sort → List Token → List T.Variant → List Token → Type 0 where
  one_variant : {sort : Sort} {v : T.Variant} {old new : List Token} → HasVariant sort old v new → HasVariants sort old (v ∷ []) new
  more_variants : {sort : Sort} {variants : List T.Variant} {v : T.Variant} {old mid new : List Token} → HasVariants sort old variants mid
      → HasVariant sort mid v new → HasVariants sort old (variants ++ v ∷ []) new

-- Variants stand in methods without an effect after their parameters, and in subscripts.
pub data MayVary : Sort → Option Mode → Type 0 where
  method_varies : MayVary Method None
  subscript_varies : MayVary Subscript None

-- a block | "{" variants "}", with where it ends
pub data HasBody : Sort → Option Mode → List Token → List T.Variant → ℕ → List Token → Type 0 where
  plain_body : {sort : Sort} {effect : Option Mode} {body : T.Block} {old new : List Token} → HasBlock false old body new
      → HasBody sort effect old (node.plain_variant (plain_mode sort effect) body ∷ []) (node.block_to body) new
  variants_body : {sort : Sort} {effect : Option Mode} {o c : Token} {variants : List T.Variant} {old new : List Token} → MayVary sort effect
      → Is o k.LeftBrace → HasVariants sort old variants (c ∷ new) → Is c k.RightBrace
      → HasBody sort effect (o ∷ old) variants c.span.to new

-- FUNCTIONS AND SUBSCRIPTS, each with where it ends

-- fun = "fun" NAME [generics] params ["->" type] block
-- method = "fun" NAME [generics] params ( [effect] ["->" type] block | ["->" type] "{" variants "}" )
-- requirement = "fun" NAME params [effect] ["->" type]
-- deinit = "deinit" block
pub data HasFunction : Sort → List Token → T.Callable → ℕ → List Token → Type 0 where
  file_function : {w n : Token} {text : List ℕ} {generics : List TypeParam} {params : List T.Param} {result : Option T.TypeExp} {variants : List T.Variant}
      {close far to : ℕ} {old a b c new : List Token}
      → Is w k.Fun → Is n (k.Name text) → HasGenerics old generics a → HasParams FileFunction a params close b → HasResult b close result far c
      → HasBody FileFunction None c variants to new
      → HasFunction FileFunction (w ∷ n ∷ old) (node.callable (kind_of FileFunction) w.span (Some (node.spelled text n.span)) generics params None result
      variants to) to new
  method : {w n : Token} {text : List ℕ} {generics : List TypeParam} {params : List T.Param} {effect : Option Mode} {result : Option T.TypeExp}
      {variants : List T.Variant} {close near far to : ℕ} {old a b c d new : List Token}
      → Is w k.Fun → Is n (k.Name text) → HasGenerics old generics a → HasParams Method a params close b → HasEffect b close effect near c
      → HasResult c near result far d → HasBody Method effect d variants to new
      → HasFunction Method (w ∷ n ∷ old) (node.callable (kind_of Method) w.span (Some (node.spelled text n.span)) generics params effect result variants to)
      to new
  requirement : {w n : Token} {text : List ℕ} {params : List T.Param} {effect : Option Mode} {result : Option T.TypeExp} {close near to : ℕ}
      {old b c new : List Token}
      → Is w k.Fun → Is n (k.Name text) → HasParams Requirement old params close b → HasEffect b close effect near c → HasResult c near result to new
      → HasFunction Requirement (w ∷ n ∷ old) (node.callable (kind_of Requirement) w.span (Some (node.spelled text n.span)) [] params effect result [] to)
      to new
  deinit : {w : Token} {variants : List T.Variant} {to : ℕ} {old new : List Token} → Is w k.Deinit → HasBody Deinit None old variants to new
      → HasFunction Deinit (w ∷ old) (node.callable (kind_of Deinit) w.span None [] [] None None variants to) to new

-- [NAME]
pub data HasSubscriptName : List Token → Option Name → List Token → Type 0 where
  no_name : {old : List Token} → HasSubscriptName old None old
  a_name : {n : Token} {text : List ℕ} {new : List Token} → Is n (k.Name text) → HasSubscriptName (n ∷ new) (Some (node.spelled text n.span)) new

-- subscript = "subscript" [NAME] params ":" type ( block | "{" variants "}" )
pub data HasSubscript : Option Name → List Token → T.Callable → ℕ → List Token → Type 0 where
  subscript : {w c : Token} {name : Option Name} {params : List T.Param} {result : T.TypeExp} {variants : List T.Variant} {close to : ℕ}
      {old a b d new : List Token}
      → Is w k.Subscript → HasSubscriptName old name a → HasParams Subscript a params close (c ∷ b) → Is c k.Colon → HasType b result d
      → HasBody Subscript None d variants to new
      → HasSubscript name (w ∷ old) (node.callable (kind_of Subscript) w.span name [] params None (Some result) variants to) to new

-- MEMBERS

-- whose members
pub data Group : Type 0 where
  OfType : Group
  OfTrait : Group
  OfConformance : Group

-- what a member is, with where it ends
-- in a type: "var" NAME ":" type | "memberwise" "init" | deinit | method | subscript
-- in a trait: requirement; in a conformance: method | subscript
pub data HasMemberKind : Group → List Token → T.MemberKind → ℕ → List Token → Type 0 where
  field : {w n c : Token} {text : List ℕ} {written : T.TypeExp} {old new : List Token} → Is w k.Var → Is n (k.Name text) → Is c k.Colon
      → HasType old written new
      → HasMemberKind OfType (w ∷ n ∷ c ∷ old) (T.Field (node.spelled text n.span) written) (node.type_to written) new
  memberwise : {m i : Token} {new : List Token} → Is m k.Memberwise → Is i k.Init → HasMemberKind OfType (m ∷ i ∷ new) T.MemberwiseInit i.span.to new
  type_deinit : {c : T.Callable} {to : ℕ} {old new : List Token} → HasFunction Deinit old c to new → HasMemberKind OfType old (T.MemberCallable c) to new
  type_method : {c : T.Callable} {to : ℕ} {old new : List Token} → HasFunction Method old c to new → HasMemberKind OfType old (T.MemberCallable c) to new
  type_subscript : {name : Option Name} {c : T.Callable} {to : ℕ} {old new : List Token} → HasSubscript name old c to new
      → HasMemberKind OfType old (T.MemberCallable c) to new
  trait_requirement : {c : T.Callable} {to : ℕ} {old new : List Token} → HasFunction Requirement old c to new
      → HasMemberKind OfTrait old (T.MemberCallable c) to new
  conformance_method : {c : T.Callable} {to : ℕ} {old new : List Token} → HasFunction Method old c to new
      → HasMemberKind OfConformance old (T.MemberCallable c) to new
  conformance_subscript : {name : Option Name} {c : T.Callable} {to : ℕ} {old new : List Token} → HasSubscript name old c to new
      → HasMemberKind OfConformance old (T.MemberCallable c) to new

pub data MayBePublic : Group → Type 0 where
  of_type : MayBePublic OfType
  of_conformance : MayBePublic OfConformance

-- member = ["public"] what it is; `public` not in a trait
pub data HasMember : Group → List Token → T.Member → List Token → Type 0 where
  hidden_member : {group : Group} {t : Token} {kind : T.MemberKind} {to : ℕ} {old new : List Token} → HasMemberKind group (t ∷ old) kind to new
      → HasMember group (t ∷ old) (node.member false kind (length (t ∷ old) - length new) t.span.from to) new
  public_member : {group : Group} {t : Token} {kind : T.MemberKind} {to : ℕ} {old new : List Token} → MayBePublic group → Is t k.Public
      → HasMemberKind group old kind to new
      → HasMember group (t ∷ old) (node.member true kind (length (t ∷ old) - length new) t.span.from to) new

-- { member [";"] }
pub data HasMembers : Group → List Token → List T.Member → List Token → Type 0 where
  no_member : {group : Group} {old : List Token} → HasMembers group old [] old
  next_member : {group : Group} {members : List T.Member} {m : T.Member} {old mid new : List Token} → HasMembers group old members mid
      → HasMember group mid m new → HasMembers group old (members ++ m ∷ []) new
  next_with_semicolon : {group : Group} {s : Token} {members : List T.Member} {m : T.Member} {old mid new : List Token} → HasMembers group old members mid
      → HasMember group mid m (s ∷ new) → Is s k.Semicolon
      → HasMembers group old (members ++ m ∷ []) new

-- DECLARATIONS

-- traits = NAME { ("," | "&") NAME }
pub data HasTraits : List Token → List NameUse → List Token → Type 0 where
  one_trait : {n : Token} {text : List ℕ} {new : List Token} → Is n (k.Name text) → HasTraits (n ∷ new) (node.used text n.span ∷ []) new
  comma_trait : {c n : Token} {text : List ℕ} {traits : List NameUse} {old new : List Token} → HasTraits old traits (c ∷ n ∷ new) → Is c k.Comma
      → Is n (k.Name text) → HasTraits old (traits ++ node.used text n.span ∷ []) new
  and_trait : {a n : Token} {text : List ℕ} {traits : List NameUse} {old new : List Token} → HasTraits old traits (a ∷ n ∷ new) → Is a k.Ampersand
      → Is n (k.Name text) → HasTraits old (traits ++ node.used text n.span ∷ []) new

-- [":" traits]
pub data HasTraitList : List Token → List NameUse → List Token → Type 0 where
  no_traits : {old : List Token} → HasTraitList old [] old
  traits : {c : Token} {list : List NameUse} {old new : List Token} → Is c k.Colon → HasTraits old list new → HasTraitList (c ∷ old) list new

-- what a declaration is, with where it ends
-- fun | subscript with a name | "type" NAME [":" traits] "{" members "}" | "trait" NAME "{" members "}"
-- | "conformance" NAME ":" traits "{" members "}"
pub data HasDeclKind : List Token → T.DeclKind → ℕ → List Token → Type 0 where
  function : {c : T.Callable} {to : ℕ} {old new : List Token} → HasFunction FileFunction old c to new → HasDeclKind old (T.DeclCallable c) to new
  file_subscript : {name : Name} {c : T.Callable} {to : ℕ} {old new : List Token} → HasSubscript (Some name) old c to new
      → HasDeclKind old (T.DeclCallable c) to new
  product : {w n o c : Token} {text : List ℕ} {traits : List NameUse} {members : List T.Member} {old mid new : List Token} → Is w k.Type
      → Is n (k.Name text) → HasTraitList old traits (o ∷ mid) → Is o k.LeftBrace
      → HasMembers OfType mid members (c ∷ new) → Is c k.RightBrace
      → HasDeclKind (w ∷ n ∷ old) (T.DeclProduct (node.product w.span (node.spelled text n.span) traits members c.span)) c.span.to new
  trait : {w n o c : Token} {text : List ℕ} {members : List T.Member} {old new : List Token} → Is w k.Trait → Is n (k.Name text) → Is o k.LeftBrace
      → HasMembers OfTrait old members (c ∷ new) → Is c k.RightBrace
      → HasDeclKind (w ∷ n ∷ o ∷ old) (T.DeclTrait (node.trait w.span (node.spelled text n.span) members c.span)) c.span.to new
  conformance : {w n l o c : Token} {text : List ℕ} {traits : List NameUse} {members : List T.Member} {old mid new : List Token} → Is w k.Conformance
      → Is n (k.Name text) → Is l k.Colon → HasTraits old traits (o ∷ mid) → Is o k.LeftBrace
      → HasMembers OfConformance mid members (c ∷ new) → Is c k.RightBrace
      → HasDeclKind (w ∷ n ∷ l ∷ old) (T.DeclConform (node.conformance w.span (node.used text n.span) traits members c.span)) c.span.to new

-- decl = ["public"] what it is
pub data HasDecl : List Token → T.Decl → ℕ → List Token → Type 0 where
  hidden_decl : {t : Token} {kind : T.DeclKind} {to : ℕ} {old new : List Token} → HasDeclKind (t ∷ old) kind to new
      → HasDecl (t ∷ old) (node.decl false kind (length (t ∷ old) - length new) t.span.from to) to new
  public_decl : {t : Token} {kind : T.DeclKind} {to : ℕ} {old new : List Token} → Is t k.Public → HasDeclKind old kind to new
      → HasDecl (t ∷ old) (node.decl true kind (length (t ∷ old) - length new) t.span.from to) to new

-- { decl [";"] }, with where the last token ends
pub data HasDecls : List Token → List T.Decl → ℕ → List Token → Type 0 where
  no_decl : {old : List Token} → HasDecls old [] 0 old
  next_decl : {decls : List T.Decl} {d : T.Decl} {far to : ℕ} {old mid new : List Token} → HasDecls old decls far mid → HasDecl mid d to new
      → HasDecls old (decls ++ d ∷ []) to new
  next_decl_with_semicolon : {s : Token} {decls : List T.Decl} {d : T.Decl} {far to : ℕ} {old mid new : List Token} → HasDecls old decls far mid
      → HasDecl mid d to (s ∷ new) → Is s k.Semicolon → HasDecls old (decls ++ d ∷ []) s.span.to new

-- The tokens are a program with this tree, all of whose nodes have the number 0.
pub data IsProgram : List Token → T.Program → Type 0 where
  program : {decls : List T.Decl} {to : ℕ} {tokens : List Token} → HasDecls tokens decls to [] → IsProgram tokens (node.program decls to)
