-- What was read so far, from all tokens on: each state comes with the derivations of its parts.
use Rattle.std.proofs.Common.{◌≡◌, ◌≤◌, ◌-◌, ℕ, Bool, true, false, Option, Some, None, List, [], ◌∷◌, ◌++◌, length}
use Rattle.hy_base.specs.declared.position.Span.{Span}
use Rattle.hy_lexer.specs.declared.token.Token.{Token}
use Rattle.hy_lexer.specs.declared.token.TokenKind.TheVariants as k
use Rattle.hy_tree.specs.Tree as T
use Rattle.hy_tree.specs.declared.declaration.Label.{Label}
use Rattle.hy_tree.specs.declared.declaration.TypeParam.{TypeParam}
use Rattle.hy_tree.specs.declared.name.Name.{Name}
use Rattle.hy_tree.specs.declared.name.NameUse.{NameUse}
use Rattle.hy_tree.specs.declared.operator.Arithmetic.{Arithmetic}
use Rattle.hy_tree.specs.declared.operator.Introducer.{Introducer}
use Rattle.hy_tree.specs.declared.operator.Mode.{Mode}
use Rattle.hy_tree.specs.declared.operator.Mode.TheVariants as mode
use Rattle.hy_tree.specs.declared.operator.Operator.{Operator}
use Rattle.hy_tree.specs.declared.operator.UnaryOperator.{UnaryOperator}
use Rattle.hy_grammar.specs.Kinds.{Is, Level, Disjunction, Conjunction, Comparison, Addition, Multiplication, tier, infix_of, prefix_of, compound_of}
use Rattle.hy_grammar.specs.Kinds.{introducer_of, effect_of, Ending, ClosedEnd, BeginsNext, if_word}
use Rattle.hy_grammar.specs.Nodes as node
use Rattle.hy_grammar.specs.DeclSteps.{begins_at, opening}
use Rattle.hy_grammar.specs.TypeSteps.{with_result}
use Rattle.hy_grammar.specs.TypeGrammar.{HasType, HasTypes}
use Rattle.hy_grammar.specs.ExprGrammar.{HasChoices, HasExprs, HasPostfix, HasSomeArgs, HasOperands, HasExpr, MayGoOn}
use Rattle.hy_grammar.specs.StmtGrammar.{HasAnnotation, HasBranches, HasStmts}
use Rattle.hy_grammar.specs.Grammar.{HasBounds, HasSomeGenerics, HasGenerics, HasParamName, HasMode, HasSomeParams, HasParams, HasVariants, MayVary}
use Rattle.hy_grammar.specs.Grammar.{HasSubscriptName, Group, OfType, OfTrait, OfConformance, MayBePublic, HasMemberKind, HasMembers, HasTraits}
use Rattle.hy_grammar.specs.Grammar.{HasTraitList, HasDeclKind, HasDecls}
use Rattle.hy_grammar.specs.Stack.{Start, Owner, Home, Sort, Head, Body, Prefix, Prefixes, Tier, Tiers, Callee, Place, Use, Spot, TypeUse, State}
use Rattle.hy_grammar.specs.Stack.{TypeSubject, ConformanceSubject, TraitOwner, ListedOwner, InFile, InOwner, FileFunction, Method, Requirement, Subscript}
use Rattle.hy_grammar.specs.Stack.{Deinit, PlainBody, VariantBody, NoChain, OpenChain, Round, Square, InBody, InBranch, InElse, InLoop, ForTarget}
use Rattle.hy_grammar.specs.Stack.{ForBinding, ForAssigned, ForCompound, ForDiscard, ForReturn, ForYield, ForBranch, ForLoop, ForPart, ForElement}
use Rattle.hy_grammar.specs.Stack.{ForArgument, ForCondition, ForChoice, ForOtherwise, InExpr, ForElementType, ForTypePart, ForEmptyArray, ForVariable}
use Rattle.hy_grammar.specs.Stack.{ForParam, ForResult, ForField, FileReady, PublicDecl, DeclRead, TypeWord, TypeName, TraitWord, TraitName}
use Rattle.hy_grammar.specs.Stack.{ConformanceWord, ConformanceName, TraitWanted, TraitListed, MembersReady, PublicMember, MemberRead, FieldWord, FieldName}
use Rattle.hy_grammar.specs.Stack.{MemberwiseWord, FunctionWord, FunctionName, SubscriptWord, GenericWanted, GenericName, BoundWanted, BoundListed}
use Rattle.hy_grammar.specs.Stack.{ParamsWanted, ParamsOpened, ParamWanted, ParamFirst, ParamUnlabelled, ParamName, ParamColon, ParamRead, ParamsRead}
use Rattle.hy_grammar.specs.Stack.{EffectRead, ResultRead, BodyWanted, BodyOpened, BodyWord, VariantsRead, SetWord, SetOpened, SetName, BlockOpened}
use Rattle.hy_grammar.specs.Stack.{StmtWanted, StmtRead, BindingWord, BindingName, BindingType, DiscardWord, ReturnWord, BranchRead, BranchElse, Operand}
use Rattle.hy_grammar.specs.Stack.{Postfixed, Dotted, PartsOpened, ArgumentsOpened, ArgumentWanted, ArgumentName, ArrayWord, ArrayType, ArrayClosed}
use Rattle.hy_grammar.specs.Stack.{ArrayOpened, ChoiceRead, ChoiceElse, TypeWanted, ArrayTypeWord, ArrayTypeElement, TypesOpened, TypesRead, in_loop}

-- LISTS OF WHICH ANOTHER PART IS TO COME

pub data TypesBefore : List Token → List T.TypeExp → List Token → Type 0 where
  no_types_yet : {old : List Token} → TypesBefore old [] old
  types_yet : {c : Token} {parts : List T.TypeExp} {old new : List Token} → HasTypes old parts (c ∷ new) → Is c k.Comma → TypesBefore old parts new

pub data ExprsBefore : List Token → List T.Expr → List Token → Type 0 where
  no_exprs_yet : {old : List Token} → ExprsBefore old [] old
  exprs_yet : {c : Token} {es : List T.Expr} {old new : List Token} → HasExprs old es (c ∷ new) → Is c k.Comma → ExprsBefore old es new

pub data ArgsBefore : List Token → List T.Arg → List Token → Type 0 where
  no_args_yet : {old : List Token} → ArgsBefore old [] old
  args_yet : {c : Token} {args : List T.Arg} {old new : List Token} → HasSomeArgs old args (c ∷ new) → Is c k.Comma → ArgsBefore old args new

pub data GenericsBefore : List Token → List TypeParam → List Token → Type 0 where
  no_generics_yet : {old : List Token} → GenericsBefore old [] old
  generics_yet : {c : Token} {generics : List TypeParam} {old new : List Token} → HasSomeGenerics old generics (c ∷ new) → Is c k.Comma
      → GenericsBefore old generics new

pub data BoundsBefore : List Token → List NameUse → List Token → Type 0 where
  no_bounds_yet : {old : List Token} → BoundsBefore old [] old
  bounds_yet : {a : Token} {bounds : List NameUse} {old new : List Token} → HasBounds old bounds (a ∷ new) → Is a k.Ampersand → BoundsBefore old bounds new

pub data ParamsBefore : Sort → List Token → List T.Param → List Token → Type 0 where
  no_params_yet : {sort : Sort} {old : List Token} → ParamsBefore sort old [] old
  params_yet : {sort : Sort} {c : Token} {params : List T.Param} {old new : List Token} → HasSomeParams sort old params (c ∷ new) → Is c k.Comma
      → ParamsBefore sort old params new

pub data TraitsBefore : List Token → List NameUse → List Token → Type 0 where
  no_traits_yet : {old : List Token} → TraitsBefore old [] old
  comma_yet : {c : Token} {traits : List NameUse} {old new : List Token} → HasTraits old traits (c ∷ new) → Is c k.Comma → TraitsBefore old traits new
  and_yet : {c : Token} {traits : List NameUse} {old new : List Token} → HasTraits old traits (c ∷ new) → Is c k.Ampersand → TraitsBefore old traits new

pub data VariantsBefore : Sort → List Token → List T.Variant → List Token → Type 0 where
  no_variants_yet : {sort : Sort} {old : List Token} → VariantsBefore sort old [] old
  variants_yet : {sort : Sort} {variants : List T.Variant} {old new : List Token} → HasVariants sort old variants new → VariantsBefore sort old variants new

-- the conditions of an `if`, another one to come after its word
pub data ChoicesBefore : List Token → ℕ → List T.Choice → Span → List Token → Type 0 where
  no_choice_yet : {i : Token} {new : List Token} → Is i k.If → ChoicesBefore (i ∷ new) i.span.from [] i.span new
  choices_yet : {e i : Token} {from : ℕ} {choices : List T.Choice} {old new : List Token} → HasChoices old from choices (e ∷ i ∷ new) → Is e k.Else
      → Is i k.If → ChoicesBefore old from choices i.span new

pub data BranchesBefore : Bool → List Token → ℕ → List T.Branch → Span → List Token → Type 0 where
  no_branch_yet : {loop : Bool} {i : Token} {new : List Token} → Is i k.If → BranchesBefore loop (i ∷ new) i.span.from [] i.span new
  branches_yet : {loop : Bool} {e i : Token} {from to : ℕ} {branches : List T.Branch} {old new : List Token}
      → HasBranches loop old from branches to (e ∷ i ∷ new) → Is e k.Else → Is i k.If → BranchesBefore loop old from branches i.span new

-- statements, and another may come there
pub data StmtsBefore : Bool → List Token → List T.Stmt → List Token → Type 0 where
  no_stmts_yet : {loop : Bool} {old : List Token} → StmtsBefore loop old [] old
  semicolon_yet : {loop : Bool} {c : Token} {ss : List T.Stmt} {ending : Ending} {old new : List Token} → HasStmts loop old ss ending (c ∷ new)
      → Is c k.Semicolon → StmtsBefore loop old ss new
  line_yet : {loop : Bool} {t : Token} {ss : List T.Stmt} {ending : Ending} {old new : List Token} → HasStmts loop old ss ending (t ∷ new)
      → BeginsNext ending t → StmtsBefore loop old ss (t ∷ new)

-- OPERATORS

-- a chain of a level whose next operand is to come
pub data TierBefore : Level → List Token → Tier → List Token → Type 0 where
  no_chain_yet : {level : Level} {old : List Token} → TierBefore level old NoChain old
  chain_yet : {level : Level} {o : Token} {operator : Operator} {first last : T.Expr} {links : List T.Link} {old new : List Token}
      → HasOperands level old first links last (o ∷ new) → infix_of o.kind ≡ tier level operator → MayGoOn level links
      → TierBefore level old (OpenChain first links operator o.span) new

pub record TiersBefore (old : List Token) (tiers : Tiers) (new : List Token) : Type 0 where
  pub disjunction_to : List Token
  pub conjunction_to : List Token
  pub comparison_to : List Token
  pub addition_to : List Token
  pub disjunction : TierBefore Disjunction old tiers.disjunction disjunction_to
  pub conjunction : TierBefore Conjunction disjunction_to tiers.conjunction conjunction_to
  pub comparison : TierBefore Comparison conjunction_to tiers.comparison comparison_to
  pub addition : TierBefore Addition comparison_to tiers.addition addition_to
  pub multiplication : TierBefore Multiplication addition_to tiers.multiplication new

-- operators before an operand
pub data OperatorsBefore : List Token → List Prefix → List Token → Type 0 where
  no_operators_yet : {old : List Token} → OperatorsBefore old [] old
  operators_yet : {t : Token} {operator : UnaryOperator} {operators : List Prefix} {old new : List Token} → OperatorsBefore old operators (t ∷ new)
      → prefix_of t.kind ≡ Some operator
      → OperatorsBefore old (operators ++ record { operator = operator; token = t.span } ∷ []) new

pub data PrefixesBefore : List Token → Prefixes → List Token → Type 0 where
  unmarked : {operators : List Prefix} {old new : List Token} → OperatorsBefore old operators new
      → PrefixesBefore old (record { operators = operators; mark = None }) new
  with_mark : {t : Token} {operators : List Prefix} {old new : List Token} → OperatorsBefore old operators (t ∷ new) → Is t k.Ampersand
      → PrefixesBefore old (record { operators = operators; mark = Some t.span }) new

-- DECLARATIONS AND HEADS

-- a declaration or member begins at the first tokens, and its keyword comes at the second
pub data Starts (all : List Token) : Start → List Token → List Token → Type 0 where
  hidden_start : {t : Token} {ts : List Token} → length (t ∷ ts) ≤ length all → Starts all (begins_at false t (length all - length (t ∷ ts))) (t ∷ ts) (t ∷ ts)
  public_start : {t : Token} {ts : List Token} → length (t ∷ ts) ≤ length all → Is t k.Public
      → Starts all (begins_at true t (length all - length (t ∷ ts))) (t ∷ ts) ts

pub data InDecls (all : List Token) : List T.Decl → Start → List Token → Type 0 where
  in_decls : {decls : List T.Decl} {start : Start} {to : ℕ} {base new : List Token} → HasDecls all decls to base → Starts all start base new
      → InDecls all decls start new

-- the members of an owner, from after its `{`
pub data InMembers (all : List Token) : Owner → Group → List Token → Type 0 where
  in_trait : {decls : List T.Decl} {start : Start} {w n o : Token} {text : List ℕ} {new : List Token} → InDecls all decls start (w ∷ n ∷ o ∷ new)
      → Is w k.Trait → Is n (k.Name text) → Is o k.LeftBrace
      → InMembers all (TraitOwner (opening decls start w.span) (node.spelled text n.span)) OfTrait new
  in_type : {decls : List T.Decl} {start : Start} {w n o : Token} {text : List ℕ} {traits : List NameUse} {old new : List Token}
      → InDecls all decls start (w ∷ n ∷ old) → Is w k.Type → Is n (k.Name text) → HasTraitList old traits (o ∷ new) → Is o k.LeftBrace
      → InMembers all (ListedOwner (opening decls start w.span) (TypeSubject (node.spelled text n.span)) traits) OfType new
  in_conformance : {decls : List T.Decl} {start : Start} {w n l o : Token} {text : List ℕ} {traits : List NameUse} {old new : List Token}
      → InDecls all decls start (w ∷ n ∷ l ∷ old) → Is w k.Conformance → Is n (k.Name text) → Is l k.Colon
      → HasTraits old traits (o ∷ new) → Is o k.LeftBrace
      → InMembers all (ListedOwner (opening decls start w.span) (ConformanceSubject (node.used text n.span)) traits) OfConformance new

pub data SoFar (all : List Token) : Owner → List T.Member → Group → List Token → Type 0 where
  so_far : {owner : Owner} {members : List T.Member} {group : Group} {base new : List Token} → InMembers all owner group base
      → HasMembers group base members new → SoFar all owner members group new

pub data AtMember (all : List Token) : Owner → List T.Member → Group → Start → List Token → Type 0 where
  at_member : {owner : Owner} {members : List T.Member} {group : Group} {start : Start} {base new : List Token} → SoFar all owner members group base
      → Starts all start base new → (start.public ≡ true → MayBePublic group)
      → AtMember all owner members group start new

-- where a `fun` stands
pub data FunAt (all : List Token) : Home → Start → Sort → List Token → Type 0 where
  file_fun : {decls : List T.Decl} {start : Start} {new : List Token} → InDecls all decls start new → FunAt all (InFile decls) start FileFunction new
  member_fun : {owner : Owner} {members : List T.Member} {group : Group} {start : Start} {new : List Token} → AtMember all owner members group start new
      → MayBePublic group → FunAt all (InOwner owner members) start Method new
  trait_fun : {owner : Owner} {members : List T.Member} {start : Start} {new : List Token} → AtMember all owner members OfTrait start new
      → FunAt all (InOwner owner members) start Requirement new

-- where a `subscript` stands
pub data SubscriptAt (all : List Token) : Home → Start → List Token → Type 0 where
  file_at : {decls : List T.Decl} {start : Start} {new : List Token} → InDecls all decls start new → SubscriptAt all (InFile decls) start new
  member_at : {owner : Owner} {members : List T.Member} {group : Group} {start : Start} {new : List Token} → AtMember all owner members group start new
      → MayBePublic group → SubscriptAt all (InOwner owner members) start new

-- A subscript of the file has a name.
pub data MayLack : Home → Option Name → Type 0 where
  has_one : {home : Home} {name : Name} → MayLack home (Some name)
  lacks_it : {owner : Owner} {members : List T.Member} → MayLack (InOwner owner members) None

abbrev pub head : Home → Start → Sort → Span → Option Name → List TypeParam → List T.Param → Option Mode → Option T.TypeExp → Head
head home start sort keyword name generics params effect result =
    record {
      home = home;
      start = start;
      sort = sort;
      keyword = keyword;
      name = name;
      generics = generics;
      params = params;
      effect = effect;
      result =
          result;
    }

-- up to the name of a function
pub data Named (all : List Token) : Head → List Token → Type 0 where
  named : {home : Home} {start : Start} {sort : Sort} {w n : Token} {text : List ℕ} {new : List Token} → FunAt all home start sort (w ∷ n ∷ new)
      → Is w k.Fun → Is n (k.Name text)
      → Named all (head home start sort w.span (Some (node.spelled text n.span)) [] [] None None) new

pub data InGenerics (all : List Token) : Head → List Token → Type 0 where
  in_generics : {home : Home} {start : Start} {sort : Sort} {keyword : Span} {name : Option Name} {generics : List TypeParam} {l : Token}
      {old new : List Token} → Named all (head home start sort keyword name [] [] None None) (l ∷ old)
      → (sort ≡ Requirement → ⊥) → Is l k.Less → GenericsBefore old generics new → InGenerics all (head home start sort keyword name generics [] None None) new

-- Requirements have no type parameters.
pub data HasGenericsOf : Sort → List Token → List TypeParam → List Token → Type 0 where
  without_generics : {sort : Sort} {old : List Token} → HasGenericsOf sort old [] old
  of_generics : {sort : Sort} {generics : List TypeParam} {old new : List Token} → (sort ≡ Requirement → ⊥) → HasGenerics old generics new
      → HasGenericsOf sort old generics new

-- up to the parameters
pub data Headed (all : List Token) : Head → List Token → Type 0 where
  fun_headed : {home : Home} {start : Start} {sort : Sort} {generics : List TypeParam} {w n : Token} {text : List ℕ} {old new : List Token}
      → FunAt all home start sort (w ∷ n ∷ old) → Is w k.Fun → Is n (k.Name text) → HasGenericsOf sort old generics new
      → Headed all (head home start sort w.span (Some (node.spelled text n.span)) generics [] None None) new
  subscript_headed : {home : Home} {start : Start} {w : Token} {name : Option Name} {old new : List Token} → SubscriptAt all home start (w ∷ old)
      → Is w k.Subscript → HasSubscriptName old name new → MayLack home name
      → Headed all (head home start Subscript w.span name [] [] None None) new

pub data InParams (all : List Token) : Head → List Token → Type 0 where
  in_params : {home : Home} {start : Start} {sort : Sort} {keyword : Span} {name : Option Name} {generics : List TypeParam} {params : List T.Param}
      {o : Token} {old new : List Token}
      → Headed all (head home start sort keyword name generics [] None None) (o ∷ old) → Is o k.LeftParen → ParamsBefore sort old params new
      → InParams all (head home start sort keyword name generics params None None) new

pub data ParamsListed (all : List Token) : Head → List Token → Type 0 where
  params_listed : {home : Home} {start : Start} {sort : Sort} {keyword : Span} {name : Option Name} {generics : List TypeParam} {params : List T.Param}
      {o : Token} {old new : List Token}
      → Headed all (head home start sort keyword name generics [] None None) (o ∷ old) → Is o k.LeftParen → HasSomeParams sort old params new
      → ParamsListed all (head home start sort keyword name generics params None None) new

pub data ParamsDone (all : List Token) : Head → ℕ → List Token → Type 0 where
  params_done : {home : Home} {start : Start} {sort : Sort} {keyword : Span} {name : Option Name} {generics : List TypeParam} {params : List T.Param}
      {close : ℕ} {old new : List Token}
      → Headed all (head home start sort keyword name generics [] None None) old → HasParams sort old params close new
      → ParamsDone all (head home start sort keyword name generics params None None) close new

-- Only methods and requirements have an effect.
pub data MayAffect : Sort → Type 0 where
  method_affects : MayAffect Method
  requirement_affects : MayAffect Requirement

pub data HasEffectOf : Sort → List Token → ℕ → Option Mode → ℕ → List Token → Type 0 where
  without_effect : {sort : Sort} {to : ℕ} {old : List Token} → HasEffectOf sort old to None to old
  with_effect : {sort : Sort} {t : Token} {to : ℕ} {mode : Mode} {new : List Token} → MayAffect sort → effect_of t.kind ≡ Some mode
      → HasEffectOf sort (t ∷ new) to (Some mode) t.span.to new

pub data EffectDone (all : List Token) : Head → ℕ → List Token → Type 0 where
  effect_done : {home : Home} {start : Start} {sort : Sort} {keyword : Span} {name : Option Name} {generics : List TypeParam} {params : List T.Param}
      {effect : Option Mode} {close to : ℕ} {old new : List Token}
      → ParamsDone all (head home start sort keyword name generics params None None) close old → (sort ≡ Subscript → ⊥)
      → HasEffectOf sort old close effect to new
      → EffectDone all (head home start sort keyword name generics params effect None) to new

-- the head without a result, where its type is to come
pub data InResult (all : List Token) : Head → List Token → Type 0 where
  arrow_result : {head : Head} {to : ℕ} {a : Token} {new : List Token} → EffectDone all head to (a ∷ new) → Is a k.Arrow → InResult all head new
  colon_result : {head : Head} {to : ℕ} {c : Token} {new : List Token} → ParamsDone all head to (c ∷ new) → head.sort ≡ Subscript → Is c k.Colon
      → InResult all head new

-- all before the body, but of a `deinit`
pub data ResultDone (all : List Token) : Head → ℕ → List Token → Type 0 where
  no_result_done : {head : Head} {to : ℕ} {new : List Token} → EffectDone all head to new → ResultDone all head to new
  result_done : {head : Head} {written : T.TypeExp} {old new : List Token} → InResult all head old → HasType old written new
      → ResultDone all (with_result head written) (node.type_to written) new

-- all before the body, which is wanted
pub data AtBody (all : List Token) : Head → List Token → Type 0 where
  at_body : {head : Head} {to : ℕ} {new : List Token} → ResultDone all head to new → (head.sort ≡ Requirement → ⊥) → AtBody all head new
  at_deinit : {owner : Owner} {members : List T.Member} {start : Start} {w : Token} {new : List Token} → AtMember all owner members OfType start (w ∷ new)
      → Is w k.Deinit → AtBody all (head (InOwner owner members) start Deinit w.span None [] [] None None) new

-- a word that begins a variant, with all before its block
pub data VariantWord : Sort → List Token → Span → Mode → Option Name → List Token → Type 0 where
  effect_word : {sort : Sort} {w : Token} {mode : Mode} {new : List Token} → effect_of w.kind ≡ Some mode → VariantWord sort (w ∷ new) w.span mode None new
  set_word : {w o n c : Token} {text : List ℕ} {new : List Token} → Is w k.Set → Is o k.LeftParen → Is n (k.Name text) → Is c k.RightParen
      → VariantWord Subscript (w ∷ o ∷ n ∷ c ∷ new) w.span mode.Set (Some (node.spelled text n.span)) new

-- in the braces of variants
pub data InVariants (all : List Token) : Head → Span → List T.Variant → List Token → Type 0 where
  in_variants : {head : Head} {o : Token} {variants : List T.Variant} {old new : List Token} → AtBody all head (o ∷ old) → MayVary head.sort head.effect
      → Is o k.LeftBrace → VariantsBefore head.sort old variants new → InVariants all head o.span variants new

pub data BodyAt (all : List Token) : Body → List Token → Type 0 where
  plain_at : {head : Head} {new : List Token} → AtBody all head new → BodyAt all (PlainBody head) new
  variant_at : {head : Head} {brace keyword : Span} {variants : List T.Variant} {mode : Mode} {value : Option Name} {old new : List Token}
      → InVariants all head brace variants old → VariantWord head.sort old keyword mode value new
      → BodyAt all (VariantBody head brace variants keyword mode value) new

-- STATEMENTS AND EXPRESSIONS

-- statements are read from there on, after a `{`
pub data InPlace (all : List Token) : Place → List Token → Type 0 where
  in_body : {body : Body} {o : Token} {new : List Token} → BodyAt all body (o ∷ new) → Is o k.LeftBrace → InPlace all (InBody body o.span) new
  in_branch : {from : ℕ} {branches : List T.Branch} {word : Span} {condition : T.Expr} {o : Token} {before : List T.Stmt} {place : Place}
      {base old mid new : List Token}
      → InPlace all place base → StmtsBefore (in_loop place) base before old → (mark : BranchesBefore (in_loop place) old from branches word mid)
      → HasExpr Disjunction mid condition (o ∷ new) → Is o k.LeftBrace
      → InPlace all (InBranch from branches word condition o.span before place) new
  in_else : {from to : ℕ} {branches : List T.Branch} {e o : Token} {before : List T.Stmt} {place : Place} {base old new : List Token}
      → InPlace all place base → StmtsBefore (in_loop place) base before old → HasBranches (in_loop place) old from branches to (e ∷ o ∷ new) → Is e k.Else
      → Is o k.LeftBrace → InPlace all (InElse from branches o.span before place) new
  in_while : {w : Token} {condition : T.Expr} {o : Token} {before : List T.Stmt} {place : Place} {base old new : List Token}
      → InPlace all place base → StmtsBefore (in_loop place) base before (w ∷ old) → Is w k.While → HasExpr Disjunction old condition (o ∷ new)
      → Is o k.LeftBrace → InPlace all (InLoop w.span condition o.span before place) new

-- a statement begins there
pub data AtStmt (all : List Token) : List T.Stmt → Place → List Token → Type 0 where
  at_stmt : {before : List T.Stmt} {place : Place} {base new : List Token} → InPlace all place base → StmtsBefore (in_loop place) base before new
      → AtStmt all before place new

-- [NAME ":"]
pub data LabelBefore : List Token → Option (List ℕ) → List Token → Type 0 where
  no_label_yet : {old : List Token} → LabelBefore old None old
  label_yet : {n c : Token} {text : List ℕ} {new : List Token} → Is n (k.Name text) → Is c k.Colon → LabelBefore (n ∷ c ∷ new) (Some text) new

mutual
  pub data InUse (all : List Token) : Use → List Token → Type 0 where
    for_target : {t : Token} {before : List T.Stmt} {place : Place} {new : List Token} → AtStmt all before place (t ∷ new) → if_word t.kind ≡ false
        → InUse all (ForTarget before place) (t ∷ new)
    for_binding : {w n q : Token} {introducer : Introducer} {text : List ℕ} {written : Option T.TypeExp} {before : List T.Stmt} {place : Place}
        {old new : List Token}
        → AtStmt all before place (w ∷ n ∷ old) → introducer_of w.kind ≡ Some introducer → Is n (k.Name text) → HasAnnotation old written (q ∷ new)
        → Is q k.Equal → InUse all (ForBinding introducer w.span (node.spelled text n.span) written before place) new
    for_assigned : {t q : Token} {target : T.Expr} {before : List T.Stmt} {place : Place} {old new : List Token}
        → AtStmt all before place (t ∷ old) → if_word t.kind ≡ false → HasExpr Disjunction (t ∷ old) target (q ∷ new) → Is q k.Equal
        → InUse all (ForAssigned target before place) new
    for_compound : {t q : Token} {operator : Arithmetic} {target : T.Expr} {before : List T.Stmt} {place : Place} {old new : List Token}
        → AtStmt all before place (t ∷ old) → if_word t.kind ≡ false → HasExpr Disjunction (t ∷ old) target (q ∷ new) → compound_of q.kind ≡ Some operator
        → InUse all (ForCompound target operator before place) new
    for_discard : {w q : Token} {before : List T.Stmt} {place : Place} {new : List Token} → AtStmt all before place (w ∷ q ∷ new) → Is w k.Underscore
        → Is q k.Equal → InUse all (ForDiscard w.span before place) new
    for_return : {w t : Token} {before : List T.Stmt} {place : Place} {new : List Token} → AtStmt all before place (w ∷ t ∷ new) → Is w k.Return
        → t.first ≡ false → InUse all (ForReturn w.span before place) (t ∷ new)
    for_yield : {w : Token} {before : List T.Stmt} {place : Place} {new : List Token} → AtStmt all before place (w ∷ new) → Is w k.Yield
        → InUse all (ForYield w.span before place) new
    for_branch : {from : ℕ} {branches : List T.Branch} {word : Span} {before : List T.Stmt} {place : Place} {base old new : List Token}
        → InPlace all place base → StmtsBefore (in_loop place) base before old → BranchesBefore (in_loop place) old from branches word new
        → InUse all (ForBranch from branches word before place) new
    for_while : {w : Token} {before : List T.Stmt} {place : Place} {new : List Token} → AtStmt all before place (w ∷ new) → Is w k.While
        → InUse all (ForLoop w.span before place) new
    for_part : {o : Token} {es : List T.Expr} {spot : Spot} {old new : List Token} → InSpot all spot (o ∷ old) → Is o k.LeftParen → ExprsBefore old es new
        → InUse all (ForPart o.span es spot) new
    for_element : {o : Token} {es : List T.Expr} {spot : Spot} {old new : List Token} → InSpot all spot (o ∷ old) → Is o k.LeftBracket
        → ExprsBefore old es new → InUse all (ForElement o.span es spot) new
    for_argument : {callee : Callee} {args : List T.Arg} {label : Option (List ℕ)} {spot : Spot} {old new : List Token} → InArgs all callee args spot old
        → LabelBefore old label new → InUse all (ForArgument callee args label spot) new
    for_condition : {from : ℕ} {choices : List T.Choice} {word : Span} {spot : Spot} {base new : List Token} → InSpot all spot base
        → ChoicesBefore base from choices word new → InUse all (ForCondition from choices word spot) new
    for_choice : {from : ℕ} {choices : List T.Choice} {word : Span} {condition : T.Expr} {o : Token} {spot : Spot} {base mid new : List Token}
        → InSpot all spot base → ChoicesBefore base from choices word mid → HasExpr Disjunction mid condition (o ∷ new) → Is o k.LeftBrace
        → InUse all (ForChoice from choices word condition spot) new
    for_otherwise : {from : ℕ} {choices : List T.Choice} {e o : Token} {spot : Spot} {base new : List Token} → InSpot all spot base
        → HasChoices base from choices (e ∷ o ∷ new) → Is e k.Else → Is o k.LeftBrace → InUse all (ForOtherwise from choices spot) new

  pub data InSpot (all : List Token) : Spot → List Token → Type 0 where
    in_expr : {prefixes : Prefixes} {tiers : Tiers} {u : Use} {from base new : List Token} → InUse all u from → TiersBefore from tiers base
        → PrefixesBefore base prefixes new → InSpot all (InExpr prefixes tiers u) new

  -- an argument begins there, or the list ends
  pub data InArgs (all : List Token) : Callee → List T.Arg → Spot → List Token → Type 0 where
    in_args : {callee : Callee} {args : List T.Arg} {spot : Spot} {old new : List Token} → Called all callee spot old → ArgsBefore old args new
        → InArgs all callee args spot new

  -- after the `(` or `[` of arguments
  pub data Called (all : List Token) : Callee → Spot → List Token → Type 0 where
    round : {primary : T.Expr} {steps : List T.Step} {to : ℕ} {o : Token} {spot : Spot} {base new : List Token} → InSpot all spot base
        → HasPostfix base primary steps to (o ∷ new) → Is o k.LeftParen → o.first ≡ false
        → Called all (record { primary = primary; steps = steps; brackets = Round }) spot new
    square : {primary : T.Expr} {steps : List T.Step} {to : ℕ} {o : Token} {spot : Spot} {base new : List Token} → InSpot all spot base
        → HasPostfix base primary steps to (o ∷ new) → Is o k.LeftBracket → o.first ≡ false
        → Called all (record { primary = primary; steps = steps; brackets = Square }) spot new

-- what a type is read for
pub data InType (all : List Token) : TypeUse → List Token → Type 0 where
  for_element_type : {a l : Token} {u : TypeUse} {new : List Token} → InType all u (a ∷ l ∷ new) → Is a k.Array → Is l k.Less
      → InType all (ForElementType a.span u) new
  for_type_part : {o : Token} {parts : List T.TypeExp} {u : TypeUse} {old new : List Token} → InType all u (o ∷ old) → Is o k.LeftParen
      → TypesBefore old parts new → InType all (ForTypePart o.span parts u) new
  for_empty_array : {a l : Token} {spot : Spot} {new : List Token} → InSpot all spot (a ∷ l ∷ new) → Is a k.Array → Is l k.Less
      → InType all (ForEmptyArray a.span spot) new
  for_variable : {w n c : Token} {introducer : Introducer} {text : List ℕ} {before : List T.Stmt} {place : Place} {new : List Token}
      → AtStmt all before place (w ∷ n ∷ c ∷ new) → introducer_of w.kind ≡ Some introducer → Is n (k.Name text) → Is c k.Colon
      → InType all (ForVariable introducer w.span (node.spelled text n.span) before place) new
  for_param : {head : Head} {from : ℕ} {label : Label} {name : Name} {mode : Mode} {c : Token} {old mid new : List Token} → InParams all head old
      → HasParamName old from label name (c ∷ mid) → Is c k.Colon → HasMode head.sort mid mode new
      → InType all (ForParam head from label name mode) new
  for_result : {head : Head} {new : List Token} → InResult all head new → InType all (ForResult head) new
  for_field : {w n c : Token} {text : List ℕ} {owner : Owner} {members : List T.Member} {start : Start} {new : List Token}
      → AtMember all owner members OfType start (w ∷ n ∷ c ∷ new) → Is w k.Var → Is n (k.Name text) → Is c k.Colon
      → InType all (ForField owner members start (node.spelled text n.span)) new

-- STATES

pub data Reading (all : List Token) : State → List Token → Type 0 where
  r_file_ready : {decls : List T.Decl} {to : ℕ} {new : List Token} → HasDecls all decls to new → Reading all (FileReady decls to) new
  r_public_decl : {decls : List T.Decl} {start : Start} {new : List Token} → InDecls all decls start new → Reading all (PublicDecl decls start) new
  r_decl_read : {decls : List T.Decl} {start : Start} {kind : T.DeclKind} {to : ℕ} {old new : List Token} → InDecls all decls start old
      → HasDeclKind old kind to new → Reading all (DeclRead decls start kind to) new
  r_type_word : {decls : List T.Decl} {start : Start} {w : Token} {new : List Token} → InDecls all decls start (w ∷ new) → Is w k.Type
      → Reading all (TypeWord (opening decls start w.span)) new
  r_type_name : {decls : List T.Decl} {start : Start} {w n : Token} {text : List ℕ} {new : List Token} → InDecls all decls start (w ∷ n ∷ new) → Is w k.Type
      → Is n (k.Name text) → Reading all (TypeName (opening decls start w.span) (node.spelled text n.span)) new
  r_trait_word : {decls : List T.Decl} {start : Start} {w : Token} {new : List Token} → InDecls all decls start (w ∷ new) → Is w k.Trait
      → Reading all (TraitWord (opening decls start w.span)) new
  r_trait_name : {decls : List T.Decl} {start : Start} {w n : Token} {text : List ℕ} {new : List Token} → InDecls all decls start (w ∷ n ∷ new)
      → Is w k.Trait → Is n (k.Name text) → Reading all (TraitName (opening decls start w.span) (node.spelled text n.span)) new
  r_conformance_word : {decls : List T.Decl} {start : Start} {w : Token} {new : List Token} → InDecls all decls start (w ∷ new) → Is w k.Conformance
      → Reading all (ConformanceWord (opening decls start w.span)) new
  r_conformance_name : {decls : List T.Decl} {start : Start} {w n : Token} {text : List ℕ} {new : List Token} → InDecls all decls start (w ∷ n ∷ new)
      → Is w k.Conformance → Is n (k.Name text)
      → Reading all (ConformanceName (opening decls start w.span) (node.used text n.span)) new
  r_type_trait : {decls : List T.Decl} {start : Start} {w n l : Token} {text : List ℕ} {traits : List NameUse} {old new : List Token}
      → InDecls all decls start (w ∷ n ∷ l ∷ old) → Is w k.Type → Is n (k.Name text) → Is l k.Colon → TraitsBefore old traits new
      → Reading all (TraitWanted (opening decls start w.span) (TypeSubject (node.spelled text n.span)) traits) new
  r_conformance_trait : {decls : List T.Decl} {start : Start} {w n l : Token} {text : List ℕ} {traits : List NameUse} {old new : List Token}
      → InDecls all decls start (w ∷ n ∷ l ∷ old) → Is w k.Conformance → Is n (k.Name text) → Is l k.Colon → TraitsBefore old traits new
      → Reading all (TraitWanted (opening decls start w.span) (ConformanceSubject (node.used text n.span)) traits) new
  r_type_listed : {decls : List T.Decl} {start : Start} {w n l : Token} {text : List ℕ} {traits : List NameUse} {old new : List Token}
      → InDecls all decls start (w ∷ n ∷ l ∷ old) → Is w k.Type → Is n (k.Name text) → Is l k.Colon → HasTraits old traits new
      → Reading all (TraitListed (opening decls start w.span) (TypeSubject (node.spelled text n.span)) traits) new
  r_conformance_listed : {decls : List T.Decl} {start : Start} {w n l : Token} {text : List ℕ} {traits : List NameUse} {old new : List Token}
      → InDecls all decls start (w ∷ n ∷ l ∷ old) → Is w k.Conformance → Is n (k.Name text) → Is l k.Colon → HasTraits old traits new
      → Reading all (TraitListed (opening decls start w.span) (ConformanceSubject (node.used text n.span)) traits) new
  r_members_ready : {owner : Owner} {members : List T.Member} {group : Group} {new : List Token} → SoFar all owner members group new
      → Reading all (MembersReady owner members) new
  r_public_member : {owner : Owner} {members : List T.Member} {group : Group} {start : Start} {new : List Token}
      → AtMember all owner members group start new → Reading all (PublicMember owner members start) new
  r_member_read : {owner : Owner} {members : List T.Member} {group : Group} {start : Start} {kind : T.MemberKind} {to : ℕ} {old new : List Token}
      → AtMember all owner members group start old → HasMemberKind group old kind to new
      → Reading all (MemberRead owner members start kind to) new
  r_field_word : {owner : Owner} {members : List T.Member} {start : Start} {w : Token} {new : List Token}
      → AtMember all owner members OfType start (w ∷ new) → Is w k.Var → Reading all (FieldWord owner members start) new
  r_field_name : {owner : Owner} {members : List T.Member} {start : Start} {w n : Token} {text : List ℕ} {new : List Token}
      → AtMember all owner members OfType start (w ∷ n ∷ new) → Is w k.Var → Is n (k.Name text)
      → Reading all (FieldName owner members start (node.spelled text n.span)) new
  r_memberwise : {owner : Owner} {members : List T.Member} {start : Start} {w : Token} {new : List Token}
      → AtMember all owner members OfType start (w ∷ new) → Is w k.Memberwise → Reading all (MemberwiseWord owner members start) new
  r_function_word : {home : Home} {start : Start} {sort : Sort} {w : Token} {new : List Token} → FunAt all home start sort (w ∷ new) → Is w k.Fun
      → Reading all (FunctionWord home start w.span) new
  r_function_name : {head : Head} {new : List Token} → Named all head new → Reading all (FunctionName head) new
  r_subscript_word : {home : Home} {start : Start} {w : Token} {new : List Token} → SubscriptAt all home start (w ∷ new) → Is w k.Subscript
      → Reading all (SubscriptWord home start w.span) new
  r_generic_wanted : {head : Head} {new : List Token} → InGenerics all head new → Reading all (GenericWanted head) new
  r_generic_name : {head : Head} {n : Token} {text : List ℕ} {new : List Token} → InGenerics all head (n ∷ new) → Is n (k.Name text)
      → Reading all (GenericName head (node.spelled text n.span)) new
  r_bound_wanted : {head : Head} {n c : Token} {text : List ℕ} {bounds : List NameUse} {old new : List Token} → InGenerics all head (n ∷ c ∷ old)
      → Is n (k.Name text) → Is c k.Colon → BoundsBefore old bounds new
      → Reading all (BoundWanted head (node.spelled text n.span) bounds) new
  r_bound_listed : {head : Head} {n c : Token} {text : List ℕ} {bounds : List NameUse} {old new : List Token} → InGenerics all head (n ∷ c ∷ old)
      → Is n (k.Name text) → Is c k.Colon → HasBounds old bounds new
      → Reading all (BoundListed head (node.spelled text n.span) bounds) new
  r_params_wanted : {head : Head} {new : List Token} → Headed all head new → Reading all (ParamsWanted head) new
  r_params_opened : {head : Head} {o : Token} {new : List Token} → Headed all head (o ∷ new) → Is o k.LeftParen → Reading all (ParamsOpened head) new
  r_param_wanted : {head : Head} {new : List Token} → InParams all head new → Reading all (ParamWanted head) new
  r_param_first : {head : Head} {n : Token} {text : List ℕ} {new : List Token} → InParams all head (n ∷ new) → Is n (k.Name text)
      → Reading all (ParamFirst head (node.spelled text n.span)) new
  r_param_unlabelled : {head : Head} {n : Token} {new : List Token} → InParams all head (n ∷ new) → Is n k.Underscore
      → Reading all (ParamUnlabelled head n.span.from) new
  r_param_name : {head : Head} {from : ℕ} {label : Label} {name : Name} {old new : List Token} → InParams all head old
      → HasParamName old from label name new → Reading all (ParamName head from label name) new
  r_param_colon : {head : Head} {from : ℕ} {label : Label} {name : Name} {c : Token} {old new : List Token} → InParams all head old
      → HasParamName old from label name (c ∷ new) → Is c k.Colon → Reading all (ParamColon head from label name) new
  r_param_read : {head : Head} {new : List Token} → ParamsListed all head new → Reading all (ParamRead head) new
  r_params_read : {head : Head} {to : ℕ} {new : List Token} → ParamsDone all head to new → Reading all (ParamsRead head to) new
  r_effect_read : {head : Head} {to : ℕ} {new : List Token} → EffectDone all head to new → Reading all (EffectRead head to) new
  r_result_read : {head : Head} {to : ℕ} {new : List Token} → ResultDone all head to new → Reading all (ResultRead head to) new
  r_body_wanted : {body : Body} {new : List Token} → BodyAt all body new → Reading all (BodyWanted body) new
  r_body_opened : {head : Head} {o : Token} {new : List Token} → AtBody all head (o ∷ new) → MayVary head.sort head.effect → Is o k.LeftBrace
      → Reading all (BodyOpened head o.span) new
  r_body_word : {head : Head} {introducer : Introducer} {mode : Mode} {o w : Token} {new : List Token} → AtBody all head (o ∷ w ∷ new)
      → MayVary head.sort head.effect → Is o k.LeftBrace → introducer_of w.kind ≡ Some introducer → effect_of w.kind ≡ Some mode
      → Reading all (BodyWord head o.span introducer mode w.span) new
  r_variants_read : {head : Head} {variants : List T.Variant} {o : Token} {old new : List Token} → AtBody all head (o ∷ old) → MayVary head.sort head.effect
      → Is o k.LeftBrace → HasVariants head.sort old variants new
      → Reading all (VariantsRead head o.span variants) new
  r_set_word : {head : Head} {brace : Span} {variants : List T.Variant} {w : Token} {new : List Token} → InVariants all head brace variants (w ∷ new)
      → head.sort ≡ Subscript → Is w k.Set → Reading all (SetWord head brace variants w.span) new
  r_set_opened : {head : Head} {brace : Span} {variants : List T.Variant} {w o : Token} {new : List Token}
      → InVariants all head brace variants (w ∷ o ∷ new) → head.sort ≡ Subscript → Is w k.Set → Is o k.LeftParen
      → Reading all (SetOpened head brace variants w.span) new
  r_set_name : {head : Head} {brace : Span} {variants : List T.Variant} {w o n : Token} {text : List ℕ} {new : List Token}
      → InVariants all head brace variants (w ∷ o ∷ n ∷ new) → head.sort ≡ Subscript → Is w k.Set → Is o k.LeftParen → Is n (k.Name text)
      → Reading all (SetName head brace variants w.span (node.spelled text n.span)) new
  r_block_opened : {place : Place} {new : List Token} → InPlace all place new → Reading all (BlockOpened place) new
  r_stmt_wanted : {before : List T.Stmt} {place : Place} {new : List Token} → AtStmt all before place new → Reading all (StmtWanted before place) new
  r_stmt_read : {before : List T.Stmt} {place : Place} {base new : List Token} → InPlace all place base → HasStmts (in_loop place) base before ClosedEnd new
      → Reading all (StmtRead before place) new
  r_binding_word : {introducer : Introducer} {w : Token} {before : List T.Stmt} {place : Place} {new : List Token} → AtStmt all before place (w ∷ new)
      → introducer_of w.kind ≡ Some introducer → Reading all (BindingWord introducer w.span before place) new
  r_binding_name : {introducer : Introducer} {w n : Token} {text : List ℕ} {before : List T.Stmt} {place : Place} {new : List Token}
      → AtStmt all before place (w ∷ n ∷ new) → introducer_of w.kind ≡ Some introducer → Is n (k.Name text)
      → Reading all (BindingName introducer w.span (node.spelled text n.span) before place) new
  r_binding_type : {introducer : Introducer} {w n c : Token} {text : List ℕ} {written : T.TypeExp}
      {before : List T.Stmt} {place : Place} {old new : List Token}
      → AtStmt all before place (w ∷ n ∷ c ∷ old) → introducer_of w.kind ≡ Some introducer → Is n (k.Name text) → Is c k.Colon → HasType old written new
      → Reading all (BindingType introducer w.span (node.spelled text n.span) written before place) new
  r_discard_word : {w : Token} {before : List T.Stmt} {place : Place} {new : List Token} → AtStmt all before place (w ∷ new) → Is w k.Underscore
      → Reading all (DiscardWord w.span before place) new
  r_return_word : {w : Token} {before : List T.Stmt} {place : Place} {new : List Token} → AtStmt all before place (w ∷ new) → Is w k.Return
      → Reading all (ReturnWord w.span before place) new
  r_branch_read : {from to : ℕ} {branches : List T.Branch} {before : List T.Stmt} {place : Place} {base old new : List Token}
      → InPlace all place base → StmtsBefore (in_loop place) base before old → HasBranches (in_loop place) old from branches to new
      → Reading all (BranchRead from branches to before place) new
  r_branch_else : {from to : ℕ} {branches : List T.Branch} {e : Token} {before : List T.Stmt} {place : Place} {base old new : List Token}
      → InPlace all place base → StmtsBefore (in_loop place) base before old → HasBranches (in_loop place) old from branches to (e ∷ new) → Is e k.Else
      → Reading all (BranchElse from branches before place) new
  r_operand : {spot : Spot} {new : List Token} → InSpot all spot new → Reading all (Operand spot) new
  r_postfixed : {primary : T.Expr} {steps : List T.Step} {to : ℕ} {spot : Spot} {base new : List Token} → InSpot all spot base
      → HasPostfix base primary steps to new → Reading all (Postfixed primary steps to spot) new
  r_dotted : {primary : T.Expr} {steps : List T.Step} {to : ℕ} {d : Token} {spot : Spot} {base new : List Token} → InSpot all spot base
      → HasPostfix base primary steps to (d ∷ new) → Is d k.Dot → Reading all (Dotted primary steps spot) new
  r_parts_opened : {o : Token} {spot : Spot} {new : List Token} → InSpot all spot (o ∷ new) → Is o k.LeftParen → Reading all (PartsOpened o.span spot) new
  r_arguments_opened : {callee : Callee} {spot : Spot} {new : List Token} → Called all callee spot new → Reading all (ArgumentsOpened callee spot) new
  r_argument_wanted : {callee : Callee} {args : List T.Arg} {spot : Spot} {new : List Token} → InArgs all callee args spot new
      → Reading all (ArgumentWanted callee args spot) new
  r_argument_name : {callee : Callee} {args : List T.Arg} {n : Token} {text : List ℕ} {spot : Spot} {new : List Token}
      → InArgs all callee args spot (n ∷ new) → Is n (k.Name text) → Reading all (ArgumentName callee args text n.span spot) new
  r_array_word : {a : Token} {spot : Spot} {new : List Token} → InSpot all spot (a ∷ new) → Is a k.Array → Reading all (ArrayWord a.span spot) new
  r_array_type : {a l : Token} {written : T.TypeExp} {spot : Spot} {old new : List Token} → InSpot all spot (a ∷ l ∷ old) → Is a k.Array → Is l k.Less
      → HasType old written new → Reading all (ArrayType a.span written spot) new
  r_array_closed : {a l g : Token} {written : T.TypeExp} {spot : Spot} {old new : List Token} → InSpot all spot (a ∷ l ∷ old) → Is a k.Array → Is l k.Less
      → HasType old written (g ∷ new) → Is g k.Greater → Reading all (ArrayClosed a.span written spot) new
  r_array_opened : {a l g o : Token} {written : T.TypeExp} {spot : Spot} {old new : List Token} → InSpot all spot (a ∷ l ∷ old) → Is a k.Array → Is l k.Less
      → HasType old written (g ∷ o ∷ new) → Is g k.Greater → Is o k.LeftParen
      → Reading all (ArrayOpened a.span written spot) new
  r_choice_read : {from : ℕ} {choices : List T.Choice} {spot : Spot} {base new : List Token} → InSpot all spot base → HasChoices base from choices new
      → Reading all (ChoiceRead from choices spot) new
  r_choice_else : {from : ℕ} {choices : List T.Choice} {e : Token} {spot : Spot} {base new : List Token} → InSpot all spot base
      → HasChoices base from choices (e ∷ new) → Is e k.Else → Reading all (ChoiceElse from choices spot) new
  r_type_wanted : {u : TypeUse} {new : List Token} → InType all u new → Reading all (TypeWanted u) new
  r_array_type_word : {a : Token} {u : TypeUse} {new : List Token} → InType all u (a ∷ new) → Is a k.Array → Reading all (ArrayTypeWord a.span u) new
  r_array_type_element : {a l : Token} {written : T.TypeExp} {u : TypeUse} {old new : List Token} → InType all u (a ∷ l ∷ old) → Is a k.Array → Is l k.Less
      → HasType old written new → Reading all (ArrayTypeElement a.span written u) new
  r_types_opened : {o : Token} {u : TypeUse} {new : List Token} → InType all u (o ∷ new) → Is o k.LeftParen → Reading all (TypesOpened o.span u) new
  r_types_read : {o : Token} {parts : List T.TypeExp} {u : TypeUse} {old new : List Token} → InType all u (o ∷ old) → Is o k.LeftParen
      → HasTypes old parts new → Reading all (TypesRead o.span parts u) new
