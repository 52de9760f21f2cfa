-- A machine that reads a program token by token. It has no limit on nesting.
use Rattle.std.specs.Prelude.{◌-◌, ℕ, suc, Bool, nat_lt, cond, Option, Some, None, Result, Ok, Err, List, [], ◌∷◌, ◌++◌, length}
use Rattle.hy_lexer.specs.declared.token.Token.{Token}
use Rattle.hy_tree.specs.Tree as T
use Rattle.hy_tree.specs.declared.declaration.Label.TheVariants as label
use Rattle.hy_tree.specs.declared.operator.Mode.TheVariants as mode
use Rattle.hy_grammar.specs.Kinds as kind
use Rattle.hy_grammar.specs.Nodes as node
use Rattle.hy_grammar.specs.TypeSteps.{typed, at_type, at_types_opened, at_types_read}
use Rattle.hy_grammar.specs.OperandSteps.{beginning, at_operand}
use Rattle.hy_grammar.specs.StmtSteps.{at_statement, at_block_opened, at_stmt_read, at_binding_name}
use Rattle.hy_grammar.specs.StmtSteps.{at_binding_type, at_return, at_branch_read, at_branch_else}
use Rattle.hy_grammar.specs.ExprSteps.{at_argument, at_arguments_opened, at_arguments_read, at_parts_opened, at_parts_read, at_elements_read}
use Rattle.hy_grammar.specs.ExprSteps.{at_choice_else, at_valued, at_operated, at_postfixed, at_argument_name, at_dotted}
use Rattle.hy_grammar.specs.DeclSteps.{head_of, sort_in, at_decl, at_file, at_file_done, decl_of, at_decl_read, at_type_name, at_trait_listed, at_member}
use Rattle.hy_grammar.specs.DeclSteps.{at_members, at_members_done, at_member_read, at_function_name, at_subscript_word, at_generic_name, at_bound_listed}
use Rattle.hy_grammar.specs.DeclSteps.{at_param, at_params_opened, at_param_first, at_param_colon, at_param_read, at_params_read, at_result, at_body}
use Rattle.hy_grammar.specs.DeclSteps.{at_body_opened, at_body_word, at_variants_read}
use Rattle.hy_grammar.specs.Stack.{ConformanceSubject, TraitOwner, VariantBody, InBody, ForElementType, ForEmptyArray, ForField, ForDiscard, State}
use Rattle.hy_grammar.specs.Stack.{FileReady, FileDone, PublicDecl, DeclRead, TypeWord, TypeName, TraitWord, TraitName, ConformanceWord, ConformanceName}
use Rattle.hy_grammar.specs.Stack.{TraitWanted, TraitListed, MembersReady, MembersDone, PublicMember, MemberRead, FieldWord, FieldName, MemberwiseWord}
use Rattle.hy_grammar.specs.Stack.{FunctionWord, FunctionName, SubscriptWord, GenericWanted, GenericName, BoundWanted, BoundListed, ParamsWanted}
use Rattle.hy_grammar.specs.Stack.{ParamsOpened, ParamWanted, ParamFirst, ParamUnlabelled, ParamName, ParamColon, ParamRead, ParamsRead, EffectRead}
use Rattle.hy_grammar.specs.Stack.{ResultRead, BodyWanted, BodyOpened, BodyWord, VariantsRead, SetWord, SetOpened, SetName, BlockOpened, StmtWanted}
use Rattle.hy_grammar.specs.Stack.{StmtRead, BindingWord, BindingName, BindingType, DiscardWord, ReturnWord, BranchRead, BranchElse, Operand, Postfixed}
use Rattle.hy_grammar.specs.Stack.{Operated, Valued, Dotted, PartsOpened, PartsRead, ElementsRead, ArgumentsOpened, ArgumentWanted, ArgumentName}
use Rattle.hy_grammar.specs.Stack.{ArgumentsRead, ArrayWord, ArrayType, ArrayClosed, ArrayOpened, ChoiceRead, ChoiceElse, TypeWanted, ArrayTypeWord}
use Rattle.hy_grammar.specs.Stack.{ArrayTypeElement, TypesOpened, TypesRead, depth}

-- how the machine goes on at a token with so many before it, or that it cannot stand there
unfoldable pub step : State → Token → ℕ → Option State
step (FileReady decls to) t place = at_file t.kind t place decls
step (FileDone decls to) t place = at_file_done t.kind t place decls
step (PublicDecl decls start) t place = at_decl t.kind t.span decls start
step (DeclRead decls start kind to) t place = at_decl_read t place decls start kind to
step (TypeWord opening) t place = kind.name t.kind (λ text. TypeName opening (node.spelled text t.span))
step (TypeName opening name) t place = at_type_name t.kind opening name
step (TraitWord opening) t place = kind.name t.kind (λ text. TraitName opening (node.spelled text t.span))
step (TraitName opening name) t place = kind.left_brace t.kind (MembersReady (TraitOwner opening name) [])
step (ConformanceWord opening) t place = kind.name t.kind (λ text. ConformanceName opening (node.used text t.span))
step (ConformanceName opening target) t place = kind.colon t.kind (TraitWanted opening (ConformanceSubject target) [])
step (TraitWanted opening subject traits) t place = kind.name t.kind (λ text. TraitListed opening subject (traits ++ node.used text t.span ∷ []))
step (TraitListed opening subject traits) t place = at_trait_listed t.kind opening subject traits
step (MembersReady owner members) t place = at_members t.kind t place owner members
step (MembersDone owner members) t place = at_members_done t.kind t place owner members
step (PublicMember owner members start) t place = at_member t.kind t.span owner members start
step (MemberRead owner members start kind to) t place = at_member_read t place owner members start kind to
step (FieldWord owner members start) t place = kind.name t.kind (λ text. FieldName owner members start (node.spelled text t.span))
step (FieldName owner members start name) t place = kind.colon t.kind (TypeWanted (ForField owner members start name))
step (MemberwiseWord owner members start) t place = kind.init_word t.kind (MemberRead owner members start T.MemberwiseInit t.span.to)
step (FunctionWord home start keyword) t place =
    kind.name t.kind (λ text. FunctionName (head_of home start (sort_in home) keyword (Some (node.spelled text t.span))))
step (FunctionName head) t place = at_function_name t.kind head
step (SubscriptWord home start keyword) t place = at_subscript_word t.kind t.span home start keyword
step (GenericWanted head) t place = kind.name t.kind (λ text. GenericName head (node.spelled text t.span))
step (GenericName head name) t place = at_generic_name t.kind head name
step (BoundWanted head name bounds) t place = kind.name t.kind (λ text. BoundListed head name (bounds ++ node.used text t.span ∷ []))
step (BoundListed head name bounds) t place = at_bound_listed t.kind head name bounds
step (ParamsWanted head) t place = kind.left_paren t.kind (ParamsOpened head)
step (ParamsOpened head) t place = at_params_opened t.kind t.span head
step (ParamWanted head) t place = at_param t.kind t.span head
step (ParamFirst head name) t place = at_param_first t.kind t.span head name
step (ParamUnlabelled head from) t place = kind.name t.kind (λ text. ParamName head from label.Nothing (node.spelled text t.span))
step (ParamName head from label name) t place = kind.colon t.kind (ParamColon head from label name)
step (ParamColon head from label name) t place = at_param_colon t.kind t.span head from label name
step (ParamRead head) t place = at_param_read t.kind t.span head
step (ParamsRead head to) t place = at_params_read head.sort t place head to
step (EffectRead head to) t place = at_result t.kind t place head to
step (ResultRead head to) t place = at_body head.sort t.kind t place head to
step (BodyWanted body) t place = kind.left_brace t.kind (BlockOpened (InBody body t.span))
step (BodyOpened head brace) t place = at_body_opened t.kind t head brace
step (BodyWord head brace introducer mode word) t place = at_body_word t.kind t.span head brace introducer mode word
step (VariantsRead head brace variants) t place = at_variants_read t.kind t.span head brace variants
step (SetWord head brace variants word) t place = kind.left_paren t.kind (SetOpened head brace variants word)
step (SetOpened head brace variants word) t place = kind.name t.kind (λ text. SetName head brace variants word (node.spelled text t.span))
step (SetName head brace variants word name) t place = kind.right_paren t.kind (BodyWanted (VariantBody head brace variants word mode.Set (Some name)))
step (BlockOpened at) t place = at_block_opened t.kind t at
step (StmtWanted before at) t place = at_statement t.kind t before at
step (StmtRead before at) t place = at_stmt_read t.kind t before at
step (BindingWord introducer word before at) t place = kind.name t.kind (λ text. BindingName introducer word (node.spelled text t.span) before at)
step (BindingName introducer word name before at) t place = at_binding_name t.kind introducer word name before at
step (BindingType introducer word name written before at) t place = at_binding_type t.kind t introducer word name written before at
step (DiscardWord word before at) t place = kind.equal t.kind (Operand (beginning (ForDiscard word before at)))
step (ReturnWord word before at) t place = at_return t.kind t word before at
step (BranchRead from branches to before at) t place = at_branch_read t.kind t from branches to before at
step (BranchElse from branches before at) t place = at_branch_else t.kind t.span from branches before at
step (Operand spot) t place = at_operand t.kind t.span spot
step (Postfixed primary steps to spot) t place = at_postfixed t.kind t primary steps to spot
step (Operated e tiers u) t place = at_operated e tiers u t
step (Valued e u) t place = at_valued e u t
step (Dotted primary steps spot) t place = at_dotted t.kind t.span primary steps spot
step (PartsOpened bracket spot) t place = at_parts_opened t.kind t.span bracket spot
step (PartsRead bracket es spot) t place = at_parts_read t.kind t.span bracket es spot
step (ElementsRead bracket es spot) t place = at_elements_read t.kind t.span bracket es spot
step (ArgumentsOpened callee spot) t place = at_arguments_opened t.kind t.span callee spot
step (ArgumentWanted callee args spot) t place = at_argument t.kind t.span callee args spot
step (ArgumentName callee args text token spot) t place = at_argument_name t.kind t callee args text token spot
step (ArgumentsRead callee args spot) t place = at_arguments_read t.kind t.span callee args spot
step (ArrayWord word spot) t place = kind.less t.kind (TypeWanted (ForEmptyArray word spot))
step (ArrayType word written spot) t place = kind.greater t.kind (ArrayClosed word written spot)
step (ArrayClosed word written spot) t place = kind.left_paren t.kind (ArrayOpened word written spot)
step (ArrayOpened word written spot) t place = kind.right_paren t.kind (Postfixed (node.empty_array word written t.span) [] 0 spot)
step (ChoiceRead from choices spot) t place = kind.else_word t.kind (ChoiceElse from choices spot)
step (ChoiceElse from choices spot) t place = at_choice_else t.kind t.span from choices spot
step (TypeWanted u) t place = at_type t.kind t.span u
step (ArrayTypeWord word u) t place = kind.less t.kind (TypeWanted (ForElementType word u))
step (ArrayTypeElement word written u) t place = kind.greater t.kind (typed (node.array_type word written t.span) u)
step (TypesOpened bracket u) t place = at_types_opened t.kind t.span bracket u
step (TypesRead bracket parts u) t place = at_types_read t.kind t.span bracket parts u

-- the program, where its tokens may end, with so many of them
unfoldable pub finish : State → ℕ → Option T.Program
finish (FileReady decls to) place = Some (node.program decls to)
finish (FileDone decls to) place = Some (node.program decls to)
finish (DeclRead decls start kind to) place = Some (node.program (decls ++ decl_of start kind place to ∷ []) to)
finish _ place = None

abbrev pub start : State
start = FileReady [] 0

abbrev pub accepted : Option T.Program → Result T.Program ℕ
accepted None = Err 0
accepted (Some tree) = Ok tree

abbrev pub go : {A E : Type 0} → Option State → (State → Result A E) → E → Result A E
go None more halt = Err halt
go (Some s) more halt = more s

-- The program, or how many tokens are left where the machine stops. `total` is the number of tokens of the whole file.
unfoldable pub run : ℕ → State → List Token → Result T.Program ℕ
run total s [] = accepted (finish s total)
run total s (t ∷ ts) = go (step s t (total - suc (length ts))) (λ s'. run total s' ts) (suc (length ts))

-- THE LIMIT ON NESTING

abbrev pub most_levels : ℕ
most_levels = 200

-- why the machine with the limit stops, with the number of tokens that are left there
pub data Halt : Type 0 where
  -- the first of them cannot stand there, or the file ends too soon
  Unexpected : (left : ℕ) → Halt
  -- it can, and begins a level too many
  TooDeep : (left : ℕ) → Halt

abbrev pub is_too_deep : State → Bool
is_too_deep s = nat_lt most_levels (depth s)

abbrev pub go_within : Option State → (State → Result T.Program Halt) → ℕ → Result T.Program Halt
go_within None more left = Err (Unexpected left)
go_within (Some s) more left = cond (is_too_deep s) (Err (TooDeep left)) (more s)

abbrev pub accepted_within : Option T.Program → Result T.Program Halt
accepted_within None = Err (Unexpected 0)
accepted_within (Some tree) = Ok tree

-- the machine with the limit
unfoldable pub walk : ℕ → State → List Token → Result T.Program Halt
walk total s [] = accepted_within (finish s total)
walk total s (t ∷ ts) = go_within (step s t (total - suc (length ts))) (λ s'. walk total s' ts) (suc (length ts))
