-- From each state its completion leads to the end.
use Rattle.std.proofs.Common.{codes, ◌≡◌, ℕ, Option, Some, None, List, [], ◌∷◌, ◌++◌, refl, sym, ap, ◌∙◌}
use Rattle.hy_base.specs.declared.position.Span.{Span}
use Rattle.hy_lexer.specs.declared.token.Token.{Token}
use Rattle.hy_lexer.specs.declared.token.TokenKind.{TokenKind}
use Rattle.hy_lexer.specs.declared.token.TokenKind.TheVariants as k
use Rattle.hy_tree.specs.Tree as T
use Rattle.hy_tree.specs.declared.declaration.Label.{Label}
use Rattle.hy_tree.specs.declared.name.Name.{Name}
use Rattle.hy_tree.specs.declared.name.NameUse.{NameUse}
use Rattle.hy_tree.specs.declared.operator.Introducer.{Introducer}
use Rattle.hy_tree.specs.declared.operator.Mode.{Mode}
use Rattle.hy_tree.specs.declared.operator.Mode.TheVariants as mode
use Rattle.hy_grammar.specs.Kinds.{infix_of, Disjunction}
use Rattle.hy_grammar.specs.Nodes as node
use Rattle.hy_grammar.specs.Completion.{mark, a_name, empty_members, leave_function, leave_home, leave_head, leave_body, leave_place, closing, leave_use}
use Rattle.hy_grammar.specs.Completion.{leave_spot, leave_type, completion, Accepts}
use Rattle.hy_grammar.specs.DeclSteps.{head_of, sort_in, opening, with_generic}
use Rattle.hy_grammar.specs.ExprSteps.{prefixed, joined, with_arguments, callee}
use Rattle.hy_grammar.specs.Machine.{step, run}
use Rattle.hy_grammar.specs.OperandSteps.{beginning}
use Rattle.hy_grammar.specs.StmtSteps.{}
use Rattle.hy_grammar.specs.TypeSteps.{with_param, typed}
use Rattle.hy_grammar.specs.Stack.{Start, Opening, Subject, Owner, Home, Sort, Head, Body, Tiers, Brackets, Callee, Place, Use, Spot, TypeUse, State}
use Rattle.hy_grammar.specs.Stack.{TypeSubject, ConformanceSubject, TraitOwner, ListedOwner, InFile, InOwner, FileFunction, Method, Requirement, Subscript}
use Rattle.hy_grammar.specs.Stack.{Deinit, VariantBody, Round, Square, InBody, InElse, ForTarget, ForBinding, ForDiscard, ForArgument, ForElementType}
use Rattle.hy_grammar.specs.Stack.{ForEmptyArray, ForField, FileReady, FileDone, PublicDecl, DeclRead, TypeWord, TypeName, TraitWord, TraitName}
use Rattle.hy_grammar.specs.Stack.{ConformanceWord, ConformanceName, TraitWanted, TraitListed, MembersReady, MembersDone, PublicMember, MemberRead}
use Rattle.hy_grammar.specs.Stack.{FieldWord, FieldName, MemberwiseWord, FunctionWord, FunctionName, SubscriptWord, GenericWanted, GenericName, BoundWanted}
use Rattle.hy_grammar.specs.Stack.{BoundListed, ParamsWanted, ParamsOpened, ParamWanted, ParamFirst, ParamUnlabelled, ParamName, ParamColon, ParamRead}
use Rattle.hy_grammar.specs.Stack.{ParamsRead, EffectRead, ResultRead, BodyWanted, BodyOpened, BodyWord, VariantsRead, SetWord, SetOpened, SetName}
use Rattle.hy_grammar.specs.Stack.{BlockOpened, StmtWanted, StmtRead, BindingWord, BindingName, BindingType, DiscardWord, ReturnWord, BranchRead}
use Rattle.hy_grammar.specs.Stack.{BranchElse, Operand, Postfixed, Operated, Valued, Dotted, PartsOpened, PartsRead, ElementsRead, ArgumentsOpened}
use Rattle.hy_grammar.specs.Stack.{ArgumentWanted, ArgumentName, ArgumentsRead, ArrayWord, ArrayType, ArrayClosed, ArrayOpened, ChoiceRead, ChoiceElse}
use Rattle.hy_grammar.specs.Stack.{TypeWanted, ArrayTypeWord, ArrayTypeElement, TypesOpened, TypesRead}
use Rattle.hy_grammar_laws.proofs.Leaves.{Done, over, like, decl_done, file_done, file_ended, member_done, members_done, members_ended, variants_done}
use Rattle.hy_grammar_laws.proofs.Leaves.{LikeRead, like_read, branch_like, to_else, closes, Begins, begins_use, arguments_done, argument_done}
use Rattle.hy_grammar_laws.proofs.Leaves.{otherwise_done, choices_done, leaves_use, leaves, a_value, operand_done, block_done, opened_done, result_done}
use Rattle.hy_grammar_laws.proofs.Leaves.{effect_done, params_done, opened_params_done, param_read_done, closed_array_done, array_done, element_type_done}
use Rattle.hy_grammar_laws.proofs.Leaves.{parts_type_done, variable_done, leaves_type, a_type}

module _ (total : ℕ) where
  -- THE OTHER STATES, one lemma where a token is eaten

  module _ (ts : List Token) where
    type_name : (opening : Opening) (name : Name) → (Done total) (MembersReady (ListedOwner opening (TypeSubject name) []) []) ts
        → (Done total) (TypeName opening name) (mark k.LeftBrace ∷ ts)
    unfolding step
    type_name opening name d = (over total) _ _ _ _ refl d

    type_word : (opening : Opening) → ((name : Name) → (Done total) (TypeName opening name) ts) → (Done total) (TypeWord opening) (a_name ∷ ts)
    unfolding step
    type_word opening d = (over total) _ _ _ _ refl (d _)

    trait_name : (opening : Opening) (name : Name) → (Done total) (MembersReady (TraitOwner opening name) []) ts
        → (Done total) (TraitName opening name) (mark k.LeftBrace ∷ ts)
    unfolding step
    trait_name opening name d = (over total) _ _ _ _ refl d

    trait_word : (opening : Opening) → ((name : Name) → (Done total) (TraitName opening name) ts) → (Done total) (TraitWord opening) (a_name ∷ ts)
    unfolding step
    trait_word opening d = (over total) _ _ _ _ refl (d _)

    trait_listed : (opening : Opening) (subject : Subject) (traits : List NameUse) → (Done total) (MembersReady (ListedOwner opening subject traits) []) ts
        → (Done total) (TraitListed opening subject traits) (mark k.LeftBrace ∷ ts)
    unfolding step
    trait_listed opening subject traits d = (over total) _ _ _ _ refl d

    trait_wanted : (opening : Opening) (subject : Subject) (traits : List NameUse)
        → ((more : List NameUse) → (Done total) (TraitListed opening subject more) ts) → (Done total) (TraitWanted opening subject traits) (a_name ∷ ts)
    unfolding step
    trait_wanted opening subject traits d = (over total) _ _ _ _ refl (d _)

    conformance_name : (opening : Opening) (target : NameUse) → (Done total) (TraitWanted opening (ConformanceSubject target) []) ts
        → (Done total) (ConformanceName opening target) (mark k.Colon ∷ ts)
    unfolding step
    conformance_name opening target d = (over total) _ _ _ _ refl d

    conformance_word : (opening : Opening) → ((target : NameUse) → (Done total) (ConformanceName opening target) ts)
        → (Done total) (ConformanceWord opening) (a_name ∷ ts)
    unfolding step
    conformance_word opening d = (over total) _ _ _ _ refl (d _)

    field_word : (owner : Owner) (members : List T.Member) (start : Start) → ((name : Name) → (Done total) (FieldName owner members start name) ts)
        → (Done total) (FieldWord owner members start) (a_name ∷ ts)
    unfolding step
    field_word owner members start d = (over total) _ _ _ _ refl (d _)

    field_name : (owner : Owner) (members : List T.Member) (start : Start) (name : Name) → (Done total) (TypeWanted (ForField owner members start name)) ts
        → (Done total) (FieldName owner members start name) (mark k.Colon ∷ ts)
    unfolding step
    field_name owner members start name d = (over total) _ _ _ _ refl d

    memberwise_word : (owner : Owner) (members : List T.Member) (start : Start) → (Done total) (MemberRead owner members start T.MemberwiseInit 0) ts
        → (Done total) (MemberwiseWord owner members start) (mark k.Init ∷ ts)
    unfolding step
    memberwise_word owner members start d = (over total) _ _ _ _ refl d

    function_word : (home : Home) (start : Start) (keyword : Span)
        → (Done total) (FunctionName (head_of home start (sort_in home) keyword (Some (node.spelled (codes "x") a_name.span)))) ts
        → (Done total) (FunctionWord home start keyword) (a_name ∷ ts)
    unfolding step
    function_word home start keyword d = (over total) _ _ _ _ refl d

    function_name : (head : Head) → (Done total) (ParamsOpened head) ts → (Done total) (FunctionName head) (mark k.LeftParen ∷ ts)
    unfolding step
    function_name head d = (over total) _ _ _ _ refl d

    subscript_word : (home : Home) (start : Start) (keyword : Span)
        → (Done total) (ParamsWanted (head_of home start Subscript keyword (Some (node.spelled (codes "x") a_name.span)))) ts
        → (Done total) (SubscriptWord home start keyword) (a_name ∷ ts)
    unfolding step
    subscript_word home start keyword d = (over total) _ _ _ _ refl d

    params_wanted : (head : Head) → (Done total) (ParamsOpened head) ts → (Done total) (ParamsWanted head) (mark k.LeftParen ∷ ts)
    unfolding step
    params_wanted head d = (over total) _ _ _ _ refl d

    generic_wanted : (head : Head) → ((name : Name) → (Done total) (GenericName head name) ts) → (Done total) (GenericWanted head) (a_name ∷ ts)
    unfolding step
    generic_wanted head d = (over total) _ _ _ _ refl (d _)

    generic_name : (head : Head) (name : Name) → (Done total) (ParamsWanted (with_generic head name [])) ts
        → (Done total) (GenericName head name) (mark k.Greater ∷ ts)
    unfolding step
    generic_name head name d = (over total) _ _ _ _ refl d

    bound_wanted : (head : Head) (name : Name) (bounds : List NameUse) → ((more : List NameUse) → (Done total) (BoundListed head name more) ts)
        → (Done total) (BoundWanted head name bounds) (a_name ∷ ts)
    unfolding step
    bound_wanted head name bounds d = (over total) _ _ _ _ refl (d _)

    bound_listed : (head : Head) (name : Name) (bounds : List NameUse) → (Done total) (ParamsWanted (with_generic head name bounds)) ts
        → (Done total) (BoundListed head name bounds) (mark k.Greater ∷ ts)
    unfolding step
    bound_listed head name bounds d = (over total) _ _ _ _ refl d

    param_wanted : (head : Head) → ((name : Name) → (Done total) (ParamFirst head name) ts) → (Done total) (ParamWanted head) (a_name ∷ ts)
    unfolding step
    param_wanted head d = (over total) _ _ _ _ refl (d _)

    param_first : (head : Head) (name : Name) → ((from : ℕ) (label : Label) → (Done total) (ParamColon head from label name) ts)
        → (Done total) (ParamFirst head name) (mark k.Colon ∷ ts)
    unfolding step
    param_first head name d = (over total) _ _ _ _ refl (d _ _)

    param_unlabelled : (head : Head) (from : ℕ) → ((label : Label) (name : Name) → (Done total) (ParamName head from label name) ts)
        → (Done total) (ParamUnlabelled head from) (a_name ∷ ts)
    unfolding step
    param_unlabelled head from d = (over total) _ _ _ _ refl (d _ _)

    param_name : (head : Head) (from : ℕ) (label : Label) (name : Name) → (Done total) (ParamColon head from label name) ts
        → (Done total) (ParamName head from label name) (mark k.Colon ∷ ts)
    unfolding step
    param_name head from label name d = (over total) _ _ _ _ refl d

    -- the type of a parameter, whatever the conventions are
    param_colon : (sort : Sort) (head : Head) (from : ℕ) (label : Label) (name : Name) → head.sort ≡ sort
        → ((param : T.Param) → (Done total) (ParamRead (with_param head param)) ts) → (Done total) (ParamColon head from label name) (a_name ∷ ts)
    unfolding step
    param_colon FileFunction head from label name h d =
        (over total) _ (ParamRead (with_param head (node.param from label name mode.Let (node.named_type (codes "x") a_name.span)))) _ _ (rw (h, step) refl)
        (d _)
    param_colon Method head from label name h d =
        (over total) _ (ParamRead (with_param head (node.param from label name mode.Let (node.named_type (codes "x") a_name.span)))) _ _ (rw (h, step) refl)
        (d _)
    param_colon Requirement head from label name h d =
        (over total) _ (ParamRead (with_param head (node.param from label name mode.Let (node.named_type (codes "x") a_name.span)))) _ _ (rw (h, step) refl)
        (d _)
    param_colon Subscript head from label name h d =
        (over total) _ (ParamRead (with_param head (node.param from label name mode.Let (node.named_type (codes "x") a_name.span)))) _ _ (rw (h, step) refl)
        (d _)
    param_colon Deinit head from label name h d =
        (over total) _ (ParamRead (with_param head (node.param from label name mode.Let (node.named_type (codes "x") a_name.span)))) _ _ (rw (h, step) refl)
        (d _)

    body_wanted : (body : Body) → (Done total) (BlockOpened (InBody body (mark k.LeftBrace).span)) ts → (Done total) (BodyWanted body) (mark k.LeftBrace ∷ ts)
    unfolding step
    body_wanted body d = (over total) _ _ _ _ refl d

    body_word : (head : Head) (brace : Span) (introducer : Introducer) (mode : Mode) (word : Span)
        → (Done total) (BlockOpened (InBody (VariantBody head brace [] word mode None) (mark k.LeftBrace).span)) ts
        → (Done total) (BodyWord head brace introducer mode word) (mark k.LeftBrace ∷ ts)
    unfolding step
    body_word head brace introducer mode word d = (over total) _ _ _ _ refl d

    set_word : (head : Head) (brace : Span) (variants : List T.Variant) (word : Span) → (Done total) (SetOpened head brace variants word) ts
        → (Done total) (SetWord head brace variants word) (mark k.LeftParen ∷ ts)
    unfolding step
    set_word head brace variants word d = (over total) _ _ _ _ refl d

    set_opened : (head : Head) (brace : Span) (variants : List T.Variant) (word : Span)
        → ((name : Name) → (Done total) (SetName head brace variants word name) ts) → (Done total) (SetOpened head brace variants word) (a_name ∷ ts)
    unfolding step
    set_opened head brace variants word d = (over total) _ _ _ _ refl (d _)

    set_name : (head : Head) (brace : Span) (variants : List T.Variant) (word : Span) (name : Name)
        → (Done total) (BodyWanted (VariantBody head brace variants word mode.Set (Some name))) ts
        → (Done total) (SetName head brace variants word name) (mark k.RightParen ∷ ts)
    unfolding step
    set_name head brace variants word name d = (over total) _ _ _ _ refl d

    stmt_wanted : (before : List T.Stmt) (place : Place) → ((e : T.Expr) → (Done total) (Postfixed e [] 0 (beginning (ForTarget before place))) ts)
        → (Done total) (StmtWanted before place) (a_name ∷ ts)
    unfolding step
    stmt_wanted before place d = (over total) _ _ _ _ refl (d _)

    binding_word : (introducer : Introducer) (word : Span) (before : List T.Stmt) (place : Place)
        → ((name : Name) → (Done total) (BindingName introducer word name before place) ts)
        → (Done total) (BindingWord introducer word before place) (a_name ∷ ts)
    unfolding step
    binding_word introducer word before place d = (over total) _ _ _ _ refl (d _)

    binding_name : (introducer : Introducer) (word : Span) (name : Name) (before : List T.Stmt) (place : Place)
        → (Done total) (Operand (beginning (ForBinding introducer word name None before place))) ts
        → (Done total) (BindingName introducer word name before place) (mark k.Equal ∷ ts)
    unfolding step
    binding_name introducer word name before place d = (over total) _ _ _ _ refl d

    discard_word : (word : Span) (before : List T.Stmt) (place : Place) → (Done total) (Operand (beginning (ForDiscard word before place))) ts
        → (Done total) (DiscardWord word before place) (mark k.Equal ∷ ts)
    unfolding step
    discard_word word before place d = (over total) _ _ _ _ refl d

    branch_else : (from : ℕ) (branches : List T.Branch) (before : List T.Stmt) (place : Place)
        → (Done total) (BlockOpened (InElse from branches (mark k.LeftBrace).span before place)) ts
        → (Done total) (BranchElse from branches before place) (mark k.LeftBrace ∷ ts)
    unfolding step
    branch_else from branches before place d = (over total) _ _ _ _ refl d

    dotted : (primary : T.Expr) (steps : List T.Step) (spot : Spot) → ((more : List T.Step) (to : ℕ) → (Done total) (Postfixed primary more to spot) ts)
        → (Done total) (Dotted primary steps spot) (a_name ∷ ts)
    unfolding step
    dotted primary steps spot d = (over total) _ _ _ _ refl (d _ _)

    parts_opened : (bracket : Span) (spot : Spot) → ((e : T.Expr) → (Done total) (Postfixed e [] 0 spot) ts)
        → (Done total) (PartsOpened bracket spot) (mark k.RightParen ∷ ts)
    unfolding step
    parts_opened bracket spot d = (over total) _ _ _ _ refl (d _)

    parts_read : (bracket : Span) (es : List T.Expr) (spot : Spot) → ((e : T.Expr) → (Done total) (Postfixed e [] 0 spot) ts)
        → (Done total) (PartsRead bracket es spot) (mark k.RightParen ∷ ts)
    unfolding step
    parts_read bracket es spot d = (over total) _ _ _ _ refl (d _)

    elements_read : (bracket : Span) (es : List T.Expr) (spot : Spot) → ((e : T.Expr) → (Done total) (Postfixed e [] 0 spot) ts)
        → (Done total) (ElementsRead bracket es spot) (mark k.RightBracket ∷ ts)
    unfolding step
    elements_read bracket es spot d = (over total) _ _ _ _ refl (d _)

    argument_wanted : (callee : Callee) (args : List T.Arg) (spot : Spot) → (Done total) (ArgumentName callee args (codes "x") a_name.span spot) ts
        → (Done total) (ArgumentWanted callee args spot) (a_name ∷ ts)
    unfolding step
    argument_wanted callee args spot d = (over total) _ _ _ _ refl d

    array_word : (word : Span) (spot : Spot) → (Done total) (TypeWanted (ForEmptyArray word spot)) ts → (Done total) (ArrayWord word spot) (mark k.Less ∷ ts)
    unfolding step
    array_word word spot d = (over total) _ _ _ _ refl d

    array_opened : (word : Span) (written : T.TypeExp) (spot : Spot) → ((e : T.Expr) → (Done total) (Postfixed e [] 0 spot) ts)
        → (Done total) (ArrayOpened word written spot) (mark k.RightParen ∷ ts)
    unfolding step
    array_opened word written spot d = (over total) _ _ _ _ refl (d _)

    array_type_word : (word : Span) (u : TypeUse) → (Done total) (TypeWanted (ForElementType word u)) ts
        → (Done total) (ArrayTypeWord word u) (mark k.Less ∷ ts)
    unfolding step
    array_type_word word u d = (over total) _ _ _ _ refl d

    types_opened : (bracket : Span) (u : TypeUse) → ((t : T.TypeExp) → (Done total) (typed t u) ts)
        → (Done total) (TypesOpened bracket u) (mark k.RightParen ∷ ts)
    unfolding step
    types_opened bracket u d = (over total) _ _ _ _ refl (d _)

  public_decl : (decls : List T.Decl) (start : Start) (ts : List Token) → (Done total) (FunctionWord (InFile decls) start (mark k.Fun).span) ts
      → (Done total) (PublicDecl decls start) (mark k.Fun ∷ ts)
  unfolding step
  public_decl decls start ts d = (over total) _ _ _ _ refl d

  public_member : (owner : Owner) (members : List T.Member) (start : Start) (ts : List Token)
      → (Done total) (FunctionWord (InOwner owner members) start (mark k.Fun).span) ts → (Done total) (PublicMember owner members start) (mark k.Fun ∷ ts)
  unfolding step
  public_member (TraitOwner o name) members start ts d = (over total) _ _ _ _ refl d
  public_member (ListedOwner o (TypeSubject name) traits) members start ts d = (over total) _ _ _ _ refl d
  public_member (ListedOwner o (ConformanceSubject target) traits) members start ts d = (over total) _ _ _ _ refl d

  function_done : (home : Home) (start : Start) (keyword : Span) → (Done total) (FunctionWord home start keyword) (leave_function home)
  function_done home start keyword = function_word _ home start keyword (function_name _ _ ((opened_params_done total) _))

  params_wanted_done : (head : Head) → (Done total) (ParamsWanted head) (mark k.LeftParen ∷ mark k.RightParen ∷ leave_head head)
  params_wanted_done head = params_wanted _ head ((opened_params_done total) head)

  generic_done : (head : Head) (name : Name) → (Done total) (GenericName head name) (mark k.Greater ∷ mark k.LeftParen ∷ mark k.RightParen ∷ leave_head head)
  generic_done head name = generic_name _ head name (params_wanted_done (with_generic head name []))

  bounds_done : (head : Head) (name : Name) (bounds : List NameUse)
      → (Done total) (BoundListed head name bounds) (mark k.Greater ∷ mark k.LeftParen ∷ mark k.RightParen ∷ leave_head head)
  bounds_done head name bounds = bound_listed _ head name bounds (params_wanted_done (with_generic head name bounds))

  colon_done : (head : Head) (from : ℕ) (label : Label) (name : Name)
      → (Done total) (ParamColon head from label name) (a_name ∷ mark k.RightParen ∷ leave_head head)
  colon_done head from label name = param_colon _ head.sort head from label name refl (λ param. (param_read_done total) (with_param head param))

  first_done : (head : Head) (name : Name) → (Done total) (ParamFirst head name) (mark k.Colon ∷ a_name ∷ mark k.RightParen ∷ leave_head head)
  first_done head name = param_first _ head name (λ from label. colon_done head from label name)

  param_name_done : (head : Head) (from : ℕ) (label : Label) (name : Name)
      → (Done total) (ParamName head from label name) (mark k.Colon ∷ a_name ∷ mark k.RightParen ∷ leave_head head)
  param_name_done head from label name = param_name _ head from label name (colon_done head from label name)

  members_block : (opening : Opening) (subject : Subject) (traits : List NameUse) → (Done total) (TraitListed opening subject traits) empty_members
  members_block opening subject traits = trait_listed _ opening subject traits ((members_done total) _ _)

  variant_done : (head : Head) (brace : Span) (variants : List T.Variant) (word : Span) (mode : Mode) (value : Option Name)
      → (Done total) (BodyWanted (VariantBody head brace variants word mode value)) (mark k.LeftBrace ∷ mark k.RightBrace ∷ mark k.RightBrace ∷
      leave_home head.home)
  unfolding leave_body
  variant_done head brace variants word mode value = body_wanted _ _ ((block_done total) _ _)

  word_done : (head : Head) (brace : Span) (introducer : Introducer) (mode : Mode) (word : Span)
      → (Done total) (BodyWord head brace introducer mode word) (mark k.LeftBrace ∷ mark k.RightBrace ∷ mark k.RightBrace ∷ leave_home head.home)
  unfolding leave_body
  word_done head brace introducer mode word = body_word _ head brace introducer mode word ((block_done total) _ _)

  set_name_done : (head : Head) (brace : Span) (variants : List T.Variant) (word : Span) (name : Name)
      → (Done total) (SetName head brace variants word name) (mark k.RightParen ∷ mark k.LeftBrace ∷ mark k.RightBrace ∷ mark k.RightBrace ∷
      leave_home head.home)
  set_name_done head brace variants word name = set_name _ head brace variants word name (variant_done _ _ _ _ _ _)

  set_opened_done : (head : Head) (brace : Span) (variants : List T.Variant) (word : Span)
      → (Done total) (SetOpened head brace variants word) (a_name ∷ mark k.RightParen ∷ mark k.LeftBrace ∷ mark k.RightBrace ∷ mark k.RightBrace ∷
      leave_home head.home)
  set_opened_done head brace variants word = set_opened _ head brace variants word (λ name. set_name_done head brace variants word name)

  opened_like : (before : List T.Stmt) (place : Place) → before ≡ [] → (LikeRead total) (BlockOpened place) before place
  unfolding step
  opened_like before place h n = rw (h, step) refl

  return_nothing_like : (word : Span) (before : List T.Stmt) (place : Place)
      → (LikeRead total) (ReturnWord word before place) (before ++ node.return_nothing word ∷ []) place
  unfolding step
  return_nothing_like word before place n = refl

  else_like : (from : ℕ) (branches : List T.Branch) (brace : Span) (before : List T.Stmt) (place : Place)
      → (LikeRead total) (BlockOpened (InElse from branches brace before place)) [] (InElse from branches brace before place)
  unfolding step
  else_like from branches brace before place n = refl

  else_done : (from : ℕ) (branches : List T.Branch) (before : List T.Stmt) (place : Place)
      → (Done total) (BranchElse from branches before place) (mark k.LeftBrace ∷ mark k.RightBrace ∷ leave_place place)
  else_done from branches before place =
      branch_else _ from branches before place ((to_else total) _ [] from branches _ before place _ (else_like from branches _ before place)
      ((closes total) place _ _ ((like_read total) _ place)))

  equal_done : (introducer : Introducer) (word : Span) (name : Name) (before : List T.Stmt) (place : Place)
      → (Done total) (BindingName introducer word name before place) (mark k.Equal ∷ a_name ∷ leave_place place)
  unfolding leave_use
  equal_done introducer word name before place =
      binding_name _ introducer word name before place ((a_value total) (ForBinding introducer word name None before place))

  discard_done : (word : Span) (before : List T.Stmt) (place : Place)
      → (Done total) (DiscardWord word before place) (mark k.Equal ∷ a_name ∷ leave_place place)
  unfolding leave_use
  discard_done word before place = discard_word _ word before place ((a_value total) (ForDiscard word before place))

  statement_done : (before : List T.Stmt) (place : Place) → (Done total) (StmtWanted before place) (a_name ∷ leave_place place)
  unfolding leave_use leave_spot
  statement_done before place = stmt_wanted _ before place (λ e. (leaves total) (beginning (ForTarget before place)) e [] 0)

  -- arguments
  arguments_opened : (brackets : Brackets) (callee : Callee) (spot : Spot) → callee.brackets ≡ brackets
      → (Done total) (ArgumentsOpened callee spot) (closing brackets ∷ leave_spot spot)
  unfolding step
  arguments_opened Round callee spot h =
      (over total) _ (with_arguments callee [] (mark k.RightParen).span spot) _ _ (rw (h, step) refl) ((leaves total) spot _ _ _)
  arguments_opened Square callee spot h =
      (over total) _ (with_arguments callee [] (mark k.RightBracket).span spot) _ _ (rw (h, step) refl) ((leaves total) spot _ _ _)

  name_paren_like : (callee : Callee) (args : List T.Arg) (text : List ℕ) (token : Span) (spot : Spot) (n : ℕ)
      → step (ArgumentName callee args text token spot) (mark k.RightParen) n ≡ step
      (Valued (node.postfix (node.named text token) [] 0) (ForArgument callee args None spot)) (mark k.RightParen) n
  unfolding step prefixed
  name_paren_like callee args text token spot n = refl

  name_bracket_like : (callee : Callee) (args : List T.Arg) (text : List ℕ) (token : Span) (spot : Spot) (n : ℕ)
      → step (ArgumentName callee args text token spot) (mark k.RightBracket) n ≡ step
      (Valued (node.postfix (node.named text token) [] 0) (ForArgument callee args None spot)) (mark k.RightBracket) n
  unfolding step prefixed
  name_bracket_like callee args text token spot n = refl

  argument_name_at : (brackets : Brackets) (callee : Callee) (args : List T.Arg) (text : List ℕ) (token : Span) (spot : Spot) (ts : List Token)
      → (Done total) (Valued (node.postfix (node.named text token) [] 0) (ForArgument callee args None spot)) (closing brackets ∷ ts)
      → (Done total) (ArgumentName callee args text token spot) (closing brackets ∷ ts)
  argument_name_at Round callee args text token spot ts d = (like total) _ _ _ _ (name_paren_like callee args text token spot _) d
  argument_name_at Square callee args text token spot ts d = (like total) _ _ _ _ (name_bracket_like callee args text token spot _) d

  argument_name_done : (callee : Callee) (args : List T.Arg) (text : List ℕ) (token : Span) (spot : Spot)
      → (Done total) (ArgumentName callee args text token spot) (closing callee.brackets ∷ leave_spot spot)
  argument_name_done callee args text token spot =
      argument_name_at callee.brackets callee args text token spot _ ((argument_done total) _ callee args None spot ((leaves total) spot))

  operated_like : (e : T.Expr) (tiers : Tiers) (u : Use) (kind : TokenKind) (n : ℕ) → infix_of kind ≡ None
      → step (Operated e tiers u) (mark kind) n ≡ step (Valued (joined Disjunction e tiers) u) (mark kind) n
  unfolding step
  operated_like e tiers u kind n h = rw (h, step) refl

  operated_at : (e : T.Expr) (tiers : Tiers) (u : Use) (ts : List Token) → (Begins total) ts → (Done total) (Valued (joined Disjunction e tiers) u) ts
      → (Done total) (Operated e tiers u) ts
  operated_at e tiers u ts b d =
      let e' = b.are in
      let d' : (Done total) (Valued (joined Disjunction e tiers) u) (mark b.kind ∷ b.more) = (d.0, sym (ap (run total _) e') ∙ d.1) in
      let l = (like total) (Operated e tiers u) _ (mark b.kind) b.more (operated_like e tiers u b.kind _ b.no_operator) d' in
      (l.0, ap (run total _) e' ∙ l.1)

  operated_done : (e : T.Expr) (tiers : Tiers) (u : Use) → (Done total) (Operated e tiers u) (leave_use u)
  operated_done e tiers u = operated_at e tiers u (leave_use u) ((begins_use total) u) ((leaves_use total) u _)

  named_field : (owner : Owner) (members : List T.Member) (start : Start) (name : Name)
      → (Done total) (TypeWanted (ForField owner members start name)) (a_name ∷ mark k.RightBrace ∷ [])
  unfolding leave_type
  named_field owner members start name = (a_type total) (ForField owner members start name)

  named_element : (word : Span) (spot : Spot)
      → (Done total) (TypeWanted (ForEmptyArray word spot)) (a_name ∷ mark k.Greater ∷ mark k.LeftParen ∷ mark k.RightParen ∷ leave_spot spot)
  unfolding leave_type
  named_element word spot = (a_type total) (ForEmptyArray word spot)

  named_parts : (word : Span) (u : TypeUse) → (Done total) (TypeWanted (ForElementType word u)) (a_name ∷ mark k.Greater ∷ leave_type u)
  unfolding leave_type
  named_parts word u = (a_type total) (ForElementType word u)

pub completes : (s : State) → Accepts s (completion s)
unfolding completion leave_spot
completes (FileReady decls to) total = file_done total decls to
completes (FileDone decls to) total = file_ended total decls to
completes (PublicDecl decls start) total = public_decl total decls start _ (function_done total _ _ _)
completes (DeclRead decls start kind to) total = decl_done total decls start kind to
completes (TypeWord opening) total = type_word total _ opening (λ name. type_name total _ opening name (members_done total _ _))
completes (TypeName opening name) total = type_name total _ opening name (members_done total _ _)
completes (TraitWord opening) total = trait_word total _ opening (λ name. trait_name total _ opening name (members_done total _ _))
completes (TraitName opening name) total = trait_name total _ opening name (members_done total _ _)
completes (ConformanceWord opening) total =
    conformance_word total _ opening
    (λ target. conformance_name total _ opening target (trait_wanted total _ opening _ _ (λ more. members_block total opening _ more)))
completes (ConformanceName opening target) total =
    conformance_name total _ opening target (trait_wanted total _ opening _ _ (λ more. members_block total opening _ more))
completes (TraitWanted opening subject traits) total = trait_wanted total _ opening subject traits (λ more. members_block total opening subject more)
completes (TraitListed opening subject traits) total = members_block total opening subject traits
completes (MembersReady owner members) total = members_done total owner members
completes (MembersDone owner members) total = members_ended total owner members
completes (PublicMember owner members start) total = public_member total owner members start _ (function_done total _ _ _)
completes (MemberRead owner members start kind to) total = member_done total owner members start kind to
completes (FieldWord owner members start) total =
    field_word total _ owner members start (λ name. field_name total _ owner members start name (named_field total owner members start name))
completes (FieldName owner members start name) total = field_name total _ owner members start name (named_field total owner members start name)
completes (MemberwiseWord owner members start) total = memberwise_word total _ owner members start (member_done total _ _ _ _ _)
completes (FunctionWord home start keyword) total = function_done total home start keyword
completes (FunctionName head) total = function_name total _ head (opened_params_done total head)
completes (SubscriptWord home start keyword) total = subscript_word total _ home start keyword (params_wanted_done total _)
completes (GenericWanted head) total = generic_wanted total _ head (λ name. generic_done total head name)
completes (GenericName head name) total = generic_done total head name
completes (BoundWanted head name bounds) total = bound_wanted total _ head name bounds (λ more. bounds_done total head name more)
completes (BoundListed head name bounds) total = bounds_done total head name bounds
completes (ParamsWanted head) total = params_wanted_done total head
completes (ParamsOpened head) total = opened_params_done total head
completes (ParamWanted head) total = param_wanted total _ head (λ name. first_done total head name)
completes (ParamFirst head name) total = first_done total head name
completes (ParamUnlabelled head from) total = param_unlabelled total _ head from (λ label name. param_name_done total head from label name)
completes (ParamName head from label name) total = param_name_done total head from label name
completes (ParamColon head from label name) total = colon_done total head from label name
completes (ParamRead head) total = param_read_done total head
completes (ParamsRead head to) total = params_done total head to
completes (EffectRead head to) total = effect_done total head to
completes (ResultRead head to) total = result_done total head to
completes (BodyWanted body) total = body_wanted total _ body (block_done total body _)
completes (BodyOpened head brace) total = opened_done total head brace
completes (BodyWord head brace introducer mode word) total = word_done total head brace introducer mode word
completes (VariantsRead head brace variants) total = variants_done total head brace variants
completes (SetWord head brace variants word) total = set_word total _ head brace variants word (set_opened_done total head brace variants word)
completes (SetOpened head brace variants word) total = set_opened_done total head brace variants word
completes (SetName head brace variants word name) total = set_name_done total head brace variants word name
completes (BlockOpened place) total = closes total place _ [] (opened_like total [] place refl)
completes (StmtWanted before place) total = statement_done total before place
completes (StmtRead before place) total = closes total place _ _ (like_read total before place)
completes (BindingWord introducer word before place) total =
    binding_word total _ introducer word before place (λ name. equal_done total introducer word name before place)
completes (BindingName introducer word name before place) total = equal_done total introducer word name before place
completes (BindingType introducer word name written before place) total = variable_done total introducer word name written before place
completes (DiscardWord word before place) total = discard_done total word before place
completes (ReturnWord word before place) total = closes total place _ _ (return_nothing_like total word before place)
completes (BranchRead from branches to before place) total = closes total place _ _ (branch_like total from branches to before place)
completes (BranchElse from branches before place) total = else_done total from branches before place
completes (Operand spot) total = operand_done total spot
completes (Postfixed primary steps to spot) total = leaves total spot primary steps to
completes (Operated e tiers u) total = operated_done total e tiers u
completes (Valued e u) total = leaves_use total u e
completes (Dotted primary steps spot) total = dotted total _ primary steps spot (λ more to. leaves total spot primary more to)
completes (PartsOpened bracket spot) total = parts_opened total _ bracket spot (λ e. leaves total spot e [] 0)
completes (PartsRead bracket es spot) total = parts_read total _ bracket es spot (λ e. leaves total spot e [] 0)
completes (ElementsRead bracket es spot) total = elements_read total _ bracket es spot (λ e. leaves total spot e [] 0)
completes (ArgumentsOpened callee spot) total = arguments_opened total callee.brackets callee spot refl
completes (ArgumentWanted callee args spot) total = argument_wanted total _ callee args spot (argument_name_done total callee args _ _ spot)
completes (ArgumentName callee args text token spot) total = argument_name_done total callee args text token spot
completes (ArgumentsRead callee args spot) total = arguments_done total callee.brackets callee args spot refl (leaves total spot)
completes (ArrayWord word spot) total = array_word total _ word spot (named_element total word spot)
completes (ArrayType word written spot) total = array_done total word written spot
completes (ArrayClosed word written spot) total = closed_array_done total word written spot
completes (ArrayOpened word written spot) total = array_opened total _ word written spot (λ e. leaves total spot e [] 0)
completes (ChoiceRead from choices spot) total = choices_done total from choices spot (leaves total spot)
completes (ChoiceElse from choices spot) total = otherwise_done total from choices spot (leaves total spot)
completes (TypeWanted u) total = a_type total u
completes (ArrayTypeWord word u) total = array_type_word total _ word u (named_parts total word u)
completes (ArrayTypeElement word written u) total = element_type_done total word written u _ (leaves_type total u)
completes (TypesOpened bracket u) total = types_opened total _ bracket u (leaves_type total u)
completes (TypesRead bracket parts u) total = parts_type_done total bracket parts u _ (leaves_type total u)
