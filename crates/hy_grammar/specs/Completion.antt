-- From each state there is a way to the end of a program.
use Rattle.std.specs.Prelude.{◌≡◌, ℕ, false, Ok, List, [], ◌∷◌, codes}
use Rattle.hy_lexer.specs.declared.token.Token.{Token}
use Rattle.hy_lexer.specs.declared.token.TokenKind.{TokenKind}
use Rattle.hy_lexer.specs.declared.token.TokenKind.TheVariants as k
use Rattle.hy_tree.specs.Tree as T
use Rattle.hy_grammar.specs.DeclSteps.{sort_in}
use Rattle.hy_grammar.specs.Machine.{run}
use Rattle.hy_grammar.specs.Stack.{Home, InFile, InOwner, Sort, Requirement, Subscript, Head, Body, PlainBody, VariantBody, Brackets, Round, Square, Place}
use Rattle.hy_grammar.specs.Stack.{InBody, InBranch, InElse, InLoop, Use, ForTarget, ForBinding, ForAssigned, ForCompound, ForDiscard, ForReturn, ForYield}
use Rattle.hy_grammar.specs.Stack.{ForBranch, ForLoop, ForPart, ForElement, ForArgument, ForCondition, ForChoice, ForOtherwise, Spot, InExpr, TypeUse}
use Rattle.hy_grammar.specs.Stack.{ForElementType, ForTypePart, ForEmptyArray, ForVariable, ForParam, ForResult, ForField, State, FileReady, FileDone}
use Rattle.hy_grammar.specs.Stack.{PublicDecl, DeclRead, TypeWord, TypeName, TraitWord, TraitName, ConformanceWord, ConformanceName, TraitWanted}
use Rattle.hy_grammar.specs.Stack.{TraitListed, MembersReady, MembersDone, PublicMember, MemberRead, FieldWord, FieldName, MemberwiseWord, FunctionWord}
use Rattle.hy_grammar.specs.Stack.{FunctionName, SubscriptWord, GenericWanted, GenericName, BoundWanted, BoundListed, ParamsWanted, ParamsOpened}
use Rattle.hy_grammar.specs.Stack.{ParamWanted, ParamFirst, ParamUnlabelled, ParamName, ParamColon, ParamRead, ParamsRead, EffectRead, ResultRead}
use Rattle.hy_grammar.specs.Stack.{BodyWanted, BodyOpened, BodyWord, VariantsRead, SetWord, SetOpened, SetName, BlockOpened, StmtWanted, StmtRead}
use Rattle.hy_grammar.specs.Stack.{BindingWord, BindingName, BindingType, DiscardWord, ReturnWord, BranchRead, BranchElse, Operand, Postfixed, Operated}
use Rattle.hy_grammar.specs.Stack.{Valued, Dotted, PartsOpened, PartsRead, ElementsRead, ArgumentsOpened, ArgumentWanted, ArgumentName, ArgumentsRead}
use Rattle.hy_grammar.specs.Stack.{ArrayWord, ArrayType, ArrayClosed, ArrayOpened, ChoiceRead, ChoiceElse, TypeWanted, ArrayTypeWord, ArrayTypeElement}
use Rattle.hy_grammar.specs.Stack.{TypesOpened, TypesRead}

abbrev pub mark : TokenKind → Token
mark kind = record { kind = kind; span = record { from = 0; to = 0 }; first = false }

abbrev pub a_name : Token
a_name = mark (k.Name (codes "x"))

-- after a declaration, or a member
unfoldable pub leave_home : Home → List Token
leave_home (InFile decls) = []
leave_home (InOwner owner members) = mark k.RightBrace ∷ []

-- in place of the body
unfoldable pub leave_sort : Sort → Home → List Token
leave_sort Requirement home = mark k.Semicolon ∷ leave_home home
leave_sort _ home = mark k.LeftBrace ∷ mark k.RightBrace ∷ leave_home home

-- after the parameters
unfoldable pub leave_params : Sort → Home → List Token
leave_params Subscript home = mark k.Colon ∷ a_name ∷ leave_sort Subscript home
leave_params sort home = leave_sort sort home

abbrev pub leave_head : Head → List Token
leave_head head = leave_params head.sort head.home

-- after the block of a body
unfoldable pub leave_body : Body → List Token
leave_body (PlainBody head) = leave_home head.home
leave_body (VariantBody head brace variants keyword mode value) = mark k.RightBrace ∷ leave_home head.home

-- after a statement
unfoldable pub leave_place : Place → List Token
leave_place (InBody body brace) = mark k.RightBrace ∷ leave_body body
leave_place (InBranch from branches word condition brace before place) = mark k.RightBrace ∷ leave_place place
leave_place (InElse from branches brace before place) = mark k.RightBrace ∷ leave_place place
leave_place (InLoop word condition brace before place) = mark k.RightBrace ∷ leave_place place

abbrev pub closing : Brackets → Token
closing Round = mark k.RightParen
closing Square = mark k.RightBracket

-- an `else` with a value, in front of others
abbrev pub a_choice : List Token → List Token
a_choice more = mark k.Else ∷ mark k.LeftBrace ∷ a_name ∷ mark k.RightBrace ∷ more

unfoldable mutual
  -- after an expression
  pub leave_use : Use → List Token
  leave_use (ForTarget before place) = leave_place place
  leave_use (ForBinding introducer word name written before place) = leave_place place
  leave_use (ForAssigned target before place) = leave_place place
  leave_use (ForCompound target operator before place) = leave_place place
  leave_use (ForDiscard word before place) = leave_place place
  leave_use (ForReturn word before place) = leave_place place
  leave_use (ForYield word before place) = leave_place place
  leave_use (ForBranch from branches word before place) = mark k.LeftBrace ∷ mark k.RightBrace ∷ leave_place place
  leave_use (ForLoop word before place) = mark k.LeftBrace ∷ mark k.RightBrace ∷ leave_place place
  leave_use (ForPart bracket es spot) = mark k.RightParen ∷ leave_spot spot
  leave_use (ForElement bracket es spot) = mark k.RightBracket ∷ leave_spot spot
  leave_use (ForArgument callee args label spot) = closing callee.brackets ∷ leave_spot spot
  leave_use (ForCondition from choices word spot) = mark k.LeftBrace ∷ a_name ∷ mark k.RightBrace ∷ a_choice (leave_spot spot)
  leave_use (ForChoice from choices word condition spot) = mark k.RightBrace ∷ a_choice (leave_spot spot)
  leave_use (ForOtherwise from choices spot) = mark k.RightBrace ∷ leave_spot spot

  -- after an operand
  pub leave_spot : Spot → List Token
  leave_spot (InExpr prefixes tiers u) = leave_use u

-- after a type
unfoldable pub leave_type : TypeUse → List Token
leave_type (ForElementType word u) = mark k.Greater ∷ leave_type u
leave_type (ForTypePart bracket parts u) = mark k.RightParen ∷ leave_type u
leave_type (ForEmptyArray word spot) = mark k.Greater ∷ mark k.LeftParen ∷ mark k.RightParen ∷ leave_spot spot
leave_type (ForVariable introducer word name before place) = mark k.Equal ∷ a_name ∷ leave_place place
leave_type (ForParam head from label name mode) = mark k.RightParen ∷ leave_head head
leave_type (ForResult head) = leave_sort head.sort head.home
leave_type (ForField owner members start name) = mark k.RightBrace ∷ []

abbrev pub empty_members : List Token
empty_members = mark k.LeftBrace ∷ mark k.RightBrace ∷ []

-- after `fun`
abbrev pub leave_function : Home → List Token
leave_function home = a_name ∷ mark k.LeftParen ∷ mark k.RightParen ∷ leave_params (sort_in home) home

-- tokens that lead from a state to the end of a program
unfoldable pub completion : State → List Token
completion (FileReady decls to) = []
completion (FileDone decls to) = []
completion (PublicDecl decls start) = mark k.Fun ∷ leave_function (InFile decls)
completion (DeclRead decls start kind to) = []
completion (TypeWord opening) = a_name ∷ empty_members
completion (TypeName opening name) = empty_members
completion (TraitWord opening) = a_name ∷ empty_members
completion (TraitName opening name) = empty_members
completion (ConformanceWord opening) = a_name ∷ mark k.Colon ∷ a_name ∷ empty_members
completion (ConformanceName opening target) = mark k.Colon ∷ a_name ∷ empty_members
completion (TraitWanted opening subject traits) = a_name ∷ empty_members
completion (TraitListed opening subject traits) = empty_members
completion (MembersReady owner members) = mark k.RightBrace ∷ []
completion (MembersDone owner members) = mark k.RightBrace ∷ []
completion (PublicMember owner members start) = mark k.Fun ∷ leave_function (InOwner owner members)
completion (MemberRead owner members start kind to) = mark k.RightBrace ∷ []
completion (FieldWord owner members start) = a_name ∷ mark k.Colon ∷ a_name ∷ mark k.RightBrace ∷ []
completion (FieldName owner members start name) = mark k.Colon ∷ a_name ∷ mark k.RightBrace ∷ []
completion (MemberwiseWord owner members start) = mark k.Init ∷ mark k.RightBrace ∷ []
completion (FunctionWord home start keyword) = leave_function home
completion (FunctionName head) = mark k.LeftParen ∷ mark k.RightParen ∷ leave_head head
completion (SubscriptWord home start keyword) = a_name ∷ mark k.LeftParen ∷ mark k.RightParen ∷ leave_params Subscript home
completion (GenericWanted head) = a_name ∷ mark k.Greater ∷ mark k.LeftParen ∷ mark k.RightParen ∷ leave_head head
completion (GenericName head name) = mark k.Greater ∷ mark k.LeftParen ∷ mark k.RightParen ∷ leave_head head
completion (BoundWanted head name bounds) = a_name ∷ mark k.Greater ∷ mark k.LeftParen ∷ mark k.RightParen ∷ leave_head head
completion (BoundListed head name bounds) = mark k.Greater ∷ mark k.LeftParen ∷ mark k.RightParen ∷ leave_head head
completion (ParamsWanted head) = mark k.LeftParen ∷ mark k.RightParen ∷ leave_head head
completion (ParamsOpened head) = mark k.RightParen ∷ leave_head head
completion (ParamWanted head) = a_name ∷ mark k.Colon ∷ a_name ∷ mark k.RightParen ∷ leave_head head
completion (ParamFirst head name) = mark k.Colon ∷ a_name ∷ mark k.RightParen ∷ leave_head head
completion (ParamUnlabelled head from) = a_name ∷ mark k.Colon ∷ a_name ∷ mark k.RightParen ∷ leave_head head
completion (ParamName head from label name) = mark k.Colon ∷ a_name ∷ mark k.RightParen ∷ leave_head head
completion (ParamColon head from label name) = a_name ∷ mark k.RightParen ∷ leave_head head
completion (ParamRead head) = mark k.RightParen ∷ leave_head head
completion (ParamsRead head to) = leave_head head
completion (EffectRead head to) = leave_sort head.sort head.home
completion (ResultRead head to) = leave_sort head.sort head.home
completion (BodyWanted body) = mark k.LeftBrace ∷ mark k.RightBrace ∷ leave_body body
completion (BodyOpened head brace) = mark k.RightBrace ∷ leave_home head.home
completion (BodyWord head brace introducer mode word) = mark k.LeftBrace ∷ mark k.RightBrace ∷ mark k.RightBrace ∷ leave_home head.home
completion (VariantsRead head brace variants) = mark k.RightBrace ∷ leave_home head.home
completion (SetWord head brace variants word) = mark k.LeftParen ∷ a_name ∷ mark k.RightParen ∷ mark k.LeftBrace ∷ mark k.RightBrace ∷ mark k.RightBrace ∷
    leave_home head.home
completion (SetOpened head brace variants word) = a_name ∷ mark k.RightParen ∷ mark k.LeftBrace ∷ mark k.RightBrace ∷ mark k.RightBrace ∷ leave_home head.home
completion (SetName head brace variants word name) = mark k.RightParen ∷ mark k.LeftBrace ∷ mark k.RightBrace ∷ mark k.RightBrace ∷ leave_home head.home
completion (BlockOpened place) = leave_place place
completion (StmtWanted before place) = a_name ∷ leave_place place
completion (StmtRead before place) = leave_place place
completion (BindingWord introducer word before place) = a_name ∷ mark k.Equal ∷ a_name ∷ leave_place place
completion (BindingName introducer word name before place) = mark k.Equal ∷ a_name ∷ leave_place place
completion (BindingType introducer word name written before place) = mark k.Equal ∷ a_name ∷ leave_place place
completion (DiscardWord word before place) = mark k.Equal ∷ a_name ∷ leave_place place
completion (ReturnWord word before place) = leave_place place
completion (BranchRead from branches to before place) = leave_place place
completion (BranchElse from branches before place) = mark k.LeftBrace ∷ mark k.RightBrace ∷ leave_place place
completion (Operand spot) = a_name ∷ leave_spot spot
completion (Postfixed primary steps to spot) = leave_spot spot
completion (Operated e tiers u) = leave_use u
completion (Valued e u) = leave_use u
completion (Dotted primary steps spot) = a_name ∷ leave_spot spot
completion (PartsOpened bracket spot) = mark k.RightParen ∷ leave_spot spot
completion (PartsRead bracket es spot) = mark k.RightParen ∷ leave_spot spot
completion (ElementsRead bracket es spot) = mark k.RightBracket ∷ leave_spot spot
completion (ArgumentsOpened callee spot) = closing callee.brackets ∷ leave_spot spot
completion (ArgumentWanted callee args spot) = a_name ∷ closing callee.brackets ∷ leave_spot spot
completion (ArgumentName callee args text token spot) = closing callee.brackets ∷ leave_spot spot
completion (ArgumentsRead callee args spot) = closing callee.brackets ∷ leave_spot spot
completion (ArrayWord word spot) = mark k.Less ∷ a_name ∷ mark k.Greater ∷ mark k.LeftParen ∷ mark k.RightParen ∷ leave_spot spot
completion (ArrayType word written spot) = mark k.Greater ∷ mark k.LeftParen ∷ mark k.RightParen ∷ leave_spot spot
completion (ArrayClosed word written spot) = mark k.LeftParen ∷ mark k.RightParen ∷ leave_spot spot
completion (ArrayOpened word written spot) = mark k.RightParen ∷ leave_spot spot
completion (ChoiceRead from choices spot) = a_choice (leave_spot spot)
completion (ChoiceElse from choices spot) = mark k.LeftBrace ∷ a_name ∷ mark k.RightBrace ∷ leave_spot spot
completion (TypeWanted u) = a_name ∷ leave_type u
completion (ArrayTypeWord word u) = mark k.Less ∷ a_name ∷ mark k.Greater ∷ leave_type u
completion (ArrayTypeElement word written u) = mark k.Greater ∷ leave_type u
completion (TypesOpened bracket u) = mark k.RightParen ∷ leave_type u
completion (TypesRead bracket parts u) = mark k.RightParen ∷ leave_type u

-- Tokens lead from a state to the end of a program, whatever the number of tokens of the file is.
abbrev pub Accepts : State → List Token → Type 0
Accepts s ts = (total : ℕ) → (tree : T.Program) × (run total s ts ≡ Ok tree)
