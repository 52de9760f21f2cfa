-- How the machine goes on at a token of a written type.
use Rattle.std.specs.Prelude.{List, [], ◌∷◌, ◌++◌, Option, Some, None}
use Rattle.hy_base.specs.declared.position.Span.{Span}
use Rattle.hy_lexer.specs.declared.token.TokenKind.{TokenKind}
use Rattle.hy_lexer.specs.declared.token.TokenKind.TheVariants as k
use Rattle.hy_tree.specs.Tree as T
use Rattle.hy_grammar.specs.Nodes as node
use Rattle.hy_grammar.specs.Stack.{Head, TypeUse, ForElementType, ForTypePart, ForEmptyArray, ForVariable, ForParam, ForResult, ForField, State, TypeWanted}
use Rattle.hy_grammar.specs.Stack.{ArrayTypeWord, ArrayTypeElement, TypesOpened, TypesRead, ArrayType, BindingType, ParamRead, ResultRead, MemberRead}

abbrev pub with_param : Head → T.Param → Head
with_param head param = record head { params = head.params ++ param ∷ [] }

abbrev pub with_result : Head → T.TypeExp → Head
with_result head written = record head { result = Some written }

-- after a type
abbrev pub typed : T.TypeExp → TypeUse → State
typed written (ForElementType word u) = ArrayTypeElement word written u
typed written (ForTypePart bracket parts u) = TypesRead bracket (parts ++ written ∷ []) u
typed written (ForEmptyArray word spot) = ArrayType word written spot
typed written (ForVariable introducer word name before place) = BindingType introducer word name written before place
typed written (ForParam head from label name mode) = ParamRead (with_param head (node.param from label name mode written))
typed written (ForResult head) = ResultRead (with_result head written) (node.type_to written)
typed written (ForField owner members start name) = MemberRead owner members start (T.Field name written) (node.type_to written)

abbrev pub at_type : TokenKind → Span → TypeUse → Option State
at_type (k.Name text) t u = Some (typed (node.named_type text t) u)
at_type k.SelfType t u = Some (typed (node.self_type t) u)
at_type k.Array t u = Some (ArrayTypeWord t u)
at_type k.LeftParen t u = Some (TypesOpened t u)
at_type _ t u = None

abbrev pub at_types_opened : TokenKind → Span → Span → TypeUse → Option State
at_types_opened k.RightParen t bracket u = Some (typed (node.types bracket [] t) u)
at_types_opened kind t bracket u = at_type kind t (ForTypePart bracket [] u)

abbrev pub at_types_read : TokenKind → Span → Span → List T.TypeExp → TypeUse → Option State
at_types_read k.Comma t bracket parts u = Some (TypeWanted (ForTypePart bracket parts u))
at_types_read k.RightParen t bracket parts u = Some (typed (node.types bracket parts t) u)
at_types_read _ t bracket parts u = None
