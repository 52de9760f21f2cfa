-- The grammar of written types. Each relation has the tokens before a part, the part, and the tokens after it.
use Rattle.std.specs.Prelude.{ℕ, List, [], ◌∷◌, ◌++◌}
use Rattle.hy_lexer.specs.declared.token.Token.{Token}
use Rattle.hy_lexer.specs.declared.token.TokenKind.TheVariants as k
use Rattle.hy_tree.specs.Tree as T
use Rattle.hy_grammar.specs.Kinds.{Is}
use Rattle.hy_grammar.specs.Nodes as node

mutual
  -- type = NAME | "Self" | "Array" "<" type ">" | "(" [ type { "," type } ] ")"
  pub data HasType : List Token → T.TypeExp → List Token → Type 0 where
    named_type : {t : Token} {text : List ℕ} {new : List Token} → Is t (k.Name text) → HasType (t ∷ new) (node.named_type text t.span) new
    self_type : {t : Token} {new : List Token} → Is t k.SelfType → HasType (t ∷ new) (node.self_type t.span) new
    array_type : {a l g : Token} {element : T.TypeExp} {old new : List Token} → Is a k.Array → Is l k.Less → HasType old element (g ∷ new) → Is g k.Greater
        → HasType (a ∷ l ∷ old) (node.array_type a.span element g.span) new
    no_types : {o c : Token} {new : List Token} → Is o k.LeftParen → Is c k.RightParen → HasType (o ∷ c ∷ new) (node.types o.span [] c.span) new
    types : {o c : Token} {parts : List T.TypeExp} {old new : List Token} → Is o k.LeftParen → HasTypes old parts (c ∷ new) → Is c k.RightParen
        → HasType (o ∷ old) (node.types o.span parts c.span) new

  -- type { "," type }
  pub data HasTypes : List Token → List T.TypeExp → List Token → Type 0 where
    one_type : {written : T.TypeExp} {old new : List Token} → HasType old written new → HasTypes old (written ∷ []) new
    more_types : {c : Token} {parts : List T.TypeExp} {written : T.TypeExp} {old mid new : List Token} → HasTypes old parts (c ∷ mid) → Is c k.Comma
        → HasType mid written new → HasTypes old (parts ++ written ∷ []) new
