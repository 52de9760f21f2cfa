-- The reserved words and the marks, each with its token.
use Rattle.std.specs.Prelude.{ℕ, List, [], ◌∷◌, ◌++◌, codes, cond, Option, Some, None}
use Rattle.std.specs.Option.{unwrap_or}
use Rattle.std.specs.Str.{bytes_eq}
use Rattle.hy_lexer.specs.declared.token.TokenKind.{TokenKind}
use Rattle.hy_lexer.specs.declared.token.TokenKind.TheVariants as token

-- the token that a text spells, by a table of texts with their tokens
abbrev pub kind_in : List (List ℕ × TokenKind) → List ℕ → Option TokenKind
kind_in [] text = None
kind_in (row ∷ table) text = cond (bytes_eq text row.0) (Some row.1) (kind_in table text)

abbrev pub conventions : List (List ℕ × TokenKind)
conventions = (codes "let", token.Let) ∷ (codes "var", token.Var) ∷ (codes "inout", token.Inout) ∷ (codes "sink", token.Sink) ∷ (codes "set", token.Set) ∷
    (codes "yielded", token.Yielded) ∷ []

abbrev pub declarations : List (List ℕ × TokenKind)
declarations = (codes "fun", token.Fun) ∷ (codes "subscript", token.Subscript) ∷ (codes "type", token.Type) ∷ (codes "trait", token.Trait) ∷
    (codes "conformance", token.Conformance)
    ∷ (codes "public", token.Public) ∷ (codes "memberwise", token.Memberwise) ∷ (codes "init", token.Init) ∷ (codes "deinit", token.Deinit) ∷ []

abbrev pub statements : List (List ℕ × TokenKind)
statements = (codes "if", token.If) ∷ (codes "else", token.Else) ∷ (codes "while", token.While) ∷ (codes "for", token.For) ∷ (codes "in", token.In) ∷
    (codes "return", token.Return)
    ∷ (codes "break", token.Break) ∷ (codes "continue", token.Continue) ∷ (codes "yield", token.Yield) ∷ []

abbrev pub values : List (List ℕ × TokenKind)
values = (codes "true", token.True) ∷ (codes "false", token.False) ∷ (codes "self", token.SelfValue) ∷ (codes "Self", token.SelfType) ∷
    (codes "Array", token.Array) ∷ (codes "_", token.Underscore) ∷ []

-- the words that are no names
abbrev pub reserved : List (List ℕ × TokenKind)
reserved = conventions ++ (declarations ++ (statements ++ values))

-- the token of a word
abbrev pub word_token : List ℕ → TokenKind
word_token word = unwrap_or (kind_in reserved word) (token.Name word)

-- marks of two bytes
abbrev pub pairs : List (List ℕ × TokenKind)
pairs = (codes "<=", token.LessEqual) ∷ (codes ">=", token.GreaterEqual) ∷ (codes "==", token.EqualEqual) ∷ (codes "!=", token.NotEqual) ∷
    (codes "&&", token.AndAnd) ∷ (codes "||", token.OrOr)
    ∷ (codes "+=", token.PlusEqual) ∷ (codes "-=", token.MinusEqual) ∷ (codes "*=", token.StarEqual) ∷ (codes "/=", token.SlashEqual) ∷
    (codes "%=", token.PercentEqual) ∷ (codes "->", token.Arrow) ∷ []

-- marks of one byte
abbrev pub singles : List (List ℕ × TokenKind)
singles = (codes "(", token.LeftParen) ∷ (codes ")", token.RightParen) ∷ (codes "[", token.LeftBracket) ∷ (codes "]", token.RightBracket) ∷
    (codes "{", token.LeftBrace) ∷ (codes "}", token.RightBrace)
    ∷ (codes "<", token.Less) ∷ (codes ">", token.Greater) ∷ (codes "+", token.Plus) ∷ (codes "-", token.Minus) ∷ (codes "*", token.Star) ∷
    (codes "/", token.Slash) ∷ (codes "%", token.Percent)
    ∷ (codes "!", token.Not) ∷ (codes "&", token.Ampersand) ∷ (codes "=", token.Equal) ∷ (codes ".", token.Dot) ∷ (codes ",", token.Comma) ∷
    (codes ":", token.Colon) ∷ (codes ";", token.Semicolon) ∷ []

abbrev pub marks : List (List ℕ × TokenKind)
marks = pairs ++ singles
