-- What comes of a token that begins or ends a statement, or goes on with it.
use Rattle.std.specs.Prelude.{◌≡◌, Bool, true, false, if◌then◌else◌, List, [], ◌∷◌, Option, Some, None}
use Rattle.hy_base.specs.declared.position.Span.{Span}
use Rattle.hy_lexer.specs.declared.token.Token.{Token}
use Rattle.hy_lexer.specs.declared.token.TokenKind.{TokenKind}
use Rattle.hy_lexer.specs.declared.token.TokenKind.TheVariants as k
use Rattle.hy_tree.specs.declared.operator.Arithmetic.{Arithmetic}
use Rattle.hy_tree.specs.declared.operator.Introducer.TheVariants as introducer
use Rattle.hy_grammar.specs.Kinds.{compound_of}
use Rattle.hy_statements.specs.declared.statement_words.StmtWord.{StmtWord}
use Rattle.hy_statements.specs.declared.statement_words.StmtWord.TheVariants as word

-- the word that begins a statement, where a `break` may stand or not
abbrev pub word_of : Bool → TokenKind → Option StmtWord
word_of looping k.Var = Some (word.Bind introducer.Var)
word_of looping k.Let = Some (word.Bind introducer.Let)
word_of looping k.Inout = Some (word.Bind introducer.Inout)
word_of looping k.Underscore = Some word.Discard
word_of looping k.If = Some word.If
word_of looping k.While = Some word.While
word_of looping k.Return = Some word.Return
word_of looping k.Break = if looping then Some word.Break else None
word_of looping k.Continue = if looping then Some word.Continue else None
word_of looping k.Yield = Some word.Yield
word_of looping _ = None

-- such a word was taken
pub record TakesWord (looping : Bool) (old : List Token) (which : StmtWord) (span : Span) (new : List Token) : Type 0 where
  pub token : Token
  pub is : word_of looping token.kind ≡ Some which
  pub stands : token.span ≡ span
  pub front : old ≡ token ∷ new

-- none comes next
abbrev pub LacksWord : Bool → List Token → Type 0
LacksWord looping [] = Unit {0}
LacksWord looping (t ∷ ts) = word_of looping t.kind ≡ None

-- the operator of a compound assignment was taken
pub record TakesCompound (old : List Token) (operator : Arithmetic) (new : List Token) : Type 0 where
  pub token : Token
  pub is : compound_of token.kind ≡ Some operator
  pub front : old ≡ token ∷ new

-- none comes next
abbrev pub LacksCompound : List Token → Type 0
LacksCompound [] = Unit {0}
LacksCompound (t ∷ ts) = compound_of t.kind ≡ None

-- the next token is the first on its line
abbrev pub begins_line : List Token → Bool
begins_line [] = false
begins_line (t ∷ ts) = t.first

abbrev pub ends_before : TokenKind → Bool → Bool
ends_before k.Semicolon first = true
ends_before k.RightBrace first = true
ends_before _ first = first

-- a statement that has said all it needs ends before the next token
abbrev pub ends_here : List Token → Bool
ends_here [] = true
ends_here (t ∷ ts) = ends_before t.kind t.first
