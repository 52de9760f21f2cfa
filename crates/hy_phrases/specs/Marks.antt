-- Kinds of tokens without a value, by name.
use Rattle.std.specs.Prelude.{Option, Some, None}
use Rattle.hy_lexer.specs.declared.token.TokenKind.{TokenKind}
use Rattle.hy_lexer.specs.declared.token.TokenKind.TheVariants as k
use Rattle.hy_phrases.specs.declared.mark.Mark.{Mark}
use Rattle.hy_phrases.specs.declared.mark.Mark.TheVariants as m

abbrev pub kind_of : Mark → TokenKind
kind_of m.LeftParen = k.LeftParen
kind_of m.RightParen = k.RightParen
kind_of m.LeftBracket = k.LeftBracket
kind_of m.RightBracket = k.RightBracket
kind_of m.LeftBrace = k.LeftBrace
kind_of m.RightBrace = k.RightBrace
kind_of m.Less = k.Less
kind_of m.Greater = k.Greater
kind_of m.Equal = k.Equal
kind_of m.Ampersand = k.Ampersand
kind_of m.Dot = k.Dot
kind_of m.Comma = k.Comma
kind_of m.Colon = k.Colon
kind_of m.Semicolon = k.Semicolon
kind_of m.Arrow = k.Arrow
kind_of m.Underscore = k.Underscore
kind_of m.If = k.If
kind_of m.Else = k.Else
kind_of m.Public = k.Public
kind_of m.Fun = k.Fun
kind_of m.Subscript = k.Subscript
kind_of m.Set = k.Set
kind_of m.Init = k.Init

abbrev pub mark_of : TokenKind → Option Mark
mark_of k.LeftParen = Some m.LeftParen
mark_of k.RightParen = Some m.RightParen
mark_of k.LeftBracket = Some m.LeftBracket
mark_of k.RightBracket = Some m.RightBracket
mark_of k.LeftBrace = Some m.LeftBrace
mark_of k.RightBrace = Some m.RightBrace
mark_of k.Less = Some m.Less
mark_of k.Greater = Some m.Greater
mark_of k.Equal = Some m.Equal
mark_of k.Ampersand = Some m.Ampersand
mark_of k.Dot = Some m.Dot
mark_of k.Comma = Some m.Comma
mark_of k.Colon = Some m.Colon
mark_of k.Semicolon = Some m.Semicolon
mark_of k.Arrow = Some m.Arrow
mark_of k.Underscore = Some m.Underscore
mark_of k.If = Some m.If
mark_of k.Else = Some m.Else
mark_of k.Public = Some m.Public
mark_of k.Fun = Some m.Fun
mark_of k.Subscript = Some m.Subscript
mark_of k.Set = Some m.Set
mark_of k.Init = Some m.Init
mark_of _ = None
