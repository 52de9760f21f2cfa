-- Worked rows: what the machine makes of some lists of tokens.
use Rattle.std.specs.Prelude.{◌+◌, ℕ, zero, suc, pos, Bool, true, false, Option, Some, None, List, [], ◌∷◌, ◌++◌, length, codes, Result, Ok, Err}
use Rattle.hy_lexer.specs.declared.token.Token.{Token}
use Rattle.hy_lexer.specs.declared.token.TokenKind.{TokenKind}
use Rattle.hy_lexer.specs.declared.token.TokenKind.TheVariants as k
use Rattle.hy_tree.specs.Tree as T
use Rattle.hy_grammar.specs.Machine.{Halt, run, start, walk}

-- a token of one byte, that is the first on its line or not; the tokens after are numbered on
abbrev pub word : TokenKind → Bool → ℕ → Token
word kind first at = record { kind = kind; span = record { from = at; to = at + 1 }; first = first }

-- each token stands at its number
abbrev pub placed : ℕ → List (ℕ → Token) → List Token
placed at [] = []
placed at (make ∷ more) = make at ∷ placed (at + 1) more

-- on the line of the token before, and on a line of its own
abbrev pub same : TokenKind → ℕ → Token
same kind = word kind false

abbrev pub next : TokenKind → ℕ → Token
next kind = word kind true

abbrev pub x : TokenKind
x = k.Name (codes "x")

abbrev pub one : TokenKind
one = k.Number (pos 1)

-- `fun main() {` with these statements, and `}`
abbrev pub in_main : List (ℕ → Token) → List Token
in_main body = placed 0 (next k.Fun ∷ same (k.Name (codes "main")) ∷ same k.LeftParen ∷ same k.RightParen ∷ same k.LeftBrace ∷ body ++ same k.RightBrace ∷ [])

abbrev pub size_stmts : T.Stmts → ℕ
size_stmts T.NoStmt = 0
size_stmts (T.ThenStmt s more) = 1 + size_stmts more

abbrev pub size_block : T.Block → ℕ
size_block (T.Braces ss at) = size_stmts ss

abbrev pub size_variants : List T.Variant → ℕ
size_variants [] = 0
size_variants (v ∷ more) = size_block v.block + size_variants more

abbrev pub size_kind : T.DeclKind → ℕ
size_kind (T.DeclCallable c) = size_variants c.variants
size_kind _ = 0

abbrev pub size_decls : List T.Decl → ℕ
size_decls [] = 0
size_decls (d ∷ more) = size_kind d.kind + size_decls more

abbrev pub sized : Result T.Program ℕ → Result ℕ ℕ
sized (Ok tree) = Ok (size_decls tree.decls)
sized (Err left) = Err left

-- how many statements stand in the functions of a program, or how many tokens are left where the machine stops
unfoldable pub counted : List Token → Result ℕ ℕ
counted tokens = sized (run (length tokens) start tokens)

-- so many opened parentheses, in front of other tokens
abbrev pub opened : ℕ → List (ℕ → Token) → List (ℕ → Token)
opened zero more = more
opened (suc n) more = same k.LeftParen ∷ opened n more

-- `fun main() { var x = `, without its `}`
abbrev pub in_value : List (ℕ → Token) → List Token
in_value more =
    placed 0 (next k.Fun ∷ same (k.Name (codes "main")) ∷ same k.LeftParen ∷ same k.RightParen ∷ same k.LeftBrace ∷ same k.Var ∷ same x ∷ same k.Equal ∷
    more)

abbrev pub halted : Result T.Program Halt → Option Halt
halted (Ok tree) = None
halted (Err halt) = Some halt

-- where the machine with the limit stops
unfoldable pub stopped : List Token → Option Halt
stopped tokens = halted (walk (length tokens) start tokens)
