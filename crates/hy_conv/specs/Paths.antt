-- Paths through the statements of a body, as far as `yield` goes. Conditions are ignored: each branch may be taken, and a loop may run
-- no, one or several times. `docs/CONVENTIONS.md` has examples.
use Rattle.std.specs.Prelude.{◌≡◌, ◌⊎◌, Bool as Truth, true, false, List, [], ◌∷◌, ◌++◌, Option}
use Rattle.hy_base.specs.declared.position.Span.{Span}
use Rattle.hy_tree.specs.Tree as T

-- how a path leaves statements: it comes to their end, or by `return`, `break` or `continue`
pub data Ending : Type 0 where
  Falls : Ending
  Returns : Ending
  Breaks : Ending
  Continues : Ending

abbrev pub falls : Ending → Truth
falls Falls = true
falls Returns = false
falls Breaks = false
falls Continues = false

abbrev pub returns : Ending → Truth
returns Falls = false
returns Returns = true
returns Breaks = false
returns Continues = false

abbrev pub breaks : Ending → Truth
breaks Falls = false
breaks Returns = false
breaks Breaks = true
breaks Continues = false

abbrev pub continues : Ending → Truth
continues Falls = false
continues Returns = false
continues Breaks = false
continues Continues = true

-- another pass of the loop may follow
abbrev pub goes_round : Ending → Truth
goes_round Falls = true
goes_round Returns = false
goes_round Breaks = false
goes_round Continues = true

-- a statement that holds no others, and only goes on
abbrev pub is_plain : T.Stmt → Truth
is_plain (T.Binding introducer name written value at) = true
is_plain (T.Declare name written at) = true
is_plain (T.Assign target value at) = true
is_plain (T.Compound target operator value at) = true
is_plain (T.Evaluate value at) = true
is_plain (T.If branches otherwise at) = false
is_plain (T.While token condition body at) = false
is_plain (T.Return token value at) = false
is_plain (T.Break at) = false
is_plain (T.Continue at) = false
is_plain (T.Yield token value at) = false

mutual
  -- a path through a statement: the tokens of the `yield`s on it, in order, and how it ends
  pub data Through : T.Stmt → List Span → Ending → Type 0 where
    plain : {s : T.Stmt} → is_plain s ≡ true → Through s [] Falls
    branch : {branches : T.Branches} {otherwise : T.Otherwise} {at : T.At} {tokens : List Span} {e : Ending}
        → ThroughBranches branches tokens e → Through (T.If branches otherwise at) tokens e
    no_branch : {branches : T.Branches} {otherwise : T.Otherwise} {at : T.At} {tokens : List Span} {e : Ending}
        → ThroughOtherwise otherwise tokens e → Through (T.If branches otherwise at) tokens e
    loop : {token : Span} {condition : T.Expr} {body : T.Block} {at : T.At} {tokens : List Span} {e : Ending}
        → Passes body tokens e → Through (T.While token condition body at) tokens e
    returned : {token : Span} {value : Option T.Expr} {at : T.At} → Through (T.Return token value at) [] Returns
    broken : {at : T.At} → Through (T.Break at) [] Breaks
    continued : {at : T.At} → Through (T.Continue at) [] Continues
    yielded : {token : Span} {value : T.Expr} {at : T.At} → Through (T.Yield token value at) (token ∷ []) Falls

  pub data ThroughAll : T.Stmts → List Span → Ending → Type 0 where
    end : ThroughAll T.NoStmt [] Falls
    left : {s : T.Stmt} {more : T.Stmts} {tokens : List Span} {e : Ending} → Through s tokens e → falls e ≡ false → ThroughAll (T.ThenStmt s more) tokens e
    next : {s : T.Stmt} {more : T.Stmts} {first rest : List Span} {e : Ending} → Through s first Falls → ThroughAll more rest e
        → ThroughAll (T.ThenStmt s more) (first ++ rest) e

  pub data ThroughBlock : T.Block → List Span → Ending → Type 0 where
    braces : {stmts : T.Stmts} {at : T.At} {tokens : List Span} {e : Ending} → ThroughAll stmts tokens e → ThroughBlock (T.Braces stmts at) tokens e

  -- one of the branches is taken
  pub data ThroughBranches : T.Branches → List Span → Ending → Type 0 where
    taken : {token : Span} {condition : T.Expr} {body : T.Block} {more : T.Branches} {tokens : List Span} {e : Ending}
        → ThroughBlock body tokens e → ThroughBranches (T.ThenBranch token condition body more) tokens e
    passed : {token : Span} {condition : T.Expr} {body : T.Block} {more : T.Branches} {tokens : List Span} {e : Ending}
        → ThroughBranches more tokens e → ThroughBranches (T.ThenBranch token condition body more) tokens e

  -- none is taken
  pub data ThroughOtherwise : T.Otherwise → List Span → Ending → Type 0 where
    no_else : ThroughOtherwise T.NoElse [] Falls
    else : {body : T.Block} {tokens : List Span} {e : Ending} → ThroughBlock body tokens e → ThroughOtherwise (T.Else body) tokens e

  -- the passes of a loop
  pub data Passes : T.Block → List Span → Ending → Type 0 where
    no_pass : {body : T.Block} → Passes body [] Falls
    last_pass : {body : T.Block} {tokens : List Span} → ThroughBlock body tokens Breaks → Passes body tokens Falls
    return_pass : {body : T.Block} {tokens : List Span} → ThroughBlock body tokens Returns → Passes body tokens Returns
    one_more : {body : T.Block} {first rest : List Span} {round e : Ending} → ThroughBlock body first round → goes_round round ≡ true → Passes body rest e
        → Passes body (first ++ rest) e

-- the token stands on a path
abbrev pub Has : Span → List Span → Type 0
Has token [] = ⊥
Has token (one ∷ more) = (one ≡ token) ⊎ Has token more

-- the token stands on a path after another
abbrev pub IsLater : Span → List Span → Type 0
IsLater token [] = ⊥
IsLater token (one ∷ more) = Has token more
