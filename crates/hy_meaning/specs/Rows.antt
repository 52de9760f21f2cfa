-- Worked examples of the copying meaning.
use Rattle.std.specs.Prelude.{◌≡◌, ℕ, true, false, [], ◌∷◌, ◌++◌, Some, None, codes, pos, ℤ, List}
use Rattle.hy_base.specs.declared.position.Span.{Span}
use Rattle.hy_base.specs.declared.run.End.TheVariants as end
use Rattle.hy_base.specs.declared.run.TrapKind.TheVariants as trap
use Rattle.hy_tree.specs.Tree as T
use Rattle.hy_tree.specs.declared.declaration.CallableKind.TheVariants as kind
use Rattle.hy_tree.specs.declared.name.Name.{Name}
use Rattle.hy_tree.specs.declared.operator.Arithmetic.TheVariants as arithmetic
use Rattle.hy_tree.specs.declared.operator.Introducer.TheVariants as introducer
use Rattle.hy_tree.specs.declared.operator.Mode.TheVariants as mode
use Rattle.hy_tree.specs.declared.operator.Operator.TheVariants as operator
use Rattle.hy_meaning.specs.Meaning.{mean}

abbrev pub span : ℕ → ℕ → Span
span from to = record { from = from; to = to }

abbrev pub at : ℕ → ℕ → T.At
at from to = record { span = span from to; node = 0 }

abbrev pub spelled : List ℕ → ℕ → ℕ → Name
spelled text from to = record { text = text; span = span from to }

abbrev pub named : List ℕ → ℕ → ℕ → T.Expr
named text from to = T.Named (spelled text from to) (at from to)

abbrev pub number : ℤ → ℕ → ℕ → T.Expr
number n from to = T.Number n (at from to)

-- `+` with its right operand, from the sum's start to the operand's end
abbrev pub plus : ℕ → ℕ → T.Expr → T.Links → T.Links
plus from to operand more = T.ThenLink (operator.Arithmetic arithmetic.Add) (span from to) operand (at from to) more

-- `print(value)`
abbrev pub print : T.Expr → ℕ → ℕ → T.Stmt
print value from to =
    T.Evaluate (T.Postfix (named (codes "print") from to) (T.ThenStep (T.CallStep (T.ThenArg None value T.NoArg) (at from to)) T.NoStep) (at from to))
    (at from to)

-- `fun main() { .. }`
abbrev pub main : T.Stmts → T.Program
main stmts = record {
  decls = record {
    public = false;
    kind = T.DeclCallable (record {
      kind = kind.Function;
      keyword = span 0 3;
      name = Some (spelled (codes "main") 4 8);
      generics = [];
      params = [];
      effect = None;
      result = None;
      variants = record { mode = mode.Let; keyword = None; value = None; block = T.Braces stmts (at 11 0); at = at 11 0 } ∷ [];
      at = at 0 0;
    });
    tokens = 0;
    at = at 0 0;
  } ∷ [];
  at = at 0 0;
}

-- fun main() { var x = 40; x = x + 2; print(x) }
abbrev pub sum : T.Program
sum = main (T.ThenStmt (T.Binding introducer.Var (spelled (codes "x") 17 18) None (number (pos 40) 21 23) (at 13 23))
    (T.ThenStmt (T.Assign (named (codes "x") 25 26) (T.Chain (named (codes "x") 29 30) (plus 29 34 (number (pos 2) 33 34) T.NoLink) (at 29 34)) (at 25 34))
    (T.ThenStmt (print (named (codes "x") 42 43) 36 44) T.NoStmt)))

-- fun main() { print(9223372036854775807 + 1 + 1) }
abbrev pub overflow : T.Program
overflow = main (T.ThenStmt
    (print (T.Chain (number (pos 9223372036854775807) 19 38) (plus 19 42 (number (pos 1) 41 42) (plus 19 46 (number (pos 1) 45 46) T.NoLink))
    (at 19 46)) 13 47) T.NoStmt)

pub record Rows : Type 0 where
  pub sum_is_printed : mean sum [] false 1000 ≡ record { output = codes "42" ++ 10 ∷ []; end = end.Done; taken = 0; turns = 1; opened = 0 }
  pub sum_traps : mean overflow [] true 5 ≡ record {
    output = [];
    end = end.Trap trap.Overflow (record { from = 19; to = 42 });
    taken = 0;
    turns = 1;
    opened = 0;
  }
  pub no_turn : mean sum [] false 0 ≡ record { output = []; end = end.Spent; taken = 0; turns = 0; opened = 0 }
