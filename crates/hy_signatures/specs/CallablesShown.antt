-- What the code's table of functions, methods, subscripts, bodies of `deinit` and requirements shows.
use Rattle.std.specs.Prelude.{◌≡◌, ◌==◌, ℕ, List, Option, Some, map}
use Rattle.std.specs.Map.{lookup}
use Rattle.std.specs.Option.{option_map}
use Rattle.hy_tree.specs.Denotes.{callable_of}
use Rattle.hy_tree.specs.Names.{or}
use Rattle.hy_tree.specs.Tree as T
use Rattle.hy_types.specs.Types.{Table, PlainTypes, Extends}
use Rattle.hy_signatures.specs.Declarations.{Source, written_type, result_type, callable_at}
use Rattle.hy_signatures.specs.Numbered.{IsNumber, AreNumbers}
use Rattle.hy_signatures.specs.PlainTypes.{types}
use Rattle.hy_signatures.specs.declared.callables.CallableTypes.{CallableTypes}
use Rattle.hy_signatures.specs.declared.callables.Callables.{Callables}

-- what is kept for a node
abbrev pub row_at : Callables → ℕ → Option CallableTypes
row_at callables node = lookup (λ other. node == other) callables.rows.entries

-- what is declared at a node
abbrev pub callables_shown : Callables → ℕ → Option T.Callable
callables_shown callables node = option_map (λ row. callable_of row.callable.now) (row_at callables node)

abbrev pub parameter_types : Source → List T.Param → PlainTypes
parameter_types source params = types (map (λ p. written_type source p.written) params)

-- the types of the parameters, and the one that is given
pub record HasTypes (table : Table) (source : Source) (c : T.Callable) (row : CallableTypes) : Type 0 where
  pub params : AreNumbers table (parameter_types source c.params) row.params
  pub result : IsNumber table (result_type source c.result) row.result

-- all that is kept is right
abbrev pub HaveTypes : Table → Source → Callables → Type 0
HaveTypes table source callables = (node : ℕ) (row : CallableTypes) → row_at callables node ≡ Some row
    → HasTypes table source (callable_of row.callable.now) row

-- What is kept after some declarations, of which `one` says what stands at a node: all that was kept before, and they. What was kept
-- first stays.
pub record Keeps (old new : Table) (source : Source) (before after : Callables) (one : ℕ → Option T.Callable) : Type 0 where
  pub shown : (node : ℕ) → callables_shown after node ≡ or (callables_shown before node) (one node)
  pub types : HaveTypes old source before → HaveTypes new source after
  pub stays : Extends old new

-- the table of a source
pub record AreCallables (table : Table) (source : Source) (callables : Callables) : Type 0 where
  pub shown : (node : ℕ) → callables_shown callables node ≡ callable_at node source.decls
  pub types : HaveTypes table source callables
