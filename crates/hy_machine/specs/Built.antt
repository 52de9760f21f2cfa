-- The objects that the machine runs.
use Rattle.std.specs.Prelude.{◌≡◌, [], ◌∷◌}
use Rattle.std.specs.List.{AllByRecursion}
use Rattle.hy_object.specs.declared.object.Object.{Object}
use Rattle.hy_object.specs.declared.object.Fun.{Fun}
use Rattle.hy_object.specs.declared.instr.Place.{Place}
use Rattle.hy_object.specs.declared.instr.Instr.{Instr}
use Rattle.hy_object.specs.declared.instr.Instr.TheVariants as instr

-- a place in the own frame
abbrev pub IsOwn : Place → Type 0
IsOwn p = p.base ≡ 0

-- the instructions that are built
abbrev pub IsBuiltInstr : Instr → Type 0
IsBuiltInstr (instr.Const to value) = Unit {0}
IsBuiltInstr (instr.Copy to from words) = IsOwn to × IsOwn from
IsBuiltInstr (instr.Move to from words) = IsOwn to × IsOwn from
IsBuiltInstr (instr.Add to a b span) = Unit {0}
IsBuiltInstr (instr.Return word) = Unit {0}
IsBuiltInstr (instr.Print word shown) = Unit {0}
IsBuiltInstr _ = ⊥

-- The object has one function, of instructions that are built.
pub record IsBuilt (object : Object) : Type 0 where
  pub main : Fun
  pub only : object.funs ≡ main ∷ []
  pub code : AllByRecursion IsBuiltInstr main.code
