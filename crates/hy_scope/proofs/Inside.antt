-- Statements leave the blocks around theirs as they are.
use Rattle.std.proofs.Common.{◌≡◌, List, [], ◌∷◌, refl, ap, ◌∙◌}
use Rattle.hy_tree.specs.Findings.{behind, with_local}
use Rattle.hy_tree.specs.Names.{Names}
use Rattle.hy_tree.specs.Tree as T
use Rattle.hy_tree.specs.declared.name.Name.{Name}
use Rattle.hy_scope.specs.Shown.{outer}

-- one block inside these
pub record IsInside (blocks around : List Names) : Type 0 where
  pub block : Names
  pub is : blocks ≡ block ∷ around

local_inside : (name : Name) (node : _) (blocks around : List Names) → IsInside blocks around → IsInside (with_local name node blocks) around
local_inside name node [] around h = absurd (cc)
local_inside name node (block ∷ more) around h =
    let e : more ≡ around = ap outer_all h.is in
    record { block = here_all (with_local name node (block ∷ more)) block; is = ap (λ rest. here_all (with_local name node (block ∷ more)) block ∷ rest) e }
  where
    outer_all : List Names → List Names
    outer_all [] = []
    outer_all (b ∷ rest) = rest

    here_all : List Names → Names → Names
    here_all [] other = other
    here_all (b ∷ rest) other = b

pub behind_inside : (stmt : T.Stmt) (blocks around : List Names) → IsInside blocks around → IsInside (behind blocks stmt) around
behind_inside (T.Binding introducer name written value at) blocks around h = local_inside name at.node blocks around h
behind_inside (T.Declare name written at) blocks around h = local_inside name at.node blocks around h
behind_inside (T.Assign target value at) blocks around h = h
behind_inside (T.Compound target operator value at) blocks around h = h
behind_inside (T.Evaluate value at) blocks around h = h
behind_inside (T.If branches otherwise at) blocks around h = h
behind_inside (T.While token condition body at) blocks around h = h
behind_inside (T.Return token value at) blocks around h = h
behind_inside (T.Break at) blocks around h = h
behind_inside (T.Continue at) blocks around h = h
behind_inside (T.Yield token value at) blocks around h = h

-- out of a block that is inside these, which are some
pub left : (blocks : List Names) (first : Names) (more : List Names) → IsInside blocks (first ∷ more) → outer blocks ≡ first ∷ more
left blocks first more h = ap outer h.is
