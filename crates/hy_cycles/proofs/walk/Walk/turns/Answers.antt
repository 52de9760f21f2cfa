use Rattle.std.proofs.Common.{◌≤◌, ◌+◌, ℕ, List, length, nat_eq, inl, inr, subst, ◌∙◌, arith}
use Rattle.std.proofs.lemmas.List.Elements.{contains_decides, Decides-contains}
use Rattle.std.specs.Bool.{Decides}
use Rattle.std.specs.Cmp.{unsigned_Decides}
use Rattle.std.specs.List.{Contains}
use Rattle.hy_cycles.specs.Graph.{graph_of, next}
use Rattle.hy_cycles.proofs.Ways.{kept_edges}
use Rattle.hy_cycles.proofs.walk.Walk.turns.Goals as goal

pub returns-else-len-start-gt1 : goal.returns-else-len-start-gt1
returns-else-len-start-gt1 c =
    let graph = graph_of c.args.edges.now in
    let same = c.deref.ensures.value ∙ kept_edges c.args.edges.now c.args.node c.index-edges-node.result c.index-edges-node.is c.requires.known in
    let found : Decides c.contains.result (Contains (next graph c.args.node) c.args.node) =
    subst (λ (list : List ℕ). Decides c.contains.result (Contains list c.args.node)) same
    (Decides-contains c.deref.result.now c.args.node c.contains.result
    (contains_decides nat_eq unsigned_Decides c.deref.result.now c.args.node c.contains.result c.contains.ensures.cases)) in
    let few : length c.args.self.now.path.items ≤ c.args.start + 1 = omega arith in
    ((λ h. inr (found.0 h)), (λ h. elim h [ inl more ↦ absurd (omega (arith, more, few)) | inr e ↦ found.1 e ]))
