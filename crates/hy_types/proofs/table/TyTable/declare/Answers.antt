use Rattle.std.proofs.Common.{◌≡◌, ◌++◌, ◌∷◌, [], ℕ, List, Contains, Some, None, sym, ap, subst, ◌∙◌, length, take, nat_eq, ◌==◌}
use Rattle.std.proofs.Math.ListN.{drop}
use Rattle.std.specs.Map.{lookup}
use Rattle.std.proofs.Math.Seq.{take-append_seam}
use Rattle.indexmap.proofs.CallerLemmas.{insert_entry-new}
use Rattle.hy_types.specs.declared.kinds.TyId.{TyId}
use Rattle.hy_types.specs.declared.kinds.Ty.{Ty}
use Rattle.hy_types.specs.Types.{Table, AllBelow, mentioned, declared}
use Rattle.hy_types.specs.Sizes.{AreRight}
use Rattle.hy_types.specs.Kept.{IsKept}
use Rattle.hy_types.proofs.Keeping.{after, right_declare, parts_declare, mentioned_declare, kept_declare}
use Rattle.hy_types.proofs.table.TyTable.declare.Goals as goal

pub settle-requires-clause-mentioned : goal.settle-requires-clause-mentioned
settle-requires-clause-mentioned c =
    let types = c.self.inside.types.keys in
    let below : AllBelow (length types) c.args.parts = subst (λ (t : Table). AllBelow (length t.types) c.args.parts) (sym c.self.view_is) c.requires.known in
    subst (λ (rows : List Ty). (r : Ty) → Contains rows r → AllBelow (length rows) (mentioned r)) (sym c.as_slice.ensures.keys)
    (mentioned_declare types c.self.inside.products.entries c.args.product c.args.parts c.self.inside.sizes.items c.self.invariant below)

pub settle-requires-clause-parts : goal.settle-requires-clause-parts
settle-requires-clause-parts c =
    let types = c.self.inside.types.keys in
    let entries = c.self.inside.products.entries in
    let below : AllBelow (length types) c.args.parts = subst (λ (t : Table). AllBelow (length t.types) c.args.parts) (sym c.self.view_is) c.requires.known in
    let put : c.insert.new.self.entries ≡ entries ++ (c.args.product, c.args.parts) ∷ [] =
    c.in_ok-insert.ensures.entries
    ∙ insert_entry-new nat_eq c.self.inside.products c.args.product c.args.parts
    (subst (λ t. declared t c.args.product ≡ None) (sym c.self.view_is) c.requires.new) in
    subst (λ (es : List (ℕ × List TyId)). (product : ℕ) (ids : List TyId) → lookup (λ other. product == other) es ≡ Some ids
    → AllBelow (length c.as_slice.result.now) ids) (sym put)
    (subst (λ (rows : List Ty). (product : ℕ) (ids : List TyId) → declared (after types entries c.args.product c.args.parts) product ≡ Some ids
    → AllBelow (length rows) ids) (sym c.as_slice.ensures.keys)
    (parts_declare types entries c.args.product c.args.parts c.self.inside.sizes.items c.self.invariant below))

pub invariant_of-self-2 : goal.invariant_of-self-2
invariant_of-self-2 c =
    let types = c.self.inside.types.keys in
    let entries = c.self.inside.products.entries in
    let sizes = c.self.inside.sizes.items in
    let below : AllBelow (length types) c.args.parts = subst (λ (t : Table). AllBelow (length t.types) c.args.parts) (sym c.self.view_is) c.requires.known in
    let put : c.insert.new.self.entries ≡ entries ++ (c.args.product, c.args.parts) ∷ [] =
    c.in_ok-insert.ensures.entries
    ∙ insert_entry-new nat_eq c.self.inside.products c.args.product c.args.parts
    (subst (λ t. declared t c.args.product ≡ None) (sym c.self.view_is) c.requires.new) in
    let whole : take c.self.inside.sizes.len (c.settle.new.sizes ++ drop (length c.settle.new.sizes) sizes) ≡ c.settle.new.sizes =
    ap (λ n. take n (c.settle.new.sizes ++ drop (length c.settle.new.sizes) sizes)) (sym (c.settle.auto.sizes ∙ c.as_mut_slice.ensures.len))
    ∙ take-append_seam c.settle.new.sizes (drop (length c.settle.new.sizes) sizes) in
    let long : length c.settle.new.sizes ≡ length types = c.settle.auto.sizes ∙ ap length c.as_mut_slice.ensures.value ∙ c.self.invariant.long in
    let made = c.settle.ensures (after types entries c.args.product c.args.parts) (sym put) (sym c.as_slice.ensures.keys)
    (subst (AreRight (after types entries c.args.product c.args.parts)) (sym c.as_mut_slice.ensures.value)
    (right_declare types entries c.args.product c.args.parts sizes c.self.invariant below)) in
    subst (λ (es : List (ℕ × List TyId)). IsKept (record { types = types; products = es })
    (take c.self.inside.sizes.len (c.settle.new.sizes ++ drop (length c.settle.new.sizes) sizes))) (sym put)
    (subst (IsKept (after types entries c.args.product c.args.parts)) (sym whole)
    (kept_declare types entries c.args.product c.args.parts sizes c.self.invariant below c.settle.new.sizes long made.0 made.1))

pub returns-clause-declared : goal.returns-clause-declared
returns-clause-declared c =
    let put : c.insert.new.self.entries ≡ c.self.inside.products.entries ++ (c.args.product, c.args.parts) ∷ [] =
    c.in_ok-insert.ensures.entries
    ∙ insert_entry-new nat_eq c.self.inside.products c.args.product c.args.parts
    (subst (λ t. declared t c.args.product ≡ None) (sym c.self.view_is) c.requires.new) in
    λ i. record {
      types = ap (λ (t : Table). t.types) c.self.view_is i;
      products =
          (put ∙ ap (λ (t : Table). t.products ++ (c.args.product, c.args.parts) ∷ []) c.self.view_is) i;
    }
