-- A block that grows: a new one is taken, and the old one is taken out and fills the front of the new one.
use Rattle.std.proofs.Common.{◌≡◌, ◌<◌, ◌≤◌, ◌-◌, ◌++◌, ℕ, List, [], ◌∷◌, length, drop, slice_set, Some, None, sym, ap, ◌∙◌, subst, arith, IsSomeAnd}
use Rattle.std.proofs.Math.Seq.{get_or-append_seam, set-append_seam}
use Rattle.std.proofs.lemmas.List.{get_or_append_left, set-append_left, drop-replicate, length-set, length-replicate}
use Rattle.hy_blocks.specs.Blocks.{Block, Cell, cells_of, unset_cells}
use Rattle.hy_blocks.specs.Tables.{Becomes, all}
use Rattle.hy_blocks.proofs.Listed.{at, all_set, holds, live_and, live_below}

module _ (f : ℕ → Block) (n : ℕ) (was : List Block) (raw : List Cell) (words name : ℕ) (is : all f n ≡ was ++ Some raw ∷ []) (made : raw ≡ unset_cells words)
    (live : IsSomeAnd (cells_of was name) (λ cells. length cells ≤ words)) where
  abbrev Fits : List Cell → Type 0
  Fits cells = length cells ≤ words

  lower : name < length was
  lower = live_below was name Fits live

  old_is : cells_of was name ≡ f name
  old_is = let earlier = get_or_append_left was (Some raw ∷ []) None name lower in
      sym earlier ∙ at f n (was ++ Some raw ∷ []) is name Fits (subst (λ b. IsSomeAnd b Fits) (sym earlier) live)

  pub old_live : IsSomeAnd (f name) (λ cells. Unit {0})
  old_live = live_and (f name) Fits (λ cells. Unit {0}) (λ cells le. tt) (subst (λ b. IsSomeAnd b Fits) old_is live)

  module _ (new : ℕ) (next : new ≡ length was) (g : ℕ → Block) (old : List Cell) (found : f name ≡ Some old) (removed : Becomes f g name None) where
    new_is : f new ≡ Some raw
    new_is = let end = ap (λ k. cells_of (was ++ Some raw ∷ []) k) next ∙ get_or-append_seam was (Some raw) [] None in
        sym (at f n (was ++ Some raw ∷ []) is new (λ cells. Unit {0}) (subst (λ b. IsSomeAnd b (λ cells. Unit {0})) (sym end) tt)) ∙ end

    stays : g new ≡ Some raw
    stays = removed.others new (λ e. absurd (omega (arith, lower, next, e))) ∙ new_is

    pub new_fits : IsSomeAnd (g new) (λ cells. length old ≤ length cells)
    new_fits =
        let fits : length old ≤ words = holds (f name) Fits old found (subst (λ b. IsSomeAnd b Fits) old_is live) in
        let size = ap length made ∙ length-replicate words None in
        subst (λ b. IsSomeAnd b (λ cells. length old ≤ length cells)) (sym stays) (omega (arith, fits, size))

    pub grown : (h : ℕ → Block) → IsSomeAnd (g new) (λ cells. Becomes g h new (Some (old ++ drop (length old) cells)))
        → IsSomeAnd (cells_of was name) (λ cells. all h n ≡ slice_set was name None ++ Some (cells ++ unset_cells (words - length cells)) ∷ [])
    grown h filled =
        let last : Becomes g h new (Some (old ++ drop (length old) raw)) = holds (g new) (λ cells. Becomes g h new (Some (old ++ drop (length old)
        cells))) raw stays filled in
        let rest = ap (λ l. old ++ l) (ap (drop (length old)) made ∙ drop-replicate (length old) words None) in
        subst (λ b. IsSomeAnd b (λ cells. all h n ≡ slice_set was name None ++ Some (cells ++ unset_cells (words - length cells)) ∷ [])) (sym (old_is
        ∙ found)) (
        all_set g h n new _ last
        ∙ ap (λ l. slice_set l new (Some (old ++ drop (length old) raw))) (all_set f g n name None removed ∙ ap (λ l. slice_set l name None) is ∙
        set-append_left was (Some raw ∷ []) name None lower)
        ∙ ap (λ k. slice_set (slice_set was name None ++ Some raw ∷ []) k (Some (old ++ drop (length old) raw))) (next ∙ sym (length-set was name None))
        ∙ set-append_seam (slice_set was name None) (Some raw) [] _
        ∙ ap (λ l. slice_set was name None ++ Some l ∷ []) rest)
