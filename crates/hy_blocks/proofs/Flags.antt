-- Which cells of a block are set.
use Rattle.std.proofs.Common.{◌≡◌, ◌<◌, ◌^◌, ℕ, ℤ, zero, suc, Bool, true, false, List, [], ◌∷◌, length, map, get_or, slice_set, replicate, Option}
use Rattle.std.proofs.Common.{Some, None, refl, sym, ap, ◌∙◌, subst, arith}
use Rattle.std.specs.Prelude.{is_some}
use Rattle.std.proofs.lemmas.List.{map-set, length-set, length-replicate, set-get_or}
use Rattle.hy_blocks.specs.Places.{IsFilled}
use Rattle.hy_blocks.specs.Parts.{IsBlock}
use Rattle.hy_blocks.specs.declared.memory.Base.{Base}
use Rattle.hy_blocks.specs.declared.memory.Cells.{Cells}
use Rattle.hy_blocks.specs.declared.memory.Deed.{Deed}

none_set : (n : ℕ) → replicate n false ≡ map is_some (replicate n (let none : Option ℤ = None in none))
none_set zero = refl
none_set (suc n) = ap (λ l. false ∷ l) (none_set n)

module _ {A : Type 0} where
  pub begun : (base : Base ℤ) (words : ℕ) (cells : Cells ℤ) (deed : Deed ℤ A) (set : List Bool) (alloc : A) → words < 2 ^ 32
      → (cells.at ≡ base.ptr) × (cells.slots ≡ replicate words None) × (deed.at ≡ base.ptr) × (deed.len ≡ words) × (deed.alloc ≡ alloc)
      → set ≡ replicate words false → IsBlock base words cells deed set alloc
  begun base words cells deed set alloc small made flags = record {
    begins = made.0;
    places = ap length made.1 ∙ length-replicate words None;
    small = small;
    deed_begins = made.2;
    deed_places = made.3;
    deed_alloc = made.4;
    set_is = flags ∙ none_set words ∙ ap (map is_some) (sym made.1);
  }

  -- a cell becomes that one
  pub changed : (base : Base ℤ) (words : ℕ) (cells new : Cells ℤ) (deed : Deed ℤ A) (set : List Bool) (alloc : A) (at : ℕ) (c : Option ℤ)
      → IsBlock base words cells deed set alloc → (new.at ≡ cells.at) × (new.slots ≡ slice_set cells.slots at c)
      → IsBlock base words new deed (slice_set set at (is_some c)) alloc
  changed base words cells new deed set alloc at c was now = record {
    begins = now.0 ∙ was.begins;
    places = ap length now.1 ∙ length-set cells.slots at c ∙ was.places;
    small = was.small;
    deed_begins = was.deed_begins;
    deed_places = was.deed_places;
    deed_alloc = was.deed_alloc;
    set_is = ap (λ l. slice_set l at (is_some c)) was.set_is ∙ sym (map-set is_some cells.slots at c) ∙ ap (map is_some) (sym now.1);
  }

flag : (slots : List (Option ℤ)) (at : ℕ) (d : Bool) → at < length slots → get_or (map is_some slots) at d ≡ is_some (get_or slots at None)
flag [] at d h = absurd (omega arith)
flag (c ∷ cs) zero d h = refl
flag (c ∷ cs) (suc at) d h = flag cs at d (omega arith)

some_is : (c : Option ℤ) → is_some c ≡ true → (x : ℤ) × (c ≡ Some x)
some_is None e = cc
some_is (Some x) e = (x, refl)

none_is : (c : Option ℤ) → is_some c ≡ false → c ≡ None
none_is None e = refl
none_is (Some x) e = cc

module _ (slots all : List (Option ℤ)) (set : List Bool) (at : ℕ) (d : Bool) (view : slots ≡ all) (is : set ≡ map is_some slots) (within : at <
    length all) where
  told : get_or set at d ≡ is_some (get_or slots at None)
  told = ap (λ l. get_or l at d) is ∙ flag slots at d (subst (λ l. at < length l) (sym view) within)

  pub filled : get_or set at d ≡ true → IsFilled slots at
  filled e = some_is (get_or slots at None) (sym told ∙ e)

  pub filled_all : get_or set at d ≡ true → IsFilled all at
  filled_all e = subst (λ l. IsFilled l at) view (filled e)

  pub left : get_or set at d ≡ false → get_or all at None ≡ None
  left e = ap (λ l. get_or l at None) (sym view) ∙ none_is (get_or slots at None) (sym told ∙ e)

pub same : (slots : List (Option ℤ)) (at : ℕ) → get_or slots at None ≡ None → slots ≡ slice_set slots at None
same slots at e = sym (set-get_or slots at None) ∙ ap (slice_set slots at) e
