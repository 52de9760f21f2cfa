-- Small cores are ready, one with a subscript and one with an array of arrays: they have a shape, and a flow, which is computed.
use Rattle.std.proofs.Common.{◌≡◌, inl, inr, ℕ, zero, suc, List, [], ◌∷◌, Some, slice_get, refl, sym, ◌∙◌, subst, arith}
use Rattle.hy_base.specs.declared.numbers.IntegerType.TheVariants.{Int}
use Rattle.hy_types.specs.declared.kinds.Ty.TheVariants as ty
use Rattle.hy_types.specs.Words.{of, none, HasWords}
use Rattle.hy_core.specs.Plain.{Fun}
use Rattle.hy_core.specs.Control.{Numbers, GivesUp}
use Rattle.hy_core.specs.Statements.{no_fun}
use Rattle.hy_core.specs.Typing.{Among, IsIn, IsSmall}
use Rattle.hy_core.specs.Shaped.{IsShaped, IsShapedFun}
use Rattle.hy_core.proofs.FlowSound.{computed_is_flow}
use Rattle.hy_core.specs.Ready.{Ready}
use Rattle.hy_core.specs.Notation.{types, unit, number, numbers, rows, truth}
use Rattle.hy_core.specs.Examples.{trap_in_slide}
use Rattle.hy_core.specs.Flowing.{rows_loop, dropped_without_rows}

abbrev fun_at : List Fun → ℕ → Fun
fun_at [] n = no_fun
fun_at (f ∷ fs) zero = f
fun_at (f ∷ fs) (suc n) = fun_at fs n

abbrev f0 : Fun
f0 = fun_at trap_in_slide.funs 0

abbrev f1 : Fun
f1 = fun_at trap_in_slide.funs 1

-- THE SHAPE

small_number : IsSmall types number
small_number zero u e = (1, subst (λ u. HasWords types u 1) (sym e) (of (ty.Int, refl, refl) none, omega arith))
small_number (suc n) u (v, inl h, i) = absurd h
small_number (suc n) u (v, inr h, i) = absurd (cc)

unit_words : HasWords types unit 0
unit_words = (of (ty.Tuple [], refl, refl) none, omega arith)

small_truth : IsSmall types truth
small_truth zero u e = (1, subst (λ u. HasWords types u 1) (sym e) (of (ty.Bool, refl, refl) none, omega arith))
small_truth (suc n) u (v, inl h, i) = absurd h
small_truth (suc n) u (v, inr h, i) = absurd (cc)

small_numbers : IsSmall types numbers
small_numbers zero u e = (2, subst (λ u. HasWords types u 2) (sym e) (of (ty.Array number, refl, refl) none, omega arith))
small_numbers (suc n) u (v, inl h, i) = absurd h
small_numbers (suc n) u (v, inr h, i) = let z : number ≡ v = cc in small_number n u (subst (IsIn types n u) (sym z) i)

small_rows : IsSmall types rows
small_rows zero u e = (2, subst (λ u. HasWords types u 2) (sym e) (of (ty.Array numbers, refl, refl) none, omega arith))
small_rows (suc n) u (v, inl h, i) = absurd h
small_rows (suc n) u (v, inr h, i) = let z : numbers ≡ v = cc in small_numbers n u (subst (IsIn types n u) (sym z) i)

small_unit : IsSmall types unit
small_unit zero u e = (0, subst (λ u. HasWords types u 0) (sym e) unit_words)
small_unit (suc n) u (v, inl h, i) = absurd h
small_unit (suc n) u (v, inr h, i) = absurd (cc)

apart_two : Among {A = ℕ} 2 (3 ∷ []) → ⊥
apart_two (inl h) = omega (arith, h)
apart_two (inr h) = h

main_shaped : IsShapedFun trap_in_slide f0
main_shaped = record {
  small = (small_unit, (small_number, (small_number, (small_number, (small_unit, tt)))));
  body = (
    (number, (refl, tt), refl),
    (
      (tt, (Numbers Int, inl (Int, refl), (number, (refl, tt), refl)), refl),
      (
        (number, refl, (refl, tt)),
        (
          (f1, refl, refl, (refl, tt), tt, refl, (omega arith, tt), ((λ h. h), tt)),
          (
            (number, (refl, tt), refl),
            (
              (number, refl),
              (
                (number, refl),
                (
                  (tt, (Numbers Int, inl (Int, refl), (number, (refl, tt), refl)), refl),
                  (
                    (number, (refl, tt)),
                    (
                      (unit, (refl, tt), (refl, refl)),
                      (
                        (unit, (refl, tt), refl),
                        tt,
                      ),
                    ),
                  ),
                ),
              ),
            ),
          ),
        ),
      ),
    ),
  );
  paths = refl;
  filled = (apart_two, ((λ h. h), tt));
  handed = λ l a b h i _ _. same a b h i;
}
  where
    same : (a b : List ℕ) → Among a ((2 ∷ []) ∷ []) → Among b ((2 ∷ []) ∷ []) → a ≡ b
    same a b (inl h) (inl i) = h ∙ sym i
    same a b (inl h) (inr i) = absurd i
    same a b (inr h) i = absurd h

ramp_shaped : IsShapedFun trap_in_slide f1
ramp_shaped = record {
  small = (small_number, (small_number, (small_unit, (small_number, tt))));
  body = (
    (number, refl, (refl, tt)),
    (
      refl,
      (
        (number, refl),
        (
          (Int, (number, (refl, tt), refl), ((number, (refl, tt), refl), (number, (refl, tt), refl)), omega arith),
          ((unit, (refl, tt), (refl, refl)), ((unit, (refl, tt), unit_words), tt)),
        ),
      ),
    ),
  );
  paths = (refl, refl, refl);
  filled = ((λ h. h), tt);
  handed = λ l a b h i _ _. absurd h;
}

pub sample_ready : Ready trap_in_slide
sample_ready =
    record {
      shaped = record { main = (f0, refl, record { ramp = refl; lent = refl; owned = refl; result = unit_words }); funs = funs; deinits = tt };
      flow = computed_is_flow GivesUp trap_in_slide refl;
    }
  where
    funs : (n : ℕ) (f : Fun) → slice_get trap_in_slide.funs n ≡ Some f → IsShapedFun trap_in_slide f
    funs zero f e = let h : f0 ≡ f = cc in subst (IsShapedFun trap_in_slide) h main_shaped
    funs (suc zero) f e = let h : f1 ≡ f = cc in subst (IsShapedFun trap_in_slide) h ramp_shaped
    funs (suc (suc n)) f e = absurd (cc)

-- AN ARRAY OF ARRAYS

abbrev rows_main : Fun
rows_main = fun_at dropped_without_rows.funs 0

-- while its count is above 0, the last row is taken out and freed
loop_shaped : IsShaped dropped_without_rows rows_main (rows_loop)
loop_shaped = (
  (
    ((number, (refl, tt), refl), (numbers, (rows, (refl, tt), refl)), refl),
    (((truth, (refl, tt), refl), (Int, (number, (refl, tt), refl), (number, (refl, tt), refl)), refl), tt),
  ),
  (truth, refl, refl),
  (
    (tt, (Numbers Int, inl (Int, refl), (number, (refl, tt), refl)), refl),
    (
      (number, (refl, tt), refl),
      (
        (Int, (number, (refl, tt), refl), ((number, (refl, tt), refl), (number, (refl, tt), refl)), omega arith),
        (
          (tt, (numbers, (rows, (refl, tt), refl), (number, (refl, tt), refl), (number, (refl, tt), refl)), (omega arith, omega arith)),
          (
            ((numbers, (rows, (refl, tt), refl), (refl, tt)), omega arith),
            (
              (tt, (number, (numbers, (refl, tt), refl)), refl),
              ((number, (refl, tt)), ((number, (refl, tt)), ((truth, (refl, tt)), tt))),
            ),
          ),
        ),
      ),
    ),
  ),
)

rows_shaped : IsShapedFun dropped_without_rows rows_main
rows_shaped = record {
  small = (
    small_unit,
    (
      small_number,
      (
        small_number,
        (small_number, (small_number, (small_number, (small_number, (small_numbers, (small_rows, (small_truth, (small_truth, (small_unit, tt))))))))),
      ),
    ),
  );
  body = (
    ((numbers, (rows, (refl, tt), refl)), refl, refl),
    (
      (number, (refl, tt), refl),
      (
        ((number, (numbers, (refl, tt), refl)), refl, refl),
        (
          (number, (refl, tt), refl),
          (
            (tt, (number, (numbers, (refl, tt), refl), (refl, tt)), refl),
            (
              (tt, (numbers, (rows, (refl, tt), refl), (refl, tt)), refl),
              (
                ((number, (numbers, (refl, tt), refl)), refl, refl),
                (
                  (tt, (numbers, (rows, (refl, tt), refl), (refl, tt)), refl),
                  (
                    loop_shaped,
                    (
                      (truth, (refl, tt)),
                      (
                        (number, (refl, tt)),
                        (
                          (rows, (refl, tt)),
                          ((number, (refl, tt)), ((unit, (refl, tt), (refl, refl)), ((unit, (refl, tt), refl), tt))),
                        ),
                      ),
                    ),
                  ),
                ),
              ),
            ),
          ),
        ),
      ),
    ),
  );
  paths = (refl, refl, refl);
  filled = tt;
  handed = λ l a b h i _ _. absurd h;
}

pub rows_ready : Ready dropped_without_rows
rows_ready =
    record {
      shaped = record { main = (rows_main, refl, record { ramp = refl; lent = refl; owned = refl; result = unit_words }); funs = funs; deinits = tt };
      flow = computed_is_flow GivesUp dropped_without_rows refl;
    }
  where
    funs : (n : ℕ) (f : Fun) → slice_get dropped_without_rows.funs n ≡ Some f → IsShapedFun dropped_without_rows f
    funs zero f e = let h : rows_main ≡ f = cc in subst (IsShapedFun dropped_without_rows) h rows_shaped
    funs (suc n) f e = absurd (cc)
