-- Numbered programs.
use Rattle.std.proofs.Common.{◌≡◌, ℕ, ◌<◌, ◌^◌, length, ap, sym, subst, ◌∙◌, arith}
use Rattle.std.proofs.lemmas.List.FromFn.{length-range_with_len, get_or-range_with_len}
use Rattle.std.specs.List.{All, AllPairs, Contains, range_with_len}
use Rattle.hy_tree.specs.Numbers.{count_program, number_program}
use Rattle.hy_tree.specs.Preorder.{IsNumbered, HasEachOnce}
use Rattle.hy_tree.specs.Tree.{Program}
use Rattle.hy_tree.proofs.Nodes.{program_counts}
use Rattle.hy_tree.proofs.Preorder.{program_numbers}

pub same_count : (program : Program) → count_program (number_program program) ≡ count_program program
same_count program = sym (program_counts (number_program program)) ∙ ap length (program_numbers program) ∙ length-range_with_len 0 (count_program program)

pub is_numbered : (program : Program) → count_program program < 2 ^ 32 → IsNumbered (number_program program)
is_numbered program small =
    let same = same_count program in
    record {
      preorder = program_numbers program ∙ (λ i. range_with_len 0 ((sym same) i));
      small = omega (arith, same, small);
    }

rising : (n : ℕ) → AllPairs (λ one other. one < other) (range_with_len 0 n)
rising n i j d before within =
    let size = length-range_with_len 0 n in
    let first = get_or-range_with_len 0 n i d (omega (arith, size, before, within)) in
    let second = get_or-range_with_len 0 n j d (omega (arith, size, within)) in
    omega (arith, first, second, before)

below : (n : ℕ) → All (λ number. number < n) (range_with_len 0 n)
below n k d within =
    let size = length-range_with_len 0 n in
    let is = get_or-range_with_len 0 n k d (omega (arith, size, within)) in
    omega (arith, is, size, within)

every : (n number : ℕ) → number < n → Contains (range_with_len 0 n) number
every n number within =
    let size = length-range_with_len 0 n in
    let is = get_or-range_with_len 0 n number number within in
    (number, omega (arith, size, within), omega (arith, is))

pub each_once : (program : Program) → IsNumbered program → HasEachOnce program
each_once program numbered =
    let n = count_program program in
    let e = sym numbered.preorder in
    record {
      rising = subst (λ ns. AllPairs (λ one other. one < other) ns) e (rising n);
      below = subst (λ ns. All (λ number. number < n) ns) e (below n);
      every = λ number within. subst (λ ns. Contains ns number) e (every n number within);
    }

pub made_numbered : (program made : Program) → made ≡ number_program program → count_program program < 2 ^ 32 → IsNumbered made
made_numbered program made is small = subst IsNumbered (sym is) (is_numbered program small)
