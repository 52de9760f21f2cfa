-- What a division gives where the divisor is neither 0 nor -1.
use Rattle.std.specs.Prelude.{◌≡◌, ◌≢◌, ℕ, zero, suc, ℤ, pos, negsuc, if◌then◌else◌, Result, Err, refl}
use Rattle.hy_base.specs.declared.numbers.IntegerType.{IntegerType}
use Rattle.hy_base.specs.declared.run.TrapKind.{TrapKind}
use Rattle.hy_base.specs.declared.run.TrapKind.TheVariants.{Overflow}
use Rattle.hy_base.specs.Numbers.{unless_zero, is_least_by_minus_one}

pub given_there : (t : IntegerType) (x y : ℤ) (given : Result ℤ TrapKind) → y ≢ pos 0 → y ≢ negsuc 0
    → given ≡ unless_zero y (if is_least_by_minus_one t x y then Err Overflow else given)
given_there t x (pos zero) given some other = absurd (some refl)
given_there t (pos m) (pos (suc n)) given some other = refl
given_there t (negsuc m) (pos (suc n)) given some other = refl
given_there t x (negsuc zero) given some other = absurd (other refl)
given_there t (pos m) (negsuc (suc n)) given some other = refl
given_there t (negsuc m) (negsuc (suc n)) given some other = refl
