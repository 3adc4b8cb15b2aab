-- The fewest digits that hold a number, which `io::decimal` writes, are the number in plain decimal.
use Prim.Native.Nat.{ℕ, zero, suc, ◌-◌, ◌/◌, ◌%◌, ◌^◌, ◌≤◌, ◌<◌}
use mathlib.Core.Path.{◌≡◌, refl}
use mathlib.Core.List.{[], ◌∷◌}
use native.Mathlib.Omega.{arith, by_contra}
use native.Mathlib.Nat.{pow-le-pow_right}
use borrow.Author.Tests.{lt-ltb}
use Rattle.io.specs.Digits.{hex_digit_ascii, last_digits, IsDigitCount}
use Rattle.lines.specs.Output.{digit, leading, decimal}

-- a digit is written as its glyph
glyph_is : (d : ℕ) → d < 10 → hex_digit_ascii d ∷ [] ≡ digit d
glyph_is d h = rw (lt-ltb d 10 h)

-- k digits hold m and no fewer do: 0 has none
leading_is : (steps k m : ℕ) → m ≤ steps → m < 10 ^ k → ((j : ℕ) → k ≡ suc j → 10 ^ j ≤ m) → last_digits 10 k m ≡ leading steps m
unfolding leading
leading_is zero zero m h below least = refl
leading_is zero (suc k) m h below least =
    let l = least k refl in
    absurd (omega arith)
leading_is (suc steps) zero zero h below least = refl
leading_is (suc steps) zero (suc m) h below least = absurd (omega arith)
leading_is (suc steps) (suc k) zero h below least =
    let l = least k refl in
    absurd (omega arith)
leading_is (suc steps) (suc k) (suc m) h below least =
    rw (
      glyph_is (suc m % 10) (omega arith),
      leading_is steps k (suc m / 10) (omega arith) (omega arith) (λ j e. let l : 10 ^ suc j ≤ suc m = rw e at (least k refl) in omega arith),
    )

pub decimal_is : (k n : ℕ) → IsDigitCount 10 1 n k → last_digits 10 k n ≡ decimal n
decimal_is zero n f = absurd (omega arith)
decimal_is (suc k) n f =
    rw (
      glyph_is (n % 10) (omega arith),
      leading_is n k (n / 10) (omega arith) (omega (arith, f.1)) (λ j e.
          let i : suc k - 1 ≡ suc j = omega arith in
          let l : 10 ^ suc j ≤ n = rw i at (f.2 (omega arith)) in omega arith),
    )

-- 64 bits need at most 20 digits
pub few_digits : (k n : ℕ) → n < 18446744073709551616 → IsDigitCount 10 1 n k → k ≤ 20
few_digits k n fits f = by_contra k 20 (λ more.
    let p : 10 ^ 20 ≤ 10 ^ (k - 1) = pow-le-pow_right {n = 10} (omega arith) {i = 20} {j = k - 1} (omega arith) in
    let l = f.2 (omega arith) in
    omega arith)
