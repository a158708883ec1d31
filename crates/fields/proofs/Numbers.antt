-- How large a number of so many digits is.
use Rattle.std.proofs.Common.{ℕ, ◌*◌, ◌^◌, ◌<◌, ◌≤◌, mul-le-mul, arith}
use native.Mathlib.Nat.{pow-le-pow_right}

pub power_below : (i k : ℕ) → i ≤ k → 16 ^ i ≤ 16 ^ k
power_below i k h = let some : 0 < 16 = omega arith in pow-le-pow_right some h

pub product_room : (n base i : ℕ) → n < 16 ^ i → i < 5 → base ≤ 16 → n * base ≤ 1048560
product_room n base i h l b =
    let m : n ≤ 65535 = omega (arith, power_below i 4 (omega arith)) in
    mul-le-mul m b
