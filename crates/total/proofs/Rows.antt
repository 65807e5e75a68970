-- A product by the halves of a factor, at any base: of 16 bits in crates/total/src/halves.rt, of 32 in `wide`. Assumes nothing.
use Rattle.std.proofs.Common.{◌≡◌, ℕ, ◌+◌, ◌-◌, ◌*◌, ◌/◌, ◌%◌, ◌<◌, ◌≤◌, ap, mul-le-mul, div-add-mod', arith}

-- a number is its halves, the upper one moved up (`div-add-mod'`), and so x k is a row of two products: of the upper half, moved up, and of the lower half
pub row_is : (b x k : ℕ) → x / b * k * b + x % b * k ≡ x * k
row_is b x k = omega (arith, ap (λ (n : ℕ). n * k) (div-add-mod' x b))

-- the most that two halves make
pub row_room : (b x k : ℕ) → x < b → k < b → x * k ≤ (b - 1) * (b - 1)
row_room b x k h l =
    let p : x ≤ b - 1 = omega arith in
    let q : k ≤ b - 1 = omega arith in
    mul-le-mul p q
