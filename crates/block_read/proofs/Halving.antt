-- Binary digits of a number and of its half.
use Rattle.std.proofs.Common.{◌≡◌, ℕ, zero, suc, ◌+◌, ◌/◌, ◌<◌, ◌≤◌, arith}
use Rattle.std.proofs.lemmas.Int.Digits.{length-digits_of_step}
use Rattle.block_read.specs.Lookups.{bits}

step : (n : ℕ) → 0 < n → bits n ≡ bits (n / 2) + 1
step n some = length-digits_of_step 2 n (omega arith) some

-- more digits for more
up : (f a b : ℕ) → b ≤ f → a ≤ b → bits a ≤ bits b
up f zero b most low = omega arith
up zero (suc a) b most low = absurd (omega (arith, most, low))
up (suc f) (suc a) zero most low = absurd (omega (arith, low))
up (suc f) (suc a) (suc b) most low =
    let one = step (suc a) (omega arith) in
    let two = step (suc b) (omega arith) in
    let rest = up f (suc a / 2) (suc b / 2) (omega (arith, most)) (omega (arith, low)) in
    omega (arith, one, two, rest)

-- half of it has a digit less
pub halved : (n m : ℕ) → 0 < n → m ≤ n / 2 → bits m + 1 ≤ bits n
halved n m some low = let one = step n some in let rest = up (n / 2) m (n / 2) (omega arith) low in omega (arith, one, rest)
