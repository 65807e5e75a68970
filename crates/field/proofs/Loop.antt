-- The loop of `form::digits`, as plain mathematics: what holds at its head, that it holds after a digit, and what it says where the loop is left.
-- Assumes nothing.
use Rattle.std.proofs.Common.{◌≡◌, ap, sym, ◌∙◌, true, false, List, ℕ, ◌+◌, ◌*◌, ◌-◌, ◌^◌, ◌≤◌, ◌<◌, length, get_or, arith}
use Rattle.field.specs.Form.{is_digit, leading, after, numeral}
use Rattle.field.proofs.Runs.{behind, length-behind, leading-more, after-more, leading-stop, after-stop, numeral-le}

-- at the loop's head, after digits that say v: what is left of s ends where s does, and says, after the number so far, what all of s says
pub record Reading (s : List ℕ) (v : ℕ) (rest : List ℕ) (number : ℕ) : Type 0 where
  pub small : number < 10 ^ 16
  pub within : length rest ≤ length s
  pub count : length s + length (leading rest) ≡ length rest + length (leading s)
  pub behind : after rest ≡ after s
  pub said : numeral v (leading s) < 10 ^ 15 → numeral number (leading rest) ≡ numeral v (leading s)

module _ (s : List ℕ) (v : ℕ) (rest : List ℕ) (number : ℕ) (r : Reading s v rest number) where
  -- a digit stands first in what is left, and `next` is the number with it
  pub again :
      (next : ℕ) → 1 ≤ length rest → is_digit (get_or rest 0 0) ≡ true
      → next < 10 ^ 16 → (number < 10 ^ 15 → next ≡ 10 * number + (get_or rest 0 0 - 48)) → Reading s v (behind rest) next
  unfolding numeral
  again next some digit small exact =
      let here = leading-more rest some digit in
      record {
        small = small;
        within = omega (arith, r.within, length-behind rest some);
        count = omega (arith, ap length here, r.count, length-behind rest some);
        behind = sym (after-more rest some digit) ∙ r.behind;
        said = λ n.
            let left = rw here at (r.said n) in
            let grows = numeral-le (10 * number + (get_or rest 0 0 - 48)) (leading (behind rest)) in
            let below : number < 10 ^ 15 = omega arith in
            rw (exact below) left;
      }

  -- no digit is left: what the contract says
  module _ (stop : 1 ≤ length rest → is_digit (get_or rest 0 0) ≡ false) where
    pub counted : length s - length rest ≡ length (leading s)
    counted = omega (arith, r.count, ap length (leading-stop rest stop))

    pub followed : rest ≡ after s
    followed = sym (after-stop rest stop) ∙ r.behind

    pub numbered : numeral v (leading s) < 10 ^ 15 → number ≡ numeral v (leading s)
    unfolding numeral
    numbered n = rw (leading-stop rest stop) at (r.said n)
