-- Where a step falls in the table of a quarter turn, as the crate's own functions work it.
use Rattle.std.specs.Prelude.{ℕ, ◌*◌, ◌-◌, min}

-- how far a step k of the turn is from the turn's nearer end, and how far that is from the nearer end of the half turn; n is the steps to the quarter
unfoldable pub folded : ℕ → ℕ → ℕ
folded n k =
    let u = min k (4 * n - k) in
    min u (2 * n - u)
