-- Cosine and sine at any step, from the table of one quarter turn (document 01, "Coefficients and forces": "Sine and the other quarters follow by
-- symmetry"). All of it is said over the number of steps to the quarter turn, so that a table with finer steps has the same laws.
use Rattle.std.specs.Prelude.{cond, List, ℕ, suc, ◌+◌, ◌*◌, ◌-◌, ◌%◌, leb, ℤ, pos, negsuc, neg_ℤ, length, get_or}
use Rattle.whole.specs.Complex.{Complex, conj}
use Rattle.phase.specs.declared.Phase.{Phase}

-- a table: the steps to the quarter turn, and the cosines, over 2^30, of steps 0 to that number
pub record Quarter : Type 0 where
  pub steps : ℕ
  pub entries : List ℕ

-- the table that a list is: it has one step fewer than entries
abbrev pub quarter_of : List ℕ → Quarter
quarter_of xs = record { steps = length xs - 1; entries = xs }

-- what stands at step i of the table; past its end 0
abbrev pub entry : Quarter → ℕ → ℕ
entry q i = get_or q.entries i 0

-- the steps to the whole turn
abbrev pub turn : Quarter → ℕ
turn q = 4 * q.steps

-- the cosine at step r of a turn, by the quarter in which r stands: the table itself, the table backwards with a minus, the table with a minus, and
-- the table backwards
unfoldable pub in_turn : Quarter → ℕ → ℤ
in_turn q r =
    let n = q.steps in
    cond (leb r n) (pos (entry q r))
    (cond (leb r (2 * n)) (neg_ℤ (pos (entry q (2 * n - r))))
    (cond (leb r (3 * n)) (neg_ℤ (pos (entry q (r - 2 * n)))) (pos (entry q (4 * n - r)))))

-- "Phase steps are taken modulo" the turn
unfoldable pub cosine : Quarter → ℕ → ℤ
cosine q k = in_turn q (k % turn q)

-- the sine is the cosine a quarter turn before, that is three quarters on
unfoldable pub sine : Quarter → ℕ → ℤ
sine q k = cosine q (k + 3 * q.steps)

-- z(k): "cosine plus i sine at step k"
abbrev pub phase : Quarter → ℕ → Complex
phase q k = record { re = cosine q k; im = sine q k }

-- a phase as the code holds it
abbrev pub complex_of : Phase → Complex
complex_of z = record { re = z.cosine; im = z.sine }

-- the same at a whole step, which is below 0 where the second of two frequencies is the higher: a step back is the conjugate of the step on
abbrev pub phase_ℤ : Quarter → ℤ → Complex
phase_ℤ q (pos k) = phase q k
phase_ℤ q (negsuc k) = conj (phase q (suc k))
