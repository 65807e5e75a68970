-- The force (document 01, "Coefficients and forces"): with a the complex amplitude, Q the coefficient and z the phase, the real part of the sum over all m, n of
-- a(m) conj(a(n)) Q(m,n) z((f(m) - f(n))t) in a difference table; in a sum table "the same with a(n) not conjugated and f(m) + f(n)". "The answer is this sum over
-- rounded coefficients, rounded once at the end."
use Rattle.std.specs.Prelude.{Bool, cond, List, [], ◌∷◌, ℕ, suc, ◌+◌, ◌*◌, ◌^◌, ◌≤◌, eqb, ℤ, pos, nat_abs, ◌-ℤ◌, ◌*ℤ◌, length}
use Rattle.whole.specs.Nearest.{nearest_ℤ}
use Rattle.whole.specs.Complex.{Complex, ◌*ᶜ◌, conj}
use Rattle.whole.specs.Sum.{sum_ℤ}
use Rattle.whole.specs.Any.{any_of}
use Rattle.phase.specs.Turn.{Quarter, phase_ℤ}
use Rattle.phase.specs.Seconds.{seconds}
use Rattle.reader.specs.declared.record.Record.{Record}
use Rattle.reader.specs.Valid.{query_barred}
use Rattle.table.specs.View.{View, view_of}
use Rattle.load.specs.Corners.{Point, corners, any_bad, coefficient}
use Rattle.load.specs.Locating.{Located, at, outside, located}
use Rattle.seaway.specs.Sea.{Line, lines_of, is_inadmissible}
use Rattle.seaway.specs.declared.sea.Sea.{Sea}
use Rattle.load.specs.Answers.{Load}
use Rattle.load.specs.Answers.{Force}

-- ---- lines in the table

-- a line with its place in the table
pub record LocatedLine : Type 0 where
  pub line : Line
  pub point : Point

-- all lines in their places, or the first that has none: 13 or 14, with its number, from 1 on
pub data LocatedSea : Type 0 where
  all : List LocatedLine → LocatedSea
  stopped : ℕ → ℕ → LocatedSea

unfoldable pub more : Line → Located → LocatedSea → ℕ → LocatedSea
more l (outside number) rest i = stopped number i
more l (at p) (all ps) i = all (record { line = l; point = p } ∷ ps)
more l (at p) (stopped number j) i = stopped number j

unfoldable pub located_from : Record → ℤ → ℕ → List Line → LocatedSea
located_from r first i [] = all []
located_from r first i (l ∷ ls) = more l (located r first l.tick l.heading) (located_from r first (suc i) ls) i

-- in single coverage every heading must be that of line 1
unfoldable pub first_heading : List Line → ℤ
first_heading [] = pos 0
first_heading (l ∷ ls) = l.heading

unfoldable pub located_sea : Record → List Line → LocatedSea
located_sea r lines = located_from r (first_heading lines) 1 lines

-- 15 for any pair of lines, whatever the amplitudes are
abbrev pub bad_pair : View → LocatedLine → LocatedLine → Bool
bad_pair v m n = any_bad (corners v m.point n.point)

unfoldable pub bad_among : View → List LocatedLine → List LocatedLine → Bool
bad_among v ms ns = any_of (λ m. any_of (λ n. bad_pair v m n) ns) ms

-- ---- the sum

-- a(m) conj(a(n)), or a(m) a(n). Kind 0 is difference
unfoldable pub amplitudes : ℕ → Complex → Complex → Complex
amplitudes kind a b = cond (eqb kind 0) (a *ᶜ conj b) (a *ᶜ b)

-- (f(m) - f(n)) t, or (f(m) + f(n)) t
unfoldable pub step_of : ℕ → ℕ → ℕ → ℕ → ℤ
step_of kind t f g = cond (eqb kind 0) ((pos f -ℤ pos g) *ℤ pos t) (pos ((f + g) * t))

-- one term by a clock, over 2^30: of two amplitudes a and b at the ticks f and g, whose coefficient is q, at the time t in the clock's own units
unfoldable pub term_of : Quarter → ℕ → ℕ → Complex → Complex → ℕ → ℕ → Complex → ℤ
term_of clock kind t a b f g q = (amplitudes kind a b *ᶜ q *ᶜ phase_ℤ clock (step_of kind t f g)).re

unfoldable pub term : Quarter → ℕ → View → ℕ → LocatedLine → LocatedLine → ℤ
term clock kind v t m n =
    term_of clock kind t m.line.amplitude n.line.amplitude m.line.tick n.line.tick (coefficient v m.point n.point)

unfoldable pub total_by : Quarter → ℕ → View → ℕ → List LocatedLine → ℤ
total_by clock kind v t lines = sum_ℤ lines (λ m. sum_ℤ lines (λ n. term clock kind v t m n))

-- at whole seconds
abbrev pub total : ℕ → View → ℕ → List LocatedLine → ℤ
total = total_by seconds

-- "The mean is the part with m = n of a difference table"; there the phase is 2^30, so it is a whole number as it stands. Of a sum table it is 0
unfoldable pub mean_term_of : Complex → Complex → ℤ
mean_term_of a q = (a *ᶜ conj a *ᶜ q).re

unfoldable pub mean_term : View → LocatedLine → ℤ
mean_term v m = mean_term_of m.line.amplitude (coefficient v m.point m.point)

unfoldable pub mean_of : ℕ → View → List LocatedLine → ℤ
mean_of kind v lines = cond (eqb kind 0) (sum_ℤ lines (λ m. mean_term v m)) (pos 0)

-- ---- the answer

-- the load of a sea in its places, by a clock: the mean, which no clock moves, and the whole force, or 15
unfoldable pub of_located_sea : Quarter → ℕ → View → ℕ → LocatedSea → Load
of_located_sea clock kind v t (stopped number line) = Load.Refused number line
of_located_sea clock kind v t (all lines) =
    cond (bad_among v lines lines)
    (Load.Refused 15 0)
    (Load.Both (mean_of kind v lines) (nearest_ℤ (total_by clock kind v t lines) (2 ^ 30)))

-- 1, 2, then 12 before any line, then line by line 13 and 14, then 15
unfoldable pub load_by : Quarter → Record → List ℤ → Sea → ℕ → Load
load_by clock r cells sea t =
    let number = query_barred r (length cells) in
    cond (eqb number 0)
    (cond (is_inadmissible sea) (Load.Refused 12 0) (of_located_sea clock r.choices.kind (view_of r.slots cells) t (located_sea r (lines_of sea))))
    (Load.Refused number 0)

-- the force is the whole of the load
unfoldable pub whole_of : Load → Force
whole_of (Load.Both mean whole) = Force.Value whole
whole_of (Load.Refused number line) = Force.Refused number line

unfoldable pub force_by : Quarter → Record → List ℤ → Sea → ℕ → Force
force_by clock r cells sea t = whole_of (load_by clock r cells sea t)

-- both at whole seconds
abbrev pub load_of : Record → List ℤ → Sea → ℕ → Load
load_of = load_by seconds

abbrev pub force_of : Record → List ℤ → Sea → ℕ → Force
force_of = force_by seconds

-- every force is at most 3.2 10^18, so its count over 1,000 is below 2^53
pub data SmallLoad : Load → Type 0 where
  both : {mean whole : ℤ} → nat_abs mean ≤ 3_200_000_000_000_000_000 → nat_abs whole ≤ 3_200_000_000_000_000_000 → SmallLoad (Load.Both mean whole)
  refused : {number line : ℕ} → SmallLoad (Load.Refused number line)

-- document 01's number and value: a refused force is 0
unfoldable pub number_of : Force → ℕ
number_of (Force.Value force) = 0
number_of (Force.Refused number line) = number

unfoldable pub value_of : Force → ℤ
value_of (Force.Value force) = force
value_of (Force.Refused number line) = pos 0
