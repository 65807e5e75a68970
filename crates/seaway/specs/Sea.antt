-- The sea (document 01, "Coefficients and forces"): "a list of lines: tick, heading, two amplitude parts". 12 is tested before any line: over 64 lines, ticks not strictly
-- rising, or A over 40,000, where A is "the sum over the lines of the sizes of both parts".
use Rattle.std.specs.Prelude.{Bool, true, not, ◌&&◌, ◌||◌, List, [], ◌∷◌, ℕ, zero, suc, ltb, ℤ, pos, get_or}
use Rattle.whole.specs.Complex.{Complex, sizes}
use Rattle.whole.specs.Sum.{sum_ℕ}
use Rattle.seaway.specs.declared.sea.Sea.{Sea}

pub record Line : Type 0 where
  pub tick : ℕ
  pub heading : ℤ
  pub amplitude : Complex

-- line i of the sea's record, and its first n lines
unfoldable pub line_at : Sea → ℕ → Line
line_at sea i =
    record {
      tick = get_or sea.ticks i 0;
      heading = get_or sea.headings i (pos 0);
      amplitude = record { re = get_or sea.re i (pos 0); im = get_or sea.im i (pos 0) };
    }

unfoldable pub lines_from : Sea → ℕ → ℕ → List Line
lines_from sea i zero = []
lines_from sea i (suc n) = line_at sea i ∷ lines_from sea (suc i) n

unfoldable pub lines_of : Sea → List Line
lines_of sea = lines_from sea 0 sea.count

-- A
unfoldable pub size_of : List Line → ℕ
size_of lines = sum_ℕ lines (λ l. sizes l.amplitude)

-- ticks that strictly rise
unfoldable pub rises : List Line → Bool
rises [] = true
rises (l ∷ []) = true
rises (l ∷ m ∷ ls) = ltb l.tick m.tick && rises (m ∷ ls)

unfoldable pub is_inadmissible : Sea → Bool
is_inadmissible sea = ltb 64 sea.count || (not (rises (lines_of sea)) || ltb 40_000 (size_of (lines_of sea)))
