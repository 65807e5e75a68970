-- How such a text is read back (document 02, M-100): "the text and the coverage give the six tables back". The coverage is not in the text: with one heading, single and
-- full coverage write the same lines.
use Rattle.std.specs.Prelude.{cond, ◌&&◌, List, [], ◌∷◌, map, ℕ, suc, ◌*◌, eqb, ℤ, pos, negsuc, nat_abs, get_or}
use Rattle.std.proofs.Math.Option
use Rattle.std.proofs.Math.Option.{Option, none, some, bind}
use Rattle.std.proofs.Math.ListN.{get_elem?}
use Rattle.whole.specs.Same.{same_list}
use Rattle.whole.specs.Complex.{Complex}
use Rattle.whole.specs.Nearest.{nearest}
use Rattle.field.specs.Text.{bytes}
use Rattle.text.specs.Parts.{lines_of}
use Rattle.text.specs.Rows.{collected, read_list, read_rows}
use Rattle.grid.specs.declared.nodes.Pair.{Pair}
use Rattle.table.specs.Pairs.{pairs_of}
use Rattle.table.specs.Entries.{entry_at}
use Rattle.hull.specs.Six.{Component, frequencies, headings}
use Rattle.qtf.specs.Matrix.{matrix_places}

-- ---- a table by values

-- what it was opened for, its frequencies and headings, rising, and what it says of every ordered pair that the coverage needs
pub record Values : Type 0 where
  pub kind : ℕ
  pub component : ℕ
  pub coverage : ℕ
  pub frequencies : List ℕ
  pub headings : List ℤ
  pub entries : List (Pair × Complex)

unfoldable pub values_of : Component → Values
values_of c =
    record {
      kind = c.table.choices.kind;
      component = c.table.choices.component;
      coverage = c.table.choices.coverage;
      frequencies = frequencies c.table;
      headings = headings c.table;
      entries = map (λ p. (p, entry_at c.table.slots c.cells p.first p.second)) (pairs_of c.table.choices.coverage c.table.slots);
    }

-- ---- a text

-- the tick nearest to a frequency in billionths of rad/s
unfoldable pub tick_of : ℤ → ℕ
tick_of v = nearest (nat_abs v * 10_000) 6_283_185_307

-- what stands at an index of a list; nothing below 0, and nothing past the end
abbrev pub at_index : {A : Type 0} → List A → ℤ → Option A
at_index xs (pos i) = get_elem? xs i
at_index xs (negsuc i) = none

-- the pair of four indexes
unfoldable pub pair_at : List ℕ → List ℤ → ℤ → ℤ → ℤ → ℤ → Option Pair
pair_at ticks hs i j a b =
    bind (at_index ticks i) (λ f.
    bind (at_index ticks j) (λ g.
    bind (at_index hs a) (λ h.
    bind (at_index hs b) (λ e.
    some (record { first = record { tick = f; heading = h }; second = record { tick = g; heading = e } })))))

-- numbers two by two
unfoldable pub complex_in : List ℤ → List Complex
complex_in [] = []
complex_in (re ∷ []) = []
complex_in (re ∷ im ∷ more) = record { re = re; im = im } ∷ complex_in more

-- a row of the matrix: its pair, and what the six say of it
unfoldable pub row_read : List ℕ → List ℤ → List ℤ → Option (Pair × List Complex)
row_read ticks hs (i ∷ j ∷ a ∷ b ∷ parts) = Option.map (λ p. (p, complex_in parts)) (pair_at ticks hs i j a b)
row_read ticks hs (i ∷ j ∷ a ∷ []) = none
row_read ticks hs (i ∷ j ∷ []) = none
row_read ticks hs (i ∷ []) = none
row_read ticks hs [] = none

-- one of the six, from 0 on
unfoldable pub table_read : ℕ → List ℕ → List ℤ → List (Pair × List Complex) → ℕ → Values
table_read coverage ticks hs rows i =
    record {
      kind = 0;
      component = suc i;
      coverage = coverage;
      frequencies = ticks;
      headings = hs;
      entries = map (λ row. (row.0, get_or row.1 i (record { re = pos 0; im = pos 0 }))) rows;
    }

abbrev pub the_six : List ℕ
the_six = 0 ∷ 1 ∷ 2 ∷ 3 ∷ 4 ∷ 5 ∷ []

unfoldable pub six_read : ℕ → List ℕ → List ℤ → List (List ℤ) → Option (List Values)
six_read coverage ticks hs rows =
    Option.map (λ read. map (table_read coverage ticks hs read) the_six) (collected (map (row_read ticks hs) rows))

-- three names, each with what follows it
unfoldable pub lines_read : ℕ → List (List ℕ) → Option (List Values)
lines_read coverage (name₁ ∷ fs ∷ name₂ ∷ hs ∷ name₃ ∷ rows) =
    cond (same_list eqb name₁ (bytes "$QTFFrequencies") && (same_list eqb name₂ (bytes "$QTFHeadings") && same_list eqb name₃ (bytes "$WaveDriftQTFMatrix")))
    (bind (read_list 9 fs) (λ f. bind (read_list 3 hs) (λ h. bind (read_rows matrix_places rows) (six_read coverage (map tick_of f) h))))
    none
lines_read coverage (name₁ ∷ fs ∷ name₂ ∷ hs ∷ []) = none
lines_read coverage (name₁ ∷ fs ∷ name₂ ∷ []) = none
lines_read coverage (name₁ ∷ fs ∷ []) = none
lines_read coverage (name₁ ∷ []) = none
lines_read coverage [] = none

unfoldable pub proteus_read : ℕ → List ℕ → Option (List Values)
proteus_read coverage text = lines_read coverage (lines_of text)
