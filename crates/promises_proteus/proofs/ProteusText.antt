-- The ProteusDS text is its lines: two lists, rising, and a row for each pair that the coverage needs, in order. Assumes nothing.
use mathlib.Core.Path.{◌≡◌, refl, sym, ap, ◌∙◌, subst}
use mathlib.Core.List.{List, [], ◌∷◌, ◌++◌, map, map-map, Memᴰ}
use Prim.Native.Nat.{ℕ, zero, suc, ◌<◌}
use native.Mathlib.Omega.{arith}
use lib.Dec.{leb, eqb}
use lib.IntN.{ℤ, pos}
use lib.ListN.{length, get_or, replicate, length-map}
use lib.Signed.{le_z}
use borrow.Author.Tests.{eq-eqb}
use Rattle.whole.specs.Same.{same_ℤ}
use Rattle.whole.proofs.Same.{eqb_tells, same_ℤ-tells}
use Rattle.field.specs.Text.{bytes}
use Rattle.text.specs.Parts.{text_of}
use Rattle.text.specs.Rows.{row_text}
use Rattle.grid.specs.declared.nodes.Pair.{Pair}
use Rattle.grid.specs.Slots.{slot_of, held_ticks, held_headings}
use Rattle.table.specs.Pairs.{ascending, pairs_of, nowhere}
use Rattle.grid.proofs.Members.{at_slot}
use Rattle.table.proofs.Ascending.{ascending-only, ascending-has}
use Rattle.table.proofs.Drawn.{pairs-only}
use Rattle.reader.specs.declared.record.Record.{Record}
use Rattle.hull.specs.Six.{Component, frequencies, headings, values_at}
use Rattle.qtf.specs.Matrix.{billionths, list_text, frequency_text, heading_text, indexes, parts_in, matrix_line, head_lines}
use Rattle.proteus.specs.Lines.{lines_from, proteus_lines}
use Rattle.proteus.specs.Answer.{line_number, proteus_text}
use Rattle.promises_queries.specs.Places.{HoldsTick, HoldsHeading}
use Rattle.promises_proteus.specs.Proteus.{SixTables, SixAsked}
use Rattle.promises_proteus.specs.ProteusText.{Rises, TwoLists, ListsOnce, in_billionths, RowOf, lines_with, Laid, TextLaid}
use Rattle.promises_rows.proofs.Ordering.{Ascending, ascending-behind, behind-ascends, tick-order, ticks-ascend, heading-order, headings-ascend}
use Rattle.promises_listings.proofs.Listings.{get_or-member}
use Rattle.promises_listings.proofs.ListsNeeded.{needed}
use Rattle.promises_proteus.proofs.Proteus.{once, pairs_in, distinct-each, matrix-pairs, line-value, line-number-is}

rises : {A : Type 0} {Below : A → A → Type 0} (l : List A) → Ascending Below l → Rises Below l
rises {Below = Below} l up before behind x y e m = ascending-behind before x behind (subst (Ascending Below) e up) y m

pub lists-once : ListsOnce
lists-once six ticks ticks' hs hs' tables a b = (
  once tick-order six tables (λ c f. HoldsTick c.table f) ticks ticks' (behind-ascends ticks a.frequencies-rise) (behind-ascends ticks' b.frequencies-rise) a.frequencies b.frequencies,
  once heading-order six tables (λ c h. HoldsHeading c.table h) hs hs' (behind-ascends hs a.headings-rise) (behind-ascends hs' b.headings-rise) a.headings b.headings,
)

-- the numbers of a row
abbrev row_in : Record → List Component → Pair → List ℤ
row_in first six p = indexes (frequencies first) (headings first) p ++ parts_in (values_at six p)

module _ (c : Component) (cs : List Component) (tables : SixTables (c ∷ cs)) (asked : SixAsked (c ∷ cs)) where
  abbrev six : List Component
  six = c ∷ cs

  abbrev first : Record
  first = c.table

  abbrev rows : List (List ℤ)
  rows = map (row_in first six) (needed first)

  here : Memᴰ c six
  here = Memᴰ.head refl

  -- ---- the two lists

  two-lists : TwoLists six (frequencies first) (headings first)
  unfolding frequencies headings
  two-lists =
      let S = distinct-each six tables asked.accepted c here in
      record {
        frequencies = λ d m f.
            let same = (asked.hull.same c d here m).frequencies f in
            (λ k. same.0 (ascending-only leb _ f k), λ k. ascending-has leb _ f (same.1 k));
        frequencies-rise = rises (ascending leb (held_ticks first.slots.ticks)) (ticks-ascend S.ticks);
        headings = λ d m h.
            let same = (asked.hull.same c d here m).headings h in
            (λ k. same.0 (ascending-only le_z _ h k), λ k. ascending-has le_z _ h (same.1 k));
        headings-rise = rises (ascending le_z (held_headings first.slots)) (headings-ascend S.headings);
      }

  -- ---- the rows

  row_of : (p : Pair) → Memᴰ p (needed first) → RowOf six (frequencies first) (headings first) p (row_in first six p)
  unfolding frequencies headings pairs_of indexes parts_in values_at
  row_of p m =
      let d = pairs-only first.choices.coverage _ _ p m in
      let ticks = frequencies first in
      let hs = headings first in
      record {
        i = slot_of eqb ticks p.first.tick;
        j = slot_of eqb ticks p.second.tick;
        a = slot_of same_ℤ hs p.first.heading;
        b = slot_of same_ℤ hs p.second.heading;
        tick₁ = at_slot eqb_tells ticks p.first.tick d.tick₁;
        tick₂ = at_slot eqb_tells ticks p.second.tick d.tick₂;
        heading₁ = at_slot same_ℤ-tells hs p.first.heading d.heading₁;
        heading₂ = at_slot same_ℤ-tells hs p.second.heading d.heading₂;
        numbers = λ c₁ c₂ c₃ c₄ c₅ c₆ e. ap (λ (l : List Component). indexes ticks hs p ++ parts_in (values_at l p)) e;
      }

  at_place : {A B : Type 0} (f : A → B) (l : List A) (i : ℕ) (x : A) (y : B) → i < length l → get_or (map f l) i y ≡ f (get_or l i x)
  at_place f [] i x y h = absurd (omega arith)
  at_place f (z ∷ l) zero x y h = refl
  at_place f (z ∷ l) (suc i) x y h = at_place f l i x y (omega arith)

  each_row : (i : ℕ) → i < length (needed first) → RowOf six (frequencies first) (headings first) (get_or (needed first) i nowhere) (get_or rows i [])
  each_row i h =
      subst (RowOf six (frequencies first) (headings first) (get_or (needed first) i nowhere))
      (sym (at_place (row_in first six) (needed first) i nowhere [] h))
      (row_of (get_or (needed first) i nowhere) (get_or-member (needed first) i nowhere h))

  -- ---- the lines

  lines_are : proteus_lines six ≡ lines_with (frequencies first) (headings first) rows
  unfolding proteus_lines lines_from head_lines frequency_text heading_text list_text matrix_line billionths
  lines_are =
      let ticks = frequencies first in
      let hs = headings first in
      λ k.
      bytes "$QTFFrequencies"
      ∷ row_text (replicate (length-map ticks (λ t. pos (billionths t)) k) 9) (map in_billionths ticks)
      ∷ bytes "$QTFHeadings"
      ∷ row_text (replicate (length hs) 3) hs
      ∷ bytes "$WaveDriftQTFMatrix"
      ∷ sym (map-map (row_text (replicate 4 0 ++ replicate 12 6)) (row_in first six) (needed first)) k

  laid : Laid six (frequencies first) (headings first) (needed first) rows
  unfolding proteus_text pairs_in
  laid =
      record {
        lists = two-lists;
        matrix = matrix-pairs six tables asked;
        count = length-map (needed first) (row_in first six);
        each = each_row;
        text = ap text_of lines_are;
        lines = λ k z.
            line-value six tables k
            ∙ rw (eq-eqb (line_number six k) 0 (sym (line-number-is six k) ∙ z))
            (ap (λ (l : List (List ℕ)). get_or l k []) lines_are);
      }

pub text-laid : TextLaid
text-laid [] tables asked = let count = tables.count in absurd (omega (arith, count))
text-laid (c ∷ cs) tables asked =
    (frequencies c.table, headings c.table, needed c.table, map (row_in c.table (c ∷ cs)) (needed c.table), laid c cs tables asked)
