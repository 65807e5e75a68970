-- The load of waves in their places is the model's of the lines, and there is room for it. Assumes nothing.
use mathlib.Core.Path.{◌≡◌, refl, sym, ap, ap₂, ◌∙◌, subst}
use mathlib.Core.Bool.{true, false, cond, not, ◌||◌}
use mathlib.Core.List.{List, [], ◌∷◌, Memᴰ}
use Prim.Native.Nat.{ℕ, zero, suc, ◌+◌, ◌^◌, ◌≤◌}
use native.Mathlib.Nat.{le_trans}
use native.Mathlib.Omega.{arith}
use borrow.Author.Tests.{ltb-false, eq-eqb, ne_eqb}
use lib.Dec.{ltb, eqb, lit<}
use lib.IntN.{ℤ, pos, nat_abs, ◌+ℤ◌}
use lib.ListN.{length}
use Rattle.whole.specs.Complex.{sizes}
use Rattle.whole.specs.Nearest.{nearest_ℤ}
use Rattle.whole.specs.Sum.{sum_by}
use Rattle.whole.specs.Any.{any_of}
use Rattle.whole.proofs.Nearest.{nearest-within}
use Rattle.whole.proofs.Sum.{sum-ext}
use Rattle.whole.proofs.Any.{neither}
use Rattle.phase.specs.Turn.{Quarter}
use Rattle.phase.specs.Rule.{Rule, limits}
use Rattle.total.specs.Total.{rounded_of}
use Rattle.total.specs.declared.words.Total.{Total}
use Rattle.total.proofs.Sums.{rounded-is}
use Rattle.reader.specs.declared.record.Record.{Record}
use Rattle.grid.specs.declared.nodes.Slots.{Slots}
use Rattle.table.specs.Cells.{cells_lent}
use Rattle.reader.specs.Valid.{valid_of, query_barred}
use Rattle.table.specs.View.{View, view_of}
use Rattle.load.specs.Corners.{any_bad}
use Rattle.seaway.specs.Sea.{lines_of, size_of, rises, is_inadmissible}
use Rattle.load.specs.Force.{LocatedLine, LocatedSea, all, stopped, term_of, term, total_by, mean_term_of, mean_term, mean_of, bad_pair, bad_among, first_heading, located_sea, of_located_sea, load_by, SmallLoad, both}
use Rattle.load.specs.own.Brackets.{bracket_of, InTable}
use Rattle.load.specs.own.Waves.{amplitude_of, wave_of, waves, wave_term, bad_row, bad_rows, row_sum, rows_sum, WaveInRange, SeaLocated, placed, refused}
use Rattle.std.proofs.Common.{Some, All}
use Rattle.load.specs.own.Means.{wave_mean, own_mean}
use Rattle.load.specs.own.Loads.{AllTerms, summed_load, RoomForLoad}
use Rattle.seaway.specs.declared.sea.Sea.{Sea}
use Rattle.load.specs.declared.waves.Wave.{Wave}
use Rattle.load.specs.Answers.{Load}
use Rattle.load.proofs.Bilinear.{bracket-corners, bracket-coefficient}
use Rattle.load.proofs.Queries.{valid-ticks}
use Rattle.neighbours.proofs.Weights.{ProperWeights}
use Rattle.load.proofs.Ranges as ranges

-- ---- a load that has room

pub small-whole : {mean whole : ℤ} → SmallLoad (Load.Both mean whole) → nat_abs whole ≤ 3_200_000_000_000_000_000
small-whole (both m w) = w

pub small-mean : {mean whole : ℤ} → SmallLoad (Load.Both mean whole) → nat_abs mean ≤ 3_200_000_000_000_000_000
small-mean (both m w) = m

-- ---- the answer of waves that are not bad

module _ (clock : Quarter) (kind : ℕ) (cells : List ℤ) (t : ℕ) (ws : List Wave) (l : RoomForLoad clock kind cells t ws) where
  pub of-all : (whole : Total) → AllTerms (bad_rows cells ws ws) (rows_sum clock kind cells t ws ws) (Some whole)
      → (force : ℤ) → force ≡ rounded_of whole → (mean : ℤ) → mean ≡ own_mean kind cells ws → nat_abs mean ≤ 1_600_000_000_000_000_000
      → (Load.Both mean force ≡ summed_load clock kind cells t ws) × SmallLoad (Load.Both mean force)
  unfolding summed_load
  of-all whole (none_out, meaning-is) force e mean f few =
      let room = l.room none_out in
      let force-is : rounded_of whole ≡ nearest_ℤ (rows_sum clock kind cells t ws ws) (2 ^ 30) =
      rounded-is whole (rw meaning-is (omega (arith, room))) ∙ ap (λ (z : ℤ). nearest_ℤ z (2 ^ 30)) meaning-is in
      let force-small = nearest-within (rows_sum clock kind cells t ws ws) (2 ^ 30) 3_200_000_000_000_000_000 (lit< tt) room in
      (rw none_out (ap₂ Load.Both f (e ∙ force-is)), both {mean = mean} {whole = force} (omega (arith, few)) (rw (e ∙ force-is) force-small))

pub of-bad : (clock : Quarter) (kind : ℕ) (cells : List ℤ) (t : ℕ) (ws : List Wave) → bad_rows cells ws ws ≡ true → Load.Refused 15 0 ≡ summed_load clock kind cells t ws
unfolding summed_load
of-bad clock kind cells t ws e = rw e refl

-- ---- waves of lines in their places

module _ (s : Slots) where
  waves-in-range-each : (ps : List LocatedLine) → ((p : LocatedLine) → Memᴰ p ps → WaveInRange (wave_of s p)) → All WaveInRange (waves s ps)
  unfolding waves
  waves-in-range-each [] f k d h = absurd (omega arith)
  waves-in-range-each (p ∷ ps) f zero d h = f p (Memᴰ.head refl)
  waves-in-range-each (p ∷ ps) f (suc k) d h = waves-in-range-each ps (λ q i. f q (Memᴰ.tail i)) k d (omega arith)

  sum-waves : {M : Type 0} (plus : M → M → M) (nil : M) (ps : List LocatedLine) (f : Wave → M) → sum_by plus nil (waves s ps) f ≡ sum_by plus nil ps (λ p. f (wave_of s p))
  unfolding waves sum_by
  sum-waves plus nil [] f = refl
  sum-waves plus nil (p ∷ ps) f = ap (plus (f (wave_of s p))) (sum-waves plus nil ps f)

module _ (r : Record) (cells : List ℤ) where
  abbrev s : Slots
  s = r.slots

  abbrev kind : ℕ
  kind = r.choices.kind

  abbrev view : View
  view = view_of s cells

  row-bad : (m : LocatedLine) (ns : List LocatedLine) → bad_row cells (wave_of s m) (waves s ns) ≡ any_of (λ n. bad_pair view m n) ns
  unfolding any_of waves
  row-bad m [] = refl
  row-bad m (n ∷ ns) = λ i. any_bad (sym (bracket-corners s cells m.point n.point) i) || row-bad m ns i

  rows-bad : (ms ns : List LocatedLine) → bad_rows cells (waves s ms) (waves s ns) ≡ bad_among view ms ns
  unfolding any_of waves bad_among
  rows-bad [] ns = refl
  rows-bad (m ∷ ms) ns = λ i. row-bad m ns i || rows-bad ms ns i

  term_is : (clock : Quarter) (t : ℕ) (m n : LocatedLine) → wave_term clock kind cells t (wave_of s m) (wave_of s n) ≡ term clock kind view t m n
  unfolding wave_term term
  term_is clock t m n =
      ap (term_of clock kind t m.line.amplitude n.line.amplitude m.line.tick n.line.tick)
      (sym (bracket-coefficient s cells m.point n.point))

  total-is : (clock : Quarter) (t : ℕ) (ps : List LocatedLine) → rows_sum clock kind cells t (waves s ps) (waves s ps) ≡ total_by clock kind view t ps
  unfolding total_by
  total-is clock t ps =
      sum-waves s ◌+ℤ◌ (pos 0) ps (λ m. row_sum clock kind cells t m (waves s ps))
      ∙ sum-ext ◌+ℤ◌ (pos 0) ps _ _
      (λ m i. sum-waves s ◌+ℤ◌ (pos 0) ps (λ n. wave_term clock kind cells t (wave_of s m) n) ∙ sum-ext ◌+ℤ◌ (pos 0) ps _ _ (λ n j. term_is clock t m n))

  mean-is : (ps : List LocatedLine) → own_mean kind cells (waves s ps) ≡ mean_of kind view ps
  unfolding mean_of mean_term wave_mean
  mean-is ps =
      ap (λ (z : ℤ). cond (eqb kind 0) z (pos 0))
      (sum-waves s ◌+ℤ◌ (pos 0) ps (λ w. wave_mean cells w)
      ∙ sum-ext ◌+ℤ◌ (pos 0) ps _ _
      (λ m i. ap (mean_term_of m.line.amplitude) (sym (bracket-coefficient s cells m.point m.point))))

  load_is : (clock : Quarter) (t : ℕ) (ps : List LocatedLine) → summed_load clock kind cells t (waves s ps) ≡ of_located_sea clock kind view t (all ps)
  unfolding summed_load of_located_sea
  load_is clock t ps =
      λ i. cond (rows-bad ps ps i) (Load.Refused 15 0) (Load.Both (mean-is ps i) (nearest_ℤ (total-is clock t ps i) (2 ^ 30)))

  -- ---- lines that have been located

  -- the code's waves are those of lines in their places
  pub data Found (sea-lines : LocatedSea) (ws : List Wave) : Type 0 where
    found : (ps : List LocatedLine) → sea-lines ≡ all ps → ws ≡ waves s ps → Found sea-lines ws

  pub located-found : {number line : ℕ} {ws : List Wave} (sea-lines : LocatedSea) → SeaLocated s number line ws sea-lines → number ≡ 0 → Found sea-lines ws
  located-found (all ps) (placed e f) z = found ps refl f
  located-found (stopped n l) (refused given e f) z = absurd (given z)

  pub located-stopped : {number line : ℕ} {ws : List Wave} (clock : Quarter) (t : ℕ) (sea-lines : LocatedSea) → SeaLocated s number line ws sea-lines → (number ≡ 0 → ⊥)
      → Load.Refused number line ≡ of_located_sea clock kind view t sea-lines
  unfolding of_located_sea
  located-stopped clock t (all ps) (placed e f) given = absurd (given e)
  located-stopped clock t (stopped n l) (refused some' e f) given = ap₂ Load.Refused e f

  pub found-load : (clock : Quarter) (t : ℕ) (sea-lines : LocatedSea) (ws : List Wave) → Found sea-lines ws → summed_load clock kind cells t ws ≡ of_located_sea clock kind view t sea-lines
  found-load clock t sea-lines ws (found ps e f) = ap (summed_load clock kind cells t) f ∙ load_is clock t ps ∙ ap (of_located_sea clock kind view t) (sym e)

  -- ---- there is room

  module _ (valid : valid_of r ≡ true) (twenty : length s.ticks ≡ 20) (four : length s.headings ≡ 4) (lent : cells_lent ≤ length cells) (sea : Sea) (few : size_of (lines_of sea) ≤ 40_000) where
    module _ {clock : Quarter} (keeps : Rule limits clock) (t : ℕ) (ps : List LocatedLine) (e : located_sea r (lines_of sea) ≡ all ps) where
      gone : ranges.LinesLocated r (first_heading (lines_of sea)) 1 (lines_of sea) (all ps)
      unfolding located_sea
      gone = subst (ranges.LinesLocated r (first_heading (lines_of sea)) 1 (lines_of sea)) e (ranges.lines-located r (first_heading (lines_of sea)) 1 (lines_of sea))

      size_few : ranges.size_of ps ≤ 40_000
      unfolding size_of
      size_few = rw (ranges.located-size r _ gone) few

      weights : (p : LocatedLine) → Memᴰ p ps → ProperWeights p.point.frequency
      weights p i =
          ranges.located-each r _ (λ q. ProperWeights q.frequency) (ranges.located-proper r (valid-ticks r valid) (first_heading (lines_of sea))) gone p i

      in-range : (p : LocatedLine) → Memᴰ p ps → WaveInRange (wave_of s p)
      in-range p i =
          record {
            proper = ranges.proper-bracket s p.point (weights p i);
            inside =
                ranges.located-each r _ (λ q. InTable (bracket_of s q)) (ranges.located-inside r twenty four (first_heading (lines_of sea))) gone p i;
            small = le_trans (ranges.member-le ps ranges.sizes_of p i) size_few;
          }

      has_room : RoomForLoad clock kind cells t (waves s ps)
      has_room =
          record {
            waves-in-range = waves-in-range-each s ps in-range;
            lent = lent;
            few = rw (sum-waves s ◌+◌ 0 ps (λ w. sizes (amplitude_of w))) size_few;
            room =
                λ b.
                rw (total-is clock t ps)
                (ranges.total-small kind view ps size_few
                (ranges.small-coefficients s cells ps ps weights weights (sym (rows-bad ps ps) ∙ b))
                keeps
                t);
          }

    pub found-has-room : {clock : Quarter} → Rule limits clock → (t : ℕ) (ws : List Wave) → Found (located_sea r (lines_of sea)) ws → RoomForLoad clock kind cells t ws
    found-has-room keeps t ws (found ps e f) = rw f (has_room keeps t ps e)

-- ---- the sea

pub admissible : (sea : Sea) → is_inadmissible sea ≡ false → (sea.count ≤ 64) × (size_of (lines_of sea) ≤ 40_000)
unfolding is_inadmissible
admissible sea e =
    let (lines, rest) = neither (ltb 64 sea.count) _ e in
    let (up, size) = neither (not (rises (lines_of sea))) _ rest in
    (ltb-false 64 sea.count lines, ltb-false 40_000 (size_of (lines_of sea)) size)

-- ---- the answers

module _ (clock : Quarter) (r : Record) (cells : List ℤ) (sea : Sea) (t number : ℕ) (asked : number ≡ query_barred r (length cells)) where
  pub barred : (number ≡ 0 → ⊥) → Load.Refused number 0 ≡ load_by clock r cells sea t
  unfolding load_by
  barred h = rw (← asked, ne_eqb number 0 h) refl

  module _ (free : number ≡ 0) where
    pub inadmissible : is_inadmissible sea ≡ true → Load.Refused 12 0 ≡ load_by clock r cells sea t
    unfolding load_by
    inadmissible h = rw (← asked, eq-eqb number 0 free, h) refl

    pub admissible-load : is_inadmissible sea ≡ false → of_located_sea clock r.choices.kind (view_of r.slots cells) t (located_sea r (lines_of sea)) ≡ load_by clock r cells sea t
    unfolding load_by
    admissible-load h = rw (← asked, eq-eqb number 0 free, h) refl
