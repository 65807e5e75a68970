-- What a load comes to, one case for each outcome with what holds there: `LoadOutcome`. The promises about forces go by its cases. Assumes nothing.
use mathlib.Core.Path.{◌≡◌, refl, ◌∙◌, ap}
use mathlib.Core.Bool.{true, false}
use mathlib.Core.List.{List}
use Prim.Native.Nat.{ℕ, ◌^◌}
use native.Mathlib.Omega.{arith}
use lib.Dec.{eqb}
use lib.IntN.{ℤ}
use lib.ListN.{length}
use borrow.Author.Tests.{eqb-true, eqb-false}
use Rattle.whole.specs.Nearest.{nearest_ℤ}
use Rattle.row.proofs.Used.{by-test}
use Rattle.phase.specs.Turn.{Quarter}
use Rattle.reader.specs.declared.record.Record.{Record}
use Rattle.reader.specs.Valid.{query_barred}
use Rattle.table.specs.View.{View, view_of}
use Rattle.seaway.specs.Sea.{lines_of, is_inadmissible}
use Rattle.seaway.specs.declared.sea.Sea.{Sea}
use Rattle.load.specs.Answers.{Load}
use Rattle.load.specs.Answers.{Force}
use Rattle.load.specs.Force.{LocatedLine, LocatedSea, all, stopped, located_sea, bad_among, total_by, mean_of, of_located_sea, load_by, whole_of, force_by}

-- a refusal is no load
refused-given : {number line : ℕ} {mean force : ℤ} → Load.Refused number line ≡ Load.Both mean force → ⊥
refused-given e = let clash : ◌≡◌ {A = ℕ} 0 1 = cc in omega arith

module _ (clock : Quarter) (r : Record) (cells : List ℤ) (sea : Sea) (t : ℕ) where
  abbrev pub bar : ℕ
  bar = query_barred r (length cells)

  abbrev kind : ℕ
  kind = r.choices.kind

  abbrev view : View
  view = view_of r.slots cells

  pub data LoadOutcome : Load → Type 0 where
    barred : (bar ≡ 0 → ⊥) → LoadOutcome (Load.Refused bar 0)
    inadmissible : bar ≡ 0 → is_inadmissible sea ≡ true → LoadOutcome (Load.Refused 12 0)
    off : {number line : ℕ} → bar ≡ 0 → is_inadmissible sea ≡ false → located_sea r (lines_of sea) ≡ stopped number line → LoadOutcome (Load.Refused number line)
    bad : {lines : List LocatedLine} → bar ≡ 0 → is_inadmissible sea ≡ false → located_sea r (lines_of sea) ≡ all lines → bad_among view lines lines ≡ true
        → LoadOutcome (Load.Refused 15 0)
    given : {lines : List LocatedLine} → bar ≡ 0 → is_inadmissible sea ≡ false → located_sea r (lines_of sea) ≡ all lines → bad_among view lines lines ≡ false
        → LoadOutcome (Load.Both (mean_of kind view lines) (nearest_ℤ (total_by clock kind view t lines) (2 ^ 30)))

  placed : bar ≡ 0 → is_inadmissible sea ≡ false → (s : LocatedSea) → located_sea r (lines_of sea) ≡ s → LoadOutcome (of_located_sea clock kind view t s)
  unfolding of_located_sea
  placed free fit (stopped number line) e = off free fit e
  placed free fit (all lines) e = by-test LoadOutcome (bad_among view lines lines) _ _ (λ h. bad free fit e h) (λ h. given free fit e h)

  pub load-outcome : LoadOutcome (load_by clock r cells sea t)
  unfolding load_by
  load-outcome =
      by-test LoadOutcome (eqb bar 0) _ _
      (λ free.
      let none = eqb-true bar 0 free in
      by-test LoadOutcome (is_inadmissible sea) _ _ (λ h. inadmissible none h) (λ fit. placed none fit (located_sea r (lines_of sea)) refl))
      (λ some. barred (eqb-false bar 0 some))

  -- a load that is given
  pub record Given (lines : List LocatedLine) (mean force : ℤ) : Type 0 where
    pub free : bar ≡ 0
    pub admissible : is_inadmissible sea ≡ false
    pub located : located_sea r (lines_of sea) ≡ all lines
    pub sound : bad_among view lines lines ≡ false
    pub mean-is : mean_of kind view lines ≡ mean
    pub force-is : nearest_ℤ (total_by clock kind view t lines) (2 ^ 30) ≡ force

  given_by : {load : Load} → LoadOutcome load → (mean force : ℤ) → load ≡ Load.Both mean force → (lines : List LocatedLine) × Given lines mean force
  given_by (barred h) mean force e = absurd (refused-given e)
  given_by (inadmissible h k) mean force e = absurd (refused-given e)
  given_by (off h k l) mean force e = absurd (refused-given e)
  given_by (bad h k l m) mean force e = absurd (refused-given e)
  given_by (given {lines} free fit located sound) mean force e =
      (lines, record { free = free; admissible = fit; located = located; sound = sound; mean-is = cc; force-is = cc })

  pub load_given : (mean force : ℤ) → load_by clock r cells sea t ≡ Load.Both mean force → (lines : List LocatedLine) × Given lines mean force
  load_given mean force e = given_by load-outcome mean force e

  -- a force that is given is the whole of such a load
  pub force-given : (force : ℤ) → force_by clock r cells sea t ≡ Force.Value force → (mean : ℤ) × (load_by clock r cells sea t ≡ Load.Both mean force)
  unfolding force_by whole_of
  force-given force e = go (load_by clock r cells sea t) refl e
    where
      go : (load : Load) → load_by clock r cells sea t ≡ load → whole_of load ≡ Force.Value force → (mean : ℤ) × (load_by clock r cells sea t ≡ Load.Both mean force)
      go (Load.Both mean whole) l f = (mean, l ∙ ap (Load.Both mean) (same f))
        where
          same : Force.Value whole ≡ Force.Value force → whole ≡ force
          same f = cc
      go (Load.Refused number line) l f = let clash : ◌≡◌ {A = ℕ} 0 1 = cc in absurd (omega arith)
