-- What a query may lean on once it is not barred: there are cells enough, and the record is valid. Assumes nothing.
use mathlib.Core.Path.{◌≡◌, refl, sym, subst}
use mathlib.Core.Bool.{Bool, true, false, cond, ◌&&◌}
use Prim.Native.Nat.{ℕ, ◌≤◌}
use native.Mathlib.Omega.{arith}
use lib.Dec.{T, ltb, leb, eqb}
use mir.Facts.{and_yes, leb_yes}
use borrow.Author.Tests.{ltb-false}
use Rattle.reader.specs.declared.record.Record.{Record}
use Rattle.reader.specs.Valid.{valid_choices, valid_of, query_barred, valid_stage}
use Rattle.grid.specs.Valid.{valid_ticks, valid_slots}

module _ (r : Record) where
  pub unbarred : (n : ℕ) → query_barred r n ≡ 0 → (12_800 ≤ n) × (valid_of r ≡ true)
  unfolding query_barred
  unbarred n e = go (ltb n 12_800) (valid_of r) (eqb r.marks.stage 2) refl e
    where
      go :
          (short valid accepted : Bool)
          → ltb n 12_800 ≡ short
          → ◌≡◌ {A = ℕ} (cond short 1 (cond (valid && accepted) 0 2)) 0
          → (12_800 ≤ n) × (valid ≡ true)
      go true valid accepted s e = let clash : ⊥ = omega arith in absurd clash
      go false true accepted s e = (ltb-false n 12_800 s, refl)
      go false false accepted s e = let clash : ⊥ = omega arith in absurd clash

  -- the slots of a valid record: how many headings it holds, and its ticks
  module _ (e : valid_of r ≡ true) where
    held-slots : T (leb r.slots.held 4) × T (valid_ticks r.slots.ticks)
    unfolding valid_of valid_slots
    held-slots =
        let lines = (and_yes (valid_stage r.marks.stage) _ (subst T (sym e) tt)).1 in
        let choices = (and_yes (leb r.marks.lines 1_000_000) _ lines).1 in
        let slots = (and_yes (valid_choices r.choices) _ choices).1 in
        let (few, ticks) = and_yes (leb r.slots.held 4) _ (and_yes (valid_slots r.marks.stage r.slots) _ slots).0 in
        (few, (and_yes (valid_ticks r.slots.ticks) _ ticks).0)

    pub valid-held : r.slots.held ≤ 4
    valid-held = leb_yes held-slots.0

    pub valid-ticks : T (valid_ticks r.slots.ticks)
    valid-ticks = held-slots.1
