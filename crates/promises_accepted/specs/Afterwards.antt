-- Demand 3's "up to closing its flags": once a table is accepted its flags may be written by anybody, and calls that come too late are refused and change nothing. So what
-- the record and the cells gave at acceptance they give ever after, the bound of demand 3 with it.
use mathlib.Core.List.{List, Memᴰ}
use Rattle.std.specs.Prelude.{◌≡◌, ℕ, ℤ}
use Rattle.whole.specs.Fraction.{◌≤ᶠ◌, as_fraction, distance}
use Rattle.phase.specs.Turn.{Quarter}
use Rattle.phase.specs.Seconds.{seconds}
use Rattle.row.specs.declared.reading.Entry.{Entry}
use Rattle.reader.specs.Model.{State, state_of}
use Rattle.seaway.specs.Sea.{Line, lines_of}
use Rattle.load.specs.Force.{force_by}
use Rattle.seaway.specs.declared.sea.Sea.{Sea}
use Rattle.load.specs.Answers.{Force}
use Rattle.promises_chains.specs.Chain.{Call, called}
use Rattle.promises_queries.specs.Queries.{Inadmissible, LineInPlace}
use Rattle.promises_forces.specs.Demand.{exact_force_by, allowed}
use Rattle.promises_queries.specs.Alike.{SameQueries}
use Rattle.promises_accepted.specs.ChainQueries.{AcceptedTable}

-- what may come after a state: calls with the record that it left, and others' writing to the flags, in any order
pub data Afterwards (s : State) : State → Type 0 where
  at_once : Afterwards s s
  call : {u : State} → Afterwards s u → (c : Call) → Afterwards s (called c u).after
  flags-written : {u : State} → Afterwards s u → (flags : List ℕ) → Afterwards s (state_of u.reader u.cells flags)

-- the record and the cells of an accepted table stay as they are, so that every query is answered as at acceptance
abbrev pub AcceptedStays : Type 0
AcceptedStays =
    (rows : List Entry) (s u : State) → AcceptedTable rows s.reader s.cells → Afterwards s u
    → (u.reader ≡ s.reader) × (u.cells ≡ s.cells) × SameQueries s.reader s.cells u.reader u.cells

-- and an accepted sea gets its force, within half a unit and three quarters of the square of A
abbrev pub ForceAfterwardsBy : Quarter → Type 0
ForceAfterwardsBy clock =
    (rows : List Entry) (s u : State)
    → AcceptedTable rows s.reader s.cells
    → Afterwards s u
    → (sea : Sea) (t : ℕ)
    → (Inadmissible sea → ⊥)
    → ((l : Line) → Memᴰ l (lines_of sea) → LineInPlace u.reader sea l)
    → (force : ℤ)
    × (force_by clock u.reader u.cells sea t ≡ Force.Value force)
    × (distance (as_fraction force) (exact_force_by clock u.reader u.cells sea t) ≤ᶠ allowed sea)

abbrev pub ForceAfterwards : Type 0
ForceAfterwards = ForceAfterwardsBy seconds
