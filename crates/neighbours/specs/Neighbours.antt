-- The neighbours of a frequency among the slots of a table, each with a slot that holds it.
use Rattle.std.specs.Prelude.{◌≡◌, ℕ, suc, ◌+◌, ◌-◌, ◌*◌, ◌/◌, ◌%◌, ◌^◌, min, max, cond, List, [], ◌∷◌, Option, Some, None, nat_eq, nat_lt, slice_index_or}
use Rattle.std.specs.Option.{option_map}
use Rattle.neighbours.specs.declared.standing.Neighbour.{Neighbour}
use Rattle.neighbours.specs.declared.standing.Neighbours.{Neighbours}

-- ---- what a neighbour is

-- a neighbour that was found, or none, and that its slot holds
pub record FoundAt (ticks : List ℕ) (o : Option ℕ) (n : Option Neighbour) : Type 0 where
  pub tick : option_map (λ (m : Neighbour). m.tick) n ≡ o
  pub slot : (m : Neighbour) → n ≡ Some m → slice_index_or ticks m.slot 0 ≡ m.tick

-- ---- which slot, where several hold it

-- how far a slot lies above f, by its tick and its number, counted round; and the tick that lies so far above
abbrev pub rise_of : ℕ → ℕ → ℕ → ℕ
rise_of f tick slot = (32 * tick + slot + (2 ^ 64 - 32 * f)) % 2 ^ 64

abbrev pub tick_at : ℕ → ℕ → ℕ
tick_at f rise = (f + rise / 32 % 2 ^ 32) % 2 ^ 32

-- what lies least and what lies most above f, of the slots from the i-th on, with a free one behind them
unfoldable pub least_rise : ℕ → List ℕ → ℕ → ℕ
least_rise f [] i = rise_of f 0 i
least_rise f (t ∷ ts) i = min (least_rise f ts (suc i)) (rise_of f t i)

unfoldable pub most_rise : ℕ → List ℕ → ℕ → ℕ
most_rise f [] i = rise_of f 0 i
most_rise f (t ∷ ts) i = max (most_rise f ts (suc i)) (rise_of f t i)

-- what lies there, unless that is a free slot
abbrev pub neighbour_at : ℕ → ℕ → Option Neighbour
neighbour_at f rise = cond (nat_eq (tick_at f rise) 0) None (Some (record { tick = tick_at f rise; slot = rise % 32 }))

-- the one above lies least above f. The one below lies most above it, counted round, unless f itself is held, which is then both
unfoldable pub neighbours_of : List ℕ → ℕ → Neighbours
neighbours_of ticks f =
    let least = least_rise f ticks 0 in
    record { low = neighbour_at f (cond (nat_lt least 32) least (most_rise f ticks 0)); high = neighbour_at f least }
