-- Slots (document 01, "The table"): "given in order of arrival". A frequency's slot is free while it holds 0, and a new frequency takes the lowest free one;
-- of the headings so many are held, and a new one takes the next.
use Rattle.std.specs.Prelude.{Bool, cond, List, [], ◌∷◌, ℕ, zero, suc, ◌+◌, ltb, eqb, ℤ, length, take, set}
use Rattle.whole.specs.Same.{same_ℤ}
use Rattle.grid.specs.declared.nodes.Slots.{Slots}

-- the first place that holds x; the number of places where none does
unfoldable pub slot_of : {A : Type 0} → (A → A → Bool) → List A → A → ℕ
slot_of same [] x = zero
slot_of same (y ∷ ys) x = cond (same y x) zero (suc (slot_of same ys x))

-- a value stands in a list
abbrev pub among : {A : Type 0} → (A → A → Bool) → List A → A → Bool
among same xs x = ltb (slot_of same xs x) (length xs)

-- ---- frequencies

-- the slot of a tick, or for a new one the lowest free slot; the number of slots where there is none
unfoldable pub tick_slot : List ℕ → ℕ → ℕ
tick_slot ticks t = cond (ltb (slot_of eqb ticks t) (length ticks)) (slot_of eqb ticks t) (slot_of eqb ticks 0)

unfoldable pub with_tick : List ℕ → ℕ → List ℕ
with_tick ticks t = set ticks (tick_slot ticks t) t

-- the ticks that are held, in the order of their slots
unfoldable pub held_ticks : List ℕ → List ℕ
held_ticks [] = []
held_ticks (t ∷ ts) = cond (eqb t 0) (held_ticks ts) (t ∷ held_ticks ts)

-- ---- headings

unfoldable pub held_headings : Slots → List ℤ
held_headings s = take s.held s.headings

-- the slot of a heading, or for a new one the next
unfoldable pub heading_slot : List ℤ → ℕ → ℤ → ℕ
heading_slot headings held h = slot_of same_ℤ (take held headings) h

unfoldable pub with_heading : List ℤ → ℕ → ℤ → List ℤ
with_heading headings held h = set headings (heading_slot headings held h) h

unfoldable pub held_with : List ℤ → ℕ → ℤ → ℕ
held_with headings held h = cond (eqb (heading_slot headings held h) held) (held + 1) held
