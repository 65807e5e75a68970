-- A row that is refused 8 or 9 leaves the table as it was. Assumes nothing.
use Rattle.std.proofs.Common.{◌≡◌, refl, ap, ◌∙◌, Bool, true, false, cond, ◌||◌, ℕ, ℤ, List, Result, Ok, Err, IfErr}
use borrow.Author.Tests.{eqb-false}
use Rattle.refusals.specs.declared.refusal.Refusal.{Refusal}
use Rattle.refusals.proofs.Numbers.{numbered}
use Rattle.row.specs.declared.reading.Entry.{Entry}
use Rattle.row.specs.declared.reading.Row.{Row as CodeRow}
use Rattle.row.specs.declared.reading.Row.TheVariants as Code
use Rattle.row.specs.Told.{told}
use Rattle.grid.specs.declared.nodes.Slots.{Slots}
use Rattle.table.specs.Cells.{mirror}
use Rattle.table.specs.Placing.{fits, here, there, value_of, Table, Placed, table_of, clashes, written, placed, placed_by}
use Rattle.reader.specs.Model.{State, passed, ended}

pub refused-leaves : (kind : ℕ) (e : Entry) (t : Table) → ((placed kind e t).number ≡ 0 → ⊥) → (placed kind e t).table ≡ t
unfolding placed
refused-leaves kind e t =
    go (fits t.slots e) (clashes t (here t.slots e) (value_of e) || clashes t (there t.slots e) (mirror kind (value_of e)))
  where
    outcome : Bool → Bool → Placed
    outcome room clash =
        cond room
        (cond clash (record { number = 9; table = t }) (record { number = 0; table = written kind e t }))
        (record { number = 8; table = t })

    go : (room clash : Bool) → ((outcome room clash).number ≡ 0 → ⊥) → (outcome room clash).table ≡ t
    go true true h = refl
    go true false h = absurd (h refl)
    go false clash h = refl

-- what the code gives of it
pub refused-keeps : (kind : ℕ) (e : Entry) (s : Slots) (cells cells' : List ℤ) (flags flags' : List ℕ) (r : Result Slots Refusal)
    → placed_by s r cells' flags' ≡ placed kind e (table_of s cells flags)
    → IfErr r (λ _. (cells' ≡ cells) × (flags' ≡ flags))
refused-keeps kind e s cells cells' flags flags' (Ok slots) h = tt
refused-keeps kind e s cells cells' flags flags' (Err refusal) h =
    let t = table_of s cells flags in
    let some : (placed kind e t).number ≡ 0 → ⊥ = λ none. eqb-false _ _ (numbered refusal) (ap (λ (p : Placed). p.number) h ∙ none) in
    let same : table_of s cells' flags' ≡ t = ap (λ (p : Placed). p.table) h ∙ refused-leaves kind e t some in
    (ap (λ (u : Table). u.cells) same, ap (λ (u : Table). u.flags) same)

-- a row that is not used changes nothing
pub not-used : (row : CodeRow) → ((e : Entry) → row ≡ Code.Used e → ⊥) → (s : State) → passed s ≡ ended (told (Ok row)) s
unfolding ended
not-used Code.Blank h s = refl
not-used Code.Title h s = refl
not-used Code.PassedOver h s = refl
not-used (Code.Used e) h s = absurd (h e refl)
