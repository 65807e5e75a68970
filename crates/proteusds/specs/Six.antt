-- Six readers of one text: what is called of each, on the part of the cells and of the flags that is its own. Components are counted from 0 but where a table is opened.
use Rattle.std.specs.Prelude.{List, [], ◌∷◌, ◌++◌, ℕ, zero, suc, ◌+◌, ◌*◌, ℤ, take, drop, get_or, set}
use Rattle.reader.specs.declared.record.Record.{Record}
use Rattle.reader.specs.Model.{State, Out, out, state_of, never, open_of, piece_of, close_of}
use Rattle.proteusds.specs.declared.six.Call.{Call}

-- one call: a difference table is opened for the component, or the reader is handed the text, or closed
unfoldable pub called_of : Call → ℕ → List ℕ → State → Out
called_of (Call.Open coverage) component text s = open_of (record { kind = 0; component = component; coverage = coverage }) s.cells s.flags
called_of Call.Piece component text s = piece_of text s
called_of Call.Close component text s = close_of s

-- the k-th part of a list that has so many for each, and the list with another in its place
unfoldable pub part_of : {A : Type 0} → ℕ → ℕ → List A → List A
part_of each k xs = take each (drop (each * k) xs)

unfoldable pub with_part : {A : Type 0} → ℕ → ℕ → List A → List A → List A
with_part each k part xs = take (each * k) xs ++ (part ++ drop each (drop (each * k) xs))

-- the six parts of the cells
unfoldable pub parts_of : List ℤ → List (List ℤ)
parts_of cells =
    part_of 12_800 0 cells
    ∷ part_of 12_800 1 cells
    ∷ part_of 12_800 2 cells
    ∷ part_of 12_800 3 cells
    ∷ part_of 12_800 4 cells
    ∷ part_of 12_800 5 cells
    ∷ []

-- a call on the part of component k: nothing beyond that part changes
unfoldable pub called_at : Call → ℕ → List ℕ → State → Out
called_at call k text s =
    let o = called_of call (k + 1) text (state_of s.reader (part_of 12_800 k s.cells) (part_of 6_400 k s.flags)) in
    out (state_of o.after.reader (with_part 12_800 k o.after.cells s.cells) (with_part 6_400 k o.after.flags s.flags)) o.answer

-- the six with all their cells and flags
pub record Six : Type 0 where
  pub readers : List Record
  pub cells : List ℤ
  pub flags : List ℕ

abbrev pub six_of : List Record → List ℤ → List ℕ → Six
six_of readers cells flags = record { readers = readers; cells = cells; flags = flags }

-- after a call of the k-th
abbrev pub after_one : ℕ → List Record → Out → Six
after_one k readers o = six_of (set readers k o.after.reader) o.after.cells o.after.flags

unfoldable pub one_called : Call → List ℕ → ℕ → Six → Six
one_called call text k s = after_one k s.readers (called_at call k text (state_of (get_or s.readers k never) s.cells s.flags))

-- after calls of the first so many, one after the other
unfoldable pub called_to : Call → List ℕ → ℕ → Six → Six
called_to call text zero s = s
called_to call text (suc k) s = one_called call text k (called_to call text k s)
