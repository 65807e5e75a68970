-- What is remembered while a text is read (document 02, M-103): "the first line that set each cell", directly or as its mirror, and the lines that first brought each slot. Lines
-- count from 1, so that 0 says that there is none yet.
use Rattle.std.specs.Prelude.{cond, List, ℕ, eqb, ℤ, get_or, set, replicate}
use Rattle.row.specs.declared.reading.Entry.{Entry}
use Rattle.row.specs.Told.{Row}
use Rattle.grid.specs.declared.nodes.Pair.{Pair}
use Rattle.grid.specs.declared.nodes.Slots.{Slots}
use Rattle.grid.specs.Slots.{slot_of, heading_slot}
use Rattle.table.specs.Cells.{place_of}
use Rattle.table.specs.Closing.{node_of}
use Rattle.reader.specs.declared.record.Record.{Record}
use Rattle.origins.specs.declared.memory.Origins.{Origins}

-- the caller lends a line number for each flag
abbrev pub lines_lent : ℕ
lines_lent = 6_400

pub record Memory : Type 0 where
  pub origins : Origins
  pub lines : List ℕ

abbrev pub memory_of : Origins → List ℕ → Memory
memory_of origins lines = record { origins = origins; lines = lines }

-- nothing is brought yet
abbrev pub no_origins : Origins
no_origins = record { ticks = replicate 20 0; headings = replicate 4 0 }

-- the first line stays: one is put down only where none stands
unfoldable pub noted : ℕ → ℕ → List ℕ → List ℕ
noted line at l = cond (eqb (get_or l at 0) 0) (set l at line) l

-- ---- where things stand

abbrev pub tick_in : Slots → ℕ → ℕ
tick_in s t = slot_of eqb s.ticks t

abbrev pub heading_in : Slots → ℤ → ℕ
heading_in s h = heading_slot s.headings s.held h

-- the place of a pair's line is that of its flag
unfoldable pub pair_in : Slots → Pair → ℕ
pair_in s p = place_of (node_of s p.first) (node_of s p.second)

-- ---- a row

-- its two nodes, and the two turned about, which are its mirror's
abbrev pub pair_of : Entry → Pair
pair_of e =
    record { first = record { tick = e.tick1; heading = e.heading1 }; second = record { tick = e.tick2; heading = e.heading2 } }

abbrev pub turned : Pair → Pair
turned p = record { first = p.second; second = p.first }

-- a row that the table has taken, at its line: its cell, the mirror's, both frequencies and both headings. The slots are those that hold it
unfoldable pub remembered : Slots → Entry → ℕ → Memory → Memory
remembered s e line m =
    record {
      origins =
          record {
            ticks = noted line (tick_in s e.tick2) (noted line (tick_in s e.tick1) m.origins.ticks);
            headings = noted line (heading_in s e.heading2) (noted line (heading_in s e.heading1) m.origins.headings);
          };
      lines = noted line (pair_in s (turned (pair_of e))) (noted line (pair_in s (pair_of e)) m.lines);
    }

-- the end of a line, which left the reader as it now is: a used row that did not stop it is in the table, and is remembered at its line
unfoldable pub recalled : Row → Record → Memory → Memory
recalled (Row.Used e) r m = cond (eqb r.marks.stage 1) (remembered r.slots e r.marks.lines m) m
recalled Row.Blank r m = m
recalled Row.Title r m = m
recalled Row.PassedOver r m = m
recalled (Row.Refused number) r m = m
