-- Demand 2, what queries promise of an accepted table, by its rows: its entries are what rows said, coefficients swap as entries do, and two tables whose rows say the same
-- answer every query alike. So the order of rows, repeats, blank lines, where the text is cut, and filling in both halves make no difference.
use Rattle.std.specs.Prelude.{true, ◌⊎◌, ◌≡◌, ℕ, ℤ, length}
use mathlib.Core.List.{List, [], ◌++◌, Memᴰ}
use Rattle.row.specs.declared.reading.Choices.{Choices}
use Rattle.row.specs.declared.reading.Entry.{Entry}
use Rattle.grid.specs.declared.nodes.Node.{Node}
use Rattle.table.specs.Placing.{value_of}
use Rattle.table.specs.Entries.{entry_at}
use Rattle.table.specs.View.{view_of}
use Rattle.reader.specs.declared.record.Record.{Record}
use Rattle.reader.specs.Model.{table_at, State}
use Rattle.lines.specs.Listing.{listed}
use Rattle.load.specs.Coefficient.{coefficient_of}
use Rattle.load.specs.Answers.{Coefficient}
use Rattle.promises_calls.specs.Lines.{text_lines}
use Rattle.promises_chains.specs.Chain.{Call, calls_of, Opens, chain, chain_text, closes}
use Rattle.promises_rows.specs.Said.{mirror_of, Said, ticks_of, headings_of}
use Rattle.promises_tables.specs.Rules.{RowRules, Needed, Complete}
use Rattle.promises_tables.specs.Holds.{Holds}
use Rattle.promises_texts.specs.Start.{Start, StartsAt}
use Rattle.promises_texts.specs.Accepted.{Reads, ReadsFrom, AcceptsFrom, Accepts}
use Rattle.promises_rows.specs.ByValue.{Alike}
use Rattle.promises_tables.specs.Lookup.{SameSaid, SameRows}
use Rattle.promises_queries.specs.Places.{InPlace, WeightedPair, CornersOf}
use Rattle.promises_queries.specs.Coefficients.{corner_entry}
use Rattle.promises_queries.specs.Alike.{SameQueries}
use Rattle.promises_accepted.specs.ChainQueries.{AcceptedTable}

-- ---- the rows of an accepted table

-- where calls made it, these are those of the start and of the text, and the table is what they say, with the flags that stand there
abbrev pub RowsHeld : Type 0
RowsHeld =
    (g : Start) (s : State) (calls : List Call) (rows : List Entry) → StartsAt g s → AcceptsFrom g (chain_text calls) rows →
    let end = calls_of calls s in end.reader.marks.stage ≡ 2 → Holds g.choices.kind (g.rows ++ rows) (table_at end)

-- ---- entries

-- the entry of a pair that the coverage needs is what a row says of it
abbrev pub EntriesSaid : Type 0
EntriesSaid =
    (rows : List Entry) (r : Record) (cells : List ℤ) → AcceptedTable rows r cells → (a b : Node) → Needed r.choices.coverage rows a b
    → Said r.choices.kind rows a b (entry_at r.slots cells a b)

-- so a coefficient and a force read nothing but what rows said: it holds of every corner of two points, or of two lines of a sea, that are in their places, where `first` is the
-- heading of line 1
abbrev pub CornersSaid : Type 0
CornersSaid =
    (rows : List Entry) (r : Record) (cells : List ℤ) → AcceptedTable rows r cells
    → (first : ℤ) (a b : Node) (corners : List WeightedPair) → InPlace r first a → InPlace r first b → CornersOf r a b corners
    → (c : WeightedPair) → Memᴰ c corners → Said r.choices.kind rows c.first c.second (corner_entry r cells c)

-- ---- swapping both frequency and heading

-- conjugates a coefficient of a difference table, and keeps one of a sum table
abbrev pub ChainSwaps : Type 0
ChainSwaps =
    (rows : List Entry) (r : Record) (cells : List ℤ) → AcceptedTable rows r cells
    → (a b : Node) (re im : ℤ) → coefficient_of r cells a b ≡ Coefficient.Value re im
    → let v = mirror_of r.choices.kind (record { re = re; im = im }) in coefficient_of r cells b a ≡ Coefficient.Value v.re v.im

-- ---- two tables

-- alike by values, with one listing, line by line, and the same coefficients, forces and displays
pub record SameTables (r : Record) (cells : List ℤ) (q : Record) (others : List ℤ) : Type 0 where
  pub alike : Alike (view_of r.slots cells) (view_of q.slots others)
  pub listing : (k : ℕ) → listed r cells k ≡ listed q others k
  pub queries : SameQueries r cells q others

abbrev pub ChainsAlike : Type 0
ChainsAlike =
    (rows more : List Entry) (r : Record) (cells : List ℤ) (q : Record) (others : List ℤ) → AcceptedTable rows r cells → AcceptedTable more q others
    → r.choices ≡ q.choices
    → SameSaid r.choices.kind rows more
    → SameTables r cells q others

-- rows that say what those of an accepted table say are accepted too: a text from a start that brings them keeps the rules, with the same counts
abbrev pub RowsAccepted : Type 0
RowsAccepted =
    (g : Start) (text : List ℕ) (rows more : List Entry) → RowRules g.choices.kind rows → (rows ≡ [] → ⊥)
    → Complete g.choices.kind g.choices.coverage rows
    → ReadsFrom g (text_lines text) more
    → SameSaid g.choices.kind rows (g.rows ++ more)
    → AcceptsFrom g text more
    × (length (ticks_of (g.rows ++ more)) ≡ length (ticks_of rows))
    × (length (headings_of (g.rows ++ more)) ≡ length (headings_of rows))

-- so a text whose rows say what those of an accepted one say is accepted too
abbrev pub TextsAlike : Type 0
TextsAlike =
    (c : Choices) (text other : List ℕ) (rows more : List Entry) → Accepts c text rows → Reads c 0 (text_lines other) more → SameSaid c.kind rows more
    → Accepts c other more × (length (ticks_of more) ≡ length (ticks_of rows)) × (length (headings_of more) ≡ length (headings_of rows))

-- ---- rows that say the same

-- the same rows, in any order and with any repeats
abbrev pub OrderSaid : Type 0
OrderSaid = (kind : ℕ) (rows more : List Entry) → SameRows rows more → SameSaid kind rows more

-- the row of the other half: the two nodes swapped, with the mirror of the value
unfoldable pub mirror_row : ℕ → Entry → Entry
mirror_row kind e =
    let v = mirror_of kind (value_of e) in
    record { tick1 = e.tick2; tick2 = e.tick1; heading1 = e.heading2; heading2 = e.heading1; re = v.re; im = v.im }

-- rows, and more rows: beside them only rows of the other half, all of them or some, anywhere and however often
pub record BothHalves (kind : ℕ) (rows more : List Entry) : Type 0 where
  pub rows-kept : (e : Entry) → Memᴰ e rows → Memᴰ e more
  pub beside : (e : Entry) → Memᴰ e more → Memᴰ e rows ⊎ ((f : Entry) × Memᴰ f rows × (e ≡ mirror_row kind f))

abbrev pub HalvesSaid : Type 0
HalvesSaid = (kind : ℕ) (rows more : List Entry) → BothHalves kind rows more → SameSaid kind rows more

-- Both halves filled in: take an accepted table, and a text that has, beside its rows, also rows of the other half. Sent from a start, with the same choices, in any pieces, and
-- closed, it is accepted too, and its table answers every query as that of the one half does.
abbrev pub HalvesFromAlike : Type 0
HalvesFromAlike =
    (rows : List Entry) (r : Record) (cells : List ℤ) → AcceptedTable rows r cells
    → (g : Start) (s : State) (calls : List Call) (more : List Entry) → StartsAt g s → g.choices ≡ r.choices → closes calls ≡ true
    → ReadsFrom g (text_lines (chain_text calls)) more → BothHalves r.choices.kind rows (g.rows ++ more)
    → let u = calls_of calls s in (u.reader.marks.stage ≡ 2) × SameTables r cells u.reader u.cells

abbrev pub HalvesAlike : Type 0
HalvesAlike =
    (rows : List Entry) (r : Record) (cells : List ℤ) → AcceptedTable rows r cells
    → (lent : List ℤ) (flags : List ℕ) (calls : List Call) (more : List Entry) → Opens r.choices lent flags → closes calls ≡ true
    → Reads r.choices 0 (text_lines (chain_text calls)) more → BothHalves r.choices.kind rows more
    → let u = chain r.choices lent flags calls in (u.reader.marks.stage ≡ 2) × SameTables r cells u.reader u.cells
