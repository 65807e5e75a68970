-- Demand 2, the table is what the rows say, all along a chain (document 01, "The table"): after every piece, every refusal and every closing, its slots, cells and flags are
-- those of the used rows of the lines read so far. "A refused row writes no slot, cell or flag; earlier rows stay."
use Rattle.std.specs.Prelude.{true, List, [], ◌∷◌, ◌++◌, ◌↔◌, ◌≡◌, ℕ, ℤ, length}
use Rattle.row.specs.declared.reading.Choices.{Choices}
use Rattle.row.specs.declared.reading.Entry.{Entry}
use Rattle.reader.specs.declared.reader.Answer.TheVariants as Answer
use Rattle.reader.specs.Model.{table_at, State, close_of}
use Rattle.promises_calls.specs.Lines.{text_lines, ended_lines}
use Rattle.promises_rows.specs.Said.{ticks_of, headings_of}
use Rattle.promises_tables.specs.Rules.{Missing}
use Rattle.promises_tables.specs.Holds.{Holds}
use Rattle.promises_chains.specs.Chain.{Call, calls_of, Opens, chain, chain_text, closes}
use Rattle.promises_texts.specs.Start.{Start, StartsAt, from_opening}
use Rattle.promises_texts.specs.Accepted.{ReadsFrom, BreaksFrom, line_after, AcceptsFrom, Accepts}

-- where a reader stands after a text from a start, and the rows that the text brought
pub data StandsFrom (g : Start) (text : List ℕ) (s : State) (rows : List Entry) : Type 0 where
  -- open: the rows of all lines that are ended
  reading : s.reader.marks.stage ≡ 1 → ReadsFrom g (ended_lines text) rows → StandsFrom g text s rows
  -- stuck with 3 to 9 or 17: the rows of the lines before the first that breaks a rule, whose number and line the record has
  halted :
      (before : List (List ℕ)) (line : List ℕ) (after : List (List ℕ)) → text_lines text ≡ before ++ (line ∷ after) → ReadsFrom g before rows
      → BreaksFrom g before rows line s.reader.marks.stage
      → s.reader.marks.line ≡ line_after g before
      → StandsFrom g text s rows
  -- closed: the rows of all lines. Stuck with 10 there is none; with 11 the record has the first missing pair; accepted, all the rules hold
  empty : s.reader.marks.stage ≡ 10 → ReadsFrom g (text_lines text) rows → g.rows ++ rows ≡ [] → StandsFrom g text s rows
  lacking :
      s.reader.marks.stage ≡ 11 → ReadsFrom g (text_lines text) rows
      → Missing g.choices.kind g.choices.coverage (g.rows ++ rows) s.reader.pair
      → StandsFrom g text s rows
  accepted : s.reader.marks.stage ≡ 2 → AcceptsFrom g text rows → StandsFrom g text s rows

-- and wherever that is, the table holds the rows of the start, and these
pub record TableFrom (g : Start) (text : List ℕ) (s : State) (rows : List Entry) : Type 0 where
  pub stands : StandsFrom g text s rows
  pub holds : Holds g.choices.kind (g.rows ++ rows) (table_at s)

-- after any calls from a start
abbrev pub CallsTable : Type 0
CallsTable =
    (g : Start) (s : State) (calls : List Call) → StartsAt g s → (rows : List Entry) × TableFrom g (chain_text calls) (calls_of calls s) rows

-- and where a closing is accepted there, every needed pair was said, and the two counts are the numbers of distinct frequencies and headings of the rows that the table holds
abbrev pub CallsAccepted : Type 0
CallsAccepted =
    (g : Start) (s : State) (calls : List Call) (frequencies headings : ℕ) → StartsAt g s →
    let o = close_of (calls_of calls s) in o.answer ≡ Answer.Accepted frequencies headings →
    (rows : List Entry)
    × AcceptsFrom g (chain_text calls) rows
    × Holds g.choices.kind (g.rows ++ rows) (table_at o.after)
    × (frequencies ≡ length (ticks_of (g.rows ++ rows)))
    × (headings ≡ length (headings_of (g.rows ++ rows)))

-- so the table is accepted exactly when there is a closing, and the text before the first keeps the rules
abbrev pub CallsAcceptedIff : Type 0
CallsAcceptedIff =
    (g : Start) (s : State) (calls : List Call) → StartsAt g s
    → ((calls_of calls s).reader.marks.stage ≡ 2) ↔ ((rows : List Entry) × AcceptsFrom g (chain_text calls) rows × (closes calls ≡ true))

-- ---- a chain, which is calls from opening

abbrev pub TableIs : Choices → List ℕ → State → List Entry → Type 0
TableIs c = TableFrom (from_opening c)

-- at every point of a chain
abbrev pub ChainTable : Type 0
ChainTable =
    (c : Choices) (cells : List ℤ) (flags : List ℕ) (calls : List Call) → Opens c cells flags
    → (rows : List Entry) × TableIs c (chain_text calls) (chain c cells flags calls) rows

-- and where a closing is accepted there, every needed pair was said, and the two counts are the numbers of distinct frequencies and headings of the rows that the table holds
abbrev pub ChainAccepted : Type 0
ChainAccepted =
    (c : Choices) (cells : List ℤ) (flags : List ℕ) (calls : List Call) (frequencies headings : ℕ) → Opens c cells flags →
    let o = close_of (chain c cells flags calls) in o.answer ≡ Answer.Accepted frequencies headings →
    (rows : List Entry)
    × Accepts c (chain_text calls) rows
    × Holds c.kind rows (table_at o.after)
    × (frequencies ≡ length (ticks_of rows))
    × (headings ≡ length (headings_of rows))

-- so the table is accepted exactly when there is a closing, and the text before the first keeps the rules
abbrev pub ChainAcceptedIff : Type 0
ChainAcceptedIff =
    (c : Choices) (cells : List ℤ) (flags : List ℕ) (calls : List Call) → Opens c cells flags
    → ((chain c cells flags calls).reader.marks.stage ≡ 2) ↔ ((rows : List Entry) × Accepts c (chain_text calls) rows × (closes calls ≡ true))
