-- Demand 2, order and repeats of rows make no difference to the rules: lists of rows that say the same keep the same rules, and closing answers the same of them, with the same
-- counts or the same first missing pair.
use Rattle.std.specs.Prelude.{List, ℕ}
use Rattle.row.specs.declared.reading.Entry.{Entry}
use Rattle.table.specs.declared.closing.Closed.{Closed}
use Rattle.promises_tables.specs.Rules.{RowRules}
use Rattle.promises_tables.specs.Closing.{Closes}
use Rattle.promises_tables.specs.Lookup.{SameSaid}

abbrev pub RulesAlike : Type 0
RulesAlike = (kind : ℕ) (rows more : List Entry) → SameSaid kind rows more → RowRules kind rows → RowRules kind more

abbrev pub ClosesAlike : Type 0
ClosesAlike =
    (kind coverage : ℕ) (rows more : List Entry) (c : Closed) → SameSaid kind rows more → Closes kind coverage rows c → Closes kind coverage more c
