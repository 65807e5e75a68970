-- M-100: "Show that the text and the coverage give the six tables back." The coverage is not in the text: with one heading, single and full coverage write the same lines. A reader of such
-- texts (`proteus_read`, crates/proteus/specs/Reading.antt) gives back what each table was opened for, its frequencies and headings, and its entry at every pair that the coverage needs; and
-- no query and no listing reads more of a table than that. Nor does the writer, so
-- that the order in which the rows of any of the six arrived makes no difference to the text.
use mathlib.Core.List.{List, [], ◌∷◌, map, Memᴰ}
use Rattle.std.proofs.Math.Option.{some}
use Rattle.std.specs.Prelude.{◌≡◌, ℕ}
use Rattle.lines.specs.Listing.{listed}
use Rattle.hull.specs.Six.{Component}
use Rattle.proteus.specs.Answer.{line_at, proteus_text, written}
use Rattle.proteus.specs.Reading.{values_of, proteus_read}
use Rattle.row.specs.declared.reading.Entry.{Entry}
use Rattle.promises_calls.specs.Kept.{Shaped}
use Rattle.promises_tables.specs.Lookup.{SameSaid}
use Rattle.promises_queries.specs.Queries.{Asked}
use Rattle.promises_queries.specs.Alike.{SameQueries, AlikeTables}
use Rattle.promises_proteus.specs.Proteus.{SixTables, SixAsked, TextFree}
use Rattle.promises_accepted.specs.ChainQueries.{AcceptedTable}

-- the coverage that every one of them was opened for
abbrev pub AllOver : List Component → ℕ → Type 0
AllOver six coverage = (c : Component) → Memᴰ c six → c.table.choices.coverage ≡ coverage

abbrev pub ProteusBack : Type 0
ProteusBack =
    (six : List Component) (coverage : ℕ) → SixTables six → SixAsked six → AllOver six coverage
    → proteus_read coverage (proteus_text six) ≡ some (map values_of six)

-- two tables that answer alike, whatever their slots
pub record SameAnswers (c d : Component) : Type 0 where
  pub listing : (k : ℕ) → listed c.table c.cells k ≡ listed d.table d.cells k
  pub queries : SameQueries c.table c.cells d.table d.cells

-- what is given back is all that is read of a table: two that are accepted, and have the same values, answer alike
pub record AskedTable (c : Component) : Type 0 where
  pub shaped : Shaped c.table
  pub asked : Asked c.table c.cells

abbrev pub ValuesAnswer : Type 0
ValuesAnswer = (c d : Component) → AskedTable c → AskedTable d → values_of c ≡ values_of d → SameAnswers c d

-- two sixes that are written as one text, over one coverage: the two tables of each component answer alike
abbrev pub ProteusSame : Type 0
ProteusSame =
    (six others : List Component) (coverage : ℕ) → SixTables six → SixTables others → TextFree six → TextFree others → AllOver six coverage → AllOver others coverage
    → proteus_text six ≡ proteus_text others
    → (c d : Component) → Memᴰ c six → Memᴰ d others → c.table.choices.component ≡ d.table.choices.component
    → SameAnswers c d

-- two sixes of which the tables, place by place, are alike over their coverage, in whatever slots
pub data AlikeSixes : List Component → List Component → Type 0 where
  none : AlikeSixes [] []
  more :
      {c d : Component} {cs ds : List Component} → AlikeTables c.table c.cells d.table d.cells → AlikeSixes cs ds → AlikeSixes (c ∷ cs) (d ∷ ds)

-- they are refused alike and written alike, the whole and each line
pub record SameWriting (six others : List Component) : Type 0 where
  pub whole : (out : List ℕ) → written six out ≡ written others out
  pub line : (k : ℕ) → line_at six k ≡ line_at others k

abbrev pub ProteusAlike : Type 0
ProteusAlike = (six others : List Component) → SixTables six → SixTables others → AlikeSixes six others → SameWriting six others

-- two sixes that were accepted with the same choices from rows that say the same: the same rows in whatever order and however often, say (`OrderSaid`), or one half and both (`HalvesSaid`)
pub data SaidAlike : List Component → List Component → Type 0 where
  none : SaidAlike [] []
  more :
      {c d : Component} {cs ds : List Component} (rows others : List Entry) → AcceptedTable rows c.table c.cells → AcceptedTable others d.table d.cells
      → c.table.choices ≡ d.table.choices
      → SameSaid c.table.choices.kind rows others
      → SaidAlike cs ds
      → SaidAlike (c ∷ cs) (d ∷ ds)

abbrev pub ProteusOrder : Type 0
ProteusOrder = (six others : List Component) → SaidAlike six others → SameWriting six others
