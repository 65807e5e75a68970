-- Calls that end accepted have made an accepted table; and the queries of one. Assumes nothing.
use mathlib.Core.List.{List, ◌++◌}
use mathlib.Core.Path.{◌≡◌, sym, subst, ◌∙◌}
use native.Mathlib.Omega.{arith}
use lib.IntN.{ℤ}
use Rattle.row.specs.declared.reading.Choices.{Choices}
use Rattle.row.specs.declared.reading.Entry.{Entry}
use Rattle.phase.specs.Turn.{Quarter}
use Rattle.phase.specs.Rule.{Rule, limits}
use Rattle.phase.proofs.Seconds.{rule}
use Rattle.reader.specs.declared.record.Record.{Record}
use Rattle.table.specs.Placing.{table_of}
use Rattle.reader.specs.Model.{table_at, State}
use Rattle.promises_chains.specs.Chain.{Call, calls_of, opened, chain_text, SoundState}
use Rattle.promises_tables.specs.Rules.{Complete}
use Rattle.promises_tables.specs.Holds.{Holds}
use Rattle.promises_texts.specs.Start.{Start, StartsAt, from_opening}
use Rattle.promises_texts.specs.Accepted.{AcceptsFrom}
use Rattle.promises_accepted.specs.Bounded.{Bounded}
use Rattle.promises_queries.specs.Queries.{Asked}
use Rattle.promises_accepted.specs.ChainQueries.{
  AcceptedTable,
  CallsAcceptedTable,
  ChainAcceptedTable,
  SomeRows,
  ChainNoFifteen,
  ChainCoefficient,
  ChainForceBy,
  ChainLoadBy,
  ChainDisplayBy,
  ChainForce,
  ChainLoad,
  ChainDisplay,
}
use Rattle.promises_chains.proofs.Calls.{calls-sound}
use Rattle.promises_texts.proofs.Start.{open-starts}
use Rattle.promises_texts.proofs.Verdicts.{reads-one}
use Rattle.promises_texts.proofs.Along.{calls_table, accepted-is}
use Rattle.promises_accepted.proofs.Ranges.{rows-bounded}
use Rattle.promises_queries.proofs.Coefficients.{coefficient-linear}
use Rattle.promises_forces.proofs.Demand.{demand3-by}
use Rattle.promises_accepted.proofs.Bounded.{no-fifteen, points-answered, sea-free, sea-answered-by}
use Rattle.promises_queries.proofs.Queries.{load-given-by}
use Rattle.promises_forces.proofs.Shown.{load-in-range-by, display-shows-by}

-- ---- calls that end accepted

module _ (g : Start) (s : State) (calls : List Call) (at : StartsAt g s) (end : (calls_of calls s).reader.marks.stage ≡ 2) where
  taken : (rows : List Entry) × AcceptsFrom g (chain_text calls) rows × Holds g.choices.kind (g.rows ++ rows) (table_at (calls_of calls s))
  taken = let (rows, is) = calls_table g s calls at in (rows, accepted-is end is.stands, is.holds)

  module _ (rows : List Entry) (a : AcceptsFrom g (chain_text calls) rows) where
    pub calls-hold : Holds g.choices.kind (g.rows ++ rows) (table_at (calls_of calls s))
    calls-hold =
        let k = taken in
        subst (λ (l : List Entry). Holds g.choices.kind (g.rows ++ l) (table_at (calls_of calls s))) (reads-one k.1.reads a.reads) k.2

    ends-sound : SoundState s.reader.choices s.cells s.flags (calls_of calls s)
    ends-sound = calls-sound s calls at.ready.shaped at.ready.valid

    ends-chosen : g.choices ≡ (calls_of calls s).reader.choices
    ends-chosen = sym (ends-sound.choices ∙ at.choices)

    table-accepted : AcceptedTable (g.rows ++ rows) (calls_of calls s).reader (calls_of calls s).cells
    table-accepted =
        record {
          made = record {
            valid = ends-sound.valid;
            long = let e = ends-sound.cells-long in omega (arith, at.ready.cells);
            flags = (calls_of calls s).flags;
            holds = subst (λ (c : Choices). Holds c.kind (g.rows ++ rows) (table_at (calls_of calls s))) ends-chosen calls-hold;
          };
          shaped = ends-sound.shaped;
          accepted = end;
          some-row = a.some-row;
          complete = subst (λ (c : Choices). Complete c.kind c.coverage (g.rows ++ rows)) ends-chosen a.complete;
        }

pub calls-accepted-table : CallsAcceptedTable
calls-accepted-table g s calls rows at a end = table-accepted g s calls at end rows a

pub chain-accepted-table : ChainAcceptedTable
chain-accepted-table c cells flags calls rows o = calls-accepted-table (from_opening c) (opened c cells flags) calls rows (open-starts c cells flags o)

pub some-rows : SomeRows
some-rows g s calls at end = let k = taken g s calls at end in (k.0, k.1)

-- ---- queries

module _ (rows : List Entry) (r : Record) (cells : List ℤ) (a : AcceptedTable rows r cells) where
  pub bounded : Bounded cells
  bounded = rows-bounded r.choices.kind rows (table_of r.slots cells a.made.flags) a.made.holds

  pub asked : Asked r cells
  asked = record { long = λ h. omega (arith, a.made.long); accepted = record { valid = a.made.valid; accepted = a.accepted } }

pub chain-no-fifteen : ChainNoFifteen
chain-no-fifteen rows r cells a sea scale m n place = no-fifteen r cells sea scale m n place a.shaped (bounded rows r cells a)

pub chain-coefficient : ChainCoefficient
chain-coefficient rows r cells a m n h k =
    let (re, im, e) = points-answered r cells m n a.shaped (bounded rows r cells a) (asked rows r cells a) h k in
    (re, im, e, coefficient-linear r cells m n re im e)

pub chain-force-by : {clock : Quarter} → Rule limits clock → ChainForceBy clock
chain-force-by {clock} keeps rows r cells a sea t fit placed =
    let (force, e) = sea-answered-by clock r cells sea t a.shaped (bounded rows r cells a) (asked rows r cells a) fit placed in
    (force, e, demand3-by keeps r cells sea t force e)

pub chain-load-by : {clock : Quarter} → Rule limits clock → ChainLoadBy clock
chain-load-by {clock} keeps rows r cells a sea t fit placed =
    let (mean, whole, e) = load-given-by clock r cells sea t (sea-free r cells sea a.shaped (bounded rows r cells a) (asked rows r cells a) fit placed) in
    let (small, little) = load-in-range-by keeps r cells sea t mean whole a.shaped e in
    (mean, whole, e, small, little)

pub chain-display-by : {clock : Quarter} → Rule limits clock → ChainDisplayBy clock
chain-display-by {clock} keeps rows r cells a sea t scale fit placed usable =
    let (mean, whole, e, _, _) = chain-load-by keeps rows r cells a sea t fit placed in
    (mean, whole, e, display-shows-by clock r cells sea t scale mean whole e usable)

-- ---- at whole seconds

pub chain-force : ChainForce
chain-force = chain-force-by rule

pub chain-load : ChainLoad
chain-load = chain-load-by rule

pub chain-display : ChainDisplay
chain-display = chain-display-by rule
