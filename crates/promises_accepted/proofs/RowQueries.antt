-- Queries of tables that rows made. Assumes nothing.
use mathlib.Core.Path.{◌≡◌, sym, subst}
use Prim.Native.Nat.{ℕ}
use Rattle.table.specs.Placing.{table_of}
use Rattle.promises_tables.specs.Holds.{Holds}
use Rattle.promises_accepted.specs.RowQueries.{RowsSwap, RowsQueries}
use Rattle.promises_rows.proofs.ByValue.{alike-over-each}
use Rattle.promises_tables.proofs.Lookup.{entry-swapped, tables-alike}
use Rattle.promises_queries.proofs.Alike.{alike-queries}

pub rows-swap : RowsSwap
rows-swap rows r cells m a b h k = entry-swapped r.choices.kind rows (table_of r.slots cells m.flags) m.holds a b h k

pub rows-queries : RowsQueries
rows-queries rows more r cells q others m n stage choices same =
    let table = table_of q.slots others n.flags in
    let kinds : q.choices.kind ≡ r.choices.kind = λ i. (sym choices i).kind in
    let alike =
    tables-alike r.choices.kind rows more (table_of r.slots cells m.flags) table m.holds (subst (λ (k : ℕ). Holds k more table) kinds n.holds) same in
    alike-queries r cells q others
    (record { valid = (m.valid, n.valid); stage = stage; choices = choices; long = (m.long, n.long); alike = alike-over-each r.choices.coverage _ _ alike })
