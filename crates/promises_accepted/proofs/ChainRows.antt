-- An accepted table by its rows. Assumes nothing.
use mathlib.Core.List.{List, ◌++◌, Memᴰ}
use mathlib.Core.Logic.{⊎_elim}
use mathlib.Core.Path.{◌≡◌, refl, sym, subst, ◌∙◌}
use Prim.Native.Nat.{ℕ}
use lib.IntN.{ℤ}
use Rattle.whole.specs.Complex.{Complex}
use Rattle.row.specs.declared.reading.Choices.{Choices}
use Rattle.row.specs.declared.reading.Entry.{Entry}
use Rattle.grid.specs.declared.nodes.Node.{Node}
use Rattle.table.specs.Placing.{value_of, table_of}
use Rattle.reader.specs.declared.record.Record.{Record}
use Rattle.promises_chains.specs.Chain.{calls_of, opened, chain_text}
use Rattle.promises_rows.specs.Said.{first_of, second_of, Says, Said}
use Rattle.promises_rows.specs.Said.Says.{directly, mirrored}
use Rattle.promises_tables.specs.Rules.{RowRules, Complete}
use Rattle.promises_tables.specs.Holds.{Holds}
use Rattle.promises_texts.specs.Start.{Start, from_opening}
use Rattle.promises_tables.specs.Lookup.{SameSaid}
use Rattle.promises_queries.specs.Places.{WeightedPair, CornersOf, of-ends}
use Rattle.promises_queries.specs.Coefficients.{corner_entry}
use Rattle.promises_accepted.specs.ChainQueries.{AcceptedTable}
use Rattle.promises_accepted.specs.ChainRows.{
  RowsHeld,
  EntriesSaid,
  CornersSaid,
  ChainSwaps,
  ChainsAlike,
  RowsAccepted,
  TextsAlike,
  OrderSaid,
  mirror_row,
  HalvesSaid,
  HalvesFromAlike,
  HalvesAlike,
}
use Rattle.promises_rows.proofs.Said.{mirror_of-twice, says-cases}
use Rattle.promises_tables.proofs.Placed.{row-rules}
use Rattle.promises_rows.proofs.ByValue.{alike-over-each}
use Rattle.promises_tables.proofs.Lookup.{has-over, entry-said, tables-alike, same-rows-said}
use Rattle.promises_listings.proofs.Listings.{listing-alike}
use Rattle.promises_tables.proofs.Reordered.{none-too, frequencies-are, headings-are, complete-too, rules-alike}
use Rattle.promises_chains.proofs.Calls.{calls-sound}
use Rattle.promises_texts.proofs.Start.{open-starts}
use Rattle.promises_texts.proofs.Along.{calls-accepted-iff}
use Rattle.promises_queries.proofs.Seas.{place-of}
use Rattle.promises_queries.proofs.Ends.{end_is, node-held, one-heading}
use Rattle.promises_queries.proofs.Corners.{corner-of}
use Rattle.promises_queries.proofs.Coefficients.{coefficient-swaps}
use Rattle.promises_queries.proofs.Queries.{free}
use Rattle.promises_accepted.proofs.RowQueries.{rows-swap, rows-queries}
use Rattle.promises_accepted.proofs.ChainQueries.{calls-hold, calls-accepted-table, asked}

-- ---- the rows of an accepted table

pub rows-held : RowsHeld
rows-held g s calls rows at a end = calls-hold g s calls at end rows a

-- ---- entries

pub entries-said : EntriesSaid
entries-said rows r cells t a b n =
    let (v, o) = t.complete a b n in
    subst (Said r.choices.kind rows a b) (sym (entry-said r.choices.kind rows (table_of r.slots cells t.made.flags) t.made.holds a b v o)) o

pub corners-said : CornersSaid
corners-said rows r cells t first a b corners ha hb are c in-corners = go are in-corners
  where
    go : {cs : List WeightedPair} → CornersOf r a b cs → Memᴰ c cs → Said r.choices.kind rows c.first c.second (corner_entry r cells c)
    go (of-ends {ends} {others} ends-a ends-b) m =
        let (i, j, in-a, in_b, is) = corner-of ends others c m in
        let own-a = (place-of r first a ha).1.own in
        let own-b = (place-of r first b hb).1.own in
        let end-a = end_is ends-a i in-a in
        let end-b = end_is ends-b j in_b in
        let over = has-over r.choices.kind rows (table_of r.slots cells t.made.flags) t.made.holds in
        subst (λ (x : WeightedPair). Said r.choices.kind rows x.first x.second (corner_entry r cells x)) is
        (entries-said rows r cells t i.node j.node
        (record {
          first = over i.node (node-held own-a.holds end-a);
          second = over j.node (node-held own-b.holds end-b);
          single = one-heading own-a own-b end-a end-b;
        }))

-- ---- swapping

pub chain-swaps : ChainSwaps
chain-swaps rows r cells t a b re im e = coefficient-swaps r cells a b re im (rows-swap rows r cells t.made) e

-- ---- two tables

pub chains-alike : ChainsAlike
chains-alike rows more r cells q others t w c same =
    let alike =
    tables-alike r.choices.kind rows more (table_of r.slots cells t.made.flags) (table_of q.slots others w.made.flags) t.made.holds
    (subst (λ (d : Choices). Holds d.kind more (table_of q.slots others w.made.flags)) (sym c) w.made.holds)
    same
    in
    record {
      alike = alike;
      listing =
          listing-alike r q cells others t.shaped w.shaped (free r cells (asked rows r cells t) ∙ sym (free q others (asked more q others w))) c
          (alike-over-each r.choices.coverage _ _ alike);
      queries = rows-queries rows more r cells q others t.made w.made (t.accepted ∙ sym w.accepted) c same;
    }

pub rows-accepted : RowsAccepted
rows-accepted g text rows more rules some complete r same =
    let kind = g.choices.kind in (
      record {
        reads = r;
        rules = rules-alike kind rows (g.rows ++ more) same rules;
        some-row = λ e. some (none-too (λ m n v. (same m n v).0) e);
        complete = complete-too kind rows (g.rows ++ more) same g.choices.coverage complete;
      },
      sym (frequencies-are kind rows (g.rows ++ more) same),
      sym (headings-are kind rows (g.rows ++ more) same),
    )

pub texts-alike : TextsAlike
texts-alike c text other rows more a r same = rows-accepted (from_opening c) other rows more a.rules a.some-row a.complete r same

-- ---- rows that say the same

pub order-said : OrderSaid
order-said = same-rows-said

-- the row of the other half says what the row itself says
mirror-says : {kind : ℕ} {e : Entry} {a b : Node} {v : Complex} → Says kind (mirror_row kind e) a b v → Says kind e a b v
unfolding mirror_row
mirror-says {kind} {e} s =
    says-cases {kind = kind} {e = mirror_row kind e} (Says kind e) mirrored
    (subst (Says kind e (first_of e) (second_of e)) (sym (mirror_of-twice kind (value_of e))) directly)
    s

pub halves-said : HalvesSaid
halves-said kind rows more h a b v = (
  (λ o. record { row = o.row; listed = h.rows-kept o.row o.listed; says = o.says }),
  (λ o.
      ⊎_elim
      (λ (m : Memᴰ o.row rows). record { row = o.row; listed = m; says = o.says })
      (λ k. record { row = k.0; listed = k.1; says = mirror-says (subst (λ (e : Entry). Says kind e a b v) k.2 o.says) })
      (h.beside o.row o.listed)),
)

-- of the same choices, written as those of the start
module _ (rows : List Entry) (r : Record) (cells : List ℤ) (t : AcceptedTable rows r cells) (g : Start) (c : g.choices ≡ r.choices) where
  here-rules : RowRules g.choices.kind rows
  here-rules = subst (λ (d : Choices). RowRules d.kind rows) (sym c) (row-rules t.made.holds)

  here-complete : Complete g.choices.kind g.choices.coverage rows
  here-complete = subst (λ (d : Choices). Complete d.kind d.coverage rows) (sym c) t.complete

pub halves-from-alike : HalvesFromAlike
halves-from-alike rows r cells t g s calls more at c closed reads h =
    let same = halves-said r.choices.kind rows (g.rows ++ more) h in
    let same_here : SameSaid g.choices.kind rows (g.rows ++ more) = subst (λ (d : Choices). SameSaid d.kind rows (g.rows ++ more)) (sym c) same in
    let a = (rows-accepted g (chain_text calls) rows more (here-rules rows r cells t g c) t.some-row (here-complete rows r cells t g c) reads same_here).0 in
    let end = (calls-accepted-iff g s calls at).1 (more, a, closed) in
    let w = calls-accepted-table g s calls more at a end in
    let u = calls_of calls s in
    let chosen : r.choices ≡ u.reader.choices = sym ((calls-sound s calls at.ready.shaped at.ready.valid).choices ∙ at.choices ∙ c) in
    (end, chains-alike rows (g.rows ++ more) r cells u.reader u.cells t w chosen same)

pub halves-alike : HalvesAlike
halves-alike rows r cells t lent flags calls more o closed reads h =
    let c = r.choices in
    halves-from-alike rows r cells t (from_opening c) (opened c lent flags) calls more (open-starts c lent flags o) refl closed reads h
