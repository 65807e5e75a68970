-- Six tables that are alike to six others, place by place, are written as those are: tables that are alike over their coverage have the same values, and the writer goes by these.
-- So are tables whose rows say the same.
-- Assumes nothing.
use mathlib.Core.Path.{◌≡◌, refl, sym, ap, ◌∙◌}
use mathlib.Core.List.{List, ◌∷◌, map, Memᴰ}
use lib.ListN.{length}
use borrow.Author.Tests.{le-ltb}
use Rattle.table.specs.Cells.{cells_lent}
use Rattle.table.specs.Pairs.{pairs_of}
use Rattle.hull.specs.Six.{Component, is_short, is_unaccepted, frequencies, headings}
use Rattle.proteus.specs.Reading.{values_of}
use Rattle.proteus.proofs.WrittenAlike.{SameSixes, line_same, written_same}
use Rattle.promises_calls.specs.Kept.{Shaped}
use Rattle.promises_queries.specs.Alike.{AlikeTables}
use Rattle.promises_proteus.specs.Proteus.{says_of}
use Rattle.promises_proteus.specs.ProteusBack.{AlikeSixes, ProteusAlike, SaidAlike, ProteusOrder}
use Rattle.promises_listings.proofs.Listings.{same-ticks, same-headings, same-needed, pair_held}
use Rattle.promises_calls.proofs.SlotsOnce.{Distinct, slots-distinct, valid-slots}
use Rattle.promises_queries.proofs.Corners.{map_same}
use Rattle.promises_rows.proofs.ByValue.{alike-over-each}
use Rattle.promises_accepted.proofs.ChainRows.{chains-alike}

module _ (c d : Component) (a : AlikeTables c.table c.cells d.table d.cells) where
  short-same : is_short c ≡ is_short d
  unfolding is_short
  short-same = rw (le-ltb (length c.cells) cells_lent a.long.0, le-ltb (length d.cells) cells_lent a.long.1)

  unaccepted-same : is_unaccepted c ≡ is_unaccepted d
  unfolding is_unaccepted
  unaccepted-same = rw (a.valid.0, a.valid.1, a.stage)

  module _ (S : Distinct c.table.slots) (T : Distinct d.table.slots) where
    values_same : values_of c ≡ values_of d
    unfolding values_of frequencies headings
    values_same =
        let coverage = c.table.choices.coverage in
        let ticks = same-ticks coverage c.table.slots d.table.slots c.cells d.cells S T a.alike in
        let hs = same-headings coverage c.table.slots d.table.slots c.cells d.cells S T a.alike in
        let pairs = same-needed c.table d.table c.cells d.cells S T a.choices a.alike in
        let entries : (values_of c).entries ≡ (values_of d).entries =
        map_same (λ p. (p, says_of c p)) (λ p. (p, says_of d p)) (pairs_of coverage c.table.slots)
        (λ p m.
        let (first, second, single) = pair_held coverage c.table.slots p m in
        let said = a.alike.entries p.first p.second first second single in
        λ i. (p, said i))
        ∙ ap (map (λ p. (p, says_of d p))) pairs in
        λ i.
        record {
          kind = (a.choices i).kind;
          component = (a.choices i).component;
          coverage = (a.choices i).coverage;
          frequencies = ticks i;
          headings = hs i;
          entries = entries i;
        }

same_more :
    (c d : Component) {cs ds : List Component}
    → Shaped c.table
    → Shaped d.table
    → AlikeTables c.table c.cells d.table d.cells
    → SameSixes cs ds
    → SameSixes (c ∷ cs) (d ∷ ds)
same_more c d shaped shaped' a =
    let S = slots-distinct c.table shaped (valid-slots c.table a.valid.0) in
    let T = slots-distinct d.table shaped' (valid-slots d.table a.valid.1) in
    SameSixes.more (short-same c d a) (unaccepted-same c d a) (values_same c d a S T)

same-sixes :
    {six others : List Component}
    → ((c : Component) → Memᴰ c six → Shaped c.table)
    → ((d : Component) → Memᴰ d others → Shaped d.table)
    → AlikeSixes six others
    → SameSixes six others
same-sixes shaped shaped' AlikeSixes.none = SameSixes.none
same-sixes shaped shaped' (AlikeSixes.more {c = c} {d = d} a rest) =
    same_more c d (shaped c (Memᴰ.head refl)) (shaped' d (Memᴰ.head refl)) a
    (same-sixes (λ x m. shaped x (Memᴰ.tail m)) (λ x m. shaped' x (Memᴰ.tail m)) rest)

pub proteus-alike : ProteusAlike
proteus-alike six others tables tables' alike =
    let s = same-sixes tables.shaped tables'.shaped alike in record { whole = written_same s; line = line_same s }

-- ---- rows that say the same

same-said : {six others : List Component} → SaidAlike six others → SameSixes six others
same-said SaidAlike.none = SameSixes.none
same-said (SaidAlike.more {c = c} {d = d} rows others t w choices same rest) =
    same_more c d t.shaped w.shaped
    (record {
      valid = (t.made.valid, w.made.valid);
      stage = t.accepted ∙ sym w.accepted;
      choices = choices;
      long = (t.made.long, w.made.long);
      alike = alike-over-each _ _ _ (chains-alike rows others c.table c.cells d.table d.cells t w choices same).alike;
    })
    (same-said rest)

pub proteus-order : ProteusOrder
proteus-order six others said = let s = same-said said in record { whole = written_same s; line = line_same s }
