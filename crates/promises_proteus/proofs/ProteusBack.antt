-- The ProteusDS text and the coverage give the six tables back, and two sixes with one text over one coverage answer alike. Assumes nothing.
use mathlib.Core.Path.{◌≡◌, refl, sym, ap, ◌∙◌}
use mathlib.Core.List.{List, [], ◌∷◌, Memᴰ}
use Prim.Native.Nat.{ℕ, zero, suc, ◌+◌, ◌<◌}
use native.Mathlib.Omega.{arith}
use lib.ListN.{length, get_or, get_or-map}
use Rattle.table.specs.View.{view_of}
use Rattle.hull.specs.Six.{Component, coverage_of}
use Rattle.proteus.specs.Answer.{proteus_text}
use Rattle.proteus.specs.Reading.{values_of, proteus_read}
use Rattle.proteus.proofs.Accepted as unnumbered
use Rattle.proteus.proofs.Back as text
use Rattle.proteus.proofs.Alike.{same-choices, same-values, each_same}
use Rattle.promises_rows.specs.ByValue.{AlikeOver}
use Rattle.promises_proteus.specs.Proteus.{SixTables, OneHull, SixAsked}
use Rattle.promises_proteus.specs.ProteusBack.{AllOver, ProteusBack, AskedTable, ValuesAnswer, ProteusSame}
use Rattle.promises_listings.proofs.Listings.{listing-alike}
use Rattle.promises_queries.proofs.Queries.{free}
use Rattle.promises_queries.proofs.Alike.{queries-same}
use Rattle.promises_proteus.proofs.Proteus.{accepted-each, component_of, up_from, six-free, free-six, free-text}

coverage-is : (six : List Component) (coverage : ℕ) → SixTables six → AllOver six coverage → coverage_of six ≡ coverage
unfolding coverage_of
coverage-is [] coverage tables over = let count = tables.count in absurd (omega (arith, count))
coverage-is (c ∷ cs) coverage tables over = over c (Memᴰ.head refl)

pub proteus-back : ProteusBack
proteus-back six coverage tables asked over =
    ap (λ (n : ℕ). proteus_read n (proteus_text six)) (sym (coverage-is six coverage tables over)) ∙ text.proteus-back six tables.count (free-six six tables asked)

-- ---- tables with the same values

pub values-answer : ValuesAnswer
values-answer c d t u values =
    let (ticks, headings, entries) = same-values c d values in
    let alike : AlikeOver c.table.choices.coverage (view_of c.table.slots c.cells) (view_of d.table.slots d.cells) =
    record { ticks = ticks; headings = headings; entries = entries } in
    let choices = same-choices c d values in
    let bars = free c.table c.cells t.asked ∙ sym (free d.table d.cells u.asked) in
    record {
      listing = listing-alike c.table d.table c.cells d.cells t.shaped u.shaped bars choices alike;
      queries = queries-same c.table c.cells d.table d.cells bars choices alike;
    }

asked-table : (six : List Component) → SixTables six → SixAsked six → (c : Component) → Memᴰ c six → AskedTable c
asked-table six tables a c m =
    record { shaped = tables.shaped c m; asked = record { long = λ h. a.long (c, m, h); accepted = accepted-each six a.accepted c m } }

-- ---- the two tables of a component stand at one place

place-of : {A : Type 0} {x : A} {l : List A} → Memᴰ x l → (i : ℕ) × (i < length l) × ((d : A) → get_or l i d ≡ x)
place-of {x = x} (Memᴰ.head e) = (0, omega arith, λ d. sym e)
place-of {x = x} (Memᴰ.tail m) = let (i, below, is) = place-of {x = x} m in (suc i, omega (arith, below), is)

up_at : (k n i z : ℕ) → i < n → get_or (up_from k n) i z ≡ k + i
up_at k zero i z h = absurd (omega arith)
up_at k (suc n) zero z h = omega arith
up_at k (suc n) (suc i) z h = let e = up_at (k + 1) n i z (omega arith) in omega (arith, e)

component-at : (six : List Component) → OneHull six → (i : ℕ) (d : Component) → i < 6 → component_of (get_or six i d) ≡ 1 + i
component-at six h i d below =
    sym (get_or-map component_of six i d) ∙ ap (λ (l : List ℕ). get_or l i (component_of d)) h.components ∙ up_at 1 6 i (component_of d) below

pub proteus-same : ProteusSame
proteus-same six others coverage tables tables' free free' over over' same c d m n component =
    let zero_is = free-text six tables free in
    let zero-is' = free-text others tables' free' in
    let asked = six-free six tables (unnumbered.free six zero_is).unbarred in
    let asked' = six-free others tables' (unnumbered.free others zero-is').unbarred in
    let (i, below, is) = place-of m in
    let (j, below', is') = place-of n in
    let count = tables.count in
    let count' = tables'.count in
    let number = component-at six asked.hull i c (omega (arith, below, count)) in
    let number' = component-at others asked'.hull j c (omega (arith, below', count')) in
    let numbers : 1 + i ≡ 1 + j = sym number ∙ ap component_of (is c) ∙ component ∙ sym (ap component_of (is' c)) ∙ number' in
    let place : i ≡ j = omega (arith, numbers) in
    let all =
    text.same_text six others count count' zero_is zero-is'
    (coverage-is six coverage tables over ∙ sym (coverage-is others coverage tables' over'))
    same in
    let values : values_of c ≡ values_of d =
    sym (ap values_of (is c)) ∙ each_same six others all i c ∙ ap (λ (k : ℕ). values_of (get_or others k c)) place ∙ ap values_of (is' c) in
    values-answer c d (asked-table six tables asked c m) (asked-table others tables' asked' d n) values
