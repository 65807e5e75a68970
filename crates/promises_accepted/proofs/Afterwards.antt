-- An accepted table stays as it is, whatever calls come later and whoever writes its flags. Assumes nothing.
use mathlib.Core.List.{List}
use mathlib.Core.Path.{◌≡◌, refl, sym, ap, ◌∙◌}
use native.Mathlib.Omega.{arith}
use lib.IntN.{ℤ}
use Rattle.phase.specs.Turn.{Quarter}
use Rattle.phase.specs.Rule.{Rule, limits}
use Rattle.phase.proofs.Seconds.{rule}
use Rattle.reader.specs.declared.record.Record.{Record}
use Rattle.reader.specs.Model.{State}
use Rattle.promises_queries.specs.Alike.{SameQueries}
use Rattle.promises_accepted.specs.Afterwards.{Afterwards, at_once, call, flags-written, AcceptedStays, ForceAfterwardsBy, ForceAfterwards}
use Rattle.promises_chains.proofs.Calls.{called-answered, left}
use Rattle.promises_accepted.proofs.ChainQueries.{chain-force-by}

record Same (s u : State) : Type 0 where
  pub reader : u.reader ≡ s.reader
  pub cells : u.cells ≡ s.cells

stays : {s u : State} → s.reader.marks.stage ≡ 2 → Afterwards s u → Same s u
stays acc at_once = record { reader = refl; cells = refl }
stays acc (call {u} a c) =
    let h = stays acc a in
    let stage : u.reader.marks.stage ≡ 2 = ap (λ (r : Record). r.marks.stage) h.reader ∙ acc in
    let e = left (λ first. omega arith) (called-answered c u) in
    record { reader = ap (λ (x : State). x.reader) e ∙ h.reader; cells = ap (λ (x : State). x.cells) e ∙ h.cells }
stays acc (flags-written a flags) = let h = stays acc a in record { reader = h.reader; cells = h.cells }

same-queries : {r q : Record} {cells others : List ℤ} → r ≡ q → cells ≡ others → SameQueries r cells q others
same-queries e f =
    record {
      coefficients = λ a b. cc;
      loads = λ clock sea t. cc;
      forces = λ clock sea t. cc;
      displays = λ clock sea t scale. cc;
    }

pub accepted-stays : AcceptedStays
accepted-stays rows s u a after =
    let h = stays a.accepted after in
    (h.reader, h.cells, same-queries (sym h.reader) (sym h.cells))

pub force-afterwards-by : {clock : Quarter} → Rule limits clock → ForceAfterwardsBy clock
force-afterwards-by keeps rows s u a after =
    let h = stays a.accepted after in
    rw (h.reader, h.cells) (λ sea t fit placed. chain-force-by keeps rows s.reader s.cells a sea t fit placed)

pub force-afterwards : ForceAfterwards
force-afterwards = force-afterwards-by rule
