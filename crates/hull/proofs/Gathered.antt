-- Six components, one by one; and whether a part of what they say is out of bounds. Assumes nothing.
use mathlib.Core.Path.{◌≡◌, refl, sym, ap, ◌∙◌}
use mathlib.Core.Bool.{Bool, ◌||◌}
use mathlib.Core.List.{List, [], ◌∷◌, map, zip_with}
use Prim.Native.Nat.{ℕ, zero, suc, ◌+◌}
use native.Mathlib.Omega.{arith}
use lib.IntN.{ℤ}
use lib.ListN.{length, drop, get_or, drop_of_length-le}
use lib.Seq.{drop-cons}
use Rattle.std.specs.List.{list_any}
use Rattle.whole.specs.Any.{any_of}
use Rattle.grid.specs.declared.nodes.Pair.{Pair}
use Rattle.table.specs.declared.entries.Parts.{Parts}
use Rattle.table.specs.Entries.{entry_at, parts_of, complex_of, is_out}
use Rattle.reader.specs.declared.record.Record.{Record}
use Rattle.hull.specs.declared.six.Component as code
use Rattle.hull.specs.Six.{Component, component_of, components_with, values_at, is_spoilt}

-- n of a list, from i on
abbrev from : {A : Type 0} → List A → A → ℕ → ℕ → List A
from l d i zero = []
from l d i (suc n) = get_or l i d ∷ from l d (suc i) n

from_is : {A : Type 0} (l : List A) (d : A) (i n : ℕ) → i + n ≡ length l → drop i l ≡ from l d i n
from_is l d i zero e = drop_of_length-le l {i = i} (omega arith)
from_is {A} l d i (suc n) e = drop-cons l i d (omega arith) ∙ ap (λ (r : List A). get_or l i d ∷ r) (from_is l d (suc i) n (omega arith))

-- what one says of a pair, as the code holds it
abbrev pub value_of : code.Component → Pair → Parts
value_of c p = parts_of (entry_at c.table.now.slots c.cells.now p.first p.second)

pub gathered :
    (cs : List code.Component) (d : code.Component) (p : Pair)
    → length cs ≡ 6
    → value_of (get_or cs 0 d) p
    ∷ value_of (get_or cs 1 d) p
    ∷ value_of (get_or cs 2 d) p
    ∷ value_of (get_or cs 3 d) p
    ∷ value_of (get_or cs 4 d) p
    ∷ value_of (get_or cs 5 d) p
    ∷ []
    ≡ map parts_of (values_at (map component_of cs) p)
unfolding values_at
gathered cs d p long = ap (λ (l : List code.Component). map parts_of (values_at (map component_of l) p)) (sym (from_is cs d 0 6 (sym long)))

-- six records with their cells, one by one
abbrev one : Record → List ℤ → Component
one r cells = record { table = r; cells = cells }

pub six-with :
    (records : List Record) (d : Record) (c1 c2 c3 c4 c5 c6 : List ℤ)
    → length records ≡ 6
    → one (get_or records 0 d) c1
    ∷ one (get_or records 1 d) c2
    ∷ one (get_or records 2 d) c3
    ∷ one (get_or records 3 d) c4
    ∷ one (get_or records 4 d) c5
    ∷ one (get_or records 5 d) c6
    ∷ []
    ≡ components_with records (c1 ∷ c2 ∷ c3 ∷ c4 ∷ c5 ∷ c6 ∷ [])
unfolding components_with zip_with
six-with records d c1 c2 c3 c4 c5 c6 long =
    ap (λ (l : List Record). components_with l (c1 ∷ c2 ∷ c3 ∷ c4 ∷ c5 ∷ c6 ∷ [])) (sym (from_is records d 0 6 (sym long)))

-- 15
pub spoilt-is : (cs : List Component) (p : Pair) → list_any (λ v. is_out (complex_of v)) (map parts_of (values_at cs p)) ≡ is_spoilt cs p
unfolding is_spoilt values_at any_of
spoilt-is [] p = refl
spoilt-is (c ∷ cs) p = ap (λ (t : Bool). is_out (entry_at c.table.slots c.cells p.first p.second) || t) (spoilt-is cs p)
