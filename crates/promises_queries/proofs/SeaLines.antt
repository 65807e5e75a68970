-- The lines of a sea by index, from its first line on. Assumes nothing.
use mathlib.Core.List.{List, [], ◌∷◌, ◌++◌}
use mathlib.Core.Path.{◌≡◌, refl, ap, subst}
use Prim.Native.Nat.{ℕ, zero, suc, ◌+◌, ◌<◌}
use native.Mathlib.Omega.{arith}
use lib.IntN.{pos}
use lib.ListN.{length, get_or}
use Rattle.whole.specs.Complex.{sizes}
use Rattle.whole.specs.Sum.{sum_by, sum_ℕ}
use Rattle.seaway.specs.Sea.{Line, line_at, lines_from, lines_of, size_of}
use Rattle.load.specs.Force.{first_heading}
use Rattle.seaway.specs.declared.sea.Sea.{Sea}
use Rattle.promises_queries.specs.SeaLines.{LinesCounted, StandsAt, LinesInOrder, LineOne, sizes_of_first, SizesCounted}

counted-from : (sea : Sea) (i n : ℕ) → length (lines_from sea i n) ≡ n
unfolding lines_from
counted-from sea i zero = refl
counted-from sea i (suc n) = ap suc (counted-from sea (suc i) n)

pub lines-counted : LinesCounted
unfolding lines_of
lines-counted sea = counted-from sea 0 sea.count

stands : (sea : Sea) (i : ℕ) → StandsAt sea i (line_at sea i)
unfolding line_at
stands sea i = record { tick = refl; heading = refl; re = refl; im = refl }

order_from :
    (sea : Sea) (i n : ℕ) (before after : List Line) (l : Line) (j : ℕ)
    → j ≡ i + length before
    → lines_from sea i n ≡ before ++ (l ∷ after)
    → StandsAt sea j l
unfolding lines_from
order_from sea i zero [] after l j e f = absurd (none f)
  where
    none : [] ≡ l ∷ after → ⊥
    none f = let z : ◌≡◌ {A = ℕ} 0 1 = cc in omega arith
order_from sea i zero (b ∷ bs) after l j e f = absurd (none f)
  where
    none : [] ≡ b ∷ (bs ++ (l ∷ after)) → ⊥
    none f = let z : ◌≡◌ {A = ℕ} 0 1 = cc in omega arith
order_from sea i (suc n) [] after l j e f =
    let g : line_at sea i ≡ l = cc in
    let k : i ≡ j = omega arith in
    subst (λ (m : Line). StandsAt sea j m) g (subst (λ (m : ℕ). StandsAt sea m (line_at sea i)) k (stands sea i))
order_from sea i (suc n) (b ∷ bs) after l j e f =
    let g : lines_from sea (suc i) n ≡ bs ++ (l ∷ after) = cc in
    order_from sea (suc i) n bs after l j (omega arith) g

pub lines-in-order : LinesInOrder
unfolding lines_of
lines-in-order sea before after l e = order_from sea 0 sea.count before after l (length before) (omega arith) e

pub line-one : LineOne
unfolding lines_of lines_from first_heading line_at
line-one sea h = go sea.count h
  where
    go : (n : ℕ) → 0 < n → first_heading (lines_from sea 0 n) ≡ get_or sea.headings 0 (pos 0)
    go zero h = absurd (omega arith)
    go (suc n) h = refl

sizes-from : (sea : Sea) (i n : ℕ) → sum_ℕ (lines_from sea i n) (λ l. sizes l.amplitude) + sizes_of_first sea i ≡ sizes_of_first sea (i + n)
unfolding lines_from sizes_of_first line_at sum_by
sizes-from sea i zero = let e : i + 0 ≡ i = omega arith in rw e (omega arith)
sizes-from sea i (suc n) =
    let on = sizes-from sea (suc i) n in
    let e : i + suc n ≡ suc i + n = omega arith in
    rw e (omega arith)

pub sizes-counted : SizesCounted
unfolding lines_of size_of sizes_of_first
sizes-counted sea =
    let e : 0 + sea.count ≡ sea.count = omega arith in
    let all = rw e at (sizes-from sea 0 sea.count) in
    omega arith
