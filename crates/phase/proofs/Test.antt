-- The rule over a whole table, by one test that antt computes: one walk along the entries and the entries backwards, which are the cosines and the sines.
-- `rule-of` turns the passed test into the rule, for any table and any two limits. Assumes nothing.
use mathlib.Core.Path.{◌≡◌, ◌∙◌, ap, subst}
use mathlib.Core.Bool.{Bool, true, false, ◌&&◌}
use mathlib.Core.List.{List, [], ◌∷◌, reverse, reverse_aux}
use Prim.Native.Nat.{ℕ, zero, suc, ◌+◌, ◌*◌, ◌-◌, ◌^◌, ◌≤◌, ◌<◌}
use native.Mathlib.Nat.{le_of_suc-le-suc}
use native.Mathlib.Numerals.{add-one}
use native.Mathlib.Omega.{arith}
use lib.Dec.{T, leb, ltb, eqb, leb→le, ltb→lt, eqb→eq}
use lib.IntN.{pos, nat_abs, ◌+ℤ◌, ◌-ℤ◌, ◌*ℤ◌}
use lib.ListN.{length, get_or}
use mir.Facts.{and_yes}
use Rattle.whole.proofs.OrderLaws.{subℕ-ind}
use Rattle.whole.proofs.Ring.{v, ◌⊕◌, ◌⊖◌, ring}
use Rattle.phase.specs.Turn.{Quarter, entry}
use Rattle.phase.specs.Rule.{Limits, Rule}

-- ---- the test

-- a and b are within `limit` of each other
abbrev pub near : ℕ → ℕ → ℕ → Bool
near limit a b = leb a (b + limit) && leb b (a + limit)

-- x and y, the cosine and the sine of a step, are close to the circle
abbrev pub round : Limits → ℕ → ℕ → Bool
round l x y = near l.circle (x * x + y * y) (2 ^ 60)

module _ (l : Limits) (c s : ℕ) where
  -- the product of x, y and c, s, the cosine and the sine of step 1, is close to the next step, X and Y; and the cosine falls
  abbrev pub next : ℕ → ℕ → ℕ → ℕ → Bool
  next x y X Y = ltb X x && (near l.step (x * c) (y * s + 2 ^ 30 * X) && near l.step (x * s + y * c) (2 ^ 30 * Y))

  abbrev pub ahead : ℕ → ℕ → List ℕ → List ℕ → Bool
  ahead x y [] ys = true
  ahead x y (X ∷ xs) [] = false
  ahead x y (X ∷ xs) (Y ∷ ys) = next x y X Y

  -- along the cosines and the sines
  abbrev pub walk : List ℕ → List ℕ → Bool
  walk [] ys = true
  walk (x ∷ xs) [] = false
  walk (x ∷ xs) (y ∷ ys) = round l x y && (ahead x y xs ys && walk xs ys)

-- how many entries there are, the first and the last, and the walk
abbrev pub passes : Limits → Quarter → Bool
passes l q =
    let n = q.steps in
    ltb 0 n
    && (eqb (length q.entries) (suc n)
    && (eqb (entry q 0) (2 ^ 30)
    && (eqb (entry q n) 0 && walk l (entry q 1) (entry q (n - 1)) q.entries (reverse q.entries))))

-- ---- what it says of each step

-- a list backwards, put before r: at i stands what the list has at j, where i + j + 1 is its length; after it stands r
module _ {A : Type 0} (d : A) where
  after : (xs r : List A) (k : ℕ) → get_or (reverse_aux xs r) (length xs + k) d ≡ get_or r k d
  after [] r k = ap (λ (i : ℕ). get_or r i d) (omega arith)
  after (x ∷ xs) r k =
      let e : suc (length xs) + k ≡ length xs + suc k = omega arith in
      ap (λ (i : ℕ). get_or (reverse_aux xs (x ∷ r)) i d) e ∙ after xs (x ∷ r) (suc k)

  backwards : (xs r : List A) (i j : ℕ) → suc (i + j) ≡ length xs → get_or (reverse_aux xs r) i d ≡ get_or xs j d
  backwards [] r i j h = absurd (omega arith)
  backwards (x ∷ xs) r i zero h =
      let e : i ≡ length xs + 0 = omega arith in
      ap (λ (k : ℕ). get_or (reverse_aux xs (x ∷ r)) k d) e ∙ after xs (x ∷ r) 0
  backwards (x ∷ xs) r i (suc j) h = backwards xs (x ∷ r) i j (omega arith)

module _ (l : Limits) (c s : ℕ) where
  parts : (x y : ℕ) (xs ys : List ℕ) → T (walk l c s (x ∷ xs) (y ∷ ys)) → T (round l x y) × T (ahead l c s x y xs ys) × T (walk l c s xs ys)
  parts x y xs ys t =
      let (here, rest) = and_yes (round l x y) (ahead l c s x y xs ys && walk l c s xs ys) t in
      let (on, after) = and_yes (ahead l c s x y xs ys) (walk l c s xs ys) rest in
      (here, on, after)

  round-at : (xs ys : List ℕ) → T (walk l c s xs ys) → (k : ℕ) → k < length xs → T (round l (get_or xs k 0) (get_or ys k 0))
  round-at [] ys t k h = absurd (omega arith)
  round-at (x ∷ xs) [] t k h = absurd t
  round-at (x ∷ xs) (y ∷ ys) t zero h = (parts x y xs ys t).0
  round-at (x ∷ xs) (y ∷ ys) t (suc k) h = round-at xs ys (parts x y xs ys t).2 k (le_of_suc-le-suc h)

  ahead-at : (x y : ℕ) (xs ys : List ℕ) → T (ahead l c s x y xs ys) → 0 < length xs → T (next l c s x y (get_or xs 0 0) (get_or ys 0 0))
  ahead-at x y [] ys t h = absurd (omega arith)
  ahead-at x y (X ∷ xs) [] t h = absurd t
  ahead-at x y (X ∷ xs) (Y ∷ ys) t h = t

  next-at : (xs ys : List ℕ) → T (walk l c s xs ys) → (k : ℕ) → suc k < length xs → T (next l c s (get_or xs k 0) (get_or ys k 0) (get_or xs (suc k) 0) (get_or ys (suc k) 0))
  next-at [] ys t k h = absurd (omega arith)
  next-at (x ∷ xs) [] t k h = absurd t
  next-at (x ∷ xs) (y ∷ ys) t zero h = ahead-at x y xs ys (parts x y xs ys t).1 (le_of_suc-le-suc h)
  next-at (x ∷ xs) (y ∷ ys) t (suc k) h = next-at xs ys (parts x y xs ys t).2 k (le_of_suc-le-suc h)

-- ---- the rule

-- two naturals that are near: how far they are apart, in ℤ
apart : (limit a b : ℕ) → T (near limit a b) → nat_abs (pos a -ℤ pos b) ≤ limit
apart limit a b t = distance a b (leb→le a (b + limit) both.0) (leb→le b (a + limit) both.1)
  where
    both : T (leb a (b + limit)) × T (leb b (a + limit))
    both = and_yes (leb a (b + limit)) (leb b (a + limit)) t

    distance : (a b : ℕ) → a ≤ b + limit → b ≤ a + limit → nat_abs (pos a -ℤ pos b) ≤ limit
    distance a zero h k = omega arith
    distance a (suc b) h k = subℕ-ind (λ z. nat_abs z ≤ limit) a (suc b) (λ o. omega arith) (λ o. omega arith)

-- what the test of a step and the next says
record Next (limit c s x y X Y : ℕ) : Type 0 where
  falls : X < x
  re : nat_abs (pos x *ℤ pos c -ℤ pos y *ℤ pos s -ℤ pos (2 ^ 30) *ℤ pos X) ≤ limit
  im : nat_abs (pos x *ℤ pos s +ℤ pos y *ℤ pos c -ℤ pos (2 ^ 30) *ℤ pos Y) ≤ limit

next-says : (l : Limits) (c s x y X Y : ℕ) → T (next l c s x y X Y) → Next l.step c s x y X Y
next-says l c s x y X Y t =
    let (a, rest) = and_yes (ltb X x) (near l.step (x * c) (y * s + 2 ^ 30 * X) && near l.step (x * s + y * c) (2 ^ 30 * Y)) t in
    let (b, d) = and_yes (near l.step (x * c) (y * s + 2 ^ 30 * X)) (near l.step (x * s + y * c) (2 ^ 30 * Y)) rest in
    let e = ring (pos (x * c) ∷ pos (y * s) ∷ pos (2 ^ 30 * X) ∷ []) (v 0 ⊖ (v 1 ⊕ v 2)) (v 0 ⊖ v 1 ⊖ v 2) tt in
    record {
      falls = ltb→lt X x a;
      re = subst (λ z. nat_abs z ≤ l.step) e (apart l.step (x * c) (y * s + 2 ^ 30 * X) b);
      im = apart l.step (x * s + y * c) (2 ^ 30 * Y) d;
    }

module _ (l : Limits) (q : Quarter) (t : T (passes l q)) where
  abbrev n : ℕ
  n = q.steps

  abbrev walked : Bool
  walked = walk l (entry q 1) (entry q (n - 1)) q.entries (reverse q.entries)

  -- the parts of the test of a table
  ends : T (ltb 0 n) × T (eqb (length q.entries) (suc n)) × T (eqb (entry q 0) (2 ^ 30)) × T (eqb (entry q n) 0) × T walked
  ends =
      let (a, rest) = and_yes (ltb 0 n) (eqb (length q.entries) (suc n) && (eqb (entry q 0) (2 ^ 30) && (eqb (entry q n) 0 && walked))) t in
      let (b, rest) = and_yes (eqb (length q.entries) (suc n)) (eqb (entry q 0) (2 ^ 30) && (eqb (entry q n) 0 && walked)) rest in
      let (c, rest) = and_yes (eqb (entry q 0) (2 ^ 30)) (eqb (entry q n) 0 && walked) rest in
      let (d, e) = and_yes (eqb (entry q n) 0) walked rest in
      (a, b, c, d, e)

  count : length q.entries ≡ suc n
  count = eqb→eq (length q.entries) (suc n) ends.1

  -- the entries backwards are the sines
  sines : (i : ℕ) → i ≤ n → get_or (reverse q.entries) i 0 ≡ entry q (n - i)
  sines i h = backwards 0 q.entries [] i (n - i) (omega (arith, count))

  rounds : (i : ℕ) → i ≤ n → T (round l (entry q i) (entry q (n - i)))
  rounds i h =
      rw (← sines i h)
      (round-at l (entry q 1) (entry q (n - 1)) q.entries (reverse q.entries) ends.4 i (omega (arith, count)))

  nexts : (i : ℕ) → i < n → Next l.step (entry q 1) (entry q (n - 1)) (entry q i) (entry q (n - i)) (entry q (i + 1)) (entry q (n - (i + 1)))
  nexts i h =
      let k : i ≤ n = omega arith in
      rw (add-one, ← sines i k, ← sines (suc i) h)
      (next-says l _ _ _ _ _ _ (next-at l (entry q 1) (entry q (n - 1)) q.entries (reverse q.entries) ends.4 i (omega (arith, count))))

  pub rule-of : Rule l q
  rule-of =
      record {
        some = ltb→lt 0 n ends.0;
        count = count;
        first = eqb→eq (entry q 0) (2 ^ 30) ends.2;
        last = eqb→eq (entry q n) 0 ends.3;
        falls = λ i h. (nexts i h).falls;
        circle = λ i h. apart l.circle (entry q i * entry q i + entry q (n - i) * entry q (n - i)) (2 ^ 60) (rounds i h);
        step-re = λ i h. (nexts i h).re;
        step-im = λ i h. (nexts i h).im;
      }
