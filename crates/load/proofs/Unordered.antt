-- A sum over all ordered pairs is, for each, itself with itself and with each later one both ways; the same where it is asked whether one of the pairs is so. Once over
-- what is put together. Assumes nothing.
use mathlib.Core.Path.{◌≡◌, refl, sym, ap, ap₂, ◌∙◌}
use mathlib.Core.Bool.{Bool, true, false, cond, ◌||◌, or_comm, or_assoc}
use mathlib.Core.List.Memᴰ
use mathlib.Core.List.{List, [], ◌∷◌, Memᴰ}
use mathlib.Core.Logic.{⊎_elim}
use Prim.Native.Nat.{ℕ, zero, suc, ◌+◌, ◌-◌, ◌<◌, ◌≤◌}
use native.Mathlib.Numerals.{add-one}
use native.Mathlib.Omega.{arith}
use borrow.Author.Tests.{eq-eqb, ne_eqb}
use lib.Dec.{eqb}
use lib.IntN.{pos, ◌+ℤ◌, +ℤ_assoc, +ℤ_comm, +ℤ_idl}
use lib.ListN.{get_or, length, take, drop}
use Rattle.std.proofs.Math.Seq.{drop-cons, take-length}
use Rattle.whole.specs.Sum.{sum_by}
use Rattle.whole.specs.Any.{any_of}
use Rattle.whole.proofs.Sum.{sum-ext}
use Rattle.load.specs.declared.waves.Wave.{Wave}

-- ---- places

-- n of them, from i on; and those from i to n
unfoldable pub places : ℕ → ℕ → List ℕ
places i zero = []
places i (suc n) = i ∷ places (suc i) n

abbrev pub places_to : ℕ → ℕ → List ℕ
places_to n i = places i (n - i)

pub next_place : (n i : ℕ) → i < n → places_to n i ≡ i ∷ places_to n (suc i)
unfolding places
next_place n i h = let e : n - i ≡ suc (n - suc i) = omega arith in ap (places i) e

later : (i j n k : ℕ) → i < j → Memᴰ k (places j n) → i < k
unfolding places
later i j zero k h m = absurd (Memᴰ.not-nil m)
later i j (suc n) k h m =
    ⊎_elim (λ (e : k ≡ j). omega (arith, e)) (λ (l : Memᴰ k (places (suc j) n)). later i (suc j) n k (omega arith) l) (Memᴰ.cases_cons m)

before-end : (i n k : ℕ) → Memᴰ k (places i n) → k < i + n
unfolding places
before-end i zero k m = absurd (Memᴰ.not-nil m)
before-end i (suc n) k m =
    ⊎_elim (λ (e : k ≡ i). omega (arith, e)) (λ (l : Memᴰ k (places (suc i) n)). omega (arith, before-end (suc i) n k l)) (Memᴰ.cases_cons m)

-- ---- waves by their places

abbrev pub nowhere : Wave
nowhere =
    record {
      bracket = record { low = 0; high = 0; to_low = 0; to_high = 0; width = 0 };
      tick = 0;
      amplitude = record { re = pos 0; im = pos 0 };
    }

-- n waves of a list, from i on
unfoldable pub waves_from : List Wave → ℕ → ℕ → List Wave
waves_from ws i zero = []
waves_from ws i (suc n) = get_or ws i nowhere ∷ waves_from ws (suc i) n

pub waves-are : (ws : List Wave) (i n : ℕ) → i + n ≤ length ws → waves_from ws i n ≡ take n (drop i ws)
unfolding waves_from
waves-are ws i zero h = refl
waves-are ws i (suc n) h =
    ap (λ (l : List Wave). get_or ws i nowhere ∷ l) (waves-are ws (suc i) n (omega arith))
    ∙ sym (ap (take (suc n)) (drop-cons ws i nowhere (omega arith)))

all_from : (ws : List Wave) → waves_from ws 0 (length ws) ≡ ws
all_from ws = waves-are ws 0 (length ws) (omega arith) ∙ take-length ws

-- ---- pairs

-- what is put together in any order
pub record Together {M : Type 0} (plus : M → M → M) (none : M) : Type 0 where
  pub assoc : (x y z : M) → plus (plus x y) z ≡ plus x (plus y z)
  pub comm : (x y : M) → plus x y ≡ plus y x
  pub unit : (x : M) → plus none x ≡ x

module _ {M : Type 0} (plus : M → M → M) (none : M) (laws : Together plus none) where
  middle : (a b c d : M) → plus (plus a b) (plus c d) ≡ plus (plus a c) (plus b d)
  middle a b c d =
      laws.assoc a b (plus c d)
      ∙ ap (plus a) (sym (laws.assoc b c d) ∙ ap (λ (x : M). plus x d) (laws.comm b c) ∙ laws.assoc c b d)
      ∙ sym (laws.assoc a c (plus b d))

  sum_both : {A : Type 0} (xs : List A) (f g : A → M) → sum_by plus none xs (λ x. plus (f x) (g x)) ≡ plus (sum_by plus none xs f) (sum_by plus none xs g)
  unfolding sum_by
  sum_both [] f g = sym (laws.unit none)
  sum_both (x ∷ xs) f g =
      ap (plus (plus (f x) (g x))) (sum_both xs f g) ∙ middle (f x) (g x) (sum_by plus none xs f) (sum_by plus none xs g)

  -- of two places: both ways, or once where they are one
  abbrev pub pair_of : (ℕ → ℕ → M) → ℕ → ℕ → M
  pair_of f i j = cond (eqb i j) (f i j) (plus (f i j) (f j i))

  module _ (f : ℕ → ℕ → M) (end : ℕ) where
    abbrev over : List ℕ → (ℕ → M) → M
    over = sum_by plus none

    -- the first with itself and with each later one, both ways
    first-row : (i n : ℕ) → n + i + 1 ≡ end → over (places_to end i) (pair_of f i) ≡ plus (f i i) (over (places (suc i) n) (λ j. plus (f i j) (f j i)))
    unfolding sum_by places
    first-row i n e =
        let left : end - i ≡ suc n = omega arith in
        ap (λ (k : ℕ). over (places i k) (pair_of f i)) left
        ∙ ap₂ plus
        (ap (λ (b : Bool). cond b (f i i) (plus (f i i) (f i i))) (eq-eqb i i refl))
        (sum-ext plus none (places (suc i) n) (pair_of f i) (λ j. plus (f i j) (f j i))
        (λ j m.
        let above : i < j = later i (suc i) n j (omega arith) m in
        ap (λ (b : Bool). cond b (f i j) (plus (f i j) (f j i))) (ne_eqb i j (λ h. omega (arith, above, h)))))

    unordered-from : (n i : ℕ) → n + i ≡ end → over (places i n) (λ a. over (places i n) (f a)) ≡ over (places i n) (λ a. over (places_to end a) (pair_of f a))
    unfolding sum_by places
    unordered-from zero i e = refl
    unordered-from (suc n) i e =
        let rest = places (suc i) n in
        let own = f i i in
        let row = over rest (f i) in
        let column = over rest (λ a. f a i) in
        let square = over rest (λ a. over rest (f a)) in
        ap (plus (plus own row)) (sum_both rest (λ a. f a i) (λ a. over rest (f a)))
        ∙ sym (laws.assoc (plus own row) column square)
        ∙ ap (λ (x : M). plus x square) (laws.assoc own row column ∙ ap (plus own) (sym (sum_both rest (f i) (λ a. f a i))))
        ∙ ap₂ plus (sym (first-row i n (omega arith))) (unordered-from n (suc i) (omega arith))

    pub unordered : over (places 0 end) (λ a. over (places 0 end) (f a)) ≡ over (places 0 end) (λ a. over (places_to end a) (pair_of f a))
    unordered = unordered-from end 0 (omega arith)

    -- each with itself may be put together apart
    own_first : (a : ℕ) → a < end → over (places_to end a) (pair_of f a) ≡ plus (f a a) (over (places_to end (a + 1)) (pair_of f a))
    unfolding sum_by
    own_first a h =
        ap (λ (l : List ℕ). over l (pair_of f a)) (next_place end a h)
        ∙ ap₂ plus
        (ap (λ (b : Bool). cond b (f a a) (plus (f a a) (f a a))) (eq-eqb a a refl))
        (ap (λ (k : ℕ). over (places_to end k) (pair_of f a)) (sym (add-one a)))

    pub own-apart : (apart : Bool)
        → over (places 0 end) (λ a. over (places 0 end) (f a))
        ≡ plus (cond apart (over (places 0 end) (λ a. f a a)) none) (over (places 0 end) (λ a. over (places_to end (cond apart (a + 1) a)) (pair_of f a)))
    own-apart false = unordered ∙ sym (laws.unit _)
    own-apart true =
        unordered
        ∙ sum-ext plus none (places 0 end) _ (λ a. plus (f a a) (over (places_to end (a + 1)) (pair_of f a))) (λ a m. own_first a (omega (arith, before-end 0 end a m)))
        ∙ sum_both (places 0 end) (λ a. f a a) (λ a. over (places_to end (a + 1)) (pair_of f a))

  -- waves by their places
  module _ (ws : List Wave) where
    from_place : (i n : ℕ) (g : Wave → M) → sum_by plus none (waves_from ws i n) g ≡ sum_by plus none (places i n) (λ k. g (get_or ws k nowhere))
    unfolding sum_by places waves_from
    from_place i zero g = refl
    from_place i (suc n) g = ap (plus (g (get_or ws i nowhere))) (from_place (suc i) n g)

    by_place : (g : Wave → M) → sum_by plus none ws g ≡ sum_by plus none (places 0 (length ws)) (λ k. g (get_or ws k nowhere))
    by_place g = ap (λ (l : List Wave). sum_by plus none l g) (sym (all_from ws)) ∙ from_place 0 (length ws) g

    -- all pairs of waves
    pub waves-unordered : (f : Wave → Wave → M) (apart : Bool)
        → sum_by plus none ws (λ m. sum_by plus none ws (f m))
        ≡ plus (cond apart (sum_by plus none ws (λ m. f m m)) none)
        (sum_by plus none (places 0 (length ws)) (λ i. sum_by plus none (places_to (length ws) (cond apart (i + 1) i)) (pair_of (λ i j. f (get_or ws i nowhere) (get_or ws j nowhere)) i)))
    waves-unordered f apart =
        by_place (λ m. sum_by plus none ws (f m))
        ∙ sum-ext plus none (places 0 (length ws)) _ _ (λ i m. by_place (f (get_or ws i nowhere)))
        ∙ own-apart (λ i j. f (get_or ws i nowhere) (get_or ws j nowhere)) (length ws) apart
        ∙ ap
        (λ (x : M).
        plus (cond apart x none)
        (sum_by plus none (places 0 (length ws)) (λ i. sum_by plus none (places_to (length ws) (cond apart (i + 1) i)) (pair_of (λ i j. f (get_or ws i nowhere) (get_or ws j nowhere)) i))))
        (sym (by_place (λ m. f m m)))

-- ---- sums, and whether one is so

pub sums : Together ◌+ℤ◌ (pos 0)
sums = record { assoc = +ℤ_assoc; comm = +ℤ_comm; unit = +ℤ_idl }

pub tests : Together ◌||◌ false
tests = record { assoc = or_assoc; comm = or_comm; unit = λ b. refl }

pub any-is : {A : Type 0} (so : A → Bool) (xs : List A) → any_of so xs ≡ sum_by ◌||◌ false xs so
unfolding any_of sum_by
any-is so [] = refl
any-is so (x ∷ xs) = ap (λ (b : Bool). so x || b) (any-is so xs)
