-- The first place of several at which a test holds, as `find` gives it. Assumes nothing.
use Rattle.std.proofs.Common.{◌≡◌, refl, Bool, true, false, eqb, Option, Some, None, ℕ, zero, suc, ◌+◌, ◌≤◌, ◌<◌, arith}
use Rattle.std.specs.List.{find, range_with_len}
use borrow.Author.Tests.{eqb-true, eqb-false}
use Rattle.row.proofs.Deciding.{by-test}

module _ (test : ℕ → Bool) where
  -- of n places from k on: none, or the first
  pub data Looked (n k : ℕ) : Option ℕ → Type 0 where
    none : ((j : ℕ) → k ≤ j → j < k + n → test j ≡ false) → Looked n k None
    some : (j : ℕ) → j < k + n → test j ≡ true → ((i : ℕ) → k ≤ i → i < j → test i ≡ false) → Looked n k (Some j)

  -- what holds at k and at each place after it
  from : (k : ℕ) → test k ≡ false → (j : ℕ) → k ≤ j → (k + 1 ≤ j → test j ≡ false) → test j ≡ false
  from k e j h after = go (eqb j k) refl
    where
      go : (t : Bool) → eqb j k ≡ t → test j ≡ false
      go true q = rw (eqb-true j k q) e
      go false q = let other = eqb-false j k q in after (omega arith)

  further : {n k : ℕ} {r : Option ℕ} → test k ≡ false → Looked n (k + 1) r → Looked (suc n) k r
  further {k = k} e (none f) = none (λ j h g. from k e j h (λ m. f j m (omega arith)))
  further {k = k} e (some j h t f) = some j (omega arith) t (λ i l g. from k e i l (λ m. f i m g))

  pub looked : (n k : ℕ) → Looked n k (find test (range_with_len k n))
  looked zero k = none (λ j h g. absurd (omega arith))
  looked (suc n) k =
      by-test (Looked (suc n) k) (test k) _ _
      (λ e. some k (omega arith) e (λ i h g. absurd (omega arith)))
      (λ e. further e (looked n (k + 1)))

  pub looked-below : (n k : ℕ) {j : ℕ} → Some j ≡ find test (range_with_len k n) → j < k + n
  looked-below n k {j} e = go (looked n k) e
    where
      go : {r : Option ℕ} → Looked n k r → Some j ≡ r → j < k + n
      go (none f) p = let z : ◌≡◌ {A = ℕ} 0 1 = cc in absurd (omega arith)
      go (some i h t f) p = let same : j ≡ i = cc in omega arith
