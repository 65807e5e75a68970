-- Texts put into a slice: one behind the other is one text, and where there is room for all of it, it stands there from the place on.
-- Assumes nothing.
use mathlib.Core.Path.{◌≡◌, refl, sym, ap, ◌∙◌}
use mathlib.Core.Bool.{Bool, true, false, cond}
use mathlib.Core.List.{List, [], ◌∷◌, ◌++◌}
use Prim.Native.Nat.{ℕ, zero, suc, ◌+◌, ◌-◌, ◌≤◌, ◌<◌}
use native.Mathlib.Numerals.{add-one}
use native.Mathlib.Nat.{add-zero}
use native.Mathlib.Omega.{arith}
use lib.Dec.{ltb}
use lib.IntN.{ℤ, nat_abs}
use lib.ListN.{length, drop, get_or, set, replicate, length-set, length-replicate, drop_of_length-le}
use lib.Seq.{sets, sets-eq, drop-cons}
use mir.Syntax.{w64}
use mir.Val.{SFits, to_z, of_z}
use mir.Facts.{to_z-of_z}
use borrow.Author.Tests.{lt-ltb}
use Rattle.text.specs.Decimal.{minus}
use Rattle.text.specs.Put.{Placed, placed, put}

-- what is put behind what was put already
abbrev pub put_on : Placed → List ℕ → Placed
put_on p s = put p.out p.at s

pub put-none : (out : List ℕ) (at : ℕ) {s : List ℕ} → s ≡ [] → placed out at ≡ put out at s
unfolding put
put-none out at e = ap (put out at) (sym e)

-- no byte more goes into a slice that is full
full : (out : List ℕ) (at : ℕ) (s : List ℕ) → ltb at (length out) ≡ false → put out at s ≡ placed out at
unfolding put
full out at [] e = refl
full out at (b ∷ s) e = rw e

-- one text behind the other is one text
pub put-++ : (out : List ℕ) (at : ℕ) (a b : List ℕ) → put_on (put out at a) b ≡ put out at (a ++ b)
unfolding put
put-++ out at [] b = refl
put-++ out at (x ∷ a) b = go (ltb at (length out)) refl (put-++ (set out at x) (at + 1) a b)
  where
    go :
        (t : Bool)
        → ltb at (length out) ≡ t
        → put_on (put (set out at x) (at + 1) a) b ≡ put (set out at x) (at + 1) (a ++ b)
        → put_on (cond t (put (set out at x) (at + 1) a) (placed out at)) b ≡ cond t (put (set out at x) (at + 1) (a ++ b)) (placed out at)
    go true e on = on
    go false e on = full out at b e

-- the same of two calls, the second of which goes on where the first ended
pub put-behind :
    (out : List ℕ) (at : ℕ) (a b : List ℕ) {mid : List ℕ} {on : ℕ} {p : Placed}
    → placed mid on ≡ put out at a
    → p ≡ put mid on b
    → p ≡ put out at (a ++ b)
put-behind out at a b first second = second ∙ ap (λ (q : Placed). put_on q b) first ∙ put-++ out at a b

-- the same of a minus and a size behind it, of a signed word, which shows as its bits
pub put-sized :
    (out : List ℕ) (at : ℕ) (z : ℤ) (text : ℕ → List ℕ) {mid : List ℕ} {on size : ℕ} {p : Placed}
    → SFits w64 z
    → placed mid on ≡ put out at (minus (to_z w64 (of_z w64 z)))
    → size ≡ nat_abs (to_z w64 (of_z w64 z))
    → p ≡ put mid on (text size)
    → p ≡ put out at (minus z ++ text (nat_abs z))
put-sized out at z text {size = size} fits first sized second =
    let back = to_z-of_z fits in
    put-behind out at (minus (to_z w64 (of_z w64 z))) (text size) first second
    ∙ (λ i. put out at (minus (back i) ++ text ((sized ∙ ap nat_abs back) i)))

-- ---- a loop over a text: what is left of it is still to come

pub next-byte :
    (out : List ℕ) (at : ℕ) (s : List ℕ) (i : ℕ) {mid : List ℕ} {on : ℕ}
    → i < length s
    → placed mid on ≡ put out at (get_or s i 0 ∷ [])
    → put mid on (drop (i + 1) s) ≡ put out at (drop i s)
next-byte out at s i h e =
    let split : drop i s ≡ get_or s i 0 ∷ drop (i + 1) s = rw (add-one, drop-cons s i 0) in
    put-behind out at (get_or s i 0 ∷ []) (drop (i + 1) s) e refl ∙ ap (put out at) (sym split)

pub no_more : (out : List ℕ) (at : ℕ) (s : List ℕ) (i : ℕ) → length s ≤ i → put out at (drop i s) ≡ placed out at
unfolding put
no_more out at s i h = rw (drop_of_length-le s {i = i} h)

-- ---- where there is room for all of a text

pub put_all : (out : List ℕ) (at : ℕ) (s : List ℕ) → at + length s ≤ length out → put out at s ≡ placed (sets out at s) (at + length s)
unfolding put
put_all out at [] h = ap (placed out) (sym (add-zero at))
put_all out at (b ∷ s) h =
    let long = length-set out at b in
    rw (lt-ltb at (length out) (omega arith))
    (put_all (set out at b) (at + 1) s (omega arith) ∙ (λ i. placed (sets (set out at b) (add-one at i) s) (on i)))
  where
    on : at + 1 + length s ≡ at + suc (length s)
    on = omega arith

-- the same of n zeros from the first on, as a line is filled

drop-replicate : (k n a : ℕ) → drop k (replicate n a) ≡ replicate (n - k) a
drop-replicate zero n a = let e : n ≡ n - 0 = omega arith in ap (λ m. replicate m a) e
drop-replicate (suc k) zero a = let e : 0 ≡ 0 - suc k = omega arith in ap (λ m. replicate m a) e
drop-replicate (suc k) (suc n) a =
    let e : n - k ≡ suc n - suc k = omega arith in drop-replicate k n a ∙ ap (λ m. replicate m a) e

pub record Held (n : ℕ) (text bytes : List ℕ) (len : ℕ) : Type 0 where
  pub holds : bytes ≡ text ++ replicate (n - length text) 0
  pub long : len ≡ length text

pub put-held :
    (n : ℕ) (text : List ℕ) {bytes : List ℕ} {len : ℕ} → length text ≤ n → placed bytes len ≡ put (replicate n 0) 0 text → Held n text bytes len
put-held n text h e =
    let zeros : List ℕ = replicate n 0 in
    let room : 0 + length text ≤ length zeros = omega (arith, length-replicate {A = ℕ} n 0) in
    let place : 0 + length text ≡ length text = omega arith in
    let all = e ∙ put_all zeros 0 text room in
    record {
      holds =
          ap (λ (p : Placed). p.out) all
          ∙ sets-eq text zeros 0 room
          ∙ ap (λ (k : ℕ). text ++ drop k zeros) place
          ∙ ap (λ (m : List ℕ). text ++ m) (drop-replicate (length text) n 0);
      long = ap (λ (p : Placed). p.at) all ∙ place;
    }
