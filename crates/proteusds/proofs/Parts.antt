-- The parts of six tables, and calls one after the other. Assumes nothing.
use mathlib.Core.Path.{◌≡◌, refl, ap, ◌∙◌}
use mathlib.Core.List.{List, [], ◌∷◌, ◌++◌, append_assoc}
use Prim.Native.Nat.{ℕ, zero, suc, ◌+◌, ◌*◌, ◌-◌, ◌<◌}
use native.Mathlib.Numerals.{add-one}
use native.Mathlib.Omega.{arith}
use borrow.Rule.Slice.PartMut.{put_mid}
use lib.IntN.{ℤ}
use lib.ListN.{length, take, drop, get_or, set}
use Rattle.text.specs.Spaced.{spaced}
use Rattle.reader.specs.declared.record.Record.{Record}
use Rattle.reader.specs.declared.reader.Outcome.{Outcome}
use Rattle.reader.specs.Model.{Out, out, state_of, out_of, never}
use Rattle.proteusds.specs.declared.six.Call.{Call}
use Rattle.proteusds.specs.Six.{called_of, part_of, with_part, called_at, Six, six_of, after_one, one_called, called_to}

-- ---- a part

behind : (a n : ℕ) → a + n - a ≡ n
behind a n = omega arith

module _ {A : Type 0} (n k : ℕ) (xs : List A) where
  pub part-is : take (n * k + n - n * k) (drop (n * k) xs) ≡ part_of n k xs
  unfolding part_of
  part-is = ap (λ (m : ℕ). take m (drop (n * k) xs)) (behind (n * k) n)

  pub with-is : (ys : List A) → put_mid (n * k) (n * k + n - n * k) xs ys ≡ with_part n k ys xs
  unfolding with_part
  with-is ys = ap (λ (m : ℕ). take (n * k) xs ++ (ys ++ drop m (drop (n * k) xs))) (behind (n * k) n)

-- ---- a call on a part

module _ (call : Call) (k : ℕ) (text : List ℕ) (r : Record) (cells : List ℤ) (flags : List ℕ) where
  pub called_at_lem :
      (o : Outcome) (ys : List ℤ) (zs : List ℕ)
      → out_of o ys zs
      ≡ called_of call (k + 1) text
      (state_of r (take (12_800 * k + 12_800 - 12_800 * k) (drop (12_800 * k) cells)) (take (6_400 * k + 6_400 - 6_400 * k) (drop (6_400 * k) flags)))
      → out_of o (put_mid (12_800 * k) (12_800 * k + 12_800 - 12_800 * k) cells ys) (put_mid (6_400 * k) (6_400 * k + 6_400 - 6_400 * k) flags zs)
      ≡ called_at call k text (state_of r cells flags)
  unfolding called_at
  called_at_lem o ys zs e =
      (λ i. out_of o (with-is 12_800 k cells ys i) (with-is 6_400 k flags zs i))
      ∙ ap (λ (x : Out). out (state_of x.after.reader (with_part 12_800 k x.after.cells cells) (with_part 6_400 k x.after.flags flags)) x.answer)
      (e ∙ (λ i. called_of call (k + 1) text (state_of r (part-is 12_800 k cells i) (part-is 6_400 k flags i))))

-- ---- calls one after the other

-- before its end a list says nothing of what is said past it
get_d_any : {A : Type 0} (l : List A) (i : ℕ) (d e : A) → i < length l → get_or l i d ≡ get_or l i e
get_d_any [] i d e h = absurd (omega arith)
get_d_any (x ∷ l) zero d e h = refl
get_d_any (x ∷ l) (suc i) d e h = get_d_any l i d e (omega arith)

pub none-called : (call : Call) (text : List ℕ) (s : Six) → s ≡ called_to call text 0 s
unfolding called_to
none-called call text s = refl

pub next-called :
    (call : Call) (text : List ℕ) (s : Six) {readers : List Record} {cells : List ℤ} {flags : List ℕ} {k : ℕ} (d : Record) (o : Outcome) (ys : List ℤ) (zs : List ℕ)
    → six_of readers cells flags ≡ called_to call text k s
    → k < length readers
    → out_of o ys zs ≡ called_at call k text (state_of (get_or readers k d) cells flags)
    → six_of (set readers k o.reader) ys zs ≡ called_to call text (k + 1) s
unfolding called_to one_called
next-called call text s {readers} {cells} {flags} {k} d o ys zs inv h e =
    rw add-one
    (ap (after_one k readers) (e ∙ ap (λ (r : Record). called_at call k text (state_of r cells flags)) (get_d_any readers k d never h)) ∙ ap (one_called call text k) inv)

-- ---- a refusal behind its component

pub component-is : (w n r : List ℕ) → ((w ++ (32 ∷ n)) ++ (32 ∷ [])) ++ r ≡ spaced (w ∷ n ∷ r ∷ [])
unfolding spaced
component-is w n r = append_assoc (w ++ (32 ∷ n)) (32 ∷ []) r ∙ append_assoc w (32 ∷ n) (32 ∷ r)
