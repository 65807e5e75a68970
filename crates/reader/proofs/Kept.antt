-- What a byte keeps of an open record: at most a million lines begun, at most 160 bytes kept, in 160 places. Assumes nothing.
use mathlib.Core.Path.{◌≡◌, refl, ◌∙◌}
use mathlib.Core.Bool.{Bool, true, false, cond}
use Prim.Native.Nat.{ℕ, ◌≤◌, zero-le}
use native.Mathlib.Omega.{arith}
use lib.Dec.{eqb}
use lib.ListN.{length, length-set}
use borrow.Author.Tests.{eqb-true, eqb-false}
use Rattle.row.specs.Told.{Row}
use Rattle.table.specs.Placing.{Placed}
use Rattle.reader.specs.Model.{State, stuck_at, begun, keeping, kept_byte, settled, passed, ended, line_ended, line_feed, open_byte}

-- a test of two numbers: what holds of both its arms holds of the `cond`
pub by-eq {ℓ} : {X : Type ℓ} (P : X → Type 0) (m n : ℕ) (x y : X) → (m ≡ n → P x) → ((m ≡ n → ⊥) → P y) → P (cond (eqb m n) x y)
by-eq P m n x y f g = go (eqb m n) refl
  where
    go : (t : Bool) → eqb m n ≡ t → P (cond t x y)
    go true e = f (eqb-true m n e)
    go false e = g (eqb-false m n e)

pub record Within (s : State) : Type 0 where
  pub lines : s.reader.marks.lines ≤ 1_000_000
  pub count : s.reader.marks.count ≤ 160
  pub kept : length s.reader.kept ≡ 160

module _ (s : State) (h : Within s) where
  -- ---- a byte that is no line feed

  stuck-within : (number line : ℕ) → Within (stuck_at number line s)
  unfolding stuck_at
  stuck-within number line = record { lines = h.lines; count = h.count; kept = h.kept }

  begun-within : (s.reader.marks.lines ≡ 1_000_000 → ⊥) → Within (begun s)
  unfolding begun
  begun-within more = record { lines = omega (arith, h.lines); count = h.count; kept = h.kept }

  keeping-within : (b : ℕ) → (s.reader.marks.count ≡ 160 → ⊥) → Within (keeping b s)
  unfolding keeping
  keeping-within b room =
      record {
        lines = h.lines;
        count = omega (arith, h.count);
        kept = length-set s.reader.kept s.reader.marks.count b ∙ h.kept;
      }

  -- ---- the end of a line

  passed-within : Within (passed s)
  unfolding passed
  passed-within = record { lines = h.lines; count = zero-le; kept = h.kept }

  settled-within : (p : Placed) → Within (settled p s)
  unfolding settled passed
  settled-within p =
      by-eq Within p.number 0 _ _
      (λ none. record { lines = h.lines; count = zero-le; kept = h.kept })
      (λ some. stuck-within p.number s.reader.marks.lines)

  ended-within : (w : Row) → Within (ended w s)
  unfolding ended
  ended-within Row.Blank = passed-within
  ended-within Row.Title = passed-within
  ended-within Row.PassedOver = passed-within
  ended-within (Row.Refused number) = stuck-within number s.reader.marks.lines
  ended-within (Row.Used e) = settled-within _

  ended-line-within : Within (line_ended s)
  unfolding line_ended
  ended-line-within = ended-within _

kept-within : (b : ℕ) (s : State) → Within s → Within (kept_byte b s)
unfolding kept_byte begun
kept-within b s h =
    by-eq Within s.reader.marks.count 0 _ _
    (λ none.
    by-eq Within s.reader.marks.lines 1_000_000 _ _
    (λ full. stuck-within s h 3 1_000_001)
    (λ more. keeping-within (begun s) (begun-within s h more) b (omega (arith, none))))
    (λ some.
    by-eq Within s.reader.marks.count 160 _ _
    (λ full. stuck-within s h 3 s.reader.marks.lines)
    (λ room. keeping-within s h b room))

feed-within : (s : State) → Within s → Within (line_feed s)
unfolding line_feed
feed-within s h =
    by-eq Within s.reader.marks.count 0 _ _
    (λ none.
    by-eq Within s.reader.marks.lines 1_000_000 _ _
    (λ full. stuck-within s h 3 1_000_001)
    (λ more. ended-line-within (begun s) (begun-within s h more)))
    (λ some. ended-line-within s h)

-- ---- a byte

pub byte-within : (b : ℕ) (s : State) → Within s → Within (open_byte b s)
unfolding open_byte
byte-within b s h = by-eq Within b 10 _ _ (λ e. feed-within s h) (λ e. kept-within b s h)
