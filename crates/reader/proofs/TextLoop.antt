-- The reading of a text as plain mathematics: what is left of it at the head of `feed`'s loop, read from there, comes to what the whole text comes to; and bytes of one line,
-- kept at once. Assumes nothing.
use mathlib.Core.Path.{◌≡◌, refl, sym, ap, ◌∙◌}
use mathlib.Core.List.{List, [], ◌∷◌, ◌++◌}
use Prim.Native.Nat.{ℕ, zero, suc, ◌+◌, ◌≤◌, ◌<◌}
use native.Mathlib.Omega.{arith}
use native.Mathlib.Numerals.{add-one}
use lib.ListN.{length, take, drop, get_or, set, length-set, take-append-drop}
use lib.Seq.{drop-cons, take-suc-set, append_snoc, drop-set-lt, drop-drop, get_or-take, length-take-le}
use lib.Dec.{eqb}
use mathlib.Core.Bool.{Bool, true, false, cond}
use Rattle.grid.specs.Slots.{slot_of}
use borrow.Author.Tests.{eq-eqb, ne_eqb, eqb-false}
use borrow.Rule.Slice.PartMut.{put_mid}
use Rattle.reader.specs.Model.{State, with_marks, counting, kept_byte, keeping, open_byte, byte_of, bytes_of}
use Rattle.reader.proofs.Kept.{Within, byte-within}

-- ---- a byte of an open state, and of one that is not open

byte-open : (b : ℕ) (s : State) → s.reader.marks.stage ≡ 1 → byte_of b s ≡ open_byte b s
unfolding byte_of
byte-open b s h = rw (eq-eqb s.reader.marks.stage 1 h)

pub bytes-stuck : (bs : List ℕ) (s : State) → (s.reader.marks.stage ≡ 1 → ⊥) → bytes_of bs s ≡ s
unfolding bytes_of byte_of
bytes-stuck [] s h = refl
bytes-stuck (b ∷ bs) s h = rw (ne_eqb s.reader.marks.stage 1 h) (bytes-stuck bs s h)

bytes-append : (bs cs : List ℕ) (s : State) → bytes_of (bs ++ cs) s ≡ bytes_of cs (bytes_of bs s)
unfolding bytes_of
bytes-append [] cs s = refl
bytes-append (b ∷ bs) cs s = bytes-append bs cs (byte_of b s)

-- ---- the loop

pub record Feeding (whole : State) (left : List ℕ) (s : State) : Type 0 where
  pub is_open : s.reader.marks.stage ≡ 1
  pub bounds : Within s
  pub same : bytes_of left s ≡ whole

-- s' is the state after the first byte of what is left
module _ (whole : State) (left : List ℕ) (s : State) (f : Feeding whole left s) (more : 1 ≤ length left) (s' : State) (e : s' ≡ open_byte (get_or left 0 0) s) where
  pub next-same : bytes_of (drop 1 left) s' ≡ whole
  unfolding bytes_of
  next-same = rw (e, ← byte-open (get_or left 0 0) s f.is_open) (rw (drop-cons left 0 0 more) at f.same)

  pub next-within : Within s'
  next-within = rw e (byte-within (get_or left 0 0) s f.bounds)

  pub stuck : (s'.reader.marks.stage ≡ 1 → ⊥) → s' ≡ whole
  stuck o = sym (bytes-stuck (drop 1 left) s' o) ∙ next-same

pub done : (whole : State) (left : List ℕ) (s : State) → Feeding whole left s → length left ≤ 0 → s ≡ whole
unfolding bytes_of
done whole [] s f h = f.same
done whole (b ∷ left) s f h = absurd (omega arith)

-- ---- bytes of one line, kept at once

abbrev kept_on : State → List ℕ → ℕ → State
kept_on s kept count = with_marks (counting count s.reader.marks) kept s

-- a byte that is no line feed, in a line that has begun and has room
byte-kept-on :
    (b : ℕ) (s : State) → s.reader.marks.stage ≡ 1 → (b ≡ 10 → ⊥) → (s.reader.marks.count ≡ 0 → ⊥) → (s.reader.marks.count ≡ 160 → ⊥)
    → byte_of b s ≡ kept_on s (set s.reader.kept s.reader.marks.count b) (s.reader.marks.count + 1)
unfolding open_byte kept_byte keeping
byte-kept-on b s o f some room = byte-open b s o ∙ rw (ne_eqb b 10 f, ne_eqb s.reader.marks.count 0 some, ne_eqb s.reader.marks.count 160 room)

-- one byte stored, and more behind it, are all stored at once
module _ (kept : List ℕ) (n : ℕ) (b : ℕ) (bs : List ℕ) (room : n < length kept) where
  stored : put_mid (n + 1) (length bs) (set kept n b) bs ≡ put_mid n (suc (length bs)) kept (b ∷ bs)
  stored =
      let front : take (n + 1) (set kept n b) ≡ take n kept ++ (b ∷ []) = rw add-one (take-suc-set kept n b room) in
      let behind : drop (length bs) (drop (n + 1) (set kept n b)) ≡ drop (suc (length bs)) (drop n kept) =
      ap (drop (length bs)) (drop-set-lt (n + 1) kept n b (omega arith))
      ∙ drop-drop (length bs) (n + 1) kept
      ∙ ap (λ (k : ℕ). drop k kept) (omega arith)
      ∙ sym (drop-drop (suc (length bs)) n kept)
      in
      (λ i. front i ++ (bs ++ behind i)) ∙ append_snoc (take n kept) b (bs ++ drop (suc (length bs)) (drop n kept))

line-kept-on :
    (bs : List ℕ) (s : State)
    → s.reader.marks.stage ≡ 1
    → (s.reader.marks.count ≡ 0 → ⊥)
    → s.reader.marks.count + length bs ≤ 160
    → length s.reader.kept ≡ 160
    → ((k : ℕ) → k < length bs → get_or bs k 0 ≡ 10 → ⊥)
    → bytes_of bs s ≡ kept_on s (put_mid s.reader.marks.count (length bs) s.reader.kept bs) (s.reader.marks.count + length bs)
unfolding bytes_of
line-kept-on [] s o some room long clean =
    let all : put_mid s.reader.marks.count 0 s.reader.kept [] ≡ s.reader.kept = take-append-drop s.reader.marks.count s.reader.kept in
    let none : s.reader.marks.count + 0 ≡ s.reader.marks.count = omega arith in
    sym (λ i. kept_on s (all i) (none i))
line-kept-on (b ∷ bs) s o some room long clean =
    let n = s.reader.marks.count in
    let kept = s.reader.kept in
    let first : b ≡ 10 → ⊥ = clean 0 (omega arith) in
    let one : byte_of b s ≡ kept_on s (set kept n b) (n + 1) = byte-kept-on b s o first some (omega arith) in
    let rest =
    line-kept-on bs (kept_on s (set kept n b) (n + 1)) o (omega arith) (omega arith) (length-set kept n b ∙ long)
    (λ k h e. clean (k + 1) (omega arith) (rw add-one e))
    in
    let more : n + 1 + length bs ≡ n + suc (length bs) = omega arith in
    ap (bytes_of bs) one ∙ rest ∙ (λ i. kept_on s (stored kept n b bs (omega arith) i) (more i))

-- so that what is left of the text comes to the same
module _ (text : List ℕ) (n : ℕ) (s : State) where
  pub kept-same :
      s.reader.marks.stage ≡ 1
      → (s.reader.marks.count ≡ 0 → ⊥)
      → s.reader.marks.count + n ≤ 160
      → length s.reader.kept ≡ 160
      → n ≤ length text
      → ((k : ℕ) → k < n → get_or text k 0 ≡ 10 → ⊥)
      → bytes_of (drop n text) (kept_on s (put_mid s.reader.marks.count n s.reader.kept (take n text)) (s.reader.marks.count + n)) ≡ bytes_of text s
  kept-same o some room long within clean =
      let many : length (take n text) ≡ n = length-take-le n text within in
      let none : (k : ℕ) → k < length (take n text) → get_or (take n text) k 0 ≡ 10 → ⊥ =
      λ k h e. let here : k < n = omega arith in clean k here (sym (get_or-take n text k 0 here) ∙ e)
      in
      let all = line-kept-on (take n text) s o some (omega arith) long none in
      (λ i. bytes_of (drop n text) (kept_on s (put_mid s.reader.marks.count (sym many i) s.reader.kept (take n text)) (s.reader.marks.count + sym many i)))
      ∙ ap (bytes_of (drop n text)) (sym all)
      ∙ sym (bytes-append (take n text) (drop n text) s)
      ∙ ap (λ (l : List ℕ). bytes_of l s) (take-append-drop n text)

-- no line feed stands before the first
pub before-feed : (l : List ℕ) (k : ℕ) → k < slot_of eqb l 10 → get_or l k 0 ≡ 10 → ⊥
unfolding slot_of
before-feed [] k h e = omega arith
before-feed (b ∷ bs) k h e = go (eqb b 10) refl k h e (before-feed bs)
  where
    go :
        (t : Bool) → eqb b 10 ≡ t → (k : ℕ) → k < cond t 0 (suc (slot_of eqb bs 10)) → get_or (b ∷ bs) k 0 ≡ 10
        → ((k : ℕ) → k < slot_of eqb bs 10 → get_or bs k 0 ≡ 10 → ⊥) → ⊥
    go true f k h e rest = omega arith
    go false f zero h e rest = eqb-false b 10 f e
    go false f (suc k) h e rest = rest k (omega arith) e
