-- The loop of `explainer::read` as plain mathematics: the bytes up to a line feed go to the reader at once and leave the memory as it is, and a line feed is a byte
-- of its own. x₀ is where the piece begins, and x where the loop's head is. Assumes nothing.
use mathlib.Core.Path.{◌≡◌, refl, sym, ap, ◌∙◌}
use mathlib.Core.List.{List, [], ◌∷◌}
use Prim.Native.Nat.{ℕ, zero, suc, ◌+◌, ◌<◌}
use native.Mathlib.Omega.{arith}
use lib.Dec.{eqb}
use mathlib.Core.Bool.{Bool, true, false, cond}
use Rattle.std.proofs.Common.{Some, None, nat_lt}
use Rattle.std.proofs.lemmas.Option.{cond_some}
use lib.Seq.{take_all}
use Rattle.std.proofs.lemmas.List.Recursion.{is_position_or_len}
use Rattle.std.specs.List.{position, position_or_len}
use lib.ListN.{length, take, drop, drop_of_length-le}
use borrow.Author.Tests.{ne_eqb, le-leb, ltb-true, ltb-false}
use Rattle.row.specs.Told.{Row}
use Rattle.grid.specs.Slots.{slot_of}
use Rattle.grid.proofs.Places.{slot-within}
use Rattle.reader.specs.Model.{State, byte_of, bytes_of, counts_fit, read_on}
use Rattle.reader.proofs.Kept.{by-eq, Within, byte-within}
use Rattle.origins.specs.Memory.{Memory, recalled}
use Rattle.explain.specs.Model.{Reading, next_byte, next_bytes}
use Rattle.reasons.specs.Reasons.{row_kept}

-- ---- the two counts stay within their limits

byte-stays : (b : ℕ) (s : State) → Within s → Within (byte_of b s)
unfolding byte_of
byte-stays b s h = by-eq Within s.reader.marks.stage 1 _ _ (λ o. byte-within b s h) (λ o. h)

bytes-stay : (bs : List ℕ) (s : State) → Within s → Within (bytes_of bs s)
unfolding bytes_of
bytes-stay [] s h = h
bytes-stay (b ∷ bs) s h = bytes-stay bs (byte_of b s) (byte-stays b s h)

-- and there the reader's `read_on` is its bytes
read-on-bytes : (text : List ℕ) (s : State) → Within s → read_on text s ≡ bytes_of text s
unfolding read_on counts_fit
read-on-bytes text s h = rw (le-leb _ 1_000_000 h.lines, le-leb _ 160 h.count)

-- ---- a line feed

-- s, row and memory are what the code has after it
pub line-fed :
    (x : Reading) → Within x.state → {s : State} {row : Row} {m : Memory} → s ≡ read_on (10 ∷ []) x.state → row ≡ row_kept x.state.reader
    → m ≡ recalled row s.reader x.memory → ◌≡◌ {A = Reading} (record { state = s; stated = x.stated; memory = m }) (next_byte 10 x)
unfolding next_byte bytes_of
line-fed x h fed kept told =
    let read = fed ∙ read-on-bytes (10 ∷ []) x.state h in
    let memory = told ∙ (λ i. recalled (kept i) (read i).reader x.memory) in
    λ i. record { state = read i; stated = x.stated; memory = memory i }

-- ---- the bytes before it

abbrev pub moved : State → Reading → Reading
moved s x = record { state = s; stated = x.stated; memory = x.memory }

-- the number of bytes before a line feed
abbrev pub ahead : List ℕ → ℕ
ahead text = slot_of eqb text 10

other_byte : (b : ℕ) (x : Reading) → (b ≡ 10 → ⊥) → next_byte b x ≡ moved (byte_of b x.state) x
unfolding next_byte
other_byte b x h = rw (ne_eqb b 10 h)

up-to-feed : (text : List ℕ) (x : Reading) → next_bytes text x ≡ next_bytes (drop (ahead text) text) (moved (bytes_of (take (ahead text) text) x.state) x)
unfolding next_bytes bytes_of slot_of
up-to-feed [] x = refl
up-to-feed (b ∷ bs) x =
    by-eq (λ n. next_bytes (b ∷ bs) x ≡ next_bytes (drop n (b ∷ bs)) (moved (bytes_of (take n (b ∷ bs)) x.state) x)) b 10 zero (suc (ahead bs))
    (λ e. refl)
    (λ f. ap (next_bytes bs) (other_byte b x f) ∙ up-to-feed bs (moved (byte_of b x.state) x))

at-feed : (text : List ℕ) → ahead text < length text → drop (ahead text) text ≡ 10 ∷ drop (suc (ahead text)) text
unfolding slot_of
at-feed [] h = absurd (omega arith)
at-feed (b ∷ bs) h =
    by-eq (λ n. n < suc (length bs) → drop n (b ∷ bs) ≡ 10 ∷ drop (suc n) (b ∷ bs)) b 10 zero (suc (ahead bs))
    (λ e g. ap (λ (k : ℕ). k ∷ bs) e)
    (λ f g. at-feed bs (omega arith))
    h

-- ---- the loop

abbrev pub feed : ℕ → Bool
feed b = eqb b 10

ahead-is : (text : List ℕ) → ahead text ≡ position_or_len feed text
unfolding slot_of
ahead-is = is_position_or_len ahead feed refl (λ b bs. let more : suc (ahead bs) ≡ 1 + ahead bs = omega arith in ap (cond (feed b) 0) more)

pub feed-found : (text : List ℕ) (n : ℕ) → position feed text ≡ Some n → (n ≡ ahead text) × (n < length text)
feed-found text n e =
    let found : (nat_lt (position_or_len feed text) (length text) ≡ true) × (position_or_len feed text ≡ n) = cond_some _ _ _ e in
    (sym found.1 ∙ sym (ahead-is text), rw (← found.1) (ltb-true _ _ found.0))

pub no-feed : (text : List ℕ) → position feed text ≡ None → ahead text ≡ length text
no-feed text e = go (nat_lt (position_or_len feed text) (length text)) refl e
  where
    go : (t : Bool) → nat_lt (position_or_len feed text) (length text) ≡ t → cond t (Some (position_or_len feed text)) None ≡ None → ahead text ≡ length text
    go true f g = absurd (let no : ◌≡◌ {A = ℕ} 0 1 = cc in omega arith)
    go false f g = omega (arith, ahead-is text, slot-within eqb 10 text, ltb-false _ _ f)

-- what is left of the text, read from here, comes to what the whole text comes to
pub record Left (text : List ℕ) (x₀ : Reading) (rest : List ℕ) (x : Reading) : Type 0 where
  pub bounds : Within x.state
  pub same : next_bytes rest x ≡ next_bytes text x₀

-- s is the state after the bytes before the next line feed, or where there is none after all that is left
module _ (text : List ℕ) (x₀ : Reading) (rest : List ℕ) (x : Reading) (l : Left text x₀ rest x) (s : State) where
  module _ (n : ℕ) (e : position feed rest ≡ Some n) (line : List ℕ) (p : line ≡ take n rest) (f : s ≡ read_on line x.state) where
    read_here : s ≡ bytes_of (take n rest) x.state
    read_here = f ∙ read-on-bytes line x.state l.bounds ∙ (λ i. bytes_of (p i) x.state)

    pub line-bounds : Within s
    line-bounds = rw read_here (bytes-stay (take n rest) x.state l.bounds)

    pub line-read : (behind : List ℕ) → behind ≡ drop n rest → (x' : Reading) → x' ≡ next_byte 10 (moved s x) → Left text x₀ (drop 1 behind) x'
    unfolding next_bytes next_byte
    line-read behind q x' g =
        let found : (n ≡ ahead rest) × (n < length rest) = feed-found rest n e in
        let here : next_bytes (drop n rest) (moved s x) ≡ next_bytes text x₀ =
        (λ j. next_bytes (drop (found.0 j) rest) (moved ((read_here ∙ (λ k. bytes_of (take (found.0 k) rest) x.state)) j) x))
        ∙ sym (up-to-feed rest x) ∙ l.same in
        let at : drop n rest ≡ 10 ∷ drop (suc n) rest = rw found.0 (at-feed rest (rw (← found.0) found.1)) in
        record {
          bounds = rw g (byte-stays 10 s line-bounds);
          same = (λ j. next_bytes (drop 1 ((q ∙ at) j)) (g j)) ∙ (rw at at here);
        }

  pub all-read : position feed rest ≡ None → s ≡ read_on rest x.state → moved s x ≡ next_bytes text x₀
  unfolding next_bytes
  all-read e f =
      let end : ahead rest ≡ length rest = no-feed rest e in
      let none : drop (ahead rest) rest ≡ [] = drop_of_length-le rest {i = ahead rest} (omega arith) in
      let all : take (ahead rest) rest ≡ rest = take_all (ahead rest) rest (omega arith) in
      (λ j. moved ((f ∙ read-on-bytes rest x.state l.bounds) j) x)
      ∙ (λ j. next_bytes (sym none j) (moved (bytes_of (sym all j) x.state) x)) ∙ sym (up-to-feed rest x) ∙ l.same
