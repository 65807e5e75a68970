-- What a line holds: a text that was put into 80 bytes is the line of that text, where it is no longer; each text as the code puts it, and that it is not long.
-- Assumes nothing.
use mathlib.Core.Path.{◌≡◌, refl, ap, ◌∙◌}
use mathlib.Core.Bool.{Bool, true, false, cond}
use mathlib.Core.List.{List, [], ◌∷◌, ◌++◌, append_assoc}
use Prim.Native.Nat.{ℕ, ◌^◌, ◌≤◌, ◌<◌}
use native.Mathlib.Omega.{arith}
use lib.Dec.{eqb}
use lib.IntN.{ℤ, nat_abs}
use lib.ListN.{length, replicate, length-append}
use mir.Syntax.{w8, w32, w64}
use mir.Val.{Fits, SFits}
use Rattle.whole.proofs.Words.{within-fits}
use Rattle.field.specs.Text.{bytes}
use Rattle.text.specs.Decimal.{natural, signed}
use Rattle.text.specs.Spaced.{spaced}
use Rattle.text.specs.Put.{Placed, placed, put}
use Rattle.text.specs.declared.pen.Pen.{Pen}
use Rattle.text.specs.Pen.{Puts, placed_by}
use Rattle.text.proofs.Widths.{natural-few, signed-few}
use Rattle.text.proofs.Lengths.{words-few}
use Rattle.text.proofs.Puts.{put-held}
use Rattle.whole.specs.Complex.{Complex}
use Rattle.grid.specs.declared.nodes.Node.{Node}
use Rattle.grid.specs.declared.nodes.Pair.{Pair}
use Rattle.grid.specs.Slots.{held_ticks}
use Rattle.reader.specs.declared.record.Record.{Record}
use Rattle.reader.specs.declared.reader.Place.{Place}
use Rattle.text.specs.declared.line.Line.{Line}
use Rattle.text.specs.Line as text
use Rattle.lines.specs.Line.{line_of}
use Rattle.lines.specs.Listing.{title_text, pair_words, pair_text}
use Rattle.lines.specs.Refusal.{place_words, refusal_text}
use Rattle.lines.proofs.Answers.{ticks-few}

-- ---- a line

-- what was put into a line's bytes, as a line
abbrev pub made_line : Placed → Line 80
made_line p = record { bytes = p.out; len = p.at }

pub line-held : (s : List ℕ) {bytes : List ℕ} {len : ℕ} → length s ≤ 80 → placed bytes len ≡ put (replicate 80 0) 0 s → made_line (placed bytes len) ≡ line_of s
unfolding text.line_of
line-held s h e = let held = put-held 80 s h e in λ i. record { bytes = held.holds i; len = held.long i }

-- the same by a pen: o is the pen before the text is put into 80 bytes, and n behind it
pub penned :
    (s : List ℕ) → length s ≤ 80 → {o n : Pen} {bytes : List ℕ} {len : ℕ} → placed_by o ≡ placed (replicate 80 0) 0 → Puts s o n → bytes ≡ n.out.now → len ≡ n.at
    → ◌≡◌ {A = Line 80} (record { bytes = bytes; len = len }) (line_of s)
penned s h {o} {n} begun p e f =
    let from : put o.out.now o.at s ≡ put (replicate 80 0) 0 s = ap (λ (q : Placed). put q.out q.at s) begun in
    line-held s h ((λ i. placed (e i) (f i)) ∙ p.put ∙ from)

-- ---- a pair and its value

abbrev pub node_text : Node → List ℕ
node_text n = natural n.tick ++ (32 ∷ signed n.heading)

-- as the code puts them: a node, a space, a node; and then each part of the value with a space before it
pub pair_is : (p : Pair) → node_text p.first ++ (32 ∷ node_text p.second) ≡ spaced (pair_words p)
unfolding spaced pair_words
pair_is p = simp append_assoc

pub entry-is : (p : Pair) (v : Complex) → spaced (pair_words p) ++ ((32 ∷ signed v.re) ++ (32 ∷ signed v.im)) ≡ pair_text p v
unfolding pair_text spaced pair_words
entry-is p v = simp append_assoc

-- a number of 32 bits has ten digits at most, and a sign
pub short-natural : (n : ℕ) → Fits w32 n → length (natural n) ≤ 10
short-natural n f = let small : n < 10 ^ 10 = omega (arith, f.fits) in natural-few 9 n small

short-signed : (z : ℤ) → SFits w32 z → length (signed z) ≤ 11
short-signed z f = let small : nat_abs z < 10 ^ 10 = omega (arith, (within-fits f).small) in signed-few 9 z small

node-few : (n : Node) → Fits w32 n.tick → SFits w32 n.heading → length (node_text n) ≤ 22
node-few n tick heading =
    omega (arith, length-append (natural n.tick) (32 ∷ signed n.heading), short-natural n.tick tick, short-signed n.heading heading)

module _ (p : Pair) (tick₁ : Fits w32 p.first.tick) (heading₁ : SFits w32 p.first.heading) (tick₂ : Fits w32 p.second.tick)
    (heading₂ : SFits w32 p.second.heading) where
  pub pair-few : length (spaced (pair_words p)) ≤ 45
  pair-few =
      omega (
        arith,
        ap length (pair_is p),
        length-append (node_text p.first) (32 ∷ node_text p.second),
        node-few p.first tick₁ heading₁,
        node-few p.second tick₂ heading₂,
      )

  pub entry-few : (v : Complex) → SFits w32 v.re → SFits w32 v.im → length (pair_text p v) ≤ 80
  entry-few v re im =
      omega (
        arith,
        pair-few,
        ap length (entry-is p v),
        length-append (spaced (pair_words p)) ((32 ∷ signed v.re) ++ (32 ∷ signed v.im)),
        length-append (32 ∷ signed v.re) (32 ∷ signed v.im),
        short-signed v.re re,
        short-signed v.im im,
      )

-- ---- the first line

-- either of two words is short
either : (m : ℕ) (t : Bool) (v w : List ℕ) → length v ≤ m → length w ≤ m → length (cond t v w) ≤ m
either m true v w h k = h
either m false v w h k = k

pub title-few : (r : Record) → Fits w8 r.choices.component → length r.slots.ticks ≡ 20 → Fits w64 r.slots.held → length (title_text r) ≤ 80
unfolding title_text bytes
title-few r component long held =
    let ticks = r.slots.ticks in
    let small : r.choices.component < 10 ^ 3 = omega (arith, component.fits) in
    let some : length (held_ticks ticks) < 10 ^ 2 = omega (arith, ticks-few ticks) in
    let word : r.slots.held < 10 ^ 20 = omega (arith, held.fits) in
    let few =
    words-few (3 ∷ 10 ∷ 3 ∷ 6 ∷ 2 ∷ 20 ∷ [])
    (bytes "QTF"
    ∷ cond (eqb r.choices.kind 0) (bytes "difference") (bytes "sum")
    ∷ natural r.choices.component
    ∷ cond (eqb r.choices.coverage 0) (bytes "single") (bytes "full")
    ∷ natural (length (held_ticks ticks))
    ∷ natural r.slots.held
    ∷ [])
    (omega arith, (either 10 (eqb r.choices.kind 0) _ _ (omega arith) (omega arith), (natural-few 2 _ small, (either 6 (eqb r.choices.coverage 0) _ _ (omega arith) (omega arith), (natural-few 1 _ some, (natural-few 19 _ word, tt))))))
    in
    omega arith

-- ---- a refusal

-- no place is without a word
pub refusal_is : (number : ℕ) (place : Place) → bytes "refused" ++ ((32 ∷ natural number) ++ (32 ∷ spaced (place_words place))) ≡ refusal_text number place
unfolding refusal_text place_words pair_words spaced
refusal_is number Place.Nowhere = refl
refusal_is number (Place.Line n) = refl
refusal_is number (Place.Pair p) = refl

pub refusal-few : (number : ℕ) (place : Place) → Fits w8 number → length (spaced (place_words place)) ≤ 45 → length (refusal_text number place) ≤ 80
unfolding bytes
refusal-few number place f h =
    let small : number < 10 ^ 3 = omega (arith, f.fits) in
    let rest : List ℕ = (32 ∷ natural number) ++ (32 ∷ spaced (place_words place)) in
    omega (
      arith,
      natural-few 2 number small,
      ap length (refusal_is number place),
      length-append (bytes "refused") rest,
      length-append (32 ∷ natural number) (32 ∷ spaced (place_words place)),
    )
