-- The answers, each from what the code has found: that a line has room in its 256 bytes, a line's answer, and how long the text is. Assumes nothing.
use mathlib.Core.Path.{◌≡◌, refl, sym, ap, subst, ◌∙◌}
use mathlib.Core.Bool.{Bool, true, false, cond, false≢true}
use mathlib.Core.List.{List, [], ◌∷◌, ◌++◌}
use Prim.Native.Nat.{ℕ, zero, suc, ◌+◌, ◌*◌, ◌-◌, ◌≤◌, ◌<◌, zero-le}
use native.Mathlib.Numerals.{add-one}
use native.Mathlib.Omega.{arith}
use lib.Dec.{ltb, leb}
use lib.Signed.{le_z}
use lib.ListN.{length, take, get_or, replicate, length-append, length-map, length-take, get_or-eq_default}
use lib.Seq.{take-suc, take_all}
use borrow.Author.Tests.{le-ltb, ltb-true, ltb-false, ne_eqb}
use Rattle.whole.proofs.Any.{Asking, asking, not-here, is-here, none_at_all}
use Rattle.field.specs.Text.{bytes}
use Rattle.text.specs.Parts.{text_of}
use Rattle.text.specs.Put.{placed, put}
use Rattle.text.specs.Line.{line_of}
use Rattle.text.proofs.Puts.{put-held}
use Rattle.grid.specs.Slots.{held_ticks, held_headings}
use Rattle.table.specs.Pairs.{ascending, nowhere, pairs_of, nth_of}
use Rattle.table.proofs.Ascending.{length-ascending, held-le}
use Rattle.reader.specs.declared.record.Record.{Record}
use Rattle.hull.specs.declared.six.Six.{Six}
use Rattle.hull.specs.Six.{Component, component_of, components_of, frequencies, headings, six_barred, values_at, is_spoilt}
use Rattle.qtf.specs.Matrix.{head_lines}
use Rattle.proteus.specs.Lines.{proteus_lines}
use Rattle.proteus.specs.Answer.{nth_spoilt, line_spoilt, line_number, lined_of, line_at, any_spoilt, text_number, proteus_text}
use Rattle.proteus.specs.own.Step.{Slotted, line_put, measured}
use Rattle.proteus.proofs.Accepted.{unbarred}
use Rattle.proteus.proofs.Bounded.{Modest, modest, frequencies-short, headings-short, row-short, pairs-few}
use Rattle.proteus.proofs.Stepping.{Leads, needed, heads_of, line-count, head-line, row_line, head-whole, row-spoilt, whole-put}

-- ---- nothing bars the six

module _ {cs : List Component} {first : Record} (l : Leads cs first) (s : Slotted cs) where
  pub lines-few : length (proteus_lines cs) ≤ 6_405
  unfolding pairs_of held_headings
  lines-few =
      let slots = first.slots in
      let (long, wide) = l.slotted s in
      let few : length (ascending leb (held_ticks slots.ticks)) ≤ 20 = omega (arith, length-ascending leb (held_ticks slots.ticks), held-le slots.ticks) in
      let some : length (ascending le_z (held_headings slots)) ≤ 4 = omega (arith, length-ascending le_z (held_headings slots), length-take slots.held slots.headings) in
      omega (arith, line-count l, pairs-few first.choices.coverage (ascending leb (held_ticks slots.ticks)) (ascending le_z (held_headings slots)) few some)

  module _ (free : six_barred cs ≡ 0) (six : length cs ≡ 6) where
    held : Modest (frequencies first) (headings first)
    unfolding frequencies headings
    held = let (long, wide) = l.slotted s in modest first (l.accepted (unbarred cs free).accepted) long wide

    heads-short : (k : ℕ) → k < 5 → length (get_or (heads_of first) k []) ≤ 256
    unfolding head_lines bytes
    heads-short zero h = omega arith
    heads-short (suc zero) h = omega (arith, frequencies-short _ _ held)
    heads-short (suc (suc zero)) h = omega arith
    heads-short (suc (suc (suc zero))) h = omega (arith, headings-short _ _ held)
    heads-short (suc (suc (suc (suc zero)))) h = omega arith
    heads-short (suc (suc (suc (suc (suc k))))) h = absurd (omega arith)

    rows_short : (j : ℕ) → j < length (needed first) → line_spoilt cs (5 + j) ≡ false → length (get_or (proteus_lines cs) (5 + j) []) ≤ 165
    unfolding is_spoilt values_at
    rows_short j h whole =
        let p = get_or (needed first) j nowhere in
        subst (λ (t : List ℕ). length t ≤ 165) (sym (row_line l j h))
        (row-short _ _ held p (values_at cs p) (length-map cs _ ∙ six) (sym (row-spoilt l j h) ∙ whole))

    whole-short : (k : ℕ) → line_spoilt cs k ≡ false → length (get_or (proteus_lines cs) k []) ≤ 256
    whole-short k whole = go (ltb k 5) (ltb k (length (proteus_lines cs))) refl refl
      where
        go : (a b : Bool) → ltb k 5 ≡ a → ltb k (length (proteus_lines cs)) ≡ b → length (get_or (proteus_lines cs) k []) ≤ 256
        go true b low there = subst (λ (t : List ℕ). length t ≤ 256) (sym (head-line l k (ltb-true k 5 low))) (heads-short k (ltb-true k 5 low))
        go false true low there =
            let late = ltb-false k 5 low in
            let e : 5 + (k - 5) ≡ k = omega arith in
            let more : k - 5 < length (needed first) = omega (arith, line-count l, ltb-true k (length (proteus_lines cs)) there) in
            let short = rows_short (k - 5) more (ap (line_spoilt cs) e ∙ whole) in
            omega (arith, ap (λ (n : ℕ). length (get_or (proteus_lines cs) n [])) e)
        go false false low there =
            omega (arith, ap length (get_or-eq_default (proteus_lines cs) [] {n = k} (ltb-false k (length (proteus_lines cs)) there)))

    -- a line has room in its 256 bytes
    pub line-short : (k : ℕ) → length (line_put cs k) ≤ 256
    unfolding line_put
    line-short k = by_spoilt (line_spoilt cs k) refl
      where
        by_spoilt : (t : Bool) → line_spoilt cs k ≡ t → length (cond t [] (get_or (proteus_lines cs) k [])) ≤ 256
        by_spoilt true e = zero-le
        by_spoilt false e = whole-short k e

-- past the last nothing is spoilt
pub past-whole : {cs : List Component} {first : Record} → Leads cs first → (k : ℕ) → length (proteus_lines cs) ≤ k → line_spoilt cs k ≡ false
unfolding nth_spoilt nth_of
past-whole {first = first} l k h =
    let late : 5 ≤ k = omega (arith, line-count l) in
    let past : length (needed first) ≤ k - 5 = omega (arith, line-count l) in
    l.spoilt k ∙ rw (le-ltb k 5 late, le-ltb (k - 5) (length (needed first)) past)

pub six-long : (six : Six) → length (components_of six) ≡ 6
six-long six = length-map six.components component_of ∙ six.six

-- ---- a line's answer

module _ (cs : List Component) (k : ℕ) where
  pub barred-line : (n : ℕ) → n ≡ six_barred cs → (n ≡ 0 → ⊥) → lined_of n [] ≡ line_at cs k
  unfolding line_at line_number
  barred-line n e some = rw (← e, ne_eqb n 0 some, ne_eqb n 0 some)

  pub spoilt-line : six_barred cs ≡ 0 → line_spoilt cs k ≡ true → lined_of 15 [] ≡ line_at cs k
  unfolding line_at line_number
  spoilt-line free e = rw (free, e)

  whole-line : six_barred cs ≡ 0 → line_spoilt cs k ≡ false → lined_of 0 (get_or (proteus_lines cs) k []) ≡ line_at cs k
  unfolding line_at line_number
  whole-line free e = rw (free, e)

  pub past-line : six_barred cs ≡ 0 → line_spoilt cs k ≡ false → length (proteus_lines cs) ≤ k → lined_of 0 [] ≡ line_at cs k
  past-line free e past = ap (lined_of 0) (sym (get_or-eq_default (proteus_lines cs) [] {n = k} past)) ∙ whole-line free e

  pub put-line :
      {bytes : List ℕ} {len : ℕ}
      → six_barred cs ≡ 0
      → line_spoilt cs k ≡ false
      → length (line_put cs k) ≤ 256
      → placed bytes len ≡ put (replicate 256 0) 0 (line_put cs k)
      → record { number = 0; line = record { bytes = bytes; len = len } } ≡ line_at cs k
  unfolding lined_of line_of
  put-line free e short h =
      let held = put-held 256 (line_put cs k) short h in
      (λ i. record { number = 0; line = record { bytes = held.holds i; len = held.long i } })
      ∙ ap (lined_of 0) (whole-put cs k e)
      ∙ whole-line free e

-- ---- how long the text is

pub text-++ : (a b : List (List ℕ)) → length (text_of (a ++ b)) ≡ length (text_of a) + length (text_of b)
unfolding text_of
text-++ [] b = omega arith
text-++ (t ∷ a) b = omega (arith, text-++ a b, length-append t (10 ∷ text_of (a ++ b)), length-append t (10 ∷ text_of a))

-- k lines are measured, and none of them is spoilt
pub record Measuring (cs : List Component) (k sum : ℕ) : Type 0 where
  pub within : k ≤ length (proteus_lines cs)
  pub small : sum ≤ 257 * k
  pub total : sum ≡ length (text_of (take k (proteus_lines cs)))
  pub whole : (first : Record) → Leads cs first → Asking (is_spoilt cs) (needed first) (k - 5)

pub measuring : (cs : List Component) → Measuring cs 0 0
unfolding text_of
measuring cs = record { within = zero-le; small = zero-le; total = refl; whole = λ first l. asking _ _ }

module _ {cs : List Component} {k sum : ℕ} (m : Measuring cs k sum) where
  module _ {first : Record} (l : Leads cs first) (h : k < length (proteus_lines cs)) (late : 5 ≤ k) where
    here : k - 5 < length (needed first)
    here = omega (arith, line-count l)

    same : line_spoilt cs k ≡ is_spoilt cs (get_or (needed first) (k - 5) nowhere)
    same = let e : 5 + (k - 5) ≡ k = omega arith in ap (line_spoilt cs) (sym e) ∙ row-spoilt l (k - 5) here

  still-whole : k < length (proteus_lines cs) → line_spoilt cs k ≡ false → (first : Record) → Leads cs first → Asking (is_spoilt cs) (needed first) (k + 1 - 5)
  still-whole h whole first l = go (ltb k 5) refl
    where
      go : (t : Bool) → ltb k 5 ≡ t → Asking (is_spoilt cs) (needed first) (k + 1 - 5)
      go true low =
          let e : k - 5 ≡ k + 1 - 5 = omega (arith, ltb-true k 5 low) in
          subst (λ (j : ℕ). Asking (is_spoilt cs) (needed first) j) e (m.whole first l)
      go false low =
          let late = ltb-false k 5 low in
          let e : k - 5 + 1 ≡ k + 1 - 5 = omega arith in
          subst (λ (j : ℕ). Asking (is_spoilt cs) (needed first) j) e (not-here (m.whole first l) nowhere (here l h late) (sym (same l h late) ∙ whole))

  -- one line more
  pub measure-next :
      (n : ℕ)
      → k < length (proteus_lines cs)
      → line_spoilt cs k ≡ false
      → n ≡ length (line_put cs k)
      → n ≤ 256
      → Measuring cs (k + 1) (sum + (n + 1))
  unfolding text_of
  measure-next n h whole same short =
      let e = same ∙ ap length (whole-put cs k whole) in
      record {
        within = omega arith;
        small = omega (arith, m.small);
        total =
            omega (
              arith,
              m.total,
              ap (λ (j : ℕ). length (text_of (take j (proteus_lines cs)))) (add-one k),
              ap (λ (ls : List (List ℕ)). length (text_of ls)) (take-suc (proteus_lines cs) k [] h),
              text-++ (take k (proteus_lines cs)) (get_or (proteus_lines cs) k [] ∷ []),
              length-append (get_or (proteus_lines cs) k []) (10 ∷ []),
            );
        whole = still-whole h whole;
      }

  module _ {first : Record} (l : Leads cs first) where
    -- a spoilt line, and the end
    any_here : k < length (proteus_lines cs) → line_spoilt cs k ≡ true → any_spoilt cs ≡ true
    any_here h spoilt = go (ltb k 5) refl
      where
        go : (t : Bool) → ltb k 5 ≡ t → any_spoilt cs ≡ true
        go true low = absurd (false≢true (sym (head-whole l k (ltb-true k 5 low)) ∙ spoilt))
        go false low =
            let late = ltb-false k 5 low in
            l.any ∙ sym (is-here (m.whole first l) nowhere (here l h late) (sym (same l h late) ∙ spoilt))

    pub measure-spoilt : six_barred cs ≡ 0 → k < length (proteus_lines cs) → line_spoilt cs k ≡ true → record { number = 15; length = 0 } ≡ measured cs
    unfolding measured text_number
    measure-spoilt free h spoilt = rw (free, any_here h spoilt)

    pub measure-end : six_barred cs ≡ 0 → length (proteus_lines cs) ≤ k → record { number = 0; length = sum } ≡ measured cs
    unfolding measured text_number proteus_text
    measure-end free past =
        let whole : any_spoilt cs ≡ false = l.any ∙ sym (none_at_all (m.whole first l) (omega (arith, line-count l))) in
        let all : take k (proteus_lines cs) ≡ proteus_lines cs = take_all k (proteus_lines cs) past in
        rw (free, whole) (ap (λ (n : ℕ). record { number = 0; length = n }) (m.total ∙ ap (λ (ls : List (List ℕ)). length (text_of ls)) all))

pub measure-barred : (cs : List Component) (n : ℕ) → n ≡ six_barred cs → (n ≡ 0 → ⊥) → record { number = n; length = 0 } ≡ measured cs
unfolding measured text_number
measure-barred cs n e some = rw (← e, ne_eqb n 0 some, ne_eqb n 0 some)
