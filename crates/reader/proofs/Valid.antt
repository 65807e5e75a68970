-- What a valid record keeps to, and what a record is that nothing bars. Assumes nothing.
use mathlib.Core.Path.{◌≡◌, refl, sym, ap, subst, ◌∙◌}
use mathlib.Core.List.{List, [], ◌∷◌}
use Rattle.std.specs.List.{list_any}
use mathlib.Core.Bool.{Bool, true, false, cond, not, ◌&&◌, ◌||◌, false≢true}
use Prim.Native.Nat.{ℕ, ◌≤◌, ◌<◌}
use native.Mathlib.Omega.{arith}
use lib.Dec.{T, leb, eqb}
use lib.ListN.{take}
use lib.Ieee.Bits.{is_true}
use mir.Facts.{and_yes, leb_yes}
use borrow.Author.Tests.{eqb-true, ne_eqb, leb-true, leb-false, lt-leb}
use Rattle.reader.specs.declared.record.Record.{Record}
use Rattle.reader.specs.Valid.{valid_choices, sticks, valid_stage, clean, valid_line, valid_of}
use Rattle.grid.specs.Valid.{valid_slots}
use Rattle.reader.specs.Model.{too_short, barred_by}

pub record Bounds (r : Record) : Type 0 where
  pub stage : valid_stage r.marks.stage ≡ true
  pub lines : r.marks.lines ≤ 1_000_000
  pub count : r.marks.count ≤ 160

pub valid-kept : (r : Record) → valid_of r ≡ true → Bounds r
unfolding valid_of valid_line
valid-kept r e =
    let line = valid_line r.kept r.marks.count in
    let slots = valid_slots r.marks.stage r.slots in
    let choices = valid_choices r.choices in
    let all = and_yes (valid_stage r.marks.stage) (leb r.marks.lines 1_000_000 && (choices && (slots && line))) (subst T (sym e) tt) in
    let chosen = and_yes (leb r.marks.lines 1_000_000) (choices && (slots && line)) all.1 in
    let held = and_yes choices (slots && line) chosen.1 in
    let last = and_yes slots line held.1 in
    let few = and_yes (leb r.marks.count 160) (clean (take r.marks.count r.kept)) last.1 in
    record { stage = is_true _ all.0; lines = leb_yes chosen.0; count = leb_yes few.0 }

-- a stage of 3 or more of a valid record is a refusal's number that sticks
pub valid-stuck : (r : Record) → valid_of r ≡ true → 3 ≤ r.marks.stage → sticks r.marks.stage ≡ true
unfolding valid_stage
valid-stuck r e h =
    let low : leb r.marks.stage 2 ≡ false = lt-leb r.marks.stage 2 (omega arith) in
    rw low at (valid-kept r e).stage

-- no number below 3 sticks
pub free-stage : (stage : ℕ) → stage < 3 → sticks stage ≡ false
unfolding sticks
free-stage stage h =
    let other : stage ≡ 17 → ⊥ = λ e. omega arith in
    rw (lt-leb 3 stage h) (ne_eqb stage 17 other)

pub stuck-least : (stage : ℕ) → sticks stage ≡ true → 3 ≤ stage
stuck-least stage e = go (leb 3 stage) refl
  where
    go : (t : Bool) → leb 3 stage ≡ t → 3 ≤ stage
    go true low = leb-true 3 stage low
    go false few = absurd (false≢true (sym (free-stage stage (leb-false 3 stage few)) ∙ e))

-- a record that nothing bars is valid and open
pub unbarred : (r : Record) (cells flags : ℕ) → barred_by r cells flags ≡ 0 → (valid_of r ≡ true) × (r.marks.stage ≡ 1)
unfolding barred_by
unbarred r cells flags = go (valid_of r) (sticks r.marks.stage) (too_short cells flags) (eqb r.marks.stage 1) refl refl refl
  where
    go :
        (valid stuck short one : Bool) → valid_of r ≡ valid → sticks r.marks.stage ≡ stuck → eqb r.marks.stage 1 ≡ one
        → cond (valid && stuck) r.marks.stage (cond short 1 (cond (valid && one) 0 2)) ≡ 0 → (valid_of r ≡ true) × (r.marks.stage ≡ 1)
    go true true short one v s o e = absurd (omega (arith, stuck-least r.marks.stage s))
    go true false true one v s o e = absurd (omega arith)
    go true false false true v s o e = (v, eqb-true r.marks.stage 1 o)
    go true false false false v s o e = absurd (omega arith)
    go false stuck true one v s o e = absurd (omega arith)
    go false stuck false one v s o e = absurd (omega arith)

-- bytes among which std finds no line feed
pub clean-is : (bs : List ℕ) → not (list_any (λ b. eqb b 10) bs) ≡ clean bs
unfolding clean
clean-is [] = refl
clean-is (b ∷ bs) = go (eqb b 10) ∙ ap (λ (t : Bool). not (eqb b 10) && t) (clean-is bs)
  where
    go : (t : Bool) → not (t || list_any (λ b. eqb b 10) bs) ≡ (not t && not (list_any (λ b. eqb b 10) bs))
    go true = refl
    go false = refl
