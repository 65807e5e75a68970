-- The lines of the text by their numbers, and what comes of putting one: how many there are, which is which, and which is spoilt. Assumes nothing.
use mathlib.Core.Path.{◌≡◌, refl, sym, ap, ◌∙◌}
use mathlib.Core.Bool.{Bool, true, false, cond, not}
use mathlib.Core.List.{List, [], ◌∷◌, ◌++◌, map}
use Prim.Native.Nat.{ℕ, zero, suc, ◌+◌, ◌-◌, ◌≤◌, ◌<◌}
use native.Mathlib.Omega.{arith}
use lib.Dec.{ltb}
use lib.ListN.{length, get_or, length-append, length-map, get_or-append, get_or-map, get_or-eq_default}
use lib.Seq.{get_or-append-add}
use borrow.Author.Tests.{lt-ltb, le-ltb, ltb-true, ltb-false}
use Rattle.whole.specs.Any.{any_of}
use Rattle.whole.proofs.Any.{neither}
use Rattle.row.proofs.Deciding.{both}
use Rattle.grid.specs.declared.nodes.Pair.{Pair}
use Rattle.grid.specs.declared.nodes.Slots.{Slots}
use Rattle.std.proofs.Common.{Option, Some, None}
use Rattle.table.specs.Pairs.{nowhere, pairs_of, nth_of}
use Rattle.reader.specs.declared.record.Record.{Record}
use Rattle.reader.specs.Valid.{valid_of}
use Rattle.proteus.specs.declared.line.Step.{Step}
use Rattle.hull.specs.declared.six.Component as code
use Rattle.hull.specs.declared.six.Six.{Six}
use Rattle.hull.specs.Six.{Component, component_of, components_of, is_unaccepted, frequencies, headings, values_at, is_spoilt}
use Rattle.qtf.specs.Matrix.{matrix_line, head_lines}
use Rattle.proteus.specs.Lines.{lines_from, proteus_lines}
use Rattle.proteus.specs.Answer.{head_count, nth_spoilt, line_spoilt, any_spoilt}
use Rattle.proteus.specs.own.Step.{Slotted, line_put, step_of}

-- ---- the first of the components, by whose record the lines go

pub record Leads (cs : List Component) (first : Record) : Type 0 where
  pub lines : proteus_lines cs ≡ lines_from first cs
  pub spoilt : (k : ℕ) → line_spoilt cs k ≡ cond (ltb k head_count) false (nth_spoilt cs (nth_of first.choices.coverage first.slots (k - head_count)))
  pub any : any_spoilt cs ≡ any_of (is_spoilt cs) (pairs_of first.choices.coverage first.slots)
  pub slotted : Slotted cs → (length first.slots.ticks ≡ 20) × (length first.slots.headings ≡ 4)
  pub accepted : any_of is_unaccepted cs ≡ false → valid_of first ≡ true

pub lead : (c : Component) (cs : List Component) → Leads (c ∷ cs) c.table
unfolding proteus_lines line_spoilt any_spoilt any_of is_unaccepted
lead c cs =
    record {
      lines = refl;
      spoilt = λ k. refl;
      any = refl;
      slotted = λ h. h;
      accepted = λ e. (both (valid_of c.table) _ (back _ (neither (is_unaccepted c) (any_of is_unaccepted cs) e).0)).0;
    }
  where
    back : (b : Bool) → not b ≡ false → b ≡ true
    back true e = refl
    back false e = sym e

pub leads : (cs : List code.Component) (d : code.Component) → 0 < length cs → Leads (map component_of cs) (get_or cs 0 d).table.now
leads [] d h = absurd (omega arith)
leads (c ∷ cs) d h = lead (component_of c) (map component_of cs)

-- six of them, and a first that leads them, whatever it is
pub six-led : (six : Six) → (first : Record) × Leads (components_of six) first
six-led six = go six.components six.six
  where
    go : (cs : List code.Component) → length cs ≡ 6 → (first : Record) × Leads (map component_of cs) first
    go [] e = absurd (omega arith)
    go (c ∷ cs) e = (c.table.now, lead (component_of c) (map component_of cs))

pub slotted :
    (cs : List code.Component) (d : code.Component)
    → 0 < length cs
    → (let s = (get_or cs 0 d).table.now.slots in (length s.ticks ≡ 20) × (length s.headings ≡ 4))
    → Slotted (map component_of cs)
slotted [] d h s = absurd (omega arith)
slotted (c ∷ cs) d h s = s

-- ---- the pair at a place

module _ (coverage : ℕ) (s : Slots) (j : ℕ) where
  pub nth-there : j < length (pairs_of coverage s) → nth_of coverage s j ≡ Some (get_or (pairs_of coverage s) j nowhere)
  unfolding nth_of
  nth-there h = rw (lt-ltb j (length (pairs_of coverage s)) h)

  pub nth-at : (p : Pair) → nth_of coverage s j ≡ Some p → (j < length (pairs_of coverage s)) × (get_or (pairs_of coverage s) j nowhere ≡ p)
  unfolding nth_of
  nth-at p = go (ltb j (length (pairs_of coverage s))) refl
    where
      go :
          (t : Bool)
          → ltb j (length (pairs_of coverage s)) ≡ t
          → cond t (Some (get_or (pairs_of coverage s) j nowhere)) None ≡ Some p
          → (j < length (pairs_of coverage s)) × (get_or (pairs_of coverage s) j nowhere ≡ p)
      go true h e = (ltb-true _ _ h, cc)
      go false h e = let clash : ◌≡◌ {A = ℕ} 0 1 = cc in absurd (omega arith)

  pub nth_past : nth_of coverage s j ≡ None → length (pairs_of coverage s) ≤ j
  unfolding nth_of
  nth_past = go (ltb j (length (pairs_of coverage s))) refl
    where
      go : (t : Bool) → ltb j (length (pairs_of coverage s)) ≡ t → cond t (Some (get_or (pairs_of coverage s) j nowhere)) None ≡ None → length (pairs_of coverage s) ≤ j
      go true h e = let clash : ◌≡◌ {A = ℕ} 0 1 = cc in absurd (omega arith)
      go false h e = ltb-false _ _ h

-- past a list's end a place says nothing of it, and before that nothing of what is said past it
get_d_any : {A : Type 0} (l : List A) (i : ℕ) (d e : A) → i < length l → get_or l i d ≡ get_or l i e
get_d_any [] i d e h = absurd (omega arith)
get_d_any (x ∷ l) zero d e h = refl
get_d_any (x ∷ l) (suc i) d e h = get_d_any l i d e (omega arith)

-- ---- the lines

abbrev pub heads_of : Record → List (List ℕ)
heads_of first = head_lines (frequencies first) (headings first)

abbrev pub needed : Record → List Pair
needed first = pairs_of first.choices.coverage first.slots

abbrev pub row_of : List Component → Record → Pair → List ℕ
row_of cs first p = matrix_line (frequencies first) (headings first) p (values_at cs p)

module _ {cs : List Component} {first : Record} (l : Leads cs first) where
  lines_are : proteus_lines cs ≡ heads_of first ++ map (row_of cs first) (needed first)
  unfolding lines_from
  lines_are = l.lines

  pub line-count : length (proteus_lines cs) ≡ 5 + length (needed first)
  unfolding head_lines
  line-count =
      omega (
        arith,
        ap length lines_are,
        length-append (heads_of first) (map (row_of cs first) (needed first)),
        length-map (needed first) (row_of cs first),
      )

  pub head-line : (k : ℕ) → k < 5 → get_or (proteus_lines cs) k [] ≡ get_or (heads_of first) k []
  unfolding head_lines
  head-line k h =
      ap (λ (ls : List (List ℕ)). get_or ls k []) lines_are ∙ get_or-append (heads_of first) (map (row_of cs first) (needed first)) [] k h

  pub row_line : (j : ℕ) → j < length (needed first) → get_or (proteus_lines cs) (5 + j) [] ≡ row_of cs first (get_or (needed first) j nowhere)
  unfolding head_lines
  row_line j h =
      let rows = map (row_of cs first) (needed first) in
      let there : j < length rows = omega (arith, length-map (needed first) (row_of cs first)) in
      ap (λ (ls : List (List ℕ)). get_or ls (5 + j) []) lines_are
      ∙ get_or-append-add (heads_of first) rows j []
      ∙ get_d_any rows j [] (row_of cs first nowhere) there
      ∙ get_or-map (row_of cs first) (needed first) j nowhere

  pub head-whole : (k : ℕ) → k < 5 → line_spoilt cs k ≡ false
  head-whole k h = l.spoilt k ∙ rw (lt-ltb k 5 h)

  pub row-spoilt : (j : ℕ) → j < length (needed first) → line_spoilt cs (5 + j) ≡ is_spoilt cs (get_or (needed first) j nowhere)
  unfolding nth_spoilt
  row-spoilt j h =
      let low : 5 ≤ 5 + j = omega arith in
      let e : 5 + j - 5 ≡ j = omega arith in
      l.spoilt (5 + j) ∙ rw (le-ltb (5 + j) 5 low, e, nth-there first.choices.coverage first.slots j h)

-- ---- putting one

module _ (cs : List Component) (k at : ℕ) where
  there-step : k < length (proteus_lines cs) → step_of cs k at ≡ cond (line_spoilt cs k) Step.Spoilt (Step.Put at)
  unfolding step_of
  there-step h = rw (lt-ltb k (length (proteus_lines cs)) h)

  beyond-step : length (proteus_lines cs) ≤ k → step_of cs k at ≡ Step.Past
  unfolding step_of
  beyond-step h = rw (le-ltb k (length (proteus_lines cs)) h)

  -- past the last there is no text, whatever is said of it
  pub beyond-put : length (proteus_lines cs) ≤ k → line_put cs k ≡ []
  unfolding line_put
  beyond-put h = rw (get_or-eq_default (proteus_lines cs) [] {n = k} h) (go (line_spoilt cs k))
    where
      go : (t : Bool) → ◌≡◌ {A = List ℕ} (cond t [] []) []
      go true = refl
      go false = refl

  module _ {first : Record} (l : Leads cs first) where
    pub head_step : k < 5 → Step.Put at ≡ step_of cs k at
    head_step h = sym (there-step (omega (arith, line-count l)) ∙ rw (head-whole l k h))

    pub head_put : k < 5 → get_or (heads_of first) k [] ≡ line_put cs k
    unfolding line_put
    head_put h = rw (head-whole l k h, head-line l k h)

    abbrev asked : Option Pair
    asked = nth_of first.choices.coverage first.slots (k - 5)

    past : 5 ≤ k → asked ≡ None → length (proteus_lines cs) ≤ k
    past h e = omega (arith, line-count l, nth_past first.choices.coverage first.slots (k - 5) e)

    pub past-step : 5 ≤ k → asked ≡ None → Step.Past ≡ step_of cs k at
    past-step h e = sym (beyond-step (past h e))

    pub past-put : 5 ≤ k → asked ≡ None → [] ≡ line_put cs k
    past-put h e = sym (beyond-put (past h e))

    module _ (p : Pair) (h : 5 ≤ k) (e : asked ≡ Some p) where
      there : k < length (proteus_lines cs)
      there = let (low, same) = nth-at first.choices.coverage first.slots (k - 5) p e in omega (arith, line-count l)

      spoilt-as : line_spoilt cs k ≡ is_spoilt cs p
      spoilt-as =
          let (low, same) = nth-at first.choices.coverage first.slots (k - 5) p e in
          let whole : 5 + (k - 5) ≡ k = omega arith in
          ap (line_spoilt cs) (sym whole) ∙ row-spoilt l (k - 5) low ∙ ap (is_spoilt cs) same

      line-as : get_or (proteus_lines cs) k [] ≡ row_of cs first p
      line-as =
          let (low, same) = nth-at first.choices.coverage first.slots (k - 5) p e in
          let whole : 5 + (k - 5) ≡ k = omega arith in
          ap (λ (n : ℕ). get_or (proteus_lines cs) n []) (sym whole) ∙ row_line l (k - 5) low ∙ ap (row_of cs first) same

      pub spoilt-step : true ≡ is_spoilt cs p → Step.Spoilt ≡ step_of cs k at
      spoilt-step spoilt = sym (there-step there ∙ rw (spoilt-as, ← spoilt))

      pub spoilt-put : true ≡ is_spoilt cs p → [] ≡ line_put cs k
      unfolding line_put
      spoilt-put spoilt = rw (spoilt-as, ← spoilt)

      pub row-step : false ≡ is_spoilt cs p → Step.Put at ≡ step_of cs k at
      row-step whole = sym (there-step there ∙ rw (spoilt-as, ← whole))

      pub row-put : false ≡ is_spoilt cs p → row_of cs first p ≡ line_put cs k
      unfolding line_put
      row-put whole = rw (spoilt-as, ← whole, line-as)

  -- ---- and what was put, or not

  pub step-put :
      (n : ℕ) → Step.Put n ≡ step_of cs k at → (k < length (proteus_lines cs)) × (line_spoilt cs k ≡ false) × (n ≡ at)
  unfolding step_of
  step-put n = go (ltb k (length (proteus_lines cs))) (line_spoilt cs k) refl refl
    where
      go :
          (t s : Bool)
          → ltb k (length (proteus_lines cs)) ≡ t
          → line_spoilt cs k ≡ s
          → Step.Put n ≡ cond t (cond s Step.Spoilt (Step.Put at)) Step.Past
          → (k < length (proteus_lines cs)) × (line_spoilt cs k ≡ false) × (n ≡ at)
      go true true h w e = let clash : ◌≡◌ {A = ℕ} 0 1 = cc in absurd (omega arith)
      go true false h w e = (ltb-true _ _ h, w, cc)
      go false s h w e = let clash : ◌≡◌ {A = ℕ} 0 1 = cc in absurd (omega arith)

  pub step-spoilt : Step.Spoilt ≡ step_of cs k at → (k < length (proteus_lines cs)) × (line_spoilt cs k ≡ true)
  unfolding step_of
  step-spoilt = go (ltb k (length (proteus_lines cs))) (line_spoilt cs k) refl refl
    where
      go :
          (t s : Bool)
          → ltb k (length (proteus_lines cs)) ≡ t
          → line_spoilt cs k ≡ s
          → Step.Spoilt ≡ cond t (cond s Step.Spoilt (Step.Put at)) Step.Past
          → (k < length (proteus_lines cs)) × (line_spoilt cs k ≡ true)
      go true true h w e = (ltb-true _ _ h, w)
      go true false h w e = let clash : ◌≡◌ {A = ℕ} 0 1 = cc in absurd (omega arith)
      go false s h w e = let clash : ◌≡◌ {A = ℕ} 0 1 = cc in absurd (omega arith)

  pub step_past : Step.Past ≡ step_of cs k at → length (proteus_lines cs) ≤ k
  unfolding step_of
  step_past = go (ltb k (length (proteus_lines cs))) (line_spoilt cs k) refl
    where
      go :
          (t s : Bool)
          → ltb k (length (proteus_lines cs)) ≡ t
          → Step.Past ≡ cond t (cond s Step.Spoilt (Step.Put at)) Step.Past
          → length (proteus_lines cs) ≤ k
      go true true h e = let clash : ◌≡◌ {A = ℕ} 0 1 = cc in absurd (omega arith)
      go true false h e = let clash : ◌≡◌ {A = ℕ} 0 1 = cc in absurd (omega arith)
      go false s h e = ltb-false _ _ h

  -- what is not put, of a text of which no line is spoilt, is past its last
  pub none-put : {r : Step} → r ≡ step_of cs k at → ((n : ℕ) → r ≡ Step.Put n → ⊥) → (k < length (proteus_lines cs) → line_spoilt cs k ≡ false) → length (proteus_lines cs) ≤ k
  none-put {r} e other whole = go (ltb k (length (proteus_lines cs))) refl
    where
      go : (t : Bool) → ltb k (length (proteus_lines cs)) ≡ t → length (proteus_lines cs) ≤ k
      go true h = let there = ltb-true _ _ h in absurd (other at (e ∙ there-step there ∙ rw (whole there)))
      go false h = ltb-false _ _ h

pub whole-put : (cs : List Component) (k : ℕ) → line_spoilt cs k ≡ false → line_put cs k ≡ get_or (proteus_lines cs) k []
unfolding line_put
whole-put cs k e = rw e
