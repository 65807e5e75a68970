-- Queries are refused exactly when document 01's table says. Assumes nothing.
use mathlib.Core.Path.{◌≡◌, refl, sym, ◌∙◌, ap, subst}
use mathlib.Core.Bool.{Bool, true, false, cond, not, ◌&&◌, ◌||◌, true≢false}
use mathlib.Core.List.{List, [], Memᴰ}
use Prim.Native.Nat.{ℕ, suc, ◌+◌}
use native.Mathlib.Omega.{arith}
use lib.Dec.{leb, ltb, eqb}
use lib.IntN.{ℤ}
use lib.Ieee.{Float}
use lib.ListN.{length}
use borrow.Author.Tests.{ltb-true, ltb-false, eqb-true, eq-eqb, ne_eqb}
use Rattle.whole.specs.Nearest.{nearest, rounds_up}
use Rattle.whole.specs.Sum.{sum_by}
use Rattle.whole.specs.Any.{any_of}
use Rattle.row.proofs.Used.{by-test}
use Rattle.row.proofs.Deciding.{both}
use Rattle.grid.specs.declared.nodes.Node.{Node}
use Rattle.phase.specs.Turn.{Quarter}
use Rattle.phase.specs.Seconds.{seconds}
use Rattle.reader.specs.declared.record.Record.{Record}
use Rattle.reader.specs.Valid.{valid_of, query_barred}
use Rattle.table.specs.View.{view_of}
use Rattle.load.specs.Corners.{corners, any_bad}
use Rattle.seaway.specs.Sea.{lines_from, lines_of, size_of, rises, is_inadmissible}
use Rattle.seaway.specs.declared.sea.Sea.{Sea}
use Rattle.load.specs.Force as force
use Rattle.load.specs.Force.{LocatedLine, LocatedSea, all, stopped, located_from, located_sea, bad_among, total_by, of_located_sea, load_by, whole_of, force_by}
use Rattle.readout.specs.Display.{is_usable, shown, reading_of, display_by}
use Rattle.load.specs.Coefficient as coefficient
use Rattle.load.specs.Coefficient.{coefficient_of}
use Rattle.load.specs.Answers.{Load}
use Rattle.load.specs.Answers.{Force}
use Rattle.readout.specs.Told.{Display}
use Rattle.load.specs.Answers.{Coefficient}
use Rattle.load.proofs.Ranges.{LinesLocated, lines-located, none-bad}
use Rattle.promises_queries.specs.Queries.{ShortCells, ValidAccepted, Asked, CoefficientRefused, Inadmissible, first_heading_of, SeaRefused}
use Rattle.promises_queries.specs.Queries.{DisplayRefused, as-force, sixteen}
use Rattle.promises_queries.specs.Queries.{CoefficientExactly, CoefficientGiven, CoefficientZero, LoadExactly, LoadGiven, ForceExactly, ForceGiven, ForceZero, EmptySea, DisplayExactly}
use Rattle.promises_queries.specs.Queries.{LoadExactlyBy, LoadGivenBy, ForceExactlyBy, ForceGivenBy, ForceZeroBy, EmptySeaBy, DisplayExactlyBy}
use Rattle.promises_queries.proofs.Points as points
use Rattle.promises_queries.proofs.Points.{Both}
use Rattle.promises_queries.proofs.Loads.{LoadOutcome, load-outcome}
use Rattle.promises_queries.proofs.Usable.{unusable, not-usable}
use Rattle.promises_queries.proofs.Seas.{inadmissible-is, admissible-is, at-in-place, place-of, Stop, stop_is, stops, each-in-place, all-in-place, line-in, line_of, bad-among, large-part-is, is-large-part}

-- ---- 1 and 2

data Bar (r : Record) (cells : List ℤ) : ℕ → Type 0 where
  asked : Asked r cells → Bar r cells 0
  short : ShortCells cells → Bar r cells 1
  shut : (ShortCells cells → ⊥) → (ValidAccepted r → ⊥) → Bar r cells 2

bar-one : {r : Record} {cells : List ℤ} {m n : ℕ} → Bar r cells m → Bar r cells n → m ≡ n
bar-one (asked a) (asked b) = refl
bar-one (asked a) (short h) = absurd (a.long h)
bar-one (asked a) (shut h k) = absurd (k a.accepted)
bar-one (short h) (asked a) = absurd (a.long h)
bar-one (short h) (short k) = refl
bar-one (short h) (shut k l) = absurd (k h)
bar-one (shut h k) (asked a) = absurd (k a.accepted)
bar-one (shut h k) (short l) = absurd (h l)
bar-one (shut h k) (shut l m) = refl

module _ (r : Record) (cells : List ℤ) where
  abbrev bar : ℕ
  bar = query_barred r (length cells)

  bar-is : Bar r cells bar
  unfolding query_barred
  bar-is =
      by-test (Bar r cells) (ltb (length cells) 12_800) _ _
      (λ e. short (ltb-true (length cells) 12_800 e))
      (λ e.
      let long : ShortCells cells → ⊥ = λ h. let k = ltb-false (length cells) 12_800 e in omega arith in
      by-test (Bar r cells) (valid_of r && eqb r.marks.stage 2) _ _
      (λ t.
      let (valid, accepted) = both (valid_of r) (eqb r.marks.stage 2) t in
      asked (record { long = long; accepted = record { valid = valid; accepted = eqb-true r.marks.stage 2 accepted } }))
      (λ t.
      shut long (λ a.
      let held : (valid_of r && eqb r.marks.stage 2) ≡ true = rw a.valid (eq-eqb r.marks.stage 2 a.accepted) in
      true≢false (sym held ∙ t))))

  asked_by : {n : ℕ} → Bar r cells n → n ≡ 0 → Asked r cells
  asked_by (asked a) e = a
  asked_by (short h) e = absurd (omega arith)
  asked_by (shut h k) e = absurd (omega arith)

  -- not barred is asked
  is-asked : bar ≡ 0 → Asked r cells
  is-asked e = asked_by bar-is e

  pub free : Asked r cells → bar ≡ 0
  free a = bar-one bar-is (asked a)

  -- and barred is refused 1 or 2
  barred-by :
      (P : ℕ → ℕ → Type 0) → (ShortCells cells → P 1 0) → ((ShortCells cells → ⊥) → (ValidAccepted r → ⊥) → P 2 0) → {n : ℕ} → Bar r cells n → (n ≡ 0 → ⊥) → P n 0
  barred-by P one two (asked x) some = absurd (some refl)
  barred-by P one two (short h) some = one h
  barred-by P one two (shut h k) some = two h k

-- a refusal with the same number at the same place
same_place : (P : ℕ → ℕ → Type 0) {m n i j : ℕ} → P m i → m ≡ n → i ≡ j → P n j
same_place P {m} {j = j} s number place = subst (λ (x : ℕ). P x j) number (subst (P m) place s)

-- ---- a coefficient

module _ (r : Record) (cells : List ℤ) (a b : Node) where
  abbrev RefusedBy : ℕ → ℕ → Type 0
  RefusedBy = CoefficientRefused r cells a b

  same-says : {m n i j : ℕ} → RefusedBy m i → Coefficient.Refused m i ≡ Coefficient.Refused n j → RefusedBy n j
  same-says s e = same_place RefusedBy s (cc) (cc)

  says-by : {x : Coefficient} → points.Answered r cells a b x → (number place : ℕ) → x ≡ Coefficient.Refused number place → RefusedBy number place
  says-by (points.barred h) number place e = same-says (barred-by r cells RefusedBy CoefficientRefused.one CoefficientRefused.two (bar-is r cells) h) e
  says-by (points.first-away free o) number place e = same-says (CoefficientRefused.first_off (is-asked r cells free) o) e
  says-by (points.second-away free x o) number place e = same-says (CoefficientRefused.second-off (is-asked r cells free) (at-in-place x) o) e
  says-by (points.large-part two bad) number place e =
      same-says
      (CoefficientRefused.fifteen (is-asked r cells two.free) (at-in-place two.first) (at-in-place two.second)
      (large-part-is r cells two.first two.second bad))
      e
  says-by (points.given two sound) number place e = let clash : ◌≡◌ {A = ℕ} 0 1 = cc in absurd (omega arith)

  at-bar : {n : ℕ} → Bar r cells n → (n ≡ 0 → ⊥) → coefficient_of r cells a b ≡ Coefficient.Refused n 0
  at-bar {n} x some =
      let e = bar-one (bar-is r cells) x in
      points.at-bar r cells a b (λ z. some (sym e ∙ z)) ∙ ap (λ (m : ℕ). Coefficient.Refused m 0) e

  coefficient-refused : {number place : ℕ} → RefusedBy number place → coefficient_of r cells a b ≡ Coefficient.Refused number place
  coefficient-refused (CoefficientRefused.one h) = at-bar (short h) (λ e. omega arith)
  coefficient-refused (CoefficientRefused.two h k) = at-bar (shut h k) (λ e. omega arith)
  coefficient-refused (CoefficientRefused.first_off x o) = points.at_first r cells a b (free r cells x) o
  coefficient-refused (CoefficientRefused.second-off x h o) =
      points.at_second r cells a b (free r cells x) (place-of r a.heading a h).1 o
  coefficient-refused (CoefficientRefused.fifteen x h k s) =
      let (p, w) = place-of r a.heading a h in
      let (q, u) = place-of r a.heading b k in
      let two : Both r cells a b p q = record { free = free r cells x; first = w; second = u } in
      points.at-large-part r cells a b two (is-large-part r cells w u s)

pub coefficient-exactly : CoefficientExactly
coefficient-exactly r cells a b number place = (says-by r cells a b (points.answered r cells a b) number place, coefficient-refused r cells a b)

pub coefficient-given : CoefficientGiven
coefficient-given r cells a b none = go (coefficient_of r cells a b) refl
  where
    go : (x : Coefficient) → coefficient_of r cells a b ≡ x → (re : ℤ) × (im : ℤ) × (coefficient_of r cells a b ≡ Coefficient.Value re im)
    go (Coefficient.Value re im) e = (re, im, e)
    go (Coefficient.Refused number place) e = absurd (none number place ((coefficient-exactly r cells a b number place).0 e))

pub coefficient-zero : CoefficientZero
unfolding coefficient.value_of
coefficient-zero r cells a b number place e = ap coefficient.value_of e

-- ---- a sea

module _ (r : Record) (cells : List ℤ) (sea : Sea) where
  abbrev SeaSays : ℕ → ℕ → Type 0
  SeaSays = SeaRefused r cells sea

  abbrev first : ℤ
  first = first_heading_of sea

  same-sea : {m n i j : ℕ} → SeaSays m i → Load.Refused m i ≡ Load.Refused n j → SeaSays n j
  same-sea s e = same_place SeaSays s (cc) (cc)

  -- how the lines came to their places
  lines-in-place : (s : LocatedSea) → located_sea r (lines_of sea) ≡ s → LinesLocated r first 1 (lines_of sea) s
  unfolding located_sea
  lines-in-place s e = subst (LinesLocated r first 1 (lines_of sea)) e (lines-located r first 1 (lines_of sea))

  off-says : Asked r cells → (Inadmissible sea → ⊥) → {number line : ℕ} → Stop r first (lines_of sea) number line 1 → SeaSays number line
  off-says x fit {number} {line} s =
      let e : suc (length s.before) ≡ line = let q = s.place in omega arith in
      subst (SeaSays number) e (SeaRefused.line-off s.before s.after s.l x fit s.split s.earlier s.off)

  bad-says : Asked r cells → (Inadmissible sea → ⊥) → (lines : List LocatedLine) → LinesLocated r first 1 (lines_of sea) (all lines) → bad_among (view_of r.slots cells) lines lines ≡ true → SeaSays 15 0
  bad-says x fit lines s bad =
      let (m, n, i, j, e) = bad-among (view_of r.slots cells) lines lines bad in
      let (in-m, at-m) = line_of r first s m i in
      let (in-n, at_n) = line_of r first s n j in
      SeaRefused.fifteen m.line n.line x fit (each-in-place r first s) in-m in-n
      (large-part-is r cells at-m at_n e)

  module _ (clock : Quarter) (t : ℕ) where
    sea-by : {load : Load} → LoadOutcome clock r cells sea t load → (number place : ℕ) → load ≡ Load.Refused number place → SeaSays number place
    sea-by (LoadOutcome.barred h) number place e = same-sea (barred-by r cells SeaSays SeaRefused.one SeaRefused.two (bar-is r cells) h) e
    sea-by (LoadOutcome.inadmissible h k) number place e = same-sea (SeaRefused.twelve (is-asked r cells h) (inadmissible-is sea k)) e
    sea-by (LoadOutcome.off h k l) number place e = same-sea (off-says (is-asked r cells h) (admissible-is sea k) (stop_is r first (lines-in-place _ l))) e
    sea-by (LoadOutcome.bad {lines} h k l m) number place e = same-sea (bad-says (is-asked r cells h) (admissible-is sea k) lines (lines-in-place _ l) m) e
    sea-by (LoadOutcome.given h k l m) number place e = let clash : ◌≡◌ {A = ℕ} 0 1 = cc in absurd (omega arith)

    -- the other way
    load-bar : {n : ℕ} → Bar r cells n → (n ≡ 0 → ⊥) → load_by clock r cells sea t ≡ Load.Refused n 0
    unfolding load_by
    load-bar {n} x some =
        let e = bar-one (bar-is r cells) x in
        rw (e, ne_eqb n 0 some)

    load-inadmissible : Asked r cells → is_inadmissible sea ≡ true → load_by clock r cells sea t ≡ Load.Refused 12 0
    unfolding load_by
    load-inadmissible x e = rw (eq-eqb (bar r cells) 0 (free r cells x), e)

    load-admissible : Asked r cells → (Inadmissible sea → ⊥) → (s : LocatedSea) → located_sea r (lines_of sea) ≡ s → load_by clock r cells sea t ≡ of_located_sea clock r.choices.kind (view_of r.slots cells) t s
    unfolding load_by
    load-admissible x fit s e = rw (eq-eqb (bar r cells) 0 (free r cells x), still (is_inadmissible sea) refl, e)
      where
        still : (u : Bool) → is_inadmissible sea ≡ u → is_inadmissible sea ≡ false
        still true k = absurd (fit (inadmissible-is sea k))
        still false k = k

    is-inadmissible : Inadmissible sea → is_inadmissible sea ≡ true
    is-inadmissible h = go (is_inadmissible sea) refl
      where
        go : (u : Bool) → is_inadmissible sea ≡ u → u ≡ true
        go true k = refl
        go false k = absurd (admissible-is sea k h)

    all-bad : (lines : List LocatedLine) (m n : LocatedLine) → Memᴰ m lines → Memᴰ n lines → any_bad (corners (view_of r.slots cells) m.point n.point) ≡ true
        → bad_among (view_of r.slots cells) lines lines ≡ true
    all-bad lines m n i j bad = go (bad_among (view_of r.slots cells) lines lines) refl
      where
        go : (u : Bool) → bad_among (view_of r.slots cells) lines lines ≡ u → u ≡ true
        go true k = refl
        go false k = absurd (true≢false (sym bad ∙ none-bad (view_of r.slots cells) lines lines k m n i j))

    sea-refused : {number place : ℕ} → SeaSays number place → load_by clock r cells sea t ≡ Load.Refused number place
    unfolding of_located_sea located_sea
    sea-refused (SeaRefused.one h) = load-bar (short h) (λ e. omega arith)
    sea-refused (SeaRefused.two h k) = load-bar (shut h k) (λ e. omega arith)
    sea-refused (SeaRefused.twelve x h) = load-inadmissible x (is-inadmissible h)
    sea-refused (SeaRefused.line-off {number} before after l x fit split earlier off) =
        let e : located_from r first 1 (lines_of sea) ≡ stopped number (1 + length before) =
        ap (located_from r first 1) split ∙ stops r first 1 before after l number earlier off in
        let one_more : 1 + length before ≡ suc (length before) = omega arith in
        load-admissible x fit (stopped number (1 + length before)) e ∙ ap (Load.Refused number) one_more
    sea-refused (SeaRefused.fifteen m n x fit placed in-m in-n large-part) =
        let (lines, e) = all-in-place r first 1 (lines_of sea) placed in
        let s = lines-in-place (all lines) e in
        let p = line-in r first s m in-m in
        let q = line-in r first s n in-n in
        load-admissible x fit (all lines) e ∙ rw (all-bad lines _ _ p.member q.member (is-large-part r cells p.is_at q.is_at large-part))

pub load-exactly-by : (clock : Quarter) → LoadExactlyBy clock
load-exactly-by clock r cells sea t number place = (sea-by r cells sea clock t (load-outcome clock r cells sea t) number place, sea-refused r cells sea clock t)

pub load-given-by : (clock : Quarter) → LoadGivenBy clock
load-given-by clock r cells sea t none = go (load_by clock r cells sea t) refl
  where
    go : (x : Load) → load_by clock r cells sea t ≡ x → (mean : ℤ) × (whole : ℤ) × (load_by clock r cells sea t ≡ Load.Both mean whole)
    go (Load.Both mean whole) e = (mean, whole, e)
    go (Load.Refused number place) e = absurd (none number place ((load-exactly-by clock r cells sea t number place).0 e))

-- a force is refused as its load is
force-load : (load : Load) (number place : ℕ) → whole_of load ≡ Force.Refused number place → load ≡ Load.Refused number place
unfolding whole_of
force-load (Load.Both mean whole) number place e = let clash : ◌≡◌ {A = ℕ} 0 1 = cc in absurd (omega arith)
force-load (Load.Refused m i) number place e =
    let same : m ≡ number = cc in
    let at : i ≡ place = cc in
    λ k. Load.Refused (same k) (at k)

pub force-exactly-by : (clock : Quarter) → ForceExactlyBy clock
unfolding force_by whole_of
force-exactly-by clock r cells sea t number place =
    ((λ e. (load-exactly-by clock r cells sea t number place).0 (force-load (load_by clock r cells sea t) number place e)), (λ s. ap whole_of (sea-refused r cells sea clock t s)))

pub force-given-by : (clock : Quarter) → ForceGivenBy clock
force-given-by clock r cells sea t none = go (force_by clock r cells sea t) refl
  where
    go : (x : Force) → force_by clock r cells sea t ≡ x → (force : ℤ) × (force_by clock r cells sea t ≡ Force.Value force)
    go (Force.Value force) e = (force, e)
    go (Force.Refused number place) e = absurd (none number place ((force-exactly-by clock r cells sea t number place).0 e))

pub force-zero-by : (clock : Quarter) → ForceZeroBy clock
unfolding force.value_of
force-zero-by clock r cells sea t number place e = ap force.value_of e

-- ---- an empty sea

module _ (sea : Sea) (none : sea.count ≡ 0) where
  no_lines : lines_of sea ≡ []
  unfolding lines_of lines_from
  no_lines = ap (lines_from sea 0) none

  still : is_inadmissible sea ≡ false
  unfolding is_inadmissible rises size_of sum_by
  still = λ i. ltb 64 (none i) || (not (rises (no_lines i)) || ltb 40_000 (size_of (no_lines i)))

pub empty-sea-by : (clock : Quarter) → EmptySeaBy clock
unfolding force_by whole_of of_located_sea located_sea located_from bad_among any_of total_by sum_by nearest rounds_up
empty-sea-by clock r cells sea t x none =
    let e : located_sea r (lines_of sea) ≡ all [] = ap (located_sea r) (no_lines sea none) in
    ap whole_of (load-admissible r cells sea clock t x (admissible-is sea (still sea none)) (all []) e)

-- ---- the display

module _ (clock : Quarter) (r : Record) (cells : List ℤ) (sea : Sea) (t : ℕ) (scale : Float) where
  abbrev load : Load
  load = load_by clock r cells sea t

  -- a load that is given is refused by nothing
  given-free : {mean whole : ℤ} → load ≡ Load.Both mean whole → (number place : ℕ) → SeaRefused r cells sea number place → ⊥
  given-free g number place s =
      let h = sea-refused r cells sea clock t s in
      let clash : ◌≡◌ {A = ℕ} 0 1 = cc in
      omega arith

  refused-display : (x : Load) → load ≡ x → (number place : ℕ) → shown r scale x ≡ Display.Refused number place → DisplayRefused r cells sea scale number place
  unfolding shown
  refused-display (Load.Refused m i) l number place e =
      let same : m ≡ number = cc in
      let at : i ≡ place = cc in
      as-force ((load-exactly-by clock r cells sea t number place).0 (l ∙ (λ k. Load.Refused (same k) (at k))))
  refused-display (Load.Both mean whole) l number place e = go (is_usable scale) (leb r.choices.component 3) refl e
    where
      go : (u f : Bool) → is_usable scale ≡ u
          → cond u (cond f (Display.Force (reading_of r.choices.kind scale mean whole)) (Display.Moment (reading_of r.choices.kind scale mean whole))) (Display.Refused 16 0)
          ≡ Display.Refused number place
          → DisplayRefused r cells sea scale number place
      go true true k e = let clash : ◌≡◌ {A = ℕ} 0 1 = cc in absurd (omega arith)
      go true false k e = let clash : ◌≡◌ {A = ℕ} 0 1 = cc in absurd (omega arith)
      go false f k e =
          let same : 16 ≡ number = cc in
          let at : 0 ≡ place = cc in
          subst (λ (x : ℕ). DisplayRefused r cells sea scale x place) same
          (subst (λ (y : ℕ). DisplayRefused r cells sea scale 16 y) at (sixteen (given-free l) (unusable scale k)))

  display-refused : {number place : ℕ} → DisplayRefused r cells sea scale number place → display_by clock r cells sea t scale ≡ Display.Refused number place
  unfolding display_by shown
  display-refused (as-force s) = ap (shown r scale) (sea-refused r cells sea clock t s)
  display-refused (sixteen none u) = go load refl
    where
      go : (x : Load) → load ≡ x → shown r scale load ≡ Display.Refused 16 0
      go (Load.Refused m i) l = absurd (none m i ((load-exactly-by clock r cells sea t m i).0 l))
      go (Load.Both mean whole) l = ap (shown r scale) l ∙ rw (not-usable scale u)

pub display-exactly-by : (clock : Quarter) → DisplayExactlyBy clock
unfolding display_by
display-exactly-by clock r cells sea t scale number place =
    (refused-display clock r cells sea t scale (load_by clock r cells sea t) refl number place, display-refused clock r cells sea t scale)

-- ---- at whole seconds

pub load-exactly : LoadExactly
load-exactly = load-exactly-by seconds

pub load_given : LoadGiven
load_given = load-given-by seconds

pub force-exactly : ForceExactly
force-exactly = force-exactly-by seconds

pub force-given : ForceGiven
force-given = force-given-by seconds

pub force-zero : ForceZero
force-zero = force-zero-by seconds

pub empty-sea : EmptySea
empty-sea = empty-sea-by seconds

pub display-exactly : DisplayExactly
display-exactly = display-exactly-by seconds
