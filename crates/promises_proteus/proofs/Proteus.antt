-- Six tables that are written as one text are refused exactly when document 02 says, and then nothing is written. Assumes nothing.
use mathlib.Core.Path.{◌≡◌, refl, sym, ap, ap₂, ◌∙◌, subst}
use mathlib.Core.Bool.{Bool, true, false, cond, true≢false}
use mathlib.Core.List.{List, [], ◌∷◌, map, Memᴰ}
use mathlib.Core.Logic.{◌↔◌, ⊎_elim}
use Prim.Native.Nat.{ℕ, zero, suc, ◌+◌, ◌-◌, ◌≤◌, ◌<◌}
use native.Mathlib.Omega.{arith}
use lib.Dec.{T, ltb, leb, eqb, lit<}
use lib.ListN.{length, drop, get_or, replicate, length-append, length-drop}
use lib.Seq.{take-append_seam, drop-append_seam}
use lib.Signed.{le_z}
use borrow.Author.Tests.{eqb-true, eqb-false, eq-eqb, ne_eqb, ltb-true, ltb-false, lt-ltb, le-ltb, not-false}
use Rattle.whole.specs.Any.{any_of}
use Rattle.whole.proofs.Any.{some_of, of_some}
use Rattle.row.specs.declared.reading.Entry.{Entry}
use Rattle.row.proofs.Deciding.{by-test, both}
use Rattle.grid.specs.declared.nodes.Pair.{Pair}
use Rattle.std.proofs.Common.{Option}
use Rattle.grid.specs.Slots.{held_ticks, held_headings}
use Rattle.table.specs.Pairs.{nowhere, nth_of}
use Rattle.table.specs.Entries.{entry_at, is_out}
use Rattle.table.proofs.Ascending.{ascending-only, ascending-has}
use Rattle.reader.specs.declared.record.Record.{Record}
use Rattle.reader.specs.declared.reader.Place.TheVariants as Place
use Rattle.reader.specs.Valid.{valid_of}
use Rattle.text.specs.Line.{line_of}
use Rattle.hull.specs.Six.{Component, is_short, is_unaccepted, frequencies, headings, belongs, all_belong, are_six, six_barred, values_at, is_spoilt}
use Rattle.proteus.specs.Lines.{proteus_lines}
use Rattle.proteus.specs.Answer.{nth_spoilt, line_spoilt, line_number, lined_of, line_at, any_spoilt, text_number, proteus_text, write_number, written}
use Rattle.proteus.proofs.Accepted.{Belongs, belongs-exactly}
use Rattle.promises_queries.specs.Queries.{ValidAccepted}
use Rattle.promises_numbers.specs.Numbers.{place_at, RefusedExactly}
use Rattle.promises_calls.specs.Given.{Given}
use Rattle.promises_listings.specs.Listings.{NeededPair}
use Rattle.promises_accepted.specs.ChainQueries.{AcceptedTable}
use Rattle.promises_proteus.specs.Proteus.{SixTables, OneShort, OneUnaccepted, SameGrid, OneHull, SixAsked, SixRefused, says_of, LargeAt, TextRefused, TextFree, WriteRefused, Placeless, Writes, WriteExactly, MatrixPairs, PairsOnce, LineRefused, of_lined, LineExactly, AcceptedWritten}
use Rattle.promises_rows.proofs.Ordering.{Ascending, Order, ascending-same, behind-ascends, members-ascend, tick-order, ticks-ascend, heading-order, headings-ascend}
use Rattle.promises_tables.proofs.Pairs.{pair-order}
use Rattle.promises_listings.proofs.Listings.{get_or-member}
use Rattle.promises_calls.proofs.SlotsOnce.{Distinct, slots-distinct, valid-slots}
use Rattle.promises_listings.proofs.ListsNeeded.{needed, needed-only, needed-all, needed-order}
use Rattle.promises_queries.proofs.Corners.{Large, out-is, is-out}
use Rattle.promises_numbers.proofs.Numbers.{no_line}
use Rattle.promises_accepted.proofs.Bounded.{node-below, entry-small}
use Rattle.promises_accepted.proofs.ChainQueries.{bounded, asked}

-- ---- a number, and behind it a test with a number of its own

module _ (n : ℕ) (t : Bool) (k : ℕ) where
  abbrev after : ℕ
  after = cond (eqb n 0) (cond t k 0) n

  after-came : (P : ℕ → Type 0) → (0 < n → P n) → (n ≡ 0 → t ≡ true → P k) → 0 < after → P after
  after-came P first then =
      by-test (λ m. 0 < m → P m) (eqb n 0) _ _
      (λ e. by-test (λ m. 0 < m → P m) t _ _ (λ h _. then (eqb-true n 0 e) h) (λ _ low. absurd (omega arith)))
      (λ _. first)

  after_first : 0 < n → after ≡ n
  after_first low = rw (ne_eqb n 0 (λ z. omega arith))

  after_then : n ≡ 0 → t ≡ true → after ≡ k
  after_then z h = rw (eq-eqb n 0 z, h)

  after_none : 0 < k → after ≡ 0 → (n ≡ 0) × (t ≡ false)
  after_none some =
      by-test (λ m. m ≡ 0 → (n ≡ 0) × (t ≡ false)) (eqb n 0) _ _
      (λ e. by-test (λ m. m ≡ 0 → (n ≡ 0) × (t ≡ false)) t _ _ (λ _ z. absurd (omega arith)) (λ h _. (eqb-true n 0 e, h)))
      (λ e z. absurd (eqb-false n 0 e z))

-- ---- one law for every answer with a number and no place

module _ {A : Type 0} (nothing : A) (Refused : ℕ → Type 0) (g : Given A) where
  placeless-exactly :
      g.place ≡ Place.Nowhere
      → ((number : ℕ) → Refused number → 0 < number)
      → (0 < g.number → Refused g.number)
      → ((number : ℕ) → Refused number → g.number ≡ number)
      → (0 < g.number → g.value ≡ nothing)
      → RefusedExactly A nothing (Placeless Refused) g
  unfolding place_at
  placeless-exactly nowhere-is above came gives no_value =
      record {
        with = λ number line. (
          λ h.
              let low = h.0 in
              let same = h.1 in
              (subst Refused same (came (omega (arith, low, same))), no_line line (sym h.2 ∙ nowhere-is)),
          λ x. (above number x.0, gives number x.0, nowhere-is ∙ ap place_at (sym x.1)),
        );
        no_value = no_value;
        otherwise = (
          λ z number line x.
              let low = above number x.0 in
              let same = gives number x.0 in
              omega (arith, z, low, same),
          λ none. go g.number refl none,
        );
        no_place = λ _. nowhere-is;
      }
    where
      go : (n : ℕ) → g.number ≡ n → ((number line : ℕ) → Placeless Refused number line → ⊥) → g.number ≡ 0
      go zero e none = e
      go (suc n) e none = absurd (none g.number 0 (came (omega (arith, e)), refl))

-- ---- 1 and 2

short-is : (six : List Component) → (any_of is_short six ≡ true) ↔ OneShort six
unfolding is_short
short-is six = (
  λ e. let (c, m, h) = some_of is_short six e in (c, m, ltb-true _ _ h),
  λ x. of_some is_short six x.0 x.1 (lt-ltb _ _ x.2),
)

accepted-is : (c : Component) → (is_unaccepted c ≡ false) ↔ ValidAccepted c.table
unfolding is_unaccepted
accepted-is c = (
  λ e.
      let (valid, stage) = both (valid_of c.table) (eqb c.table.marks.stage 2) (not-false _ e) in
      record { valid = valid; accepted = eqb-true _ _ stage },
  λ a. rw (a.valid, eq-eqb _ _ a.accepted),
)

unaccepted-is : (six : List Component) → (any_of is_unaccepted six ≡ true) ↔ OneUnaccepted six
unaccepted-is six = (
  λ e. let (c, m, h) = some_of is_unaccepted six e in (c, m, λ a. true≢false (sym h ∙ (accepted-is c).1 a)),
  λ x. of_some is_unaccepted six x.0 x.1 (go x.0 x.2 (is_unaccepted x.0) refl),
)
  where
    go : (c : Component) → (ValidAccepted c.table → ⊥) → (t : Bool) → is_unaccepted c ≡ t → is_unaccepted c ≡ true
    go c shut true e = e
    go c shut false e = absurd (shut ((accepted-is c).0 e))

-- a test that fails exactly where what it asks for is not so
fails : {P : Type 0} (t : Bool) → (t ≡ true) ↔ P → (P → ⊥) → t ≡ false
fails true x f = absurd (f (x.0 refl))
fails false x f = refl

not_so : {P : Type 0} (t : Bool) → (t ≡ true) ↔ P → t ≡ false → P → ⊥
not_so t x e p = true≢false (sym (x.1 p) ∙ e)

pub accepted-each : (six : List Component) → (OneUnaccepted six → ⊥) → (c : Component) → Memᴰ c six → ValidAccepted c.table
accepted-each six all c m = go (is_unaccepted c) refl
  where
    go : (t : Bool) → is_unaccepted c ≡ t → ValidAccepted c.table
    go true e = absurd (all (c, m, λ a. true≢false (sym e ∙ (accepted-is c).1 a)))
    go false e = (accepted-is c).0 e

-- ---- 18

-- the same ascending lists are the same frequencies and headings held, and the other way about where no value is held twice
grid-of : (r q : Record) → r.choices.coverage ≡ q.choices.coverage → frequencies r ≡ frequencies q → headings r ≡ headings q → SameGrid r q
unfolding frequencies headings
grid-of r q coverage ticks hs =
    record {
      coverage = coverage;
      frequencies = λ f. (
        λ m. ascending-only leb _ f (subst (Memᴰ f) ticks (ascending-has leb _ f m)),
        λ m. ascending-only leb _ f (subst (Memᴰ f) (sym ticks) (ascending-has leb _ f m)),
      );
      headings = λ h. (
        λ m. ascending-only le_z _ h (subst (Memᴰ h) hs (ascending-has le_z _ h m)),
        λ m. ascending-only le_z _ h (subst (Memᴰ h) (sym hs) (ascending-has le_z _ h m)),
      );
    }

lists_of :
    (r q : Record) → Distinct r.slots → Distinct q.slots → SameGrid r q → (frequencies r ≡ frequencies q) × (headings r ≡ headings q)
unfolding frequencies headings
lists_of r q S T g = (
  members-ascend leb (held_ticks r.slots.ticks) (held_ticks q.slots.ticks) tick-order (ticks-ascend S.ticks) (ticks-ascend T.ticks) (λ f. (g.frequencies f).0) (λ f. (g.frequencies f).1),
  members-ascend le_z (held_headings r.slots) (held_headings q.slots) heading-order (headings-ascend S.headings) (headings-ascend T.headings) (λ h. (g.headings h).0) (λ h. (g.headings h).1),
)

abbrev pub component_of : Component → ℕ
component_of c = c.table.choices.component

-- so many numbers, from k on
abbrev pub up_from : ℕ → ℕ → List ℕ
up_from k zero = []
up_from k (suc n) = k ∷ up_from (k + 1) n

-- what is asked of a table at any place
record Fitting (first r : Record) : Type 0 where
  difference : r.choices.kind ≡ 0
  coverage : r.choices.coverage ≡ first.choices.coverage
  ticks : frequencies r ≡ frequencies first
  directions : headings r ≡ headings first

module _ (first : Record) where
  each-belongs :
      (k : ℕ) (cs : List Component)
      → all_belong first k cs ≡ true
      → (map component_of cs ≡ up_from k (length cs)) × ((d : Component) → Memᴰ d cs → Fitting first d.table)
  unfolding all_belong
  each-belongs k [] e = (refl, λ d m. absurd (mathlib.Core.List.Memᴰ.not-nil m))
  each-belongs k (c ∷ cs) e =
      let (here, rest) = both (belongs first k c.table) (all_belong first (k + 1) cs) e in
      let b = (belongs-exactly first k c.table).0 here in
      let fits : Fitting first c.table = record { difference = b.difference; coverage = b.coverage; ticks = b.same-frequencies; directions = b.same-headings } in
      let (numbers, others) = each-belongs (k + 1) cs rest in
      (ap₂ (λ (n : ℕ) (l : List ℕ). n ∷ l) b.component numbers, λ d m. ⊎_elim (λ q. subst (λ (x : Component). Fitting first x.table) (sym q) fits) (others d) (mathlib.Core.List.Memᴰ.cases_cons m))

  belongs-each :
      (k : ℕ) (cs : List Component)
      → map component_of cs ≡ up_from k (length cs)
      → ((d : Component) → Memᴰ d cs → Fitting first d.table)
      → all_belong first k cs ≡ true
  unfolding all_belong
  belongs-each k [] e fits = refl
  belongs-each k (c ∷ cs) e fits =
      let f = fits c (mathlib.Core.List.Memᴰ.head refl) in
      let number : component_of c ≡ k = cc in
      let numbers : map component_of cs ≡ up_from (k + 1) (length cs) = cc in
      let b : Belongs first k c.table = record { difference = f.difference; component = number; coverage = f.coverage; same-frequencies = f.ticks; same-headings = f.directions } in
      rw ((belongs-exactly first k c.table).1 b) (belongs-each (k + 1) cs numbers (λ d m. fits d (mathlib.Core.List.Memᴰ.tail m)))

module _ (six : List Component) (tables : SixTables six) (all : OneUnaccepted six → ⊥) where
  pub distinct-each : (c : Component) → Memᴰ c six → Distinct c.table.slots
  distinct-each c m = slots-distinct c.table (tables.shaped c m) (valid-slots c.table (accepted-each six all c m).valid)

hull-is : (six : List Component) → SixTables six → (OneUnaccepted six → ⊥) → (are_six six ≡ true) ↔ OneHull six
unfolding are_six
hull-is [] tables all = let count = tables.count in absurd (omega (arith, count))
hull-is (c ∷ cs) tables all = (forth, back)
  where
    six : List Component
    six = c ∷ cs

    forth : all_belong c.table 1 (c ∷ cs) ≡ true → OneHull (c ∷ cs)
    forth e =
        let (numbers, fits) = each-belongs c.table 1 (c ∷ cs) e in
        record {
          difference = λ d m. (fits d m).difference;
          components = numbers ∙ ap (up_from 1) tables.count;
          same = λ a b m n.
              grid-of a.table b.table
              ((fits a m).coverage ∙ sym (fits b n).coverage)
              ((fits a m).ticks ∙ sym (fits b n).ticks)
              ((fits a m).directions ∙ sym (fits b n).directions);
        }

    back : OneHull (c ∷ cs) → all_belong c.table 1 (c ∷ cs) ≡ true
    back h =
        belongs-each c.table 1 (c ∷ cs) (h.components ∙ ap (up_from 1) (sym tables.count))
        (λ d m.
        let first : Memᴰ c (c ∷ cs) = mathlib.Core.List.Memᴰ.head refl in
        let same = h.same d c m first in
        let lists = lists_of d.table c.table (distinct-each (c ∷ cs) tables all d m) (distinct-each (c ∷ cs) tables all c first) same in
        record { difference = h.difference d m; coverage = same.coverage; ticks = lists.0; directions = lists.1 })

-- ---- 1, 2 and 18

module _ (six : List Component) (tables : SixTables six) where
  six-above : {number : ℕ} → SixRefused six number → 0 < number
  six-above (SixRefused.one h) = lit< tt
  six-above (SixRefused.two h u) = lit< tt
  six-above (SixRefused.eighteen h u l) = lit< tt

  six-gives : {number : ℕ} → SixRefused six number → six_barred six ≡ number
  unfolding six_barred
  six-gives (SixRefused.one h) = rw ((short-is six).1 h)
  six-gives (SixRefused.two h u) = rw (fails (any_of is_short six) (short-is six) h, (unaccepted-is six).1 u)
  six-gives (SixRefused.eighteen h u l) =
      rw (fails (any_of is_short six) (short-is six) h, fails (any_of is_unaccepted six) (unaccepted-is six) u, fails (are_six six) (hull-is six tables u) l)

  -- what is so of each number that bars them, and of 0 where none does, is so of what the model gives
  six-by : (P : ℕ → Type 0) → ((number : ℕ) → SixRefused six number → P number) → (SixAsked six → P 0) → P (six_barred six)
  unfolding six_barred
  six-by P refused asked =
      by-test P (any_of is_short six) _ _
      (λ e. refused 1 (SixRefused.one ((short-is six).0 e)))
      (λ e.
      let long = not_so (any_of is_short six) (short-is six) e in
      by-test P (any_of is_unaccepted six) _ _
      (λ f. refused 2 (SixRefused.two long ((unaccepted-is six).0 f)))
      (λ f.
      let all = not_so (any_of is_unaccepted six) (unaccepted-is six) f in
      by-test P (are_six six) _ _
      (λ g. asked (record { long = long; accepted = all; hull = (hull-is six tables all).0 g }))
      (λ g. refused 18 (SixRefused.eighteen long all (not_so (are_six six) (hull-is six tables all) g)))))

  six-came : 0 < six_barred six → SixRefused six (six_barred six)
  six-came = six-by (λ n. 0 < n → SixRefused six n) (λ n x _. x) (λ _ low. absurd (omega arith))

  pub six-free : six_barred six ≡ 0 → SixAsked six
  six-free = six-by (λ n. n ≡ 0 → SixAsked six) (λ n x z. let low = six-above x in absurd (omega (arith, low, z))) (λ a _. a)

  pub free-six : SixAsked six → six_barred six ≡ 0
  unfolding six_barred
  free-six a =
      rw (fails (any_of is_short six) (short-is six) a.long, fails (any_of is_unaccepted six) (unaccepted-is six) a.accepted, (hull-is six tables a.accepted).1 a.hull)

-- ---- 15

spoilt-is : (six : List Component) (p : Pair) → (is_spoilt six p ≡ true) ↔ ((c : Component) × Memᴰ c six × Large (says_of c p))
unfolding is_spoilt values_at
spoilt-is six p = (
  λ e.
      let (z, m, h) = some_of is_out (map (λ c. says_of c p) six) e in
      let (c, n, is) = mathlib.Core.List.Memᴰ.of_map (λ c. says_of c p) six m in
      (c, n, subst Large (sym is) (out-is z h)),
  λ x. of_some is_out (map (λ c. says_of c p) six) (says_of x.0 p) (mathlib.Core.List.Memᴰ.map (λ c. says_of c p) x.1) (is-out _ x.2),
)

needed-same : (r q : Record) (p : Pair) → SameGrid r q → NeededPair r p → NeededPair q p
needed-same r q p g n =
    record {
      tick₁ = (g.frequencies p.first.tick).0 n.tick₁;
      heading₁ = (g.headings p.first.heading).0 n.heading₁;
      tick₂ = (g.frequencies p.second.tick).0 n.tick₂;
      heading₂ = (g.headings p.second.heading).0 n.heading₂;
      single = λ z. n.single (g.coverage ∙ z);
    }

-- the pairs of the matrix
unfoldable pub pairs_in : List Component → List Pair
pairs_in [] = []
pairs_in (c ∷ cs) = needed c.table

module _ (six : List Component) (h : OneHull six) where
  -- all six need the same pairs
  needed-each : (c : Component) → Memᴰ c six → (p : Pair) → Memᴰ p (pairs_in six) ↔ NeededPair c.table p
  unfolding pairs_in
  needed-each c m p = go six h m
    where
      go : (cs : List Component) → OneHull cs → Memᴰ c cs → Memᴰ p (pairs_in cs) ↔ NeededPair c.table p
      go [] k n = absurd (mathlib.Core.List.Memᴰ.not-nil n)
      go (d ∷ ds) k n = (
        λ x. needed-same d.table c.table p (k.same d c (mathlib.Core.List.Memᴰ.head refl) n) (needed-only d.table p x),
        λ x. needed-all d.table p (needed-same c.table d.table p (k.same c d n (mathlib.Core.List.Memᴰ.head refl)) x),
      )

  large_is : (p : Pair) → Memᴰ p (pairs_in six) → (is_spoilt six p ≡ true) ↔ LargeAt six p
  large_is p k = (
    λ e. let (c, m, l) = (spoilt-is six p).0 e in record { of = c; among = m; needed = (needed-each c m p).0 k; large = l },
    λ x. (spoilt-is six p).1 (x.of, x.among, x.large),
  )

  any-large : (any_spoilt six ≡ true) ↔ ((p : Pair) × LargeAt six p)
  unfolding any_spoilt pairs_in any_of
  any-large = (
    λ e.
        let (p, k, s) = some_of (is_spoilt six) (pairs_in six) (sym (any-is six) ∙ e) in
        (p, (large_is p k).0 s),
    λ x.
        let k = (needed-each x.1.of x.1.among x.0).1 x.1.needed in
        any-is six ∙ of_some (is_spoilt six) (pairs_in six) x.0 k ((large_is x.0 k).1 x.1),
  )
    where
      any-is : (cs : List Component) → any_spoilt cs ≡ any_of (is_spoilt cs) (pairs_in cs)
      any-is [] = refl
      any-is (c ∷ cs) = refl

  line-large : (k : ℕ) → (line_spoilt six k ≡ true) ↔ ((i : ℕ) × (i < length (pairs_in six)) × (k ≡ 5 + i) × LargeAt six (get_or (pairs_in six) i nowhere))
  unfolding line_spoilt nth_spoilt nth_of pairs_in
  line-large k = go six (λ p m. large_is p m)
    where
      go :
          (cs : List Component) → ((p : Pair) → Memᴰ p (pairs_in cs) → (is_spoilt cs p ≡ true) ↔ LargeAt cs p)
          → (line_spoilt cs k ≡ true) ↔ ((i : ℕ) × (i < length (pairs_in cs)) × (k ≡ 5 + i) × LargeAt cs (get_or (pairs_in cs) i nowhere))
      go [] large = (λ e. absurd (true≢false (sym e)), λ x. let below = x.1 in absurd (omega (arith, below)))
      go (c ∷ cs) large = (
        by-test (λ (b : Bool). b ≡ true → Spoilt) (ltb k 5) _ _
            (λ _ e. absurd (true≢false (sym e)))
            (λ h.
            by-test (λ (n : Option Pair). nth_spoilt (c ∷ cs) n ≡ true → Spoilt) (ltb (k - 5) (length ps)) _ _
            (λ l e.
            let low = ltb-false k 5 h in
            let below = ltb-true (k - 5) (length ps) l in
            (k - 5, below, omega (arith, low), (large _ (get_or-member ps (k - 5) nowhere below)).0 e))
            (λ _ e. absurd (true≢false (sym e)))),
        λ x.
            let (i, below, at, l) = x in
            let e : k - 5 ≡ i = omega (arith, at) in
            let low : 5 ≤ k = omega (arith, at) in
            rw (le-ltb k 5 low, e, lt-ltb i (length ps) below) ((large _ (get_or-member ps i nowhere below)).1 l),
      )
        where
          ps : List Pair
          ps = needed c.table

          Spoilt : Type 0
          Spoilt = (i : ℕ) × (i < length ps) × (k ≡ 5 + i) × LargeAt (c ∷ cs) (get_or ps i nowhere)

-- ---- the whole text

module _ (six : List Component) (tables : SixTables six) where
  text-above : {number : ℕ} → TextRefused six number → 0 < number
  text-above (TextRefused.as-six x) = six-above six tables x
  text-above (TextRefused.fifteen a x) = lit< tt

  text-gives : {number : ℕ} → TextRefused six number → text_number six ≡ number
  unfolding text_number
  text-gives (TextRefused.as-six x) =
      let low = six-above six tables x in
      let same = six-gives six tables x in
      after_first (six_barred six) (any_spoilt six) 15 (omega (arith, low, same)) ∙ same
  text-gives (TextRefused.fifteen {p = p} a x) = after_then (six_barred six) (any_spoilt six) 15 (free-six six tables a) ((any-large six a.hull).1 (p, x))

  text-came : 0 < text_number six → TextRefused six (text_number six)
  unfolding text_number
  text-came =
      after-came (six_barred six) (any_spoilt six) 15 (TextRefused six)
      (λ low. TextRefused.as-six (six-came six tables low))
      (λ z e. let a = six-free six tables z in let (p, x) = (any-large six a.hull).0 e in TextRefused.fifteen {p = p} a x)

  pub text-free : text_number six ≡ 0 → TextFree six
  text-free z number x =
      let low = text-above x in
      let same = text-gives x in
      omega (arith, low, same, z)

  pub free-text : TextFree six → text_number six ≡ 0
  free-text none = go (text_number six) refl
    where
      go : (n : ℕ) → text_number six ≡ n → text_number six ≡ 0
      go zero e = e
      go (suc n) e = absurd (none (text_number six) (text-came (omega (arith, e))))

  -- ---- 19

  module _ (room : ℕ) where
    write-above : {number : ℕ} → WriteRefused six room number → 0 < number
    write-above (WriteRefused.as-text x) = text-above x
    write-above (WriteRefused.nineteen f l) = lit< tt

    write-gives : {number : ℕ} → WriteRefused six room number → write_number six room ≡ number
    unfolding write_number
    write-gives (WriteRefused.as-text x) =
        let low = text-above x in
        let same = text-gives x in
        after_first (text_number six) (ltb room (length (proteus_text six))) 19 (omega (arith, low, same)) ∙ same
    write-gives (WriteRefused.nineteen f l) = after_then (text_number six) (ltb room (length (proteus_text six))) 19 (free-text f) (lt-ltb _ _ l)

    write-came : 0 < write_number six room → WriteRefused six room (write_number six room)
    unfolding write_number
    write-came =
        after-came (text_number six) (ltb room (length (proteus_text six))) 19 (WriteRefused six room)
        (λ low. WriteRefused.as-text (text-came low))
        (λ z e. WriteRefused.nineteen (text-free z) (ltb-true _ _ e))

    -- there is room where nothing refuses
    write-room : write_number six room ≡ 0 → length (proteus_text six) ≤ room
    unfolding write_number
    write-room z = ltb-false _ _ (after_none (text_number six) (ltb room (length (proteus_text six))) 19 (lit< tt) z).1

    write-number : (m v : ℕ) → m ≡ write_number six room → (0 < m → v ≡ 0) → RefusedExactly ℕ 0 (Placeless (WriteRefused six room)) (record { number = m; place = Place.Nowhere; value = v })
    write-number m v e no_value =
        placeless-exactly 0 (WriteRefused six room) (record { number = m; place = Place.Nowhere; value = v }) refl
        (λ number x. write-above x)
        (λ low. subst (WriteRefused six room) (sym e) (write-came (subst (λ (n : ℕ). 0 < n) e low)))
        (λ number x. e ∙ write-gives x)
        no_value

pub write-exactly : WriteExactly
unfolding written
write-exactly six out tables =
    by-test (Writes six out) (eqb (write_number six (length out)) 0) _ _
    (λ e.
    let zero_is = eqb-true (write_number six (length out)) 0 e in
    let text = proteus_text six in
    let room = write-room six tables (length out) zero_is in
    record {
      number = write-number six tables (length out) 0 (length text) (sym zero_is) (λ low. absurd (omega arith));
      unchanged = λ low. absurd (omega arith);
      text = λ _. record { bytes = refl; front = take-append_seam text (drop (length text) out); behind = drop-append_seam text (drop (length text) out) };
      long = length-append text (drop (length text) out) ∙ (let l = length-drop (length text) out in omega (arith, l, room));
    })
    (λ e.
    let some = eqb-false (write_number six (length out)) 0 e in
    record {
      number = write-number six tables (length out) (write_number six (length out)) 0 refl (λ _. refl);
      unchanged = λ _. refl;
      text = λ z. absurd (some z);
      long = refl;
    })

-- ---- a line

pub line-number-is : (six : List Component) (k : ℕ) → (line_at six k).number ≡ line_number six k
unfolding line_at lined_of
line-number-is six k = refl

module _ (six : List Component) (tables : SixTables six) (k : ℕ) where
  line-above : {number : ℕ} → LineRefused six (pairs_in six) k number → 0 < number
  line-above (LineRefused.as-six x) = six-above six tables x
  line-above (LineRefused.fifteen i b e a x) = lit< tt

  line_gives : {number : ℕ} → LineRefused six (pairs_in six) k number → line_number six k ≡ number
  unfolding line_number
  line_gives (LineRefused.as-six x) =
      let low = six-above six tables x in
      let same = six-gives six tables x in
      after_first (six_barred six) (line_spoilt six k) 15 (omega (arith, low, same)) ∙ same
  line_gives (LineRefused.fifteen i b e a x) = after_then (six_barred six) (line_spoilt six k) 15 (free-six six tables a) ((line-large six a.hull k).1 (i, b, e, x))

  line-came : 0 < line_number six k → LineRefused six (pairs_in six) k (line_number six k)
  unfolding line_number
  line-came =
      after-came (six_barred six) (line_spoilt six k) 15 (LineRefused six (pairs_in six) k)
      (λ low. LineRefused.as-six (six-came six tables low))
      (λ z e. let a = six-free six tables z in let (i, b, f, x) = (line-large six a.hull k).0 e in LineRefused.fifteen i b f a x)

  -- the text of the answer
  pub line-value : (of_lined (line_at six k)).value ≡ cond (eqb (line_number six k) 0) (get_or (proteus_lines six) k []) []
  unfolding line_at lined_of line_of
  line-value = let text = cond (eqb (line_number six k) 0) (get_or (proteus_lines six) k []) [] in take-append_seam text (replicate (256 - length text) 0)

  line-number : RefusedExactly (List ℕ) [] (Placeless (LineRefused six (pairs_in six) k)) (of_lined (line_at six k))
  line-number =
      placeless-exactly [] (LineRefused six (pairs_in six) k) (of_lined (line_at six k)) refl
      (λ number x. line-above x)
      (λ low. subst (LineRefused six (pairs_in six) k) (sym number_is) (line-came (subst (λ (n : ℕ). 0 < n) number_is low)))
      (λ number x. number_is ∙ line_gives x)
      (λ low. line-value ∙ (let some = number_is in rw (ne_eqb (line_number six k) 0 (λ z. omega (arith, low, some, z)))))
    where
      number_is : (of_lined (line_at six k)).number ≡ line_number six k
      number_is = line-number-is six k

-- two lists of one order that hold what one of the six says they hold are one list
pub once :
    {A : Type 0} {Below : A → A → Type 0} (o : Order Below) (six : List Component) → SixTables six → (Held : Component → A → Type 0) (l m : List A)
    → Ascending Below l
    → Ascending Below m
    → ((c : Component) → Memᴰ c six → (x : A) → Memᴰ x l ↔ Held c x)
    → ((c : Component) → Memᴰ c six → (x : A) → Memᴰ x m ↔ Held c x)
    → l ≡ m
once o [] tables Held l m up up' f g = let count = tables.count in absurd (omega (arith, count))
once o (c ∷ cs) tables Held l m up up' f g =
    let first : Memᴰ c (c ∷ cs) = mathlib.Core.List.Memᴰ.head refl in
    ascending-same o l m up up' (λ x k. (g c first x).1 ((f c first x).0 k)) (λ x k. (f c first x).1 ((g c first x).0 k))

pub pairs-once : PairsOnce
pairs-once six pairs others tables a b =
    once pair-order six tables (λ c p. NeededPair c.table p) pairs others (behind-ascends pairs a.order) (behind-ascends others b.order) a.needed b.needed

pub matrix-pairs : (six : List Component) → SixTables six → SixAsked six → MatrixPairs six (pairs_in six)
unfolding pairs_in
matrix-pairs [] tables a = let count = tables.count in absurd (omega (arith, count))
matrix-pairs (c ∷ cs) tables a =
    let first : Memᴰ c (c ∷ cs) = mathlib.Core.List.Memᴰ.head refl in
    record {
      needed = needed-each (c ∷ cs) a.hull;
      order = needed-order c.table (tables.shaped c first) (valid-slots c.table (accepted-each (c ∷ cs) a.accepted c first).valid);
    }

pub line-exactly : LineExactly
line-exactly six tables = (pairs_in six, record { matrix = matrix-pairs six tables; number = line-number six tables })

-- ---- accepted tables

-- no part of a table that rows made is out of bounds
not-large : {rows : List Entry} (c : Component) → AcceptedTable rows c.table c.cells → (p : Pair) → NeededPair c.table p → Large (says_of c p) → ⊥
unfolding entry_at
not-large {rows} c a p n large =
    let r = c.table in
    let (re, im) =
    entry-small r c.cells a.shaped (bounded rows r c.cells a) _ _
    (node-below r a.shaped p.first n.tick₁ n.heading₁)
    (node-below r a.shaped p.second n.tick₂ n.heading₂) in
    ⊎_elim (λ h. omega (arith, h, re)) (λ h. omega (arith, h, im)) large

pub accepted-written : AcceptedWritten
accepted-written six hull each number (TextRefused.as-six (SixRefused.one (c, m, short))) =
    let (rows, a) = each c m in (asked rows c.table c.cells a).long short
accepted-written six hull each number (TextRefused.as-six (SixRefused.two h (c, m, shut))) =
    let (rows, a) = each c m in shut (asked rows c.table c.cells a).accepted
accepted-written six hull each number (TextRefused.as-six (SixRefused.eighteen h u l)) = l hull
accepted-written six hull each number (TextRefused.fifteen {p = p} a x) =
    let (rows, t) = each x.of x.among in not-large x.of t p x.needed x.large
