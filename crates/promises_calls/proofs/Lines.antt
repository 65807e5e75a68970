-- A text is read line by line. Between two lines a reader keeps nothing; in a line it keeps the line's bytes, or is stuck with 3; and a byte, or a line feed, takes it from
-- one to the next. Assumes nothing.
use mathlib.Core.Path.{◌≡◌, refl, sym, ap, subst, ◌∙◌}
use mathlib.Core.Logic.{inl, ⊎_elim}
use mathlib.Core.Bool.{Bool, true, false, cond, not}
use mathlib.Core.List.{List, [], ◌∷◌, ◌++◌, append-nil}
use Prim.Native.Nat.{ℕ, zero, suc, ◌+◌, ◌≤◌, ◌<◌}
use native.Mathlib.Omega.{arith}
use native.Mathlib.Numerals.{add-one}
use native.Mathlib.Decide.{ℕ_discrete, dec_le}
use lib.Dec.{eqb, lit≤}
use lib.ListN.{length, take, drop, set, length-append, take-append-drop}
use lib.Seq.{drop-cons, set-append_seam, append_snoc, take-append_seam, take-append-le, take_at, drop-nil}
use borrow.Author.Tests.{eqb-false, eq-eqb, ne_eqb, lt-ltb, le-ltb, not-true}
use Rattle.row.specs.declared.reading.Choices.{Choices}
use Rattle.row.specs.Told.{Row}
use Rattle.row.specs.own.Rows.{row_of}
use Rattle.row.proofs.Used.{refused-is}
use Rattle.row.proofs.Deciding.{both}
use Rattle.table.specs.Placing.{Placed}
use Rattle.reader.specs.Valid.{clean, valid_of}
use Rattle.reader.specs.Model.{with_marks, counting, line_more, table_at, State, stuck_at, begun, keeping, kept_byte, settled, passed, ended, line_ended, line_feed, open_byte, byte_of, bytes_of, too_short, barred, repeated, tested, finished, closing, close_of}
use Rattle.reader.proofs.Kept.{by-eq}
use Rattle.reader.proofs.TextLoop.{bytes-stuck}
use Rattle.promises_calls.specs.Lines.{starts_with, text_lines, feeds_in, ended_lines, unfinished, kept_line, limited, line_read, part_read, in_turn, AtLineStart, TextIsLines, ClosingIsLines}
use Rattle.promises_calls.proofs.LineNumbers.{line-told, row_line}
use Rattle.promises_calls.proofs.Moves.{Keeps, by-placed, bytes-keeps}
use Rattle.promises_calls.proofs.Kept.{beyond-keeps, beyond-none}
use Rattle.promises_calls.proofs.Valid.{sound-keeps, sound-is, is-valid}
use Rattle.promises_calls.proofs.Cutting.{Live, live-keeps, open-barred, stuck-barred}

-- ---- lists

long-more : (line : List ℕ) (b : ℕ) → length (line ++ (b ∷ [])) ≡ suc (length line)
long-more line b = length-append line (b ∷ []) ∙ add-one (length line)

-- a byte more is kept, behind a line
stored : (line k : List ℕ) (b : ℕ) → length line < length k
    → set (line ++ drop (length line) k) (length line) b ≡ (line ++ (b ∷ [])) ++ drop (length (line ++ (b ∷ []))) k
stored line k b h =
    ap (λ (t : List ℕ). set (line ++ t) (length line) b) (drop-cons k (length line) 0 h)
    ∙ set-append_seam line _ (drop (suc (length line)) k) b
    ∙ sym (append_snoc line b (drop (suc (length line)) k))
    ∙ ap (λ (n : ℕ). (line ++ (b ∷ [])) ++ drop n k) (sym (long-more line b))

pub one-begun : (n : ℕ) → eqb (n + 1) 1 ≡ eqb n 0
one-begun n =
    elim (ℕ_discrete n 0) [
      | yes e ↦ eq-eqb (n + 1) 1 (omega arith) ∙ sym (eq-eqb n 0 e)
      | no e ↦ ne_eqb (n + 1) 1 (omega arith) ∙ sym (ne_eqb n 0 e)
    ]

-- ---- the limits

module _ (line : List ℕ) (s next : State) where
  pub limit-full : s.reader.marks.lines ≡ 1_000_000 → limited line s next ≡ stuck_at 3 1_000_001 s
  unfolding limited
  limit-full e = rw (eq-eqb s.reader.marks.lines 1_000_000 e)

  module _ (more : s.reader.marks.lines ≡ 1_000_000 → ⊥) where
    pub limit-over : 160 < length line → limited line s next ≡ stuck_at 3 (s.reader.marks.lines + 1) (kept_line (take 160 line) s)
    unfolding limited
    limit-over h = rw (ne_eqb s.reader.marks.lines 1_000_000 more, lt-ltb 160 (length line) h)

    pub limit-within : length line ≤ 160 → limited line s next ≡ next
    unfolding limited
    limit-within h = rw (ne_eqb s.reader.marks.lines 1_000_000 more, le-ltb 160 (length line) h)

pub by-limit :
    (P : State → Type 0) (line : List ℕ) (s next : State)
    → (s.reader.marks.lines ≡ 1_000_000 → P (stuck_at 3 1_000_001 s))
    → ((s.reader.marks.lines ≡ 1_000_000 → ⊥) → 160 < length line → P (stuck_at 3 (s.reader.marks.lines + 1) (kept_line (take 160 line) s)))
    → ((s.reader.marks.lines ≡ 1_000_000 → ⊥) → length line ≤ 160 → P next)
    → P (limited line s next)
by-limit P line s next full over within =
    elim (ℕ_discrete s.reader.marks.lines 1_000_000) [
      | yes e ↦ subst P (sym (limit-full line s next e)) (full e)
      | no more ↦
          elim (dec_le (length line) 160) [
            | yes h ↦ subst P (sym (limit-within line s next more h)) (within more h)
            | no h ↦ let long : 160 < length line = omega arith in subst P (sym (limit-over line s next more long)) (over more long)
          ]
    ]

pub byte-shut : (b : ℕ) (s : State) → (s.reader.marks.stage ≡ 1 → ⊥) → byte_of b s ≡ s
unfolding byte_of
byte-shut b s h = rw (ne_eqb s.reader.marks.stage 1 h)

stuck-shut : (b line : ℕ) (s : State) → byte_of b (stuck_at 3 line s) ≡ stuck_at 3 line s
unfolding stuck_at
stuck-shut b line s = byte-shut b (stuck_at 3 line s) (λ e. omega arith)

-- ---- a byte of a line

-- one line more has begun, with these bytes in the places that are kept, so many of them held
abbrev kept_line_at : List ℕ → ℕ → State → State
kept_line_at kept count s = with_marks (counting count (line_more s.reader.marks)) kept s

module _ (s : State) (at : AtLineStart s) where
  -- the first byte of a line
  module _ (b : ℕ) (other : b ≡ 10 → ⊥) where
    first-full : s.reader.marks.lines ≡ 1_000_000 → byte_of b s ≡ stuck_at 3 1_000_001 s
    unfolding byte_of open_byte kept_byte stuck_at
    first-full e =
        rw (eq-eqb s.reader.marks.stage 1 at.stage, ne_eqb b 10 other, eq-eqb s.reader.marks.count 0 at.count, eq-eqb s.reader.marks.lines 1_000_000 e)

    first-kept : (s.reader.marks.lines ≡ 1_000_000 → ⊥) → byte_of b s ≡ kept_line (b ∷ []) s
    unfolding byte_of open_byte kept_byte keeping begun kept_line
    first-kept more =
        let k = s.reader.kept in
        let kept : set k s.reader.marks.count b ≡ b ∷ drop 1 k =
        ap (λ (n : ℕ). set k n b) at.count ∙ stored [] k b (omega (arith, at.shaped.kept))
        in
        let count : s.reader.marks.count + 1 ≡ 1 = ap (◌+ 1) at.count in
        rw (eq-eqb s.reader.marks.stage 1 at.stage, ne_eqb b 10 other, eq-eqb s.reader.marks.count 0 at.count, ne_eqb s.reader.marks.lines 1_000_000 more)
        (λ i. kept_line_at (kept i) (count i) s)

    pub byte-first : byte_of b s ≡ part_read (b ∷ []) s
    unfolding part_read
    byte-first =
        elim (ℕ_discrete s.reader.marks.lines 1_000_000) [
          | yes full ↦ first-full full ∙ sym (limit-full (b ∷ []) s _ full)
          | no more ↦ first-kept more ∙ sym (limit-within (b ∷ []) s _ more (omega arith))
        ]

    -- and the bytes behind it
    module _ (line : List ℕ) (some : 0 < length line) where
      more-kept : length line < 160 → byte_of b (kept_line line s) ≡ kept_line (line ++ (b ∷ [])) s
      unfolding byte_of open_byte kept_byte keeping kept_line
      more-kept h =
          let kept = stored line s.reader.kept b (omega (arith, at.shaped.kept)) in
          let count = sym (length-append line (b ∷ [])) in
          let begun : length line ≡ 0 → ⊥ = λ e. omega arith in
          let room : length line ≡ 160 → ⊥ = λ e. omega arith in
          rw (eq-eqb s.reader.marks.stage 1 at.stage, ne_eqb b 10 other, ne_eqb (length line) 0 begun, ne_eqb (length line) 160 room)
          (λ i. kept_line_at (kept i) (count i) s)

      more-stuck : length line ≡ 160 → byte_of b (kept_line line s) ≡ stuck_at 3 (s.reader.marks.lines + 1) (kept_line line s)
      unfolding byte_of open_byte kept_byte kept_line stuck_at
      more-stuck h =
          let begun : length line ≡ 0 → ⊥ = λ e. omega arith in
          rw (eq-eqb s.reader.marks.stage 1 at.stage, ne_eqb b 10 other, ne_eqb (length line) 0 begun, eq-eqb (length line) 160 h)

      pub byte_more : byte_of b (part_read line s) ≡ part_read (line ++ (b ∷ [])) s
      unfolding part_read
      byte_more =
          let long = long-more line b in
          elim (ℕ_discrete s.reader.marks.lines 1_000_000) [
            | yes full ↦
                ap (byte_of b) (limit-full line s _ full) ∙ stuck-shut b 1_000_001 s ∙ sym (limit-full (line ++ (b ∷ [])) s _ full)
            | no more ↦
                elim (dec_le (length line) 159) [
                  | yes h ↦
                      ap (byte_of b) (limit-within line s _ more (omega arith))
                      ∙ more-kept (omega arith)
                      ∙ sym (limit-within (line ++ (b ∷ [])) s _ more (omega arith))
                  | no h ↦
                      elim (ℕ_discrete (length line) 160) [
                        | yes e ↦
                            ap (byte_of b) (limit-within line s _ more (omega arith))
                            ∙ more-stuck e
                            ∙ ap (λ (l : List ℕ). stuck_at 3 (s.reader.marks.lines + 1) (kept_line l s)) (sym (take_at line (b ∷ []) 160 e))
                            ∙ sym (limit-over (line ++ (b ∷ [])) s _ more (omega arith))
                        | no n ↦
                            ap (byte_of b) (limit-over line s _ more (omega arith))
                            ∙ stuck-shut b _ _
                            ∙ ap (λ (l : List ℕ). stuck_at 3 (s.reader.marks.lines + 1) (kept_line l s)) (sym (take-append-le 160 line (b ∷ []) (omega arith)))
                            ∙ sym (limit-over (line ++ (b ∷ [])) s _ more (omega arith))
                      ]
                ]
          ]

  -- ---- a line feed

  feed-open : (m : State) → m.reader.marks.stage ≡ 1 → byte_of 10 m ≡ line_feed m
  unfolding byte_of open_byte
  feed-open m o = rw (eq-eqb m.reader.marks.stage 1 o)

  -- it begins an empty line, and ends it
  empty-full : s.reader.marks.lines ≡ 1_000_000 → line_feed s ≡ stuck_at 3 1_000_001 s
  unfolding line_feed
  empty-full e = rw (eq-eqb s.reader.marks.count 0 at.count, eq-eqb s.reader.marks.lines 1_000_000 e)

  empty-ended : (s.reader.marks.lines ≡ 1_000_000 → ⊥) → line_feed s ≡ ended (row_of s.reader.choices (eqb s.reader.marks.lines 0) []) (kept_line [] s)
  unfolding line_feed line_ended begun kept_line
  empty-ended more =
      rw (eq-eqb s.reader.marks.count 0 at.count, ne_eqb s.reader.marks.lines 1_000_000 more)
      (λ i.
      ended (row_of s.reader.choices (one-begun s.reader.marks.lines i) (take (at.count i) s.reader.kept))
      (kept_line_at s.reader.kept (at.count i) s))

  pub feed-first : byte_of 10 s ≡ line_read [] s
  unfolding line_read
  feed-first =
      feed-open s at.stage
      ∙ elim (ℕ_discrete s.reader.marks.lines 1_000_000) [
        | yes full ↦ empty-full full ∙ sym (limit-full [] s _ full)
        | no more ↦ empty-ended more ∙ sym (limit-within [] s _ more (omega arith))
      ]

  -- it ends a line that has begun
  module _ (line : List ℕ) (some : 0 < length line) where
    pub held-ended : line_ended (kept_line line s) ≡ ended (row_of s.reader.choices (eqb s.reader.marks.lines 0) line) (kept_line line s)
    unfolding line_ended kept_line
    held-ended =
        let kept : take (length line) (line ++ drop (length line) s.reader.kept) ≡ line = take-append_seam line _ in
        λ i. ended (row_of s.reader.choices (one-begun s.reader.marks.lines i) (kept i)) (kept_line line s)

    held-feed : line_feed (kept_line line s) ≡ line_ended (kept_line line s)
    unfolding line_feed kept_line
    held-feed = let begun : length line ≡ 0 → ⊥ = λ e. omega arith in rw (ne_eqb (length line) 0 begun)

    held-open : (kept_line line s).reader.marks.stage ≡ 1
    unfolding kept_line
    held-open = at.stage

    pub feed-more : byte_of 10 (part_read line s) ≡ line_read line s
    unfolding part_read line_read
    feed-more =
        elim (ℕ_discrete s.reader.marks.lines 1_000_000) [
          | yes full ↦ ap (byte_of 10) (limit-full line s _ full) ∙ stuck-shut 10 1_000_001 s ∙ sym (limit-full line s _ full)
          | no more ↦
              elim (dec_le (length line) 160) [
                | yes h ↦
                    ap (byte_of 10) (limit-within line s _ more h)
                    ∙ feed-open (kept_line line s) held-open
                    ∙ held-feed
                    ∙ held-ended
                    ∙ sym (limit-within line s _ more h)
                | no h ↦
                    ap (byte_of 10) (limit-over line s _ more (omega arith))
                    ∙ stuck-shut 10 _ _
                    ∙ sym (limit-over line s _ more (omega arith))
              ]
        ]

-- ---- lines of a text

-- a reader in a line, of which it has taken in these bytes
abbrev pub in_line : List ℕ → State → State
in_line [] s = s
in_line (b ∷ line) s = part_read (b ∷ line) s

module _ (s : State) (at : AtLineStart s) where
  pub byte-in : (b : ℕ) → (b ≡ 10 → ⊥) → (line : List ℕ) → byte_of b (in_line line s) ≡ in_line (line ++ (b ∷ [])) s
  byte-in b other [] = byte-first s at b other
  byte-in b other (x ∷ line) = byte_more s at b other (x ∷ line) (omega arith)

  pub feed-in : (line : List ℕ) → byte_of 10 (in_line line s) ≡ line_read line s
  feed-in [] = feed-first s at
  feed-in (x ∷ line) = feed-more s at (x ∷ line) (omega arith)

-- bytes with no line feed, then a line feed; and bytes with none, to the end
pub lines-feed : (line text : List ℕ) → clean line ≡ true → text_lines (line ++ (10 ∷ text)) ≡ line ∷ text_lines text
unfolding text_lines clean starts_with
lines-feed [] text e = refl
lines-feed (b ∷ line) text e =
    let h = both (not (eqb b 10)) (clean line) e in
    rw (not-true (eqb b 10) h.0, lines-feed line text h.1)

feeds-feed : (line text : List ℕ) → clean line ≡ true → feeds_in (line ++ (10 ∷ text)) ≡ suc (feeds_in text)
unfolding feeds_in clean
feeds-feed [] text e = refl
feeds-feed (b ∷ line) text e =
    let h = both (not (eqb b 10)) (clean line) e in
    rw (not-true (eqb b 10) h.0) (feeds-feed line text h.1)

-- a line where it has a byte
abbrev pub as_line : List ℕ → List (List ℕ)
as_line [] = []
as_line (b ∷ line) = (b ∷ line) ∷ []

pub lines_end : (line : List ℕ) → clean line ≡ true → text_lines line ≡ as_line line
unfolding text_lines clean starts_with
lines_end [] e = refl
lines_end (b ∷ line) e =
    let h = both (not (eqb b 10)) (clean line) e in
    rw (not-true (eqb b 10) h.0, lines_end line h.1) (first line)
  where
    first : (l : List ℕ) → starts_with b (as_line l) ≡ (b ∷ l) ∷ []
    first [] = refl
    first (c ∷ l) = refl

feeds-end : (line : List ℕ) → clean line ≡ true → feeds_in line ≡ 0
unfolding feeds_in clean
feeds-end [] e = refl
feeds-end (b ∷ line) e =
    let h = both (not (eqb b 10)) (clean line) e in
    rw (not-true (eqb b 10) h.0) (feeds-end line h.1)

pub clean-snoc : (line : List ℕ) (b : ℕ) → (b ≡ 10 → ⊥) → clean line ≡ true → clean (line ++ (b ∷ [])) ≡ true
unfolding clean
clean-snoc [] b n e = rw (ne_eqb b 10 n)
clean-snoc (x ∷ line) b n e =
    let h = both (not (eqb x 10)) (clean line) e in
    rw h.0 (clean-snoc line b n h.1)

-- ---- lines in turn

pub turn-open : (read : List ℕ → State → State) (line : List ℕ) (lines : List (List ℕ)) (s : State) → s.reader.marks.stage ≡ 1
    → in_turn read (line ∷ lines) s ≡ in_turn read lines (read line s)
unfolding in_turn
turn-open read line lines s o = rw (eq-eqb s.reader.marks.stage 1 o)

pub turn-shut : (read : List ℕ → State → State) (lines : List (List ℕ)) (s : State) → (s.reader.marks.stage ≡ 1 → ⊥) → in_turn read lines s ≡ s
unfolding in_turn
turn-shut read [] s n = refl
turn-shut read (line ∷ lines) s n = rw (ne_eqb s.reader.marks.stage 1 n) (turn-shut read lines s n)

pub turn-append : (read : List ℕ → State → State) (a b : List (List ℕ)) (s : State) → in_turn read (a ++ b) s ≡ in_turn read b (in_turn read a s)
unfolding in_turn
turn-append read [] b s = refl
turn-append read (line ∷ a) b s = turn-append read a b _

-- ---- between lines

-- an open reader keeps nothing of a line that is read
abbrev Nothing : State → Type 0
Nothing s = s.reader.marks.stage ≡ 1 → s.reader.marks.count ≡ 0

stuck-nothing : (number line : ℕ) (s : State) → 3 ≤ number → Nothing (stuck_at number line s)
unfolding stuck_at
stuck-nothing number line s h e = absurd (omega arith)

pub ended-nothing : (c : Choices) (first : Bool) (line : List ℕ) (s : State) (w : Row) → row_of c first line ≡ w → Nothing (ended w s)
unfolding ended settled passed
ended-nothing c first line s Row.Blank e = λ o. refl
ended-nothing c first line s Row.Title e = λ o. refl
ended-nothing c first line s Row.PassedOver e = λ o. refl
ended-nothing c first line s (Row.Refused number) e =
    stuck-nothing number s.reader.marks.lines s (line-told (row_line (refused-is c first line e))).least
ended-nothing c first line s (Row.Used x) e =
    by-placed (λ (o : Placed). Nothing (settled o s)) s.reader.choices.kind x (table_at s)
    (λ f o. refl)
    (stuck-nothing 9 s.reader.marks.lines s (lit≤ tt))
    (stuck-nothing 8 s.reader.marks.lines s (lit≤ tt))

line-nothing : (line : List ℕ) (s : State) → Nothing (line_read line s)
unfolding line_read
line-nothing line s =
    by-limit Nothing line s _
    (λ full. stuck-nothing 3 1_000_001 s (lit≤ tt))
    (λ more over. stuck-nothing 3 (s.reader.marks.lines + 1) _ (lit≤ tt))
    (λ more within. ended-nothing s.reader.choices (eqb s.reader.marks.lines 0) line (kept_line line s) _ refl)

module _ (s : State) (at : AtLineStart s) where
  -- the bytes of a line, one after the other
  pub bytes-in : (line : List ℕ) → clean line ≡ true → (held : List ℕ) → bytes_of line (in_line held s) ≡ in_line (held ++ line) s
  unfolding bytes_of clean
  bytes-in [] e held = rw append-nil
  bytes-in (b ∷ line) e held =
      let h = both (not (eqb b 10)) (clean line) e in
      ap (bytes_of line) (byte-in s at b (eqb-false b 10 (not-true (eqb b 10) h.0)) held)
      ∙ bytes-in line h.1 (held ++ (b ∷ []))
      ∙ ap (λ (l : List ℕ). in_line l s) (append_snoc held b line)

  pub line-bytes : (line : List ℕ) → clean line ≡ true → bytes_of (10 ∷ []) (bytes_of line s) ≡ line_read line s
  unfolding bytes_of
  line-bytes line e = ap (byte_of 10) (bytes-in line e []) ∙ feed-in s at line

  pub line-keeps-all : {P : State → Type 0} → Keeps P → P s → (line : List ℕ) → clean line ≡ true → P (line_read line s)
  line-keeps-all {P} k p line e = subst P (line-bytes line e) (bytes-keeps k (10 ∷ []) _ (bytes-keeps k line s p))

  pub line-at-line : (line : List ℕ) → clean line ≡ true → (line_read line s).reader.marks.stage ≡ 1 → AtLineStart (line_read line s)
  line-at-line line e o =
      let sound = line-keeps-all sound-keeps (sound-is s at.shaped at.valid) line e in
      let long = line-keeps-all (beyond-keeps s) (beyond-none s) line e in
      record {
        shaped = sound.shaped;
        valid = is-valid _ sound.valid;
        stage = o;
        count = line-nothing line s o;
        cells = omega (arith, at.cells, long.cells);
        flags = omega (arith, at.flags, long.flags);
      }

-- ---- a text

-- what it comes to in a line of which some bytes are taken in
abbrev ReadAsLines : List ℕ → List ℕ → State → Type 0
ReadAsLines text line s = bytes_of text (in_line line s) ≡ in_turn part_read (unfinished (line ++ text)) (in_turn line_read (ended_lines (line ++ text)) s)

module _ (line : List ℕ) (e : clean line ≡ true) (s : State) (at : AtLineStart s) where
  reads_end : ReadAsLines [] line s
  unfolding bytes_of in_turn
  reads_end = rw (append-nil, feeds-end line e, lines_end line e) (last line)
    where
      last : (l : List ℕ) → in_line l s ≡ in_turn part_read (as_line l) (in_turn line_read [] s)
      last [] = refl
      last (b ∷ l) = rw (eq-eqb s.reader.marks.stage 1 at.stage)

  reads-feed : (text : List ℕ) → (AtLineStart (line_read line s) → ReadAsLines text [] (line_read line s)) → ReadAsLines (10 ∷ text) line s
  unfolding bytes_of
  reads-feed text f =
      let after = line_read line s in
      rw (lines-feed line text e, feeds-feed line text e, feed-in s at line, turn-open line_read line (ended_lines text) s at.stage)
      (elim (ℕ_discrete after.reader.marks.stage 1) [
        | yes o ↦ f (line-at-line s at line e o)
        | no n ↦
            bytes-stuck text after n
            ∙ sym (turn-shut part_read (unfinished text) after n)
            ∙ ap (in_turn part_read (unfinished text)) (sym (turn-shut line_read (ended_lines text) after n))
      ])

  reads_byte : (b : ℕ) (text : List ℕ) → (b ≡ 10 → ⊥) → ReadAsLines text (line ++ (b ∷ [])) s → ReadAsLines (b ∷ text) line s
  unfolding bytes_of
  reads_byte b text n f =
      ap (bytes_of text) (byte-in s at b n line)
      ∙ f
      ∙ ap (λ (t : List ℕ). in_turn part_read (unfinished t) (in_turn line_read (ended_lines t) s)) (append_snoc line b text)

  reads-next : (b : ℕ) (text : List ℕ) → (AtLineStart (line_read line s) → ReadAsLines text [] (line_read line s)) → ((b ≡ 10 → ⊥) → ReadAsLines text (line ++ (b ∷ [])) s)
      → ReadAsLines (b ∷ text) line s
  reads-next b text f g =
      elim (ℕ_discrete b 10) [
        | yes feed ↦ subst (λ (x : ℕ). ReadAsLines (x ∷ text) line s) (sym feed) (reads-feed text f)
        | no n ↦ reads_byte b text n (g n)
      ]

pub clean-none : clean [] ≡ true
unfolding clean
clean-none = refl

reads : (text line : List ℕ) → clean line ≡ true → (s : State) → AtLineStart s → ReadAsLines text line s
reads [] line e s at = reads_end line e s at
reads (b ∷ text) line e s at =
    reads-next line e s at b text
    (λ next. reads text [] clean-none (line_read line s) next)
    (λ n. reads text (line ++ (b ∷ [])) (clean-snoc line b n e) s at)

pub text-is-lines : TextIsLines
text-is-lines text s at = reads text [] clean-none s at

-- ---- what the lines of a text are

-- none has a line feed in it
pub data Feedless : List (List ℕ) → Type 0 where
  end : Feedless []
  then : {line : List ℕ} {lines : List (List ℕ)} → clean line ≡ true → Feedless lines → Feedless (line ∷ lines)

starts-feedless : (b : ℕ) → (b ≡ 10 → ⊥) → {lines : List (List ℕ)} → Feedless lines → Feedless (starts_with b lines)
unfolding starts_with clean
starts-feedless b n end = then {line = b ∷ []} (rw (ne_eqb b 10 n)) end
starts-feedless b n (then {line = line} e f) = then {line = b ∷ line} (rw (ne_eqb b 10 n) e) f

pub lines-feedless : (text : List ℕ) → Feedless (text_lines text)
unfolding text_lines
lines-feedless [] = end
lines-feedless (b ∷ text) = go (lines-feedless text)
  where
    go : Feedless (text_lines text) → Feedless (cond (eqb b 10) ([] ∷ text_lines text) (starts_with b (text_lines text)))
    go f = by-eq Feedless b 10 _ _ (λ e. then clean-none f) (λ n. starts-feedless b n f)

pub feedless-take : (n : ℕ) {lines : List (List ℕ)} → Feedless lines → Feedless (take n lines)
feedless-take zero f = end
feedless-take (suc n) end = end
feedless-take (suc n) (then e f) = then e (feedless-take n f)

-- nothing, or one line that has a byte
pub data Last : List (List ℕ) → Type 0 where
  none_left : Last []
  one_left : {line : List ℕ} → 0 < length line → Last (line ∷ [])

starts-last : (b n : ℕ) (lines : List (List ℕ)) → Last (drop n lines) → Last (drop n (starts_with b lines))
unfolding starts_with
starts-last b zero [] l = one_left {line = b ∷ []} (omega arith)
starts-last b zero (line ∷ []) l = one_left {line = b ∷ line} (omega arith)
starts-last b zero (line ∷ (next ∷ lines)) l = elim l [ ]
starts-last b (suc n) [] l = subst Last (sym (drop-nil n)) none_left
starts-last b (suc n) (line ∷ lines) l = l

pub unfinished-last : (text : List ℕ) → Last (unfinished text)
unfolding text_lines feeds_in
unfinished-last [] = none_left
unfinished-last (b ∷ text) = go (eqb b 10) (unfinished-last text)
  where
    go : (t : Bool) → Last (unfinished text) → Last (drop (cond t (suc (feeds_in text)) (feeds_in text)) (cond t ([] ∷ text_lines text) (starts_with b (text_lines text))))
    go true l = l
    go false l = starts-last b (feeds_in text) (text_lines text) l

-- ---- closing

-- a property that every move keeps, and readiness, go from line to line
module _ {P : State → Type 0} (k : Keeps P) where
  pub lines_keep : {lines : List (List ℕ)} → Feedless lines → (s : State) → AtLineStart s → P s → P (in_turn line_read lines s)
  unfolding in_turn
  lines_keep end s at p = p
  lines_keep (then {line = line} {lines = lines} e f) s at p =
      let after = line_read line s in
      let q = line-keeps-all s at k p line e in
      subst P (sym (turn-open line_read line lines s at.stage))
      (elim (ℕ_discrete after.reader.marks.stage 1) [
        | yes o ↦ lines_keep f after (line-at-line s at line e o) q
        | no n ↦ subst P (sym (turn-shut line_read lines after n)) q
      ])

pub lines-at-line : {lines : List (List ℕ)} → Feedless lines → (s : State) → AtLineStart s → (in_turn line_read lines s).reader.marks.stage ≡ 1 → AtLineStart (in_turn line_read lines s)
unfolding in_turn
lines-at-line end s at = λ o. at
lines-at-line (then {line = line} {lines = lines} e f) s at =
    let after = line_read line s in
    subst (λ (m : State). m.reader.marks.stage ≡ 1 → AtLineStart m) (sym (turn-open line_read line lines s at.stage))
    (elim (ℕ_discrete after.reader.marks.stage 1) [
      | yes o ↦ lines-at-line f after (line-at-line s at line e o)
      | no n ↦ λ o. absurd (n (ap (λ (m : State). m.reader.marks.stage) (sym (turn-shut line_read lines after n)) ∙ o))
    ])

-- closing where the record is valid: it goes through, or repeats
module _ (s : State) (v : valid_of s.reader ≡ true) where
  pub close_open : s.reader.marks.stage ≡ 1 → 12_800 ≤ length s.cells → 6_400 ≤ length s.flags → close_of s ≡ closing (finished s)
  unfolding close_of tested too_short
  close_open o cells flags =
      let clear : barred s ≡ 0 = open-barred s.reader _ _ v o ∙ rw (le-ltb _ _ cells, le-ltb _ _ flags) in
      rw (eq-eqb (barred s) 0 clear)

  pub close-repeats : 3 ≤ s.reader.marks.stage → close_of s ≡ closing s
  unfolding close_of tested closing repeated
  close-repeats h =
      let same = stuck-barred s.reader (length s.cells) (length s.flags) v h in
      let some : s.reader.marks.stage ≡ 0 → ⊥ = λ e. omega arith in
      let shut : s.reader.marks.stage ≡ 1 → ⊥ = λ e. omega arith in
      rw (same, ne_eqb s.reader.marks.stage 0 some, ne_eqb s.reader.marks.stage 1 shut)

pub nothing-finished : (s : State) → s.reader.marks.count ≡ 0 → finished s ≡ s
unfolding finished
nothing-finished s e = rw (eq-eqb s.reader.marks.count 0 e)

held-finished : (line : List ℕ) (s : State) → 0 < length line → finished (kept_line line s) ≡ line_ended (kept_line line s)
unfolding finished kept_line
held-finished line s h = let some : length line ≡ 0 → ⊥ = λ e. omega arith in rw (ne_eqb (length line) 0 some)

-- valid, with slices that are long enough, and open or stuck
pub record Closable (s : State) : Type 0 where
  pub valid : valid_of s.reader ≡ true
  pub live : Live s
  pub cells : 12_800 ≤ length s.cells
  pub flags : 6_400 ≤ length s.flags

pub close-shut : (s : State) → Closable s → (s.reader.marks.stage ≡ 1 → ⊥) → close_of s ≡ closing s
close-shut s h n = ⊎_elim (λ o. absurd (n o)) (λ low. close-repeats s h.valid low) h.live

stuck-stage : (line : ℕ) (s : State) → (stuck_at 3 line s).reader.marks.stage ≡ 1 → ⊥
unfolding stuck_at
stuck-stage line s e = omega arith

module _ (s : State) (at : AtLineStart s) where
  -- a line at the end of the text, which no line feed ends
  close-part : (line : List ℕ) → 0 < length line → Closable (part_read line s) → close_of (part_read line s) ≡ closing (line_read line s)
  unfolding part_read line_read
  close-part line some h =
      elim (ℕ_discrete s.reader.marks.lines 1_000_000) [
        | yes full ↦
            let same = limit-full line s (kept_line line s) full in
            ap close_of same
            ∙ close-shut _ (subst Closable same h) (stuck-stage _ s)
            ∙ ap closing (sym (limit-full line s _ full))
        | no more ↦
            elim (dec_le (length line) 160) [
              | yes few ↦
                  let same = limit-within line s (kept_line line s) more few in
                  let kept = subst Closable same h in
                  ap close_of same
                  ∙ close_open (kept_line line s) kept.valid (held-open s at line some) kept.cells kept.flags
                  ∙ ap closing (held-finished line s some ∙ held-ended s at line some ∙ sym (limit-within line s _ more few))
              | no many ↦
                  let long : 160 < length line = omega arith in
                  let same = limit-over line s (kept_line line s) more long in
                  ap close_of same
                  ∙ close-shut _ (subst Closable same h) (stuck-stage _ _)
                  ∙ ap closing (sym (limit-over line s _ more long))
            ]
      ]

  close-last : {last : List (List ℕ)} → Last last → Closable (in_turn part_read last s) → close_of (in_turn part_read last s) ≡ closing (in_turn line_read last s)
  unfolding in_turn
  close-last none_left h = close_open s h.valid at.stage h.cells h.flags ∙ ap closing (nothing-finished s at.count)
  close-last (one_left {line = line} some) h =
      let part = turn-open part_read line [] s at.stage in
      ap close_of part ∙ close-part line some (subst Closable part h) ∙ ap closing (sym (turn-open line_read line [] s at.stage))

pub text-closable : (text : List ℕ) (s : State) → AtLineStart s → Closable (bytes_of text s)
text-closable text s at =
    let sound = bytes-keeps sound-keeps text s (sound-is s at.shaped at.valid) in
    let long = bytes-keeps (beyond-keeps s) text s (beyond-none s) in
    record {
      valid = is-valid _ sound.valid;
      live = bytes-keeps live-keeps text s (inl at.stage);
      cells = omega (arith, at.cells, long.cells);
      flags = omega (arith, at.flags, long.flags);
    }

pub lines_split : (read : List ℕ → State → State) (text : List ℕ) (s : State)
    → in_turn read (text_lines text) s ≡ in_turn read (unfinished text) (in_turn read (ended_lines text) s)
lines_split read text s =
    ap (λ (ls : List (List ℕ)). in_turn read ls s) (sym (take-append-drop (feeds_in text) (text_lines text)))
    ∙ turn-append read (ended_lines text) (unfinished text) s

pub closing-is-lines : ClosingIsLines
closing-is-lines text s at =
    let m = in_turn line_read (ended_lines text) s in
    let read = text-is-lines text s at in
    let h = subst Closable read (text-closable text s at) in
    ap close_of read
    ∙ elim (ℕ_discrete m.reader.marks.stage 1) [
      | yes o ↦
          let ready = lines-at-line (feedless-take (feeds_in text) (lines-feedless text)) s at o in
          close-last m ready (unfinished-last text) h
      | no n ↦
          let same = turn-shut part_read (unfinished text) m n in
          ap close_of same ∙ close-shut m (subst Closable same h) n ∙ ap closing (sym (turn-shut line_read (unfinished text) m n))
    ]
    ∙ ap closing (sym (lines_split line_read text s))
