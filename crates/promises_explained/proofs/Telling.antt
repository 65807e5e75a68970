-- An explainer reads a text line by line as the reader does, and remembers a row at the end of its line; so pieces, cut anywhere, come to the lines of the text. Assumes nothing.
use mathlib.Core.Path.{◌≡◌, refl, sym, ap, subst, ◌∙◌}
use mathlib.Core.Bool.{Bool, true, false, cond}
use mathlib.Core.Logic.{⊎_elim}
use mathlib.Core.List.{List, [], ◌∷◌, ◌++◌, append-nil, append_assoc}
use Prim.Native.Nat.{ℕ, ◌+◌, ◌≤◌, ◌<◌, min}
use native.Mathlib.Omega.{arith}
use native.Mathlib.Decide.{ℕ_discrete, dec_le}
use lib.Dec.{eqb}
use lib.ListN.{length, take, drop}
use lib.Seq.{take-append_seam, append_snoc}
use borrow.Author.Tests.{eq-eqb, ne_eqb, le-ltb}
use Rattle.row.specs.Told.{Row}
use Rattle.row.specs.own.Rows.{row_of, words_row}
use Rattle.row.specs.Line.{without_return, words}
use Rattle.reader.specs.declared.record.Record.{Record}
use Rattle.reader.specs.Valid.{clean}
use Rattle.reader.specs.Model.{State, stuck_at, byte_of, bytes_of, too_short, barred_by}
use Rattle.reader.proofs.Kept.{by-eq}
use Rattle.row.specs.declared.reading.Entry.{Entry}
use Rattle.grid.specs.declared.nodes.Slots.{Slots}
use Rattle.origins.specs.Memory.{lines_lent, Memory, noted, remembered, recalled}
use Rattle.explain.specs.Model.{Reading, next_byte, next_bytes, barred_at, piece_for, ended_line, closed_for, close_barred, close_for}
use Rattle.reasons.specs.Reasons.{row_kept}
use Rattle.promises_calls.specs.Cutting.{joined}
use Rattle.promises_calls.specs.Lines.{text_lines, kept_line, line_read, part_read, AtLineStart}
use Rattle.promises_explained.specs.Explained.{pieces_for}
use Rattle.promises_calls.proofs.Cutting.{open-barred, stuck-barred}
use Rattle.promises_calls.proofs.Lines.{by-limit, limit-full, limit-over, limit-within, one-begun, byte-shut, byte-in, feed-in, in_line, lines-feed, as_line, lines_end, clean-snoc, clean-none, line-at-line, text-closable, Closable}
use Rattle.promises_explained.proofs.Noting.{noted-long}

-- ---- a reading

-- one with another state, and one with another state and memory
abbrev at-state : State → Reading → Reading
at-state s x = record { state = s; stated = x.stated; memory = x.memory }

abbrev pub told : State → Memory → Reading → Reading
told s m x = record { state = s; stated = x.stated; memory = m }

-- nothing is recalled where the reader has stopped
pub recalled-shut : (w : Row) (r : Record) (m : Memory) → (r.marks.stage ≡ 1 → ⊥) → recalled w r m ≡ m
unfolding recalled
recalled-shut Row.Blank r m n = refl
recalled-shut Row.Title r m n = refl
recalled-shut Row.PassedOver r m n = refl
recalled-shut (Row.Refused number) r m n = refl
recalled-shut (Row.Used e) r m n = rw (ne_eqb r.marks.stage 1 n)

-- ---- bytes

-- a reader that has stopped takes nothing in
byte-still : (b : ℕ) (x : Reading) → (x.state.reader.marks.stage ≡ 1 → ⊥) → next_byte b x ≡ x
unfolding next_byte
byte-still b x n =
    let same = byte-shut b x.state n in
    let kept : (t : Bool) → cond t (recalled (row_kept x.state.reader) (byte_of b x.state).reader x.memory) x.memory ≡ x.memory =
    λ t. by_bool t
    in
    λ i. told (same i) (kept (eqb b 10) i) x
  where
    by_bool : (t : Bool) → cond t (recalled (row_kept x.state.reader) (byte_of b x.state).reader x.memory) x.memory ≡ x.memory
    by_bool true =
        recalled-shut (row_kept x.state.reader) (byte_of b x.state).reader x.memory
        (λ o. n (ap (λ (s : State). s.reader.marks.stage) (sym (byte-shut b x.state n)) ∙ o))
    by_bool false = refl

pub bytes-still : (text : List ℕ) (x : Reading) → (x.state.reader.marks.stage ≡ 1 → ⊥) → next_bytes text x ≡ x
unfolding next_bytes
bytes-still [] x n = refl
bytes-still (b ∷ text) x n = ap (next_bytes text) (byte-still b x n) ∙ bytes-still text x n

ended-still : (x : Reading) → (x.state.reader.marks.stage ≡ 1 → ⊥) → ended_line x ≡ x
unfolding ended_line
ended-still x n = by-eq (λ (y : Reading). y ≡ x) x.state.reader.marks.count 0 _ _ (λ e. refl) (λ e. byte-still 10 x n)

pub bytes-append : (a b : List ℕ) (x : Reading) → next_bytes (a ++ b) x ≡ next_bytes b (next_bytes a x)
unfolding next_bytes
bytes-append [] b x = refl
bytes-append (z ∷ a) b x = bytes-append a b (next_byte z x)

-- the state is the reader's
pub bytes-state : (text : List ℕ) (x : Reading) → (next_bytes text x).state ≡ bytes_of text x.state
unfolding next_bytes bytes_of next_byte
bytes-state [] x = refl
bytes-state (b ∷ text) x = bytes-state text (next_byte b x)

pub bytes-stated : (text : List ℕ) (x : Reading) → (next_bytes text x).stated ≡ x.stated
unfolding next_bytes next_byte
bytes-stated [] x = refl
bytes-stated (b ∷ text) x = bytes-stated text (next_byte b x)

-- a byte that is no line feed is remembered nowhere
byte-plain : (b : ℕ) (x : Reading) → (b ≡ 10 → ⊥) → next_byte b x ≡ at-state (byte_of b x.state) x
unfolding next_byte
byte-plain b x n = rw (ne_eqb b 10 n)

-- ---- a line

-- a line that is ended
unfoldable pub line_told : List ℕ → Reading → Reading
line_told line x =
    let s = x.state in
    told (line_read line s) (recalled (row_of s.reader.choices (eqb s.reader.marks.lines 0) line) (line_read line s).reader x.memory) x

unfoldable pub lines_told : List (List ℕ) → Reading → Reading
lines_told [] x = x
lines_told (line ∷ lines) x = lines_told lines (cond (eqb x.state.reader.marks.stage 1) (line_told line x) x)

pub told-open : (line : List ℕ) (lines : List (List ℕ)) (x : Reading) → x.state.reader.marks.stage ≡ 1 → lines_told (line ∷ lines) x ≡ lines_told lines (line_told line x)
unfolding lines_told
told-open line lines x o = rw (eq-eqb x.state.reader.marks.stage 1 o)

pub told-shut : (lines : List (List ℕ)) (x : Reading) → (x.state.reader.marks.stage ≡ 1 → ⊥) → lines_told lines x ≡ x
unfolding lines_told
told-shut [] x n = refl
told-shut (line ∷ lines) x n = rw (ne_eqb x.state.reader.marks.stage 1 n) (told-shut lines x n)

-- no bytes are a blank row, first or not
no_bytes : (r : Record) (first : Bool) → row_of r.choices first [] ≡ Row.Blank
unfolding row_of words_row without_return words
no_bytes r first = refl

stuck-shut : (line : ℕ) (s : State) → (stuck_at 3 line s).reader.marks.stage ≡ 1 → ⊥
unfolding stuck_at
stuck-shut line s e = omega arith

module _ (s : State) (at : AtLineStart s) where
  limited-full : (line : List ℕ) → s.reader.marks.lines ≡ 1_000_000 → line_read line s ≡ stuck_at 3 1_000_001 s
  unfolding line_read
  limited-full line full = limit-full line s _ full

  limited-over : (line : List ℕ) → (s.reader.marks.lines ≡ 1_000_000 → ⊥) → 160 < length line → line_read line s ≡ stuck_at 3 (s.reader.marks.lines + 1) (kept_line (take 160 line) s)
  unfolding line_read
  limited-over line more long = limit-over line s _ more long

  part-within : (line : List ℕ) → (s.reader.marks.lines ≡ 1_000_000 → ⊥) → length line ≤ 160 → part_read line s ≡ kept_line line s
  unfolding part_read
  part-within line more h = limit-within line s _ more h

  pub of-line : (line : List ℕ) → row_kept (kept_line line s).reader ≡ row_of s.reader.choices (eqb s.reader.marks.lines 0) line
  unfolding row_kept kept_line
  of-line line = λ i. row_of s.reader.choices (one-begun s.reader.marks.lines i) (take-append_seam line (drop (length line) s.reader.kept) i)

  -- the row of the bytes kept is that of the line, where it does not stop the reader
  kept_row : (line : List ℕ) → (line_read line s).reader.marks.stage ≡ 1 → row_kept (in_line line s).reader ≡ row_of s.reader.choices (eqb s.reader.marks.lines 0) line
  unfolding row_kept
  kept_row [] o =
      ap (λ (n : ℕ). row_of s.reader.choices (eqb s.reader.marks.lines 1) (take n s.reader.kept)) at.count
      ∙ no_bytes s.reader (eqb s.reader.marks.lines 1)
      ∙ sym (no_bytes s.reader (eqb s.reader.marks.lines 0))
  kept_row (b ∷ rest) o =
      let line = b ∷ rest in
      elim (ℕ_discrete s.reader.marks.lines 1_000_000) [
        | yes full ↦ absurd (stuck-shut _ s (ap (λ (z : State). z.reader.marks.stage) (sym (limited-full line full)) ∙ o))
        | no more ↦
            elim (dec_le (length line) 160) [
              | yes h ↦ ap (λ (z : State). row_kept z.reader) (part-within line more h) ∙ of-line line
              | no h ↦ absurd (stuck-shut _ _ (ap (λ (z : State). z.reader.marks.stage) (sym (limited-over line more (omega arith))) ∙ o))
            ]
      ]

-- ---- a text

-- an open reader that has taken in bytes of a line keeps them
part-begun : (line : List ℕ) → 0 < length line → (s : State) → (part_read line s).reader.marks.count ≡ 0 → (part_read line s).reader.marks.stage ≡ 1 → ⊥
unfolding part_read kept_line stuck_at
part-begun line some s =
    by-limit (λ (z : State). z.reader.marks.count ≡ 0 → z.reader.marks.stage ≡ 1 → ⊥) line s _
    (λ full e o. omega arith)
    (λ more long e o. omega arith)
    (λ more short e o. omega arith)

-- a reading in a line, of which it has taken in these bytes
abbrev held_in : List ℕ → Reading → Reading
held_in line x = at-state (in_line line x.state) x

module _ (x : Reading) (at : AtLineStart x.state) where
  byte-held : (b : ℕ) → (b ≡ 10 → ⊥) → (line : List ℕ) → next_byte b (held_in line x) ≡ held_in (line ++ (b ∷ [])) x
  byte-held b n line = byte-plain b (held_in line x) n ∙ ap (λ (s : State). at-state s x) (byte-in x.state at b n line)

  -- a line feed ends the line
  feed-held : (line : List ℕ) → next_byte 10 (held_in line x) ≡ line_told line x
  unfolding next_byte line_told
  feed-held line =
      let s = x.state in
      let after = feed-in s at line in
      let row = row_of s.reader.choices (eqb s.reader.marks.lines 0) line in
      let memory : recalled (row_kept (in_line line s).reader) (byte_of 10 (in_line line s)).reader x.memory ≡ recalled row (line_read line s).reader x.memory =
      ap (λ (z : State). recalled (row_kept (in_line line s).reader) z.reader x.memory) after
      ∙ elim (ℕ_discrete (line_read line s).reader.marks.stage 1) [
        | yes o ↦ ap (λ (w : Row). recalled w (line_read line s).reader x.memory) (kept_row s at line o)
        | no n ↦ recalled-shut _ (line_read line s).reader x.memory n ∙ sym (recalled-shut row (line_read line s).reader x.memory n)
      ]
      in
      λ i. told (after i) (memory i) x

  -- where a line has begun, closing ends it as a line feed does
  ended_held : (b : ℕ) (rest : List ℕ) → ended_line (held_in (b ∷ rest) x) ≡ line_told (b ∷ rest) x
  unfolding ended_line
  ended_held b rest =
      let line = b ∷ rest in
      let y = held_in line x in
      by-eq (λ (z : Reading). z ≡ line_told line x) y.state.reader.marks.count 0 _ _
      (λ none. sym (byte-still 10 y (part-begun line (omega arith) x.state none)) ∙ feed-held line)
      (λ some. feed-held line)

-- where no line has begun there is none to end
nothing-begun : (x : Reading) → x.state.reader.marks.count ≡ 0 → ended_line x ≡ x
unfolding ended_line
nothing-begun x e = rw (eq-eqb x.state.reader.marks.count 0 e)

one_told : (line : List ℕ) (x : Reading) → x.state.reader.marks.stage ≡ 1 → lines_told (line ∷ []) x ≡ line_told line x
unfolding lines_told
one_told line x o = told-open line [] x o

-- what a text comes to in a line of which some bytes are taken in, once the last line is ended
abbrev ToldAsLines : List ℕ → List ℕ → Reading → Type 0
ToldAsLines text line x = ended_line (next_bytes text (held_in line x)) ≡ lines_told (text_lines (line ++ text)) x

module _ (line : List ℕ) (e : clean line ≡ true) (x : Reading) (at : AtLineStart x.state) where
  tells-end : ToldAsLines [] line x
  unfolding next_bytes lines_told
  tells-end = rw (append-nil, lines_end line e) (last line)
    where
      last : (l : List ℕ) → ended_line (held_in l x) ≡ lines_told (as_line l) x
      last [] = nothing-begun x at.count
      last (b ∷ l) = ended_held x at b l ∙ sym (one_told (b ∷ l) x at.stage)

  tells-feed : (text : List ℕ) → (AtLineStart (line_told line x).state → ToldAsLines text [] (line_told line x)) → ToldAsLines (10 ∷ text) line x
  unfolding next_bytes line_told
  tells-feed text f =
      let after = line_told line x in
      ap (λ (y : Reading). ended_line (next_bytes text y)) (feed-held x at line)
      ∙ elim (ℕ_discrete (line_read line x.state).reader.marks.stage 1) [
        | yes o ↦ f (line-at-line x.state at line e o)
        | no n ↦ ap ended_line (bytes-still text after n) ∙ ended-still after n ∙ sym (told-shut (text_lines text) after n)
      ]
      ∙ sym (told-open line (text_lines text) x at.stage)
      ∙ ap (λ (l : List (List ℕ)). lines_told l x) (sym (lines-feed line text e))

  tells-byte : (b : ℕ) (text : List ℕ) → (b ≡ 10 → ⊥) → ToldAsLines text (line ++ (b ∷ [])) x → ToldAsLines (b ∷ text) line x
  unfolding next_bytes
  tells-byte b text n f =
      ap (λ (y : Reading). ended_line (next_bytes text y)) (byte-held x at b n line)
      ∙ f
      ∙ ap (λ (l : List ℕ). lines_told (text_lines l) x) (append_snoc line b text)

tells : (text line : List ℕ) → clean line ≡ true → (x : Reading) → AtLineStart x.state → ToldAsLines text line x
tells [] line e x at = tells-end line e x at
tells (b ∷ text) line e x at =
    elim (ℕ_discrete b 10) [
      | yes feed ↦
          subst (λ (z : ℕ). ToldAsLines (z ∷ text) line x) (sym feed) (tells-feed line e x at text (λ next. tells text [] clean-none (line_told line x) next))
      | no n ↦ tells-byte line e x at b text n (tells text (line ++ (b ∷ [])) (clean-snoc line b n e) x at)
    ]

pub text-told : (text : List ℕ) (x : Reading) → AtLineStart x.state → ended_line (next_bytes text x) ≡ lines_told (text_lines text) x
text-told text x at = tells text [] clean-none x at

-- ---- the lent lines stay as many

remembered-long : (s : Slots) (e : Entry) (n : ℕ) (m : Memory) → length (remembered s e n m).lines ≡ length m.lines
unfolding remembered
remembered-long s e n m = noted-long n _ (noted n _ m.lines) ∙ noted-long n _ m.lines

recalled-long : (w : Row) (r : Record) (m : Memory) → length (recalled w r m).lines ≡ length m.lines
unfolding recalled
recalled-long Row.Blank r m = refl
recalled-long Row.Title r m = refl
recalled-long Row.PassedOver r m = refl
recalled-long (Row.Refused number) r m = refl
recalled-long (Row.Used e) r m =
    by-eq (λ (z : Memory). length z.lines ≡ length m.lines) r.marks.stage 1 _ _ (λ o. remembered-long r.slots e r.marks.lines m) (λ n. refl)

byte-long : (b : ℕ) (x : Reading) → length (next_byte b x).memory.lines ≡ length x.memory.lines
unfolding next_byte
byte-long b x =
    by-eq (λ (z : Memory). length z.lines ≡ length x.memory.lines) b 10 _ _
    (λ feed. recalled-long (row_kept x.state.reader) (byte_of b x.state).reader x.memory)
    (λ n. refl)

bytes-long : (text : List ℕ) (x : Reading) → length (next_bytes text x).memory.lines ≡ length x.memory.lines
unfolding next_bytes
bytes-long [] x = refl
bytes-long (b ∷ text) x = bytes-long text (next_byte b x) ∙ byte-long b x

-- ---- pieces, and closing

-- an explainer that was fed a text: valid, with all that is lent, and open or stuck
module _ (x : Reading) (fit : Closable x.state) (long : lines_lent ≤ length x.memory.lines) where
  abbrev cells : ℕ
  cells = length x.state.cells

  abbrev flags : ℕ
  flags = min (length x.state.flags) (length x.memory.lines)

  enough : too_short cells flags ≡ false
  unfolding too_short
  enough = let least : 6_400 ≤ flags = omega (arith, long, fit.flags) in rw (le-ltb _ _ fit.cells, le-ltb _ _ least)

  piece-open : (text : List ℕ) → x.state.reader.marks.stage ≡ 1 → (piece_for text x).after ≡ next_bytes text x
  unfolding piece_for barred_at
  piece-open text o =
      let clear : barred_by x.state.reader cells flags ≡ 0 = open-barred x.state.reader cells flags fit.valid o ∙ rw enough in
      rw (eq-eqb (barred_by x.state.reader cells flags) 0 clear)

  piece-stuck : (text : List ℕ) → 3 ≤ x.state.reader.marks.stage → (piece_for text x).after ≡ next_bytes text x
  unfolding piece_for barred_at
  piece-stuck text h =
      let same = stuck-barred x.state.reader cells flags fit.valid h in
      let some : barred_by x.state.reader cells flags ≡ 0 → ⊥ = λ e. omega arith in
      rw (ne_eqb (barred_by x.state.reader cells flags) 0 some) (sym (bytes-still text x (λ o. omega arith)))

  pub piece-told : (text : List ℕ) → (piece_for text x).after ≡ next_bytes text x
  piece-told text = ⊎_elim (λ o. piece-open text o) (λ h. piece-stuck text h) fit.live

  close-clear : close_barred x ≡ 0
  unfolding close_barred
  close-clear =
      let other : barred_by x.state.reader cells flags ≡ 2 → ⊥ =
      λ e.
      ⊎_elim
      (λ o. let z = open-barred x.state.reader cells flags fit.valid o ∙ ap (λ (t : Bool). cond t 1 0) enough in omega arith)
      (λ h. let z = stuck-barred x.state.reader cells flags fit.valid h in omega arith)
      fit.live
      in
      rw (enough, ne_eqb (barred_by x.state.reader cells flags) 2 other)

  pub close-told : close_for x ≡ closed_for (ended_line x)
  unfolding close_for
  close-told = rw (eq-eqb (close_barred x) 0 close-clear)

module _ (x : Reading) (at : AtLineStart x.state) (long : lines_lent ≤ length x.memory.lines) where
  fed-fit : (text : List ℕ) → Closable (next_bytes text x).state
  fed-fit text = subst Closable (sym (bytes-state text x)) (text-closable text x.state at)

  fed-long : (text : List ℕ) → lines_lent ≤ length (next_bytes text x).memory.lines
  fed-long text = omega (arith, long, bytes-long text x)

  pieces-on : (pieces : List (List ℕ)) (text : List ℕ) → pieces_for pieces (next_bytes text x) ≡ next_bytes (text ++ joined pieces) x
  unfolding pieces_for joined
  pieces-on [] text = rw append-nil
  pieces-on (p ∷ ps) text =
      ap (pieces_for ps) (piece-told (next_bytes text x) (fed-fit text) (fed-long text) p ∙ sym (bytes-append text p x))
      ∙ pieces-on ps (text ++ p)
      ∙ ap (λ (l : List ℕ). next_bytes l x) (append_assoc text p (joined ps))

  pub pieces-told : (pieces : List (List ℕ)) → pieces_for pieces x ≡ next_bytes (joined pieces) x
  unfolding next_bytes
  pieces-told pieces = pieces-on pieces []

  -- so closing after pieces is closing after the lines of their text
  pub closing-told : (pieces : List (List ℕ)) → close_for (pieces_for pieces x) ≡ closed_for (lines_told (text_lines (joined pieces)) x)
  closing-told pieces =
      let text = joined pieces in
      ap close_for (pieces-told pieces) ∙ close-told (next_bytes text x) (fed-fit text) (fed-long text) ∙ ap closed_for (text-told text x at)
