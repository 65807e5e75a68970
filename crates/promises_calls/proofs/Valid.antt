-- A valid record stays valid through a piece and through closing. `Valid` says what the test of a record says, field by field. Assumes nothing.
use mathlib.Core.Path.{◌≡◌, refl}
use mathlib.Core.Bool.{Bool, true, not, ◌&&◌}
use mathlib.Core.List.{List, [], ◌∷◌}
use Prim.Native.Nat.{ℕ, zero, suc, ◌≤◌, zero-le}
use native.Mathlib.Numerals.{add-one}
use native.Mathlib.Omega.{arith}
use lib.Dec.{leb, eqb}
use lib.ListN.{length, take, set}
use borrow.Author.Tests.{ltb-true, leb-true, eqb-true, eqb-false, not-true, lt-ltb, le-leb, lt-leb, eq-eqb, ne_eqb}
use Rattle.row.proofs.Used.{used-is}
use Rattle.row.proofs.Deciding.{both}
use Rattle.grid.specs.declared.nodes.Slots.{Slots}
use Rattle.grid.specs.declared.nodes.Pair.{Pair}
use Rattle.reader.specs.declared.record.Record.{Record}
use Rattle.grid.specs.Slots.{held_ticks, held_headings}
use Rattle.reader.specs.Valid.{valid_choices, sticks, valid_stage, clean, valid_line, valid_of}
use Rattle.grid.specs.Valid.{valid_ticks, valid_headings, valid_presence, valid_slots}
use Rattle.table.specs.Placing.{written}
use Rattle.reader.specs.declared.record.Marks.{Marks}
use Rattle.reader.specs.Model.{with_marks, State, closed_with, stuck_at, begun, keeping, passed}
use Rattle.reader.proofs.Kept.{by-eq}
use Rattle.promises_calls.specs.Kept.{Shaped, PieceValid, CloseValid}
use Rattle.reader.proofs.Valid.{stuck-least}
use Rattle.promises_calls.proofs.Slotted.{Slotted, Long, grown-some, grown-slotted}
use Rattle.promises_calls.proofs.LineNumbers.{line-told, sticks-by-order, line-sticks}
use Rattle.promises_calls.proofs.Moves.{Keeps, piece-keeps-all, KeptByClosing, close-keeps-all}
use Rattle.promises_calls.proofs.Kept.{shaped-keeps, shaped-closes}

pub record Valid (r : Record) : Type 0 where
  pub stage : valid_stage r.marks.stage ≡ true
  pub lines : r.marks.lines ≤ 1_000_000
  pub choices : valid_choices r.choices ≡ true
  pub slots : Slotted r.slots
  pub accepted : r.marks.stage ≡ 2 → length (held_ticks r.slots.ticks) ≡ 0 → ⊥
  pub count : r.marks.count ≤ 160
  pub no-feed : clean (take r.marks.count r.kept) ≡ true

-- ---- from the test to what it says, and back

record Present (stage : ℕ) (s : Slots) : Type 0 where
  pub no-heading : s.held ≡ 0 → length (held_ticks s.ticks) ≡ 0
  pub no-tick : length (held_ticks s.ticks) ≡ 0 → s.held ≡ 0
  pub accepted : stage ≡ 2 → length (held_ticks s.ticks) ≡ 0 → ⊥

module _ (stage : ℕ) (s : Slots) where
  present-is : valid_presence stage s ≡ true → Present stage s
  unfolding valid_presence
  present-is =
      by-eq (λ (t : Bool). t ≡ true → Present stage s) (length (held_ticks s.ticks)) 0 _ _
      (λ none e.
      let h = both (eqb s.held 0) (not (eqb stage 2)) e in
      let held = eqb-true s.held 0 h.0 in
      let other = eqb-false stage 2 (not-true (eqb stage 2) h.1) in
      record { no-heading = λ _. none; no-tick = λ _. held; accepted = λ two _. other two })
      (λ some e.
      let held = ltb-true 0 s.held e in
      record { no-heading = λ z. absurd (omega arith); no-tick = λ z. absurd (some z); accepted = λ _ z. some z })

  is-present : Present stage s → valid_presence stage s ≡ true
  unfolding valid_presence
  is-present p =
      by-eq (λ (t : Bool). t ≡ true) (length (held_ticks s.ticks)) 0 _ _
      (λ none. rw (eq-eqb s.held 0 (p.no-tick none), ne_eqb stage 2 (λ two. p.accepted two none)))
      (λ some. let held : s.held ≡ 0 → ⊥ = λ z. some (p.no-heading z) in lt-ltb 0 s.held (omega arith))

pub valid-is : (r : Record) → valid_of r ≡ true → Valid r
unfolding valid_of valid_slots valid_line
valid-is r e =
    let kept = clean (take r.marks.count r.kept) in
    let line = leb r.marks.count 160 && kept in
    let presence = valid_presence r.marks.stage r.slots in
    let headings = valid_headings (held_headings r.slots) in
    let ticks = valid_ticks r.slots.ticks in
    let slots = leb r.slots.held 4 && (ticks && (headings && presence)) in
    let choices = valid_choices r.choices in
    let h₁ = both (valid_stage r.marks.stage) (leb r.marks.lines 1_000_000 && (choices && (slots && line))) e in
    let h₂ = both (leb r.marks.lines 1_000_000) (choices && (slots && line)) h₁.1 in
    let h₃ = both choices (slots && line) h₂.1 in
    let h₄ = both slots line h₃.1 in
    let h₅ = both (leb r.slots.held 4) (ticks && (headings && presence)) h₄.0 in
    let h₆ = both ticks (headings && presence) h₅.1 in
    let h₇ = both headings presence h₆.1 in
    let h₈ = both (leb r.marks.count 160) kept h₄.1 in
    let p = present-is r.marks.stage r.slots h₇.1 in
    record {
      stage = h₁.0;
      lines = leb-true r.marks.lines 1_000_000 h₂.0;
      choices = h₃.0;
      slots =
          record {
            held = leb-true r.slots.held 4 h₅.0;
            ticks = h₆.0;
            headings = h₇.0;
            no-heading = p.no-heading;
            no-tick = p.no-tick;
          };
      accepted = p.accepted;
      count = leb-true r.marks.count 160 h₈.0;
      no-feed = h₈.1;
    }

pub is-valid : (r : Record) → Valid r → valid_of r ≡ true
unfolding valid_of valid_slots valid_line
is-valid r v =
    let s = v.slots in
    let presence : valid_presence r.marks.stage r.slots ≡ true =
    is-present r.marks.stage r.slots (record { no-heading = s.no-heading; no-tick = s.no-tick; accepted = v.accepted })
    in
    rw (
      v.stage,
      le-leb r.marks.lines 1_000_000 v.lines,
      v.choices,
      le-leb r.slots.held 4 s.held,
      s.ticks,
      s.headings,
      presence,
      le-leb r.marks.count 160 v.count,
    )
    v.no-feed

-- ---- the moves

-- a byte that is no line feed goes behind bytes that have none
clean-more : (l : List ℕ) (n b : ℕ) → (b ≡ 10 → ⊥) → clean (take n l) ≡ true → clean (take (suc n) (set l n b)) ≡ true
unfolding clean
clean-more [] n b h e = refl
clean-more (x ∷ l) zero b h e = rw (ne_eqb b 10 h)
clean-more (x ∷ l) (suc n) b h e =
    let f = both (not (eqb x 10)) (clean (take n l)) e in rw f.0 (clean-more l n b h f.1)

-- a number that sticks is the stage of a record
stuck-stage : (number : ℕ) → sticks number ≡ true → valid_stage number ≡ true
unfolding valid_stage
stuck-stage number e = rw (lt-leb number 2 (stuck-least number e)) e

-- other marks and other bytes kept
marked-valid :
    (s : State) (m : Marks) (kept : List ℕ) → Valid s.reader → valid_stage m.stage ≡ true → (m.stage ≡ 2 → s.reader.marks.stage ≡ 2)
    → m.lines ≤ 1_000_000
    → m.count ≤ 160
    → clean (take m.count kept) ≡ true
    → Valid (with_marks m kept s).reader
marked-valid s m kept v stage two lines count no-feed =
    record {
      stage = stage;
      lines = lines;
      choices = v.choices;
      slots = v.slots;
      accepted = λ e none. v.accepted (two e) none;
      count = count;
      no-feed = no-feed;
    }

pub record Sound (s : State) : Type 0 where
  pub shaped : Shaped s.reader
  pub valid : Valid s.reader

pub sound-keeps : Keeps Sound
unfolding stuck_at begun keeping passed written clean
sound-keeps =
    record {
      stuck = λ number line s of-line b.
          let v = b.valid in
          let told = line-told of-line in
          record {
            shaped = shaped-keeps.stuck number line s of-line b.shaped;
            valid = marked-valid s _ _ v (stuck-stage number (line-sticks of-line)) (λ two. absurd (omega (arith, told.least))) v.lines v.count v.no-feed;
          };
      line-begun = λ s more b.
          let v = b.valid in
          record {
            shaped = shaped-keeps.line-begun s more b.shaped;
            valid = marked-valid s _ _ v v.stage (λ two. two) (omega (arith, v.lines)) v.count v.no-feed;
          };
      byte-kept = λ x s other room b.
          let v = b.valid in
          record {
            shaped = shaped-keeps.byte-kept x s other room b.shaped;
            valid =
                marked-valid s _ _ v v.stage (λ two. two) v.lines (omega (arith, v.count))
                (rw add-one (clean-more s.reader.kept s.reader.marks.count x other v.no-feed));
          };
      line-passed = λ s b.
          let v = b.valid in
          record {
            shaped = shaped-keeps.line-passed s b.shaped;
            valid = marked-valid s _ _ v v.stage (λ two. two) v.lines zero-le refl;
          };
      row-used = λ e s row f b.
          let v = b.valid in
          let long : Long s.reader.slots = (b.shaped.ticks, b.shaped.headings) in
          let u = used-is s.reader.choices _ _ row in
          record {
            shaped = shaped-keeps.row-used e s row f b.shaped;
            valid =
                record {
                  stage = v.stage;
                  lines = v.lines;
                  choices = v.choices;
                  slots = grown-slotted s.reader.slots e long s.reader.choices u f.room v.slots;
                  accepted = λ two none. omega (arith, grown-some s.reader.slots e long s.reader.choices u f.room);
                  count = zero-le;
                  no-feed = refl;
                };
          };
    }

-- ---- closing

-- another stage and pair, and nothing kept
closed-valid :
    (s : State) (stage : ℕ) (pair : Pair) → Valid s.reader → valid_stage stage ≡ true
    → (stage ≡ 2 → length (held_ticks s.reader.slots.ticks) ≡ 0 → ⊥)
    → Valid (closed_with stage pair s).reader
unfolding clean
closed-valid s stage pair v low some =
    record {
      stage = low;
      lines = v.lines;
      choices = v.choices;
      slots = v.slots;
      accepted = some;
      count = zero-le;
      no-feed = refl;
    }

accepted-stage : valid_stage 2 ≡ true
unfolding valid_stage sticks
accepted-stage = refl

pub sound-closes : KeptByClosing Sound
sound-closes =
    record {
      refused = λ stage pair s low high b.
          record {
            shaped = shaped-closes.refused stage pair s low high b.shaped;
            valid = closed-valid s stage pair b.valid (stuck-stage stage (sticks-by-order stage (omega arith) high)) (λ two none. omega arith);
          };
      accepted = λ s some b.
          record {
            shaped = shaped-closes.accepted s some b.shaped;
            valid = closed-valid s 2 s.reader.pair b.valid accepted-stage (λ two none. some none);
          };
    }

pub sound-is : (s : State) → Shaped s.reader → valid_of s.reader ≡ true → Sound s
sound-is s b e = record { shaped = b; valid = valid-is s.reader e }

pub piece-valid : PieceValid
piece-valid text s b e = is-valid _ (piece-keeps-all Sound sound-keeps text s (sound-is s b e)).valid

pub close-valid : CloseValid
close-valid s b e = is-valid _ (close-keeps-all sound-closes sound-keeps s (sound-is s b e)).valid
