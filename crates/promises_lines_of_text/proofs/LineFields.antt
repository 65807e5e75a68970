-- What takes a line apart from left to right finds the fields of the grammar, and of a line put together by the grammar it finds those fields again. Assumes nothing.
use mathlib.Core.Path.{◌≡◌, refl, sym, ap, subst, ◌∙◌}
use mathlib.Core.Bool.{Bool, true, false, cond, ◌&&◌, ◌||◌, true≢false, or-true}
use mathlib.Core.List.{List, [], ◌∷◌, ◌++◌, append_assoc}
use Prim.Native.Nat.{ℕ, ◌≤◌}
use native.Mathlib.Omega.{arith}
use lib.Dec.{leb, eqb}
use lib.ListN.{length}
use borrow.Author.Tests.{leb-true, eqb-true, eqb-false, le-leb, ne_eqb}
use Rattle.row.specs.Told.{Row}
use Rattle.row.specs.Line.{is_blank, is_letter, without_return, ends, before, words, starts_letter}
use Rattle.row.specs.Layout.{wamit_layout}
use Rattle.row.specs.LineRules.{fields_of, LineIs}
use Rattle.row.specs.LineRules.LineIs.{blank, title, breaks-4}
use Rattle.row.proofs.Deciding.{both, by-test}
use Rattle.promises_lines_of_text.specs.LineFields.{Blanks, Solid, FieldBytes, Behind, FieldsBetween, Dropped, LineHas, FieldsExactly}
use Rattle.promises_lines_of_text.specs.LineFields.{OnlyBlanks, BlankExactly, Letter, LetterFirst, TitleExactly, NotNine, FourExactly}
use Rattle.promises_lines_of_text.specs.LineFields.Blanks.{no-blank, space, tab}
use Rattle.promises_lines_of_text.specs.LineFields.Solid.{no_byte, byte}
use Rattle.promises_lines_of_text.specs.LineFields.Behind.{no_more, next}
use Rattle.promises_lines_of_text.specs.LineFields.FieldsBetween.{no_field, some-fields}
use Rattle.promises_lines_of_text.specs.LineFields.Dropped.{one, nothing}
use Rattle.promises_lines_of_text.specs.LineFields.Letter.{upper, lower}

-- ---- a byte

-- a blank put before blanks
blank-on : (b : ℕ) {s : List ℕ} → is_blank b ≡ true → Blanks s → Blanks (b ∷ s)
blank-on b {s} e h = go (eqb b 32) refl e
  where
    go : (t : Bool) → eqb b 32 ≡ t → (t || eqb b 9) ≡ true → Blanks (b ∷ s)
    go true f e = subst (λ (c : ℕ). Blanks (c ∷ s)) (sym (eqb-true b 32 f)) (space h)
    go false f e = subst (λ (c : ℕ). Blanks (c ∷ s)) (sym (eqb-true b 9 e)) (tab h)

-- a byte that is none, before such bytes
solid-on : (b : ℕ) {s : List ℕ} → is_blank b ≡ false → Solid s → Solid (b ∷ s)
solid-on b e h =
    byte (λ z. true≢false (sym (ap is_blank z) ∙ e)) (λ z. true≢false (sym (ap is_blank z) ∙ e)) h

no-blank-is : (b : ℕ) → (b ≡ 32 → ⊥) → (b ≡ 9 → ⊥) → is_blank b ≡ false
no-blank-is b p q = rw (ne_eqb b 32 p, ne_eqb b 9 q)

field-on : (b : ℕ) {w : List ℕ} → is_blank b ≡ false → Solid w → FieldBytes (b ∷ w)
field-on b e h = record { some = omega arith; solid = solid-on b e h }

-- ---- the fields that are found are those of the grammar

-- a text that starts with a field
data Started (text : List ℕ) : List (List ℕ) → Type 0 where
  started : (field rest : List ℕ) {fields : List (List ℕ)} → text ≡ field ++ rest → FieldBytes field → Behind rest fields → Started text (field ∷ fields)

-- what is found from a place on: the line goes on behind a field, or starts with one
record Finds (s : List ℕ) : Type 0 where
  pub behind : ends s ≡ true → Behind s (words s)
  pub starts : ends s ≡ false → Started s (words s)

module _ (b : ℕ) (s : List ℕ) where
  -- a blank more
  behind-blank : is_blank b ≡ true → {fields : List (List ℕ)} → Behind s fields → Behind (b ∷ s) fields
  behind-blank e (no_more h) = no_more (blank-on b e h)
  behind-blank e (next gap field rest whole long h f r) =
      next (b ∷ gap) field rest (ap (λ (l : List ℕ). b ∷ l) whole) (omega arith) (blank-on b e h) f r

  started-blank : is_blank b ≡ true → {fields : List (List ℕ)} → Started s fields → Behind (b ∷ s) fields
  started-blank e (started field rest whole f r) =
      next (b ∷ []) field rest (ap (λ (l : List ℕ). b ∷ l) whole) (omega arith) (blank-on b e no-blank) f r

  -- a byte more of a field
  started-byte : is_blank b ≡ false → {fields : List (List ℕ)} → Started s fields → Started (b ∷ s) (before b fields)
  unfolding before
  started-byte e (started field rest whole f r) =
      started (b ∷ field) rest (ap (λ (l : List ℕ). b ∷ l) whole) (field-on b e f.solid) r

  blank-found : is_blank b ≡ true → Finds s → Behind (b ∷ s) (words s)
  blank-found e f = go (ends s) refl
    where
      go : (t : Bool) → ends s ≡ t → Behind (b ∷ s) (words s)
      go true k = behind-blank e (f.behind k)
      go false k = started-blank e (f.starts k)

  byte-found : is_blank b ≡ false → Finds s → Started (b ∷ s) (cond (ends s) ((b ∷ []) ∷ words s) (before b (words s)))
  byte-found e f =
      by-test (Started (b ∷ s)) (ends s) ((b ∷ []) ∷ words s) (before b (words s))
      (λ k. started (b ∷ []) s refl (field-on b e no_byte) (f.behind k))
      (λ k. started-byte e (f.starts k))

finds : (s : List ℕ) → Finds s
unfolding ends words
finds [] = record { behind = λ _. no_more no-blank; starts = λ e. absurd (true≢false e) }
finds (b ∷ s) =
    let f = finds s in
    go (is_blank b) refl (λ e. blank-found b s e f) (λ e. byte-found b s e f)
  where
    found : Bool → List (List ℕ)
    found t = cond t (words s) (cond (ends s) ((b ∷ []) ∷ words s) (before b (words s)))

    go :
        (t : Bool) → is_blank b ≡ t
        → (is_blank b ≡ true → Behind (b ∷ s) (words s))
        → (is_blank b ≡ false → Started (b ∷ s) (cond (ends s) ((b ∷ []) ∷ words s) (before b (words s))))
        → Finds (b ∷ s)
    go true e f g =
        record {
          behind = λ _. subst (λ (t : Bool). Behind (b ∷ s) (found t)) (sym e) (f e);
          starts = λ k. absurd (true≢false (sym e ∙ k));
        }
    go false e f g =
        record {
          behind = λ k. absurd (true≢false (sym k ∙ e));
          starts = λ _. subst (λ (t : Bool). Started (b ∷ s) (found t)) (sym e) (g e);
        }

behind-between : {s : List ℕ} {fields : List (List ℕ)} → Behind s fields → FieldsBetween s fields
behind-between (no_more h) = no_field h
behind-between (next gap field rest whole long h f r) = some-fields gap field rest whole h f r

started-between : {s : List ℕ} {fields : List (List ℕ)} → Started s fields → FieldsBetween s fields
started-between (started field rest whole f r) = some-fields [] field rest whole no-blank f r

words-between : (s : List ℕ) → FieldsBetween s (words s)
words-between s = go (ends s) refl
  where
    go : (t : Bool) → ends s ≡ t → FieldsBetween s (words s)
    go true e = behind-between ((finds s).behind e)
    go false e = started-between ((finds s).starts e)

-- ---- the fields of the grammar are found

blanks-add : {g : List ℕ} (s : List ℕ) → Blanks g → words (g ++ s) ≡ words s
unfolding words
blanks-add s no-blank = refl
blanks-add s (space h) = blanks-add s h
blanks-add s (tab h) = blanks-add s h

blanks-end : {g : List ℕ} (s : List ℕ) → 1 ≤ length g → Blanks g → ends (g ++ s) ≡ true
unfolding ends
blanks-end s h no-blank = absurd (omega arith)
blanks-end s h (space g) = refl
blanks-end s h (tab g) = refl

behind-ends : {s : List ℕ} {fields : List (List ℕ)} → Behind s fields → ends s ≡ true
unfolding ends
behind-ends (no_more no-blank) = refl
behind-ends (no_more (space h)) = refl
behind-ends (no_more (tab h)) = refl
behind-ends (next gap field rest whole long h f r) = ap ends whole ∙ blanks-end (field ++ rest) long h

field_found : (b : ℕ) (w s : List ℕ) → is_blank b ≡ false → Solid w → ends s ≡ true → words (b ∷ (w ++ s)) ≡ (b ∷ w) ∷ words s
unfolding words ends before
field_found b [] s e h k = rw (e, k)
field_found b (c ∷ w) s e (byte p q h) k =
    let n = no-blank-is c p q in
    let on = field_found c w s n h k in
    rw (e, n) (ap (before b) (rw (n) at on))

words-blanks : {g : List ℕ} → Blanks g → words g ≡ []
unfolding words
words-blanks no-blank = refl
words-blanks (space h) = words-blanks h
words-blanks (tab h) = words-blanks h

some-field : {w : List ℕ} (s : List ℕ) → FieldBytes w → ends s ≡ true → words (w ++ s) ≡ w ∷ words s
some-field {w} s f k = go w f.some f.solid
  where
    go : (w : List ℕ) → 1 ≤ length w → Solid w → words (w ++ s) ≡ w ∷ words s
    go [] h solid = absurd (omega arith)
    go (b ∷ w) h (byte p q solid) = field_found b w s (no-blank-is b p q) solid k

behind-words : {s : List ℕ} {fields : List (List ℕ)} → Behind s fields → words s ≡ fields
unfolding words
behind-words (no_more h) = words-blanks h
behind-words (next gap field rest whole long h f r) =
    ap words whole ∙ blanks-add (field ++ rest) h ∙ some-field rest f (behind-ends r) ∙ ap (λ (l : List (List ℕ)). field ∷ l) (behind-words r)

between-words : {s : List ℕ} {fields : List (List ℕ)} → FieldsBetween s fields → words s ≡ fields
between-words (no_field h) = words-blanks h
between-words (some-fields front field rest whole h f r) =
    ap words whole ∙ blanks-add (field ++ rest) h ∙ some-field rest f (behind-ends r) ∙ ap (λ (l : List (List ℕ)). field ∷ l) (behind-words r)

-- ---- the line's end

-- a byte more before it
dropped-on : (b c : ℕ) (s left : List ℕ) → Dropped (c ∷ s) left → Dropped (b ∷ c ∷ s) (b ∷ left)
dropped-on b c s left (one e) = one (ap (λ (l : List ℕ). b ∷ l) e)
dropped-on b c s left (nothing e n) = nothing (ap (λ (l : List ℕ). b ∷ l) e) go
  where
    go : (front : List ℕ) → b ∷ c ∷ s ≡ front ++ (13 ∷ []) → ⊥
    go [] e = let z : ◌≡◌ {A = ℕ} 0 1 = cc in omega arith
    go (d ∷ front) e = n front (cc)

dropped-of : (line : List ℕ) → Dropped line (without_return line)
unfolding without_return
dropped-of [] = nothing refl go
  where
    go : (front : List ℕ) → [] ≡ front ++ (13 ∷ []) → ⊥
    go [] e = let z : ◌≡◌ {A = ℕ} 0 1 = cc in omega arith
    go (d ∷ front) e = let z : ◌≡◌ {A = ℕ} 0 1 = cc in omega arith
dropped-of (b ∷ []) =
    by-test (Dropped (b ∷ [])) (eqb b 13) [] (b ∷ [])
    (λ e. one (ap (λ (d : ℕ). d ∷ []) (eqb-true b 13 e)))
    (λ e. nothing refl (go (eqb-false b 13 e)))
  where
    go : (b ≡ 13 → ⊥) → (front : List ℕ) → b ∷ [] ≡ front ++ (13 ∷ []) → ⊥
    go n [] e = n (cc)
    go n (d ∷ []) e = let z : ◌≡◌ {A = ℕ} 0 1 = cc in omega arith
    go n (d ∷ f ∷ front) e = let z : ◌≡◌ {A = ℕ} 0 1 = cc in omega arith
dropped-of (b ∷ c ∷ s) = dropped-on b c s (without_return (c ∷ s)) (dropped-of (c ∷ s))

return-drops : (left : List ℕ) → without_return (left ++ (13 ∷ [])) ≡ left
unfolding without_return
return-drops [] = refl
return-drops (b ∷ []) = refl
return-drops (b ∷ c ∷ left) = ap (λ (l : List ℕ). b ∷ l) (return-drops (c ∷ left))

-- of a line there is one that is left
dropped-is : {line left : List ℕ} → Dropped line left → without_return line ≡ left
dropped-is {left = left} (one e) = ap without_return e ∙ return-drops left
dropped-is {line} (nothing e n) = go (dropped-of line) ∙ e
  where
    go : Dropped line (without_return line) → without_return line ≡ line
    go (one f) = absurd (n (without_return line) f)
    go (nothing f m) = sym f

-- ---- the fields

line-has : (line : List ℕ) → LineHas line (fields_of line)
line-has line = record { left = without_return line; dropped = dropped-of line; between = words-between (without_return line) }

has-line : {line : List ℕ} {fields : List (List ℕ)} → LineHas line fields → fields_of line ≡ fields
has-line h = ap words (dropped-is h.dropped) ∙ between-words h.between

pub fields-exactly : FieldsExactly
fields-exactly line fields = (λ e. subst (LineHas line) e (line-has line), has-line)

-- ---- blank lines

no_words : {s : List ℕ} {fields : List (List ℕ)} → FieldsBetween s fields → fields ≡ [] → Blanks s
no_words (no_field h) e = h
no_words (some-fields front field rest whole h f r) e = let z : ◌≡◌ {A = ℕ} 0 1 = cc in absurd (omega arith)

only-blanks : (line : List ℕ) → fields_of line ≡ [] → OnlyBlanks line
only-blanks line e =
    record { left = without_return line; dropped = dropped-of line; blanks = no_words (words-between (without_return line)) e }

blanks-only : {line : List ℕ} → OnlyBlanks line → fields_of line ≡ []
blanks-only h = ap words (dropped-is h.dropped) ∙ words-blanks h.blanks

pub blank-exactly : BlankExactly
blank-exactly c first line = (go, λ h. blank (blanks-only h))
  where
    go : LineIs c first line Row.Blank → OnlyBlanks line
    go (blank e) = only-blanks line e

-- ---- titles

letter-is : {b : ℕ} → Letter b → is_letter b ≡ true
letter-is {b} (upper low high) = rw (le-leb 65 b low, le-leb b 90 high)
letter-is {b} (lower low high) = rw (le-leb 97 b low, le-leb b 122 high) (or-true (leb 65 b && leb b 90))

is-letter : (b : ℕ) → is_letter b ≡ true → Letter b
is-letter b = go (leb 65 b && leb b 90) refl
  where
    go : (t : Bool) → (leb 65 b && leb b 90) ≡ t → (t || (leb 97 b && leb b 122)) ≡ true → Letter b
    go true e h = let f = both (leb 65 b) (leb b 90) e in upper (leb-true 65 b f.0) (leb-true b 90 f.1)
    go false e h = let f = both (leb 97 b) (leb b 122) h in lower (leb-true 97 b f.0) (leb-true b 122 f.1)

letter-above : {b : ℕ} → Letter b → 65 ≤ b
letter-above (upper low high) = low
letter-above (lower low high) = omega arith

-- the first field of the grammar starts with the line's first byte after blanks
letter-found : {s : List ℕ} {fields : List (List ℕ)} → FieldsBetween s fields → starts_letter fields ≡ true → LetterFirst s
unfolding starts_letter
letter-found (no_field h) e = absurd (true≢false (sym e))
letter-found (some-fields front [] rest whole h f r) e = absurd (true≢false (sym e))
letter-found (some-fields front (b ∷ w) rest whole h f r) e =
    record { front = front; b = b; rest = w ++ rest; whole = whole; blanks = h; letter = is-letter b e }

-- a 13 behind it changes nothing
letter-line : {line left : List ℕ} → Dropped line left → LetterFirst left → LetterFirst line
letter-line (one e) l =
    record {
      front = l.front;
      b = l.b;
      rest = l.rest ++ (13 ∷ []);
      whole = e ∙ ap (λ (s : List ℕ). s ++ (13 ∷ [])) l.whole ∙ append_assoc l.front (l.b ∷ l.rest) (13 ∷ []);
      blanks = l.blanks;
      letter = l.letter;
    }
letter-line (nothing e n) l = record { front = l.front; b = l.b; rest = l.rest; whole = e ∙ l.whole; blanks = l.blanks; letter = l.letter }

front-stays : (front : List ℕ) (b : ℕ) (rest : List ℕ) → without_return (front ++ (b ∷ rest)) ≡ front ++ without_return (b ∷ rest)
unfolding without_return
front-stays [] b rest = refl
front-stays (a ∷ []) b rest = refl
front-stays (a ∷ c ∷ front) b rest = ap (λ (l : List ℕ). a ∷ l) (front-stays (c ∷ front) b rest)

byte-stays : (b : ℕ) (rest : List ℕ) → (b ≡ 13 → ⊥) → (r : List ℕ) × (without_return (b ∷ rest) ≡ b ∷ r)
unfolding without_return
byte-stays b [] n = ([], rw (ne_eqb b 13 n))
byte-stays b (c ∷ rest) n = (without_return (c ∷ rest), refl)

before-starts : (b : ℕ) (ws : List (List ℕ)) → starts_letter (before b ws) ≡ is_letter b
unfolding starts_letter before
before-starts b [] = refl
before-starts b (w ∷ ws) = refl

starts-byte : (b : ℕ) (s : List ℕ) → is_blank b ≡ false → starts_letter (words (b ∷ s)) ≡ is_letter b
unfolding words starts_letter
starts-byte b s e =
    rw e
    (by-test (λ (ws : List (List ℕ)). starts_letter ws ≡ is_letter b) (ends s) ((b ∷ []) ∷ words s) (before b (words s)) (λ _. refl) (λ _. before-starts b (words s)))

letter-starts : {line : List ℕ} → LetterFirst line → starts_letter (fields_of line) ≡ true
letter-starts l =
    let low = letter-above l.letter in
    let b = l.b in
    let stays = byte-stays b l.rest (λ e. omega arith) in
    let left = ap without_return l.whole ∙ front-stays l.front b l.rest ∙ ap (λ (s : List ℕ). l.front ++ s) stays.1 in
    ap (λ (s : List ℕ). starts_letter (words s)) left
    ∙ ap starts_letter (blanks-add (b ∷ stays.0) l.blanks)
    ∙ starts-byte b stays.0 (no-blank-is b (λ e. omega arith) (λ e. omega arith))
    ∙ letter-is l.letter

starts-letter : (line : List ℕ) → starts_letter (fields_of line) ≡ true → LetterFirst line
starts-letter line e = letter-line (dropped-of line) (letter-found (words-between (without_return line)) e)

pub title-exactly : TitleExactly
title-exactly c first line = (go, λ h. title h.0 (letter-starts h.1))
  where
    go : LineIs c first line Row.Title → (first ≡ true) × LetterFirst line
    go (title f e) = (f, starts-letter line e)

-- ---- 4

pub four-exactly : FourExactly
unfolding wamit_layout
four-exactly c first line = (go, back)
  where
    go : LineIs c first line (Row.Refused 4) → NotNine first line
    go (breaks-4 row n) =
        record {
          not-blank = λ h. row.some (blanks-only h);
          no-title = λ f l. row.no-title f (letter-starts l);
          not-nine = λ fields h e. n (ap length (has-line h) ∙ e);
        }

    back : NotNine first line → LineIs c first line (Row.Refused 4)
    back n =
        breaks-4 (record { some = λ e. n.not-blank (only-blanks line e); no-title = λ f e. n.no-title f (starts-letter line e) })
        (λ e. n.not-nine (fields_of line) (line-has line) e)
