-- The first line whose row does something, as lines are read one after the other. Assumes nothing.
use mathlib.Core.Path.{◌≡◌, refl, sym, ap, subst, ◌∙◌}
use mathlib.Core.Logic.{⊎_elim}
use mathlib.Core.List.Memᴰ
use mathlib.Core.List.{List, [], ◌∷◌, ◌++◌, append_assoc, Memᴰ}
use Prim.Native.Nat.{ℕ, suc, ◌+◌}
use native.Mathlib.Omega.{arith}
use lib.Dec.{eqb}
use lib.IntN.{ℤ}
use lib.ListN.{length, length-append}
use Rattle.row.specs.declared.reading.Choices.{Choices}
use Rattle.row.specs.declared.reading.Entry.{Entry}
use Rattle.row.specs.Told.{Row}
use Rattle.row.specs.LineRules.{LineIs}
use Rattle.promises_rows.specs.Said.{ticks_said, headings_said}
use Rattle.promises_texts.specs.Accepted.{Brings, Reads}
use Rattle.promises_texts.specs.Accepted.Brings.{nothing, a-row}
use Rattle.promises_texts.specs.Accepted.Reads.{end, then}
use Rattle.promises_explained.specs.Explained.{UsedAfter, FirstLine, BringsTick, BringsHeading, FirstLineAmong, FirstLineOne}
use Rattle.promises_rows.proofs.Said.{row-two}
use Rattle.promises_texts.proofs.Verdicts.{row_one, used-one, silent-not-used, Compared, same_place, sooner, later, compared}

-- ---- used lines and the rows that they bring

module _ {c : Choices} where
  brought : {n : ℕ} {line : List ℕ} {more : List Entry} {e : Entry} → Brings c n line more → LineIs c (eqb n 0) line (Row.Used e) → Memᴰ e more
  brought (nothing limits l silent) u = absurd (silent-not-used silent (row_one l u))
  brought (a-row limits l) u = Memᴰ.head (used-one (row_one u l))

  -- each used line's row is among those that the lines bring
  pub used-read :
      {n : ℕ} {lines : List (List ℕ)} {rows : List Entry} → Reads c n lines rows → (b : List (List ℕ)) (l : List ℕ) (a : List (List ℕ)) (e : Entry)
      → lines ≡ b ++ (l ∷ a)
      → LineIs c (eqb (n + length b) 0) l (Row.Used e)
      → Memᴰ e rows
  used-read end [] l a e p u = let w : ◌≡◌ {A = ℕ} 0 1 = cc in absurd (omega arith)
  used-read end (x ∷ b) l a e p u = let w : ◌≡◌ {A = ℕ} 0 1 = cc in absurd (omega arith)
  used-read {n} (then {line = line} {rows = rows} d r) [] l a e p u =
      let same : l ≡ line = cc in
      let count : n + 0 ≡ n = omega arith in
      let here : LineIs c (eqb n 0) line (Row.Used e) =
      subst (λ (z : List ℕ). LineIs c (eqb n 0) z (Row.Used e)) same (subst (λ (k : ℕ). LineIs c (eqb k 0) l (Row.Used e)) count u)
      in
      Memᴰ.append_left rows (brought d here)
  used-read {n} (then {lines = lines} {more = more} d r) (x ∷ b) l a e p u =
      let rest : lines ≡ b ++ (l ∷ a) = cc in
      let count : n + suc (length b) ≡ suc n + length b = omega arith in
      Memᴰ.append_right more (used-read r b l a e rest (subst (λ (k : ℕ). LineIs c (eqb k 0) l (Row.Used e)) count u))

-- ---- what a row brings is said

pub brings-tick-said : {e : Entry} {rows : List Entry} {t : ℕ} → Memᴰ e rows → BringsTick t e → Memᴰ t (ticks_said rows)
brings-tick-said {rows = rows} m =
    let k = row-two (λ x. x.tick1) (λ x. x.tick2) m in
    ⊎_elim (λ p. subst (λ (z : ℕ). Memᴰ z (ticks_said rows)) p k.0) (λ p. subst (λ (z : ℕ). Memᴰ z (ticks_said rows)) p k.1)

pub brings-heading-said : {e : Entry} {rows : List Entry} {h : ℤ} → Memᴰ e rows → BringsHeading h e → Memᴰ h (headings_said rows)
brings-heading-said {rows = rows} m =
    let k = row-two (λ x. x.heading1) (λ x. x.heading2) m in
    ⊎_elim (λ p. subst (λ (z : ℤ). Memᴰ z (headings_said rows)) p k.0) (λ p. subst (λ (z : ℤ). Memᴰ z (headings_said rows)) p k.1)

-- ---- the first line

module _ {c : Choices} {Does : Entry → Type 0} where
  -- no line behind changes it
  pub first_more : {lines : List (List ℕ)} {n : ℕ} (more : List (List ℕ)) → FirstLine c lines Does n → FirstLine c (lines ++ more) Does n
  first_more more f =
      record {
        before = f.before;
        line = f.line;
        after = f.after ++ more;
        there = ap (λ (l : List (List ℕ)). l ++ more) f.there ∙ append_assoc f.before (f.line ∷ f.after) more;
        counted = f.counted;
        row = f.row;
        used = f.used;
        does = f.does;
        first = f.first;
      }

  -- a line does it, and no row before
  pub first-here :
      {before : List (List ℕ)} {rows : List Entry} (line : List ℕ) {e : Entry} → Reads c 0 before rows → UsedAfter c before line e → Does e
      → ((d : Entry) → Memᴰ d rows → Does d → ⊥)
      → FirstLine c (before ++ (line ∷ [])) Does (length before + 1)
  first-here {before} line {e} r u does none =
      record {
        before = before;
        line = line;
        after = [];
        there = refl;
        counted = refl;
        row = e;
        used = u;
        does = does;
        first =
            λ b l a d p w.
            let count : length b ≡ 0 + length b = omega arith in none d (used-read r b l a d p (subst (λ (k : ℕ). LineIs c (eqb k 0) l (Row.Used d)) count w));
      }

  pub first_some : {lines : List (List ℕ)} {n : ℕ} → FirstLine c lines Does n → n ≡ 0 → ⊥
  first_some f z = omega (arith, f.counted)

pub first-line-among : FirstLineAmong
first-line-among c lines Does number f =
    let whole = ap length f.there ∙ length-append f.before (f.line ∷ f.after) in (omega (arith, f.counted), omega (arith, f.counted, whole))

module _ {c : Choices} {lines : List (List ℕ)} {Does : Entry → Type 0} {m n : ℕ} (f : FirstLine c lines Does m) (g : FirstLine c lines Does n) where
  -- the two stand at one place
  pub one_place : Compared f.before g.before f.line g.line → (f.before ≡ g.before) × (f.line ≡ g.line)
  one_place (same_place p q) = (p, q)
  one_place (sooner rest p) = absurd (g.first f.before f.line rest f.row p f.used f.does)
  one_place (later rest p) = absurd (f.first g.before g.line rest g.row p g.used g.does)

  pub one_line : (f.before ≡ g.before) × (f.line ≡ g.line)
  one_line = one_place (compared f.before g.before f.after g.after (sym f.there ∙ g.there))

  pub one_number : m ≡ n
  one_number = f.counted ∙ ap (λ (b : List (List ℕ)). length b + 1) one_line.0 ∙ sym g.counted

  -- so they have one row
  pub one-row : f.row ≡ g.row
  one-row =
      let p = one_line in
      used-one (row_one f.used (subst (λ (b : List (List ℕ)). UsedAfter c b f.line g.row) (sym p.0) (subst (λ (l : List ℕ). UsedAfter c g.before l g.row) (sym p.1) g.used)))

pub first-line-one : FirstLineOne
first-line-one c lines Does m n f g = one_number f g
