-- The rules leave one answer to a text: a line brings its rows or breaks one number, lines that are read bring one list of rows, and the first line that breaks a rule is one.
-- Assumes nothing.
use mathlib.Core.Path.{◌≡◌, refl, sym, ap, subst, ◌∙◌}
use mathlib.Core.Bool.{Bool}
use mathlib.Core.List.{List, [], ◌∷◌, ◌++◌, append_assoc, append-nil}
use Prim.Native.Nat.{ℕ, suc, ◌+◌, ◌<◌}
use native.Mathlib.Omega.{arith}
use lib.Dec.{eqb, lit≤}
use lib.ListN.{length}
use Rattle.row.specs.declared.reading.Choices.{Choices}
use Rattle.row.specs.declared.reading.Entry.{Entry}
use Rattle.row.specs.Told.{Row}
use Rattle.row.specs.LineRules.{LineIs}
use Rattle.row.proofs.LineRules.{line_gives}
use Rattle.row.proofs.Used.{refused-is}
use Rattle.table.specs.declared.closing.Closed.{Closed}
use Rattle.reader.specs.declared.reader.Place.TheVariants as Place
use Rattle.reader.specs.declared.reader.Answer.{Answer}
use Rattle.promises_calls.specs.Answers.{OfLine}
use Rattle.promises_calls.specs.Lines.{text_lines}
use Rattle.promises_tables.specs.Rules.{RowNumber, RowRules}
use Rattle.promises_tables.specs.Rules.RowNumber.{eight, nine, none}
use Rattle.promises_tables.specs.Closing.{Closes}
use Rattle.promises_texts.specs.Start.{Start, from_opening}
use Rattle.promises_texts.specs.Accepted.{
  Limits,
  OverLimits,
  Silent,
  Brings,
  Breaks,
  Reads,
  ReadsFrom,
  RulesFrom,
  BreaksFrom,
  line_after,
  LinesFromOne,
  VerdictFrom,
  PieceVerdictFrom,
  VerdictFromOne,
  PieceFromOne,
  VerdictOne,
  PieceOne,
}
use Rattle.promises_texts.specs.Accepted.Silent.{blank, title, passed_over}
use Rattle.promises_texts.specs.Accepted.Brings.{nothing, a-row}
use Rattle.promises_texts.specs.Accepted.OverLimits.{past-lines, too_long}
use Rattle.promises_texts.specs.Accepted.Breaks.{over-limits, by_itself, against-rows}
use Rattle.promises_texts.specs.Accepted.Reads.{end, then}
use Rattle.promises_texts.specs.Accepted.VerdictFrom.{refused, no_row, lacks, accepted}
use Rattle.promises_calls.proofs.LineNumbers.{row_line}
use Rattle.promises_tables.proofs.Placed.{open-holds, row-rules, row-number-one}
use Rattle.promises_tables.proofs.Rules.{not-refused}
use Rattle.promises_tables.proofs.Closing.{closes-one}

-- ---- a line

-- a line comes to one row
pub row_one : {c : Choices} {first : Bool} {line : List ℕ} {r t : Row} → LineIs c first line r → LineIs c first line t → r ≡ t
row_one {c} {first} {line} a b = sym (line_gives c first line a) ∙ line_gives c first line b

pub used-one : {d e : Entry} → Row.Used d ≡ Row.Used e → d ≡ e
used-one p = cc

pub number-one : {m n : ℕ} → Row.Refused m ≡ Row.Refused n → m ≡ n
number-one p = cc

pub used-not-refused : {e : Entry} {n : ℕ} → Row.Used e ≡ Row.Refused n → ⊥
used-not-refused p = let w : ◌≡◌ {A = ℕ} 0 1 = cc in omega arith

pub silent-not-used : {r : Row} {e : Entry} → Silent r → r ≡ Row.Used e → ⊥
silent-not-used blank p = let w : ◌≡◌ {A = ℕ} 0 1 = cc in omega arith
silent-not-used title p = let w : ◌≡◌ {A = ℕ} 0 1 = cc in omega arith
silent-not-used passed_over p = let w : ◌≡◌ {A = ℕ} 0 1 = cc in omega arith

pub silent-not-refused : {r : Row} {n : ℕ} → Silent r → r ≡ Row.Refused n → ⊥
silent-not-refused blank p = let w : ◌≡◌ {A = ℕ} 0 1 = cc in omega arith
silent-not-refused title p = let w : ◌≡◌ {A = ℕ} 0 1 = cc in omega arith
silent-not-refused passed_over p = let w : ◌≡◌ {A = ℕ} 0 1 = cc in omega arith

pub not-over : {n : ℕ} {line : List ℕ} → Limits n line → OverLimits n line → ⊥
not-over l (past-lines e) = omega (arith, l.few)
not-over l (too_long h) = omega (arith, l.short)

module _ {c : Choices} {n : ℕ} {line : List ℕ} where
  pub brings-one : {more some : List Entry} → Brings c n line more → Brings c n line some → more ≡ some
  brings-one (nothing l a s) (nothing k b t) = refl
  brings-one (nothing l a s) (a-row k b) = absurd (silent-not-used s (row_one a b))
  brings-one (a-row l a) (nothing k b t) = absurd (silent-not-used t (row_one b a))
  brings-one (a-row l a) (a-row k b) = ap (λ (e : Entry). e ∷ []) (used-one (row_one a b))

  module _ {rows : List Entry} where
    pub breaks-one : {m k : ℕ} → Breaks c n rows line m → Breaks c n rows line k → m ≡ k
    breaks-one (over-limits o) (over-limits u) = refl
    breaks-one (over-limits o) (by_itself l b) = absurd (not-over l o)
    breaks-one (over-limits o) (against-rows l b r p) = absurd (not-over l o)
    breaks-one (by_itself l a) (over-limits u) = absurd (not-over l u)
    breaks-one (by_itself l a) (by_itself k b) = number-one (row_one a b)
    breaks-one (by_itself l a) (against-rows k b r p) = absurd (used-not-refused (row_one b a))
    breaks-one (against-rows l a r p) (over-limits u) = absurd (not-over l u)
    breaks-one (against-rows l a r p) (by_itself k b) = absurd (used-not-refused (row_one a b))
    breaks-one (against-rows l a r p) (against-rows {number = number} k b t q) =
        row-number-one r (subst (λ (e : Entry). RowNumber c.kind rows e number) (used-one (row_one b a)) t)

    -- a line that brings rows which keep the rules breaks nothing
    not-broken : {more : List Entry} {number : ℕ} (rest : List Entry) → Brings c n line more → RowRules c.kind (rows ++ (more ++ rest)) → Breaks c n rows line number → ⊥
    not-broken rest (nothing l a s) r (over-limits o) = not-over l o
    not-broken rest (nothing l a s) r (by_itself k b) = silent-not-refused s (row_one a b)
    not-broken rest (nothing l a s) r (against-rows k b t p) = silent-not-used s (row_one a b)
    not-broken rest (a-row l a) r (over-limits o) = not-over l o
    not-broken rest (a-row l a) r (by_itself k b) = used-not-refused (row_one a b)
    not-broken {number = number} rest (a-row {e = e} l a) r (against-rows k b t p) =
        let u = subst (λ (d : Entry). RowNumber c.kind rows d number) (used-one (row_one b a)) t in
        omega (arith, not-refused c.kind rows e rest number r u)

    -- by the numbers of a line
    pub breaks-number : {number : ℕ} → Breaks c n rows line number → OfLine number
    breaks-number (over-limits o) = OfLine.by_order (lit≤ tt) (lit≤ tt)
    breaks-number (by_itself l a) = row_line (refused-is c (eqb n 0) line (line_gives c (eqb n 0) line a))
    breaks-number (against-rows l a r p) = row_number r p
      where
        row_number : {e : Entry} {k : ℕ} → RowNumber c.kind rows e k → 0 < k → OfLine k
        row_number (eight t) p = OfLine.by_order (lit≤ tt) (lit≤ tt)
        row_number (nine f d) p = OfLine.by_order (lit≤ tt) (lit≤ tt)
        row_number (none f g) p = absurd (omega arith)

-- ---- lines

-- the lines in front, and those behind them
record Parted (c : Choices) (n : ℕ) (before after : List (List ℕ)) (rows : List Entry) : Type 0 where
  pub front : List Entry
  pub back : List Entry
  pub reads-front : Reads c n before front
  pub reads-back : Reads c (n + length before) after back
  pub whole : rows ≡ front ++ back

module _ {c : Choices} where
  pub reads-one : {n : ℕ} {lines : List (List ℕ)} {rows some : List Entry} → Reads c n lines rows → Reads c n lines some → rows ≡ some
  reads-one end end = refl
  reads-one (then b r) (then d s) = λ i. brings-one b d i ++ reads-one r s i

  -- one line more
  pub reads_more :
      {n : ℕ} {before : List (List ℕ)} {line : List ℕ} {rows more : List Entry} → Reads c n before rows → Brings c (n + length before) line more
      → Reads c n (before ++ (line ∷ [])) (rows ++ more)
  reads_more {n} {line = line} {more = more} end b =
      let here : Brings c n line more = subst (λ (k : ℕ). Brings c k line more) (omega arith) b in
      subst (Reads c n (line ∷ [])) (append-nil more) (then here end)
  reads_more {n} {line = line} {more = more} (then {line = first} {lines = before} {more = some} {rows = rows} d r) b =
      let here : Brings c (suc n + length before) line more = subst (λ (k : ℕ). Brings c k line more) (omega arith) b in
      subst (Reads c n (first ∷ (before ++ (line ∷ [])))) (sym (append_assoc some rows more)) (then d (reads_more r here))

  parted : (n : ℕ) (before after : List (List ℕ)) {rows : List Entry} → Reads c n (before ++ after) rows → Parted c n before after rows
  parted n [] after {rows} r =
      record {
        front = [];
        back = rows;
        reads-front = end;
        reads-back = subst (λ (k : ℕ). Reads c k after rows) (omega arith) r;
        whole = refl;
      }
  parted n (line ∷ before) after (then {more = more} {rows = rows} b r) =
      let p = parted (suc n) before after r in
      record {
        front = more ++ p.front;
        back = p.back;
        reads-front = then b p.reads-front;
        reads-back = subst (λ (k : ℕ). Reads c k after p.back) (omega arith) p.reads-back;
        whole = ap (λ (l : List Entry). more ++ l) p.whole ∙ sym (append_assoc more p.front p.back);
      }

  -- a line among lines that are read, whose rows keep the rules, breaks nothing after the rows before it
  first_fine :
      {n number : ℕ} {line : List ℕ} {lines : List (List ℕ)} {rows back : List Entry} → Reads c n (line ∷ lines) back → RowRules c.kind (rows ++ back)
      → Breaks c n rows line number
      → ⊥
  first_fine (then {rows = rest} b r) k x = not-broken rest b k x

-- so no line breaks a rule among lines from a start that are all read, and whose rows keep the rules
module _ (g : Start) where
  pub not-among :
      (before : List (List ℕ)) (line : List ℕ) (after : List (List ℕ)) {lines : List (List ℕ)} {rows front : List Entry} {number : ℕ} → lines ≡ before ++ (line ∷ after)
      → ReadsFrom g lines rows
      → RulesFrom g rows
      → ReadsFrom g before front
      → BreaksFrom g before front line number
      → ⊥
  not-among before line after {rows = rows} {front = front} e r k f x =
      let p = parted g.lines before (line ∷ after) (subst (λ (l : List (List ℕ)). ReadsFrom g l rows) e r) in
      let whole : g.rows ++ rows ≡ (g.rows ++ front) ++ p.back =
      ap (λ (l : List Entry). g.rows ++ l) (p.whole ∙ ap (λ (l : List Entry). l ++ p.back) (reads-one p.reads-front f))
      ∙ sym (append_assoc g.rows front p.back)
      in
      first_fine p.reads-back (subst (RowRules g.choices.kind) whole k) x

-- ---- the first line that breaks a rule

-- two places in one list: the same, or one before the other
pub data Compared {A : Type 0} (b d : List A) (x y : A) : Type 0 where
  same_place : b ≡ d → x ≡ y → Compared b d x y
  sooner : (rest : List A) → d ≡ b ++ (x ∷ rest) → Compared b d x y
  later : (rest : List A) → b ≡ d ++ (y ∷ rest) → Compared b d x y

module _ {A : Type 0} {x y : A} where
  one_further : (z w : A) {b d : List A} → z ≡ w → Compared b d x y → Compared (z ∷ b) (w ∷ d) x y
  one_further z w e (same_place p q) = same_place (λ i. e i ∷ p i) q
  one_further z w e (sooner rest p) = sooner rest (λ i. sym e i ∷ p i)
  one_further z w e (later rest p) = later rest (λ i. e i ∷ p i)

  pub compared : (b d p q : List A) → b ++ (x ∷ p) ≡ d ++ (y ∷ q) → Compared b d x y
  compared [] [] p q e = let h : x ≡ y = cc in same_place refl h
  compared [] (w ∷ d) p q e = let h : x ≡ w = cc in sooner d (ap (λ (z : A). z ∷ d) (sym h))
  compared (z ∷ b) [] p q e = let h : z ≡ y = cc in later b (ap (λ (w : A). w ∷ b) h)
  compared (z ∷ b) (w ∷ d) p q e =
      let h : z ≡ w = cc in
      let t : b ++ (x ∷ p) ≡ d ++ (y ∷ q) = cc in
      one_further z w h (compared b d p q t)

-- ---- a text

-- the answer to what closing finds
unfoldable pub answer_for : Closed → Answer
answer_for Closed.Empty = Answer.Refused 10 Place.Nowhere
answer_for (Closed.Missing pair) = Answer.Refused 11 (Place.Pair pair)
answer_for (Closed.Complete frequencies headings) = Answer.Accepted frequencies headings

-- a line that breaks a rule, or closing after all lines
pub data Sorted (g : Start) (text : List ℕ) : Answer → Type 0 where
  halted :
      (before : List (List ℕ)) (line : List ℕ) (after : List (List ℕ)) {rows : List Entry} {number : ℕ} → text_lines text ≡ before ++ (line ∷ after)
      → ReadsFrom g before rows
      → RulesFrom g rows
      → BreaksFrom g before rows line number
      → Sorted g text (Answer.Refused number (Place.Line (line_after g before)))
  ended :
      {rows : List Entry} {w : Closed} → ReadsFrom g (text_lines text) rows → RulesFrom g rows → Closes g.choices.kind g.choices.coverage (g.rows ++ rows) w
      → Sorted g text (answer_for w)

no-rules : (kind : ℕ) → RowRules kind []
no-rules kind = row-rules (open-holds kind [] [])

module _ (g : Start) {b d : List (List ℕ)} {x y : List ℕ} {rows some : List Entry} {m n : ℕ} where
  -- two lines that each break a rule, where all before keep them, are one line
  one-halt :
      ReadsFrom g b rows → RulesFrom g rows → BreaksFrom g b rows x m → ReadsFrom g d some → RulesFrom g some → BreaksFrom g d some y n → Compared b d x y
      → Answer.Refused m (Place.Line (line_after g b)) ≡ Answer.Refused n (Place.Line (line_after g d))
  one-halt r k u s l v (same_place e f) =
      let same : some ≡ rows = reads-one (subst (λ (z : List (List ℕ)). ReadsFrom g z some) (sym e) s) r in
      let w : BreaksFrom g b rows x n =
      subst (λ (z : List Entry). BreaksFrom g b z x n) same
      (subst (λ (z : List (List ℕ)). BreaksFrom g z some x n) (sym e) (subst (λ (z : List ℕ). BreaksFrom g d some z n) (sym f) v))
      in
      λ i. Answer.Refused (breaks-one u w i) (Place.Line (line_after g (e i)))
  one-halt r k u s l v (sooner rest e) = absurd (not-among g b x rest e s l r u)
  one-halt r k u s l v (later rest e) = absurd (not-among g d y rest e r k s v)

module _ (g : Start) (text : List ℕ) where
  sorted : {a : Answer} → VerdictFrom g text a → Sorted g text a
  unfolding answer_for
  sorted (refused before line after e r k b) = halted before line after e r k b
  sorted (no_row r e) = ended r (subst (RowRules g.choices.kind) (sym e) (no-rules g.choices.kind)) (Closes.no_row e)
  sorted (lacks r k m) = ended r k (Closes.lacks m)
  sorted (accepted a) = ended a.reads a.rules (Closes.every-pair a.some-row a.complete)

  -- and back
  closed-verdict :
      {rows : List Entry} {w : Closed} → ReadsFrom g (text_lines text) rows → RulesFrom g rows → Closes g.choices.kind g.choices.coverage (g.rows ++ rows) w
      → VerdictFrom g text (answer_for w)
  unfolding answer_for
  closed-verdict r k (Closes.no_row e) = no_row r e
  closed-verdict r k (Closes.lacks m) = lacks r k m
  closed-verdict r k (Closes.every-pair n f) = accepted (record { reads = r; rules = k; some-row = n; complete = f })

  pub verdict-of : {a : Answer} → Sorted g text a → VerdictFrom g text a
  verdict-of (halted before line after e r k b) = refused before line after e r k b
  verdict-of (ended r k x) = closed-verdict r k x

  sorted-one : {a b : Answer} → Sorted g text a → Sorted g text b → a ≡ b
  sorted-one (halted b x p e r k u) (halted d y q f s l v) = one-halt g r k u s l v (compared b d p q (sym e ∙ f))
  sorted-one (halted b x p e r k u) (ended s l z) = absurd (not-among g b x p e s l r u)
  sorted-one (ended r k x) (halted d y q f s l v) = absurd (not-among g d y q f r k s v)
  sorted-one (ended {w = w} r k x) (ended {rows = some} {w = z} s l y) =
      let same : Closes g.choices.kind g.choices.coverage (g.rows ++ some) w =
      subst (λ (t : List Entry). Closes g.choices.kind g.choices.coverage (g.rows ++ t) w) (reads-one r s) x
      in
      ap answer_for (closes-one g.choices.kind g.choices.coverage (g.rows ++ some) w z same y)

  -- ---- before closing

  pieces-one : {a b : Answer} → PieceVerdictFrom g text a → PieceVerdictFrom g text b → a ≡ b
  pieces-one (PieceVerdictFrom.refused b x p e r k u) (PieceVerdictFrom.refused d y q f s l v) = one-halt g r k u s l v (compared b d p q (sym e ∙ f))
  pieces-one (PieceVerdictFrom.refused b x p e r k u) (PieceVerdictFrom.over-limits y f s l o) = absurd (not-among g b x p e s l r u)
  pieces-one (PieceVerdictFrom.refused b x p e r k u) (PieceVerdictFrom.going s l o) = absurd (not-among g b x p e s l r u)
  pieces-one (PieceVerdictFrom.over-limits x e r k o) (PieceVerdictFrom.refused d y q f s l v) = absurd (not-among g d y q f r k s v)
  pieces-one (PieceVerdictFrom.over-limits x e r k o) (PieceVerdictFrom.over-limits y f s l u) = refl
  pieces-one (PieceVerdictFrom.over-limits x e r k o) (PieceVerdictFrom.going s l u) = absurd (not-over (u x e) o)
  pieces-one (PieceVerdictFrom.going r k o) (PieceVerdictFrom.refused d y q f s l v) = absurd (not-among g d y q f r k s v)
  pieces-one (PieceVerdictFrom.going r k o) (PieceVerdictFrom.over-limits y f s l u) = absurd (not-over (o y f) u)
  pieces-one (PieceVerdictFrom.going r k o) (PieceVerdictFrom.going s l u) = refl

pub verdict-from-one : VerdictFromOne
verdict-from-one g text a b v w = sorted-one g text (sorted g text v) (sorted g text w)

pub piece-from-one : PieceFromOne
piece-from-one g text a b v w = pieces-one g text v w

-- ---- from opening

pub lines-from-one : LinesFromOne
lines-from-one c before = omega arith

pub verdict-one : VerdictOne
verdict-one c = verdict-from-one (from_opening c)

pub piece-one : PieceOne
piece-one c = piece-from-one (from_opening c)
