-- The explanation of a text is one: a place names one line, a row says one thing of two nodes, and the first line that does something is one. Assumes nothing.
use mathlib.Core.Path.{◌≡◌, refl, sym, ap, subst, ◌∙◌}
use mathlib.Core.List.{List, ◌∷◌}
use Prim.Native.Nat.{ℕ, ◌+◌}
use native.Mathlib.Omega.{arith}
use native.Mathlib.Decide.{dec_lt}
use lib.Dec.{eqb}
use lib.ListN.{length, length-append}
use lib.Seq.{ext_get_or}
use Rattle.reasons.specs.Told.{Explanation}
use Rattle.whole.specs.Complex.{Complex}
use Rattle.row.specs.declared.reading.Choices.{Choices}
use Rattle.row.specs.declared.reading.Entry.{Entry}
use Rattle.row.specs.LineRules.{fields_of}
use Rattle.faults.specs.Offending.{FirstField}
use Rattle.row.proofs.LineRules.{line_gives}
use Rattle.faults.proofs.OffendingField.{field-one}
use Rattle.row.proofs.Used.{used-is}
use Rattle.grid.specs.declared.nodes.Node.{Node}
use Rattle.grid.specs.declared.nodes.Pair.{Pair}
use Rattle.table.specs.Placing.{value_of}
use Rattle.table.specs.Entries.{complex_of}
use Rattle.reader.specs.declared.reader.Place.{Place}
use Rattle.reader.proofs.Kept.{by-eq}
use Rattle.origins.specs.declared.memory.Origins.{Origins}
use Rattle.reasons.specs.declared.explanation.Clash.{Clash}
use Rattle.promises_rows.specs.Said.{first_of, second_of, Proper, mirror_of, Says}
use Rattle.promises_calls.specs.Lines.{text_lines}
use Rattle.promises_texts.specs.Accepted.{Reads}
use Rattle.promises_explained.specs.Explained.{UsedAfter, BroughtBy, SlotsBrought, Stands, PairBrought, LineAt, FieldNamed, SlotsNamed, ClashNamed, PairNamed, Explains, ExplainsOne}
use Rattle.promises_rows.proofs.Said.{usable-proper, proper-mirror, says-cases}
use Rattle.promises_texts.proofs.Verdicts.{row_one, used-one, reads-one, Compared, same_place, sooner, later, compared}
use Rattle.promises_explained.proofs.FirstLines.{one_number, one-row}

-- ---- a place names one line

module _ {text : List ℕ} {place : Place} (a b : LineAt text place) where
  as-far : length a.before ≡ length b.before
  as-far = let e = sym a.named ∙ b.named in let n : length a.before + 1 ≡ length b.before + 1 = cc in omega arith

  at_one : Compared a.before b.before a.line b.line → (a.before ≡ b.before) × (a.line ≡ b.line)
  at_one (same_place p q) = (p, q)
  at_one (sooner rest p) = let n = ap length p ∙ length-append a.before (a.line ∷ rest) in absurd (omega (arith, as-far))
  at_one (later rest p) = let n = ap length p ∙ length-append b.before (b.line ∷ rest) in absurd (omega (arith, as-far))

  line-one : (a.before ≡ b.before) × (a.line ≡ b.line)
  line-one = at_one (compared a.before b.before a.after b.after (sym a.there ∙ b.there))

-- ---- a row says one thing of two nodes

used-proper : {c : Choices} (before : List (List ℕ)) {line : List ℕ} {e : Entry} → UsedAfter c before line e → Proper c.kind e
used-proper {c} before {line} u = usable-proper c (used-is c (eqb (length before) 0) line (line_gives c (eqb (length before) 0) line u))

says-one : {kind : ℕ} {e : Entry} {a b : Node} {v w : Complex} → Proper kind e → Says kind e a b v → Says kind e a b w → v ≡ w
says-one {kind} {e} {w = w} proper s u =
    says-cases (λ a b v. Says kind e a b w → v ≡ w)
    (λ t. direct t refl refl)
    (λ t. mirrored t refl refl)
    s u
  where
    direct : {a b : Node} → Says kind e a b w → a ≡ first_of e → b ≡ second_of e → value_of e ≡ w
    direct = says-cases (λ a b z. a ≡ first_of e → b ≡ second_of e → value_of e ≡ z) (λ p q. refl) (λ p q. sym (proper-mirror proper (sym p)))

    mirrored : {a b : Node} → Says kind e a b w → a ≡ second_of e → b ≡ first_of e → mirror_of kind (value_of e) ≡ w
    mirrored = says-cases (λ a b z. a ≡ second_of e → b ≡ first_of e → mirror_of kind (value_of e) ≡ z) (λ p q. proper-mirror proper p) (λ p q. refl)

-- ---- lines by slots

brought-one :
    {A : Type 0} {c : Choices} {lines : List (List ℕ)} {Brings : A → Entry → Type 0} {slots : ℕ} {none : A} {held : List A} {l m : List ℕ}
    → BroughtBy c lines Brings slots none held l
    → BroughtBy c lines Brings slots none held m
    → l ≡ m
brought-one {held = held} {l} {m} a b =
    ext_get_or 0 l m (a.long ∙ sym b.long)
    (λ k h.
    elim (dec_lt k (length held)) [
      | yes low ↦ one_number (a.brought k low) (b.brought k low)
      | no high ↦ a.behind k (omega arith) ∙ sym (b.behind k (omega arith))
    ])

slots-one : {c : Choices} {lines : List (List ℕ)} {rows : List Entry} {o p : Origins} → SlotsBrought c lines rows o → SlotsBrought c lines rows p → o ≡ p
slots-one a b = λ i. record { ticks = brought-one a.ticks b.ticks i; headings = brought-one a.headings b.headings i }

-- ---- by numbers

stands_one : {c : Choices} {lines : List (List ℕ)} {e : Entry} {x y : Clash} → Stands c lines e x → Stands c lines e y → x ≡ y
stands_one {c} {e = e} {x} {y} a b =
    let line = one_number a.set b.set in
    let held : complex_of x.held ≡ complex_of y.held =
    says-one (used-proper a.set.before a.set.used) a.held
    (subst (λ (d : Entry). Says c.kind d (first_of e) (second_of e) (complex_of y.held)) (sym (one-row a.set b.set)) b.held)
    in
    let said : complex_of x.said ≡ complex_of y.said = a.own ∙ sym b.own in
    λ i. record { line = line i; held = record { re = (held i).re; im = (held i).im }; said = record { re = (said i).re; im = (said i).im } }

module _ {c : Choices} {text : List ℕ} {place : Place} {x y : Explanation} {o p : Origins} where
  field-named-one :
      (number : ℕ) (Offends : List (List ℕ) → ℕ → Type 0) → FieldNamed c text number Offends place x o → FieldNamed c text number Offends place y p → x ≡ y
  field-named-one number Offends a b =
      let line = (line-one a.at b.at).1 in
      let same : a.field ≡ b.field =
      field-one (Offends (fields_of a.at.line)) a.field b.field a.first (subst (λ (l : List ℕ). FirstField (Offends (fields_of l)) b.field) (sym line) b.first)
      in
      a.told ∙ ap Explanation.Field same ∙ sym b.told

  slots-named-one : SlotsNamed c text place x o → SlotsNamed c text place y p → (x ≡ y) × (o ≡ p)
  slots-named-one a b =
      let before = (line-one a.at b.at).0 in
      let rows : a.rows ≡ b.rows = reads-one a.reads (subst (λ (l : List (List ℕ)). Reads c 0 l b.rows) (sym before) b.reads) in
      let other : SlotsBrought c a.at.before a.rows p =
      subst (λ (l : List (List ℕ)). SlotsBrought c l a.rows p) (sym before) (subst (λ (r : List Entry). SlotsBrought c b.at.before r p) (sym rows) b.brought)
      in
      (a.told ∙ sym b.told, slots-one a.brought other)

  clash-named-one : ClashNamed c text place x o → ClashNamed c text place y p → x ≡ y
  clash-named-one a b =
      let same = line-one a.at b.at in
      let used : UsedAfter c a.at.before a.at.line b.row =
      subst (λ (l : List (List ℕ)). UsedAfter c l a.at.line b.row) (sym same.0) (subst (λ (l : List ℕ). UsedAfter c b.at.before l b.row) (sym same.1) b.used)
      in
      let row : a.row ≡ b.row = used-one (row_one a.used used) in
      let stands : Stands c a.at.before a.row b.clash =
      subst (λ (e : Entry). Stands c a.at.before e b.clash) (sym row) (subst (λ (l : List (List ℕ)). Stands c l b.row b.clash) (sym same.0) b.stands)
      in
      a.told ∙ ap Explanation.Set (stands_one a.stands stands) ∙ sym b.told

  pair-named-one : PairNamed c text place x o → PairNamed c text place y p → x ≡ y
  pair-named-one a b =
      let e = sym a.missing ∙ b.missing in
      let pair : a.pair ≡ b.pair = cc in
      let u = a.brought in
      let v = subst (λ (q : Pair). PairBrought c (text_lines text) q b.bringers) (sym pair) b.brought in
      let same : a.bringers ≡ b.bringers =
      λ i.
      record {
        tick1 = one_number u.tick1 v.tick1 i;
        heading1 = one_number u.heading1 v.heading1 i;
        tick2 = one_number u.tick2 v.tick2 i;
        heading2 = one_number u.heading2 v.heading2 i;
      }
      in
      a.told ∙ ap Explanation.Brought same ∙ sym b.told

module _ (c : Choices) (text : List ℕ) (number : ℕ) where
  -- a sort of explanation that leaves one
  abbrev One : (Place → Explanation → Origins → Type 0) → Type 0
  One Named = (place : Place) (x y : Explanation) (o p : Origins) → Named place x o → Named place y p → (x ≡ y) × (number ≡ 8 → o ≡ p)

  leaves-one : One (Explains c text number)
  unfolding Explains
  leaves-one =
      by-eq One number 5 _ _ (λ five place x y o p a b. (field-named-one 5 _ a b, λ e. absurd (omega arith)))
      (λ n₅.
      by-eq One number 6 _ _ (λ six place x y o p a b. (field-named-one 6 _ a b, λ e. absurd (omega arith)))
      (λ n₆.
      by-eq One number 8 _ _ (λ eight place x y o p a b. let k = slots-named-one a b in (k.0, λ e. k.1))
      (λ n₈.
      by-eq One number 9 _ _ (λ nine place x y o p a b. (clash-named-one a b, λ e. absurd (n₈ e)))
      (λ n₉.
      by-eq One number 11 _ _ (λ eleven place x y o p a b. (pair-named-one a b, λ e. absurd (n₈ e))) (λ n₁₁ place x y o p a b. (a ∙ sym b, λ e. absurd (n₈ e)))))))

pub explains-one : ExplainsOne
explains-one c text number = leaves-one c text number
