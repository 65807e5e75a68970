-- One call of an explainer: what bars it, by the record and how much is lent, as of the reader with no more flags than lines. Assumes nothing.
use mathlib.Core.Path.{◌≡◌, refl, sym, ap, ◌∙◌}
use mathlib.Core.Bool.{Bool, true, false, cond, ◌||◌}
use mathlib.Core.Logic.{◌⊎◌, inl, inr, ⊎_elim}
use mathlib.Core.List.{List, [], ◌∷◌}
use Prim.Native.Nat.{ℕ, ◌≤◌, ◌<◌, min}
use native.Mathlib.Omega.{arith}
use native.Mathlib.Decide.{ℕ_discrete, dec_le, dec_lt}
use lib.Dec.{ltb, eqb}
use lib.ListN.{length}
use borrow.Author.Tests.{eq-eqb, ne_eqb, lt-ltb, le-ltb}
use Rattle.row.proofs.Used.{by-test}
use Rattle.reader.specs.declared.record.Record.{Record}
use Rattle.reader.specs.declared.reader.Place.{Place}
use Rattle.reader.specs.declared.reader.Answer.{Answer}
use Rattle.reader.specs.Model.{State, Out, out, number_of, refusal, going, repeated, tested, piece_of, byte_of, open_byte, line_feed, line_ended, bytes_of, too_short, barred_by, finished, closing, close_of}
use Rattle.reader.proofs.Valid.{stuck-least}
use Rattle.explain.specs.Model.{Reading, Stepped, Explained, next_byte, next_bytes, barred_at, piece_for, ended_line, closed_for, close_barred, close_for}
use Rattle.promises_calls.specs.Answers.{Stuck, Open}
use Rattle.promises_calls.proofs.Answers.{stuck-repeats, piece-numbers, held}
use Rattle.reader.proofs.Kept.{by-eq}
use Rattle.promises_calls.specs.Kept.{Shaped}
use Rattle.promises_calls.proofs.Cutting.{live-keeps}
use Rattle.promises_calls.proofs.Lines.{ended-nothing, close_open, close-shut, nothing-finished}
use Rattle.promises_calls.proofs.Moves.{finished-keeps}
use Rattle.promises_calls.proofs.Kept.{beyond-keeps, beyond-none}
use Rattle.promises_calls.proofs.Valid.{sound-keeps, sound-is, is-valid}
use Rattle.promises_calls.proofs.Outcomes.{Barred, own, short, clear, shut, barred-is, short-is, long-is, not_short}
use Rattle.promises_explained.proofs.Telling.{bytes-state, bytes-still}
use Rattle.promises_explainer.specs.ExplainerCalls.{ShortFor, PieceWhen, ExplainerPiece, ExplainerClose}

-- ---- what a piece answers

going-out : (s : State) → out s (going s).answer ≡ going s
unfolding going repeated
going-out s = by-test (λ (o : Out). out s o.answer ≡ o) (eqb s.reader.marks.stage 1) _ _ (λ e. refl) (λ e. refl)

pushed : (t : Bool) (a b : Stepped) → out (cond t a b).after.state (cond t a b).answer ≡ cond t (out a.after.state a.answer) (out b.after.state b.answer)
pushed true a b = refl
pushed false a b = refl

-- ---- as many flags as lines

module _ (x : Reading) where
  abbrev of : Record
  of = x.state.reader

  abbrev cells' : ℕ
  cells' = length x.state.cells

  abbrev flags' : ℕ
  flags' = length x.state.flags

  abbrev lines' : ℕ
  lines' = length x.memory.lines

  abbrev least : ℕ
  least = min flags' lines'

  to-short : (cells' < 12_800) ⊎ (least < 6_400) → ShortFor x
  to-short (inl few) = inl (inl few)
  to-short (inr few) =
      elim (dec_lt flags' 6_400) [ yes h ↦ inl (inr h) | no h ↦ let l : lines' < 6_400 = omega (arith, h, few) in inr l ]

  from-short : ShortFor x → (cells' < 12_800) ⊎ (least < 6_400)
  from-short (inl (inl few)) = inl few
  from-short (inl (inr few)) = inr (omega arith)
  from-short (inr few) = inr (omega arith)

  all_lines : ((cells' < 12_800) ⊎ (least < 6_400) → ⊥) → 6_400 ≤ lines'
  all_lines many = let enough : least < 6_400 → ⊥ = λ few. many (inr few) in omega (arith, enough)

  -- ---- a piece

  -- with enough lines it is the flags that count
  enough-flags : 6_400 ≤ lines' → too_short cells' least ≡ too_short cells' flags'
  unfolding too_short
  enough-flags h =
      ap (λ t. ltb cells' 12_800 || t)
      (elim (dec_le 6_400 flags') [
        | yes many ↦ let all : 6_400 ≤ least = omega (arith, h, many) in le-ltb _ _ all ∙ sym (le-ltb _ _ many)
        | no few ↦ let below : least < 6_400 = omega (arith, h, few) in let under : flags' < 6_400 = omega (arith, few) in lt-ltb _ _ below ∙ sym (lt-ltb _ _ under)
      ])

  same-barred : 6_400 ≤ lines' → barred_by of cells' least ≡ barred_by of cells' flags'
  unfolding barred_by
  same-barred long = rw (enough-flags long)

  module _ (text : List ℕ) where
    through : Stepped
    through = let after = next_bytes text x in record { after = after; answer = (going after.state).answer }

    barred : ℕ → Stepped
    barred n = record { after = x; answer = refusal of n }

    abbrev Reads : Stepped → Type 0
    Reads s = 6_400 ≤ lines' → out s.after.state s.answer ≡ piece_of text x.state

    stepped : ℕ → Stepped
    stepped n = cond (eqb n 0) through (barred n)

    stuck-piece : (s : Stepped) → Stuck of → s ≡ barred of.marks.stage → Reads s → PieceWhen text x s
    unfolding barred number_of refusal
    stuck-piece s h is reads =
        let low = stuck-least of.marks.stage h.stage in
        let number : number_of s.answer ≡ of.marks.stage = ap (λ (z : Stepped). number_of z.answer) is in
        record {
          one = (λ e. absurd (omega arith), λ b. absurd (b.0 h));
          two = (λ e. absurd (omega arith), λ b. absurd (b.0 h));
          refused = λ n w e. absurd (⊎_elim (λ k. omega arith) (λ k. omega arith) w);
          stuck = λ place _ p. is ∙ ap (λ (a : Answer). record { after = x; answer = a }) (held of low p);
          reads = reads;
        }

    piece-by : {n : ℕ} → Barred of cells' least n → Reads (stepped n) → PieceWhen text x (stepped n)
    unfolding stepped barred number_of refusal through
    piece-by (own h) reads =
        let low = stuck-least of.marks.stage h.stage in
        let some : of.marks.stage ≡ 0 → ⊥ = λ z. omega arith in
        stuck-piece (stepped of.marks.stage) h (rw (ne_eqb of.marks.stage 0 some)) reads
    piece-by (short free few) reads =
        record {
          one = (λ e. (free, to-short few), λ b. refl);
          two = (λ e. absurd (omega arith), λ b. absurd (b.1 (to-short few)));
          refused = λ n w e. ap (λ (k : ℕ). record { after = x; answer = Answer.Refused k Place.Nowhere }) e;
          stuck = λ place h p. absurd (free h);
          reads = reads;
        }
    piece-by (clear free many o) reads =
        let long : 6_400 ≤ lines' = all_lines many in
        let same : number_of through.answer ≡ number_of (piece_of text x.state).answer = ap (λ (z : Out). number_of z.answer) (reads long) in
        let when = piece-numbers text x.state in
        let no_one : number_of through.answer ≡ 1 → ⊥ = λ e. many (from-short (inl (when.one.0 (sym same ∙ e)).1)) in
        let no-two : number_of through.answer ≡ 2 → ⊥ = λ e. (when.two.0 (sym same ∙ e)).2 o in
        record {
          one = (λ e. absurd (no_one e), λ b. absurd (many (from-short b.1)));
          two = (λ e. absurd (no-two e), λ b. absurd (b.2 o));
          refused = λ n w e. absurd (⊎_elim (λ k. no_one (e ∙ k)) (λ k. no-two (e ∙ k)) w);
          stuck = λ place h p. absurd (free h);
          reads = reads;
        }
    piece-by (shut free many closed) reads =
        record {
          one = (λ e. absurd (omega arith), λ b. absurd (many (from-short b.1)));
          two = (λ e. (free, λ few. many (from-short few), closed), λ b. refl);
          refused = λ n w e. ap (λ (k : ℕ). record { after = x; answer = Answer.Refused k Place.Nowhere }) e;
          stuck = λ place h p. absurd (free h);
          reads = reads;
        }

    -- what is answered, and left, is the reader's own
    reads_all : Reads (stepped (barred_by of cells' least))
    unfolding stepped through barred piece_of tested barred_by
    reads_all long =
        pushed (eqb (barred_by of cells' least) 0) _ _
        ∙ ap (λ o. cond (eqb (barred_by of cells' least) 0) o (out x.state (refusal of (barred_by of cells' least))))
        (ap (λ s. out s (going s).answer) (bytes-state text x) ∙ going-out (bytes_of text x.state))
        ∙ ap (λ n. cond (eqb n 0) (going (bytes_of text x.state)) (out x.state (refusal of n))) (same-barred long)

pub explainer-piece : ExplainerPiece
unfolding piece_for barred_at through barred stepped
explainer-piece text x = piece-by x text (barred-is x.state.reader (length x.state.cells) _) (reads_all x text)

-- ---- closing

-- what an open reader gives once its unfinished line is read is what it gives before
Nothing : State → Type 0
Nothing s = s.reader.marks.stage ≡ 1 → s.reader.marks.count ≡ 0

finished-nothing : (s : State) → Nothing (finished s)
unfolding finished line_ended Nothing
finished-nothing s = by-eq Nothing s.reader.marks.count 0 _ _ (λ none o. none) (λ some. ended-nothing _ _ _ s _ refl)

close-finished :
    (s : State) → Shaped s.reader → Open s.reader → 12_800 ≤ length s.cells → 6_400 ≤ length s.flags
    → close_of (finished s) ≡ close_of s
unfolding Nothing
close-finished s shaped o cells flags =
    let u = finished s in
    let sound = finished-keeps sound-keeps s (sound-is s shaped o.valid) in
    let long = finished-keeps (beyond-keeps s) s (beyond-none s) in
    let valid = is-valid _ sound.valid in
    let many : 12_800 ≤ length u.cells = omega (arith, cells, long.cells) in
    let more : 6_400 ≤ length u.flags = omega (arith, flags, long.flags) in
    elim (ℕ_discrete u.reader.marks.stage 1) [
      | yes e ↦ close_open u valid e many more ∙ ap closing (nothing-finished u (finished-nothing s e))
      | no n ↦ close-shut u (record { valid = valid; live = finished-keeps live-keeps s (inl o.stage); cells = many; flags = more }) n
    ]
    ∙ sym (close_open s o.valid o.stage cells flags)

module _ (x : Reading) where
  -- an unfinished line is ended as closing reads it
  ended-finished : (of x).marks.stage ≡ 1 → (ended_line x).state ≡ finished x.state
  unfolding ended_line next_byte byte_of open_byte line_feed finished
  ended-finished o = go (eqb (of x).marks.count 0) refl
    where
      go : (t : Bool) → eqb (of x).marks.count 0 ≡ t → (cond t x (next_byte 10 x)).state ≡ cond t x.state (line_ended x.state)
      go true e = refl
      go false e = rw (eq-eqb (of x).marks.stage 1 o, e)

  stuck-ended : ((of x).marks.stage ≡ 1 → ⊥) → ended_line x ≡ x
  unfolding ended_line next_bytes
  stuck-ended n = by-test (λ (y : Reading). y ≡ x) (eqb (of x).marks.count 0) _ _ (λ e. refl) (λ e. bytes-still (10 ∷ []) x n)

  short-true : ShortFor x → too_short (cells' x) (least x) ≡ true
  short-true few = go (too_short (cells' x) (least x)) refl
    where
      go : (t : Bool) → too_short (cells' x) (least x) ≡ t → t ≡ true
      go true e = refl
      go false e = absurd (not_short _ _ (long-is _ _ e) (from-short x few))

  long-false : (ShortFor x → ⊥) → too_short (cells' x) (least x) ≡ false
  long-false many = go (too_short (cells' x) (least x)) refl
    where
      go : (t : Bool) → too_short (cells' x) (least x) ≡ t → t ≡ false
      go true e = absurd (many (to-short x (short-is _ _ e)))
      go false e = refl

  -- the number that bars a call, where nothing is too short
  stuck-own : {n : ℕ} → Barred (of x) (cells' x) (least x) n → Stuck (of x) → n ≡ (of x).marks.stage
  stuck-own (own h) k = refl
  stuck-own (short free few) k = absurd (free k)
  stuck-own (clear free many o) k = absurd (free k)
  stuck-own (shut free many closed) k = absurd (free k)

  closed-two : {n : ℕ} → Barred (of x) (cells' x) (least x) n → (ShortFor x → ⊥) → (Stuck (of x) → ⊥) → (Open (of x) → ⊥) → n ≡ 2
  closed-two (own h) long free closed = absurd (free h)
  closed-two (short _ few) long free closed = absurd (long (to-short x few))
  closed-two (clear _ many o) long free closed = absurd (closed o)
  closed-two (shut _ many _) long free closed = refl

  open_none : {n : ℕ} → Barred (of x) (cells' x) (least x) n → (ShortFor x → ⊥) → Open (of x) → n ≡ 2 → ⊥
  open_none (own h) long o e = let low = stuck-least (of x).marks.stage h.stage in omega arith
  open_none (short _ few) long o e = long (to-short x few)
  open_none (clear _ many _) long o e = omega arith
  open_none (shut _ many closed) long o e = closed o

  clear-close : (ShortFor x → ⊥) → (barred_by (of x) (cells' x) (least x) ≡ 2 → ⊥) → close_for x ≡ closed_for (ended_line x)
  unfolding close_for close_barred
  clear-close many other = rw (long-false many, ne_eqb (barred_by (of x) (cells' x) (least x)) 2 other)

bars : (x : Reading) → Barred (of x) (cells' x) (least x) (barred_by (of x) (cells' x) (least x))
bars x = barred-is (of x) (cells' x) (least x)

all-cells : (x : Reading) → (ShortFor x → ⊥) → 12_800 ≤ length x.state.cells
all-cells x many = let enough : length x.state.cells < 12_800 → ⊥ = λ few. many (inl (inl few)) in omega (arith, enough)

all-flags : (x : Reading) → (ShortFor x → ⊥) → 6_400 ≤ length x.state.flags
all-flags x many = let enough : length x.state.flags < 6_400 → ⊥ = λ few. many (inl (inr few)) in omega (arith, enough)

pub explainer-close : ExplainerClose
unfolding close_for close_barred refusal closed_for
explainer-close x =
    record {
      one = λ few. rw (short-true x few);
      two = λ many free closed. rw (long-false x many, closed-two x (bars x) many free closed);
      stuck = λ place many h p.
          let low = stuck-least (of x).marks.stage h.stage in
          let is = stuck-own x (bars x) h in
          let given = (stuck-repeats (of x) place h p).close x.state.cells x.state.flags in
          let same = clear-close x many (λ e. omega arith) ∙ ap closed_for (stuck-ended x (λ e. omega arith)) in (
            ap (λ (y : Explained). y.given) same ∙ ap (λ (z : Out). z.answer) given,
            ap (λ (y : Explained). y.after) same ∙ ap (λ (z : Out). record { state = z.after; stated = x.stated; memory = x.memory }) given,
          );
      reads = λ many shaped o.
          ap (λ (y : Explained). out y.after.state y.given) (clear-close x many (open_none x (bars x) many o))
          ∙ ap close_of (ended-finished x o.stage)
          ∙ close-finished x.state shaped o (all-cells x many) (all-flags x many);
    }
