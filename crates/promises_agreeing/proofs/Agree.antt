-- Two texts whose lines are the same, or come to the same row, come to the same, but for the bytes kept of an unfinished line: no step reads those. So whatever way of differing leaves a
-- line's row as it is (`Heard`) has the laws of specs/Agree. Assumes nothing.
use mathlib.Core.Path.{◌≡◌, refl, sym, ap, subst, ◌∙◌}
use mathlib.Core.Logic.{◌⊎◌, inl, inr, ⊎_elim}
use mathlib.Core.Bool.{Bool, true, false, cond}
use mathlib.Core.List.{List, [], ◌∷◌, ◌++◌}
use Prim.Native.Nat.{ℕ, zero, suc, ◌+◌, ◌≤◌}
use native.Mathlib.Omega.{arith}
use native.Mathlib.Decide.{ℕ_discrete}
use lib.Dec.{ltb, eqb}
use lib.ListN.{length, take, drop}
use Rattle.row.specs.declared.reading.Choices.{Choices}
use Rattle.row.specs.declared.reading.Entry.{Entry}
use Rattle.row.specs.Told.{Row}
use Rattle.row.specs.own.Rows.{row_of}
use Rattle.table.specs.declared.closing.Closed.{Closed}
use Rattle.reader.specs.Valid.{clean}
use Rattle.table.specs.Placing.{Placed, placed}
use Rattle.table.specs.Closing.{closed_of}
use Rattle.reader.specs.declared.reader.Answer.TheVariants as Answer
use Rattle.reader.specs.Model.{table_at, State, Out, stuck_at, settled, passed, ended, bytes_of, refusal, refusal_place, repeated, going, settled_by, closing, close_of, out}
use Rattle.promises_calls.specs.Cutting.{pieces_of, joined}
use Rattle.promises_calls.specs.Lines.{text_lines, feeds_in, ended_lines, unfinished, kept_line, limited, line_read, part_read, in_turn}
use Rattle.promises_chains.specs.Chain.{opened}
use Rattle.promises_texts.specs.Start.{Start, StartsAt, from_opening}
use Rattle.promises_agreeing.specs.Agree.{Difference, AgreeBy, AgreeTextsBy, BegunAlike, no_line, one_line, two-lines, AgreeSoFarBy, unkept, SameOut, SamePiecesFrom, SamePieces, SameTextsFrom, SameTexts}
use Rattle.promises_agreeing.specs.Agree.AgreeBy.{end, same, differ}
use Rattle.promises_calls.proofs.Lines.{Feedless, then, limit-full, limit-within, turn-open, turn-shut, line-at-line, Last, none_left, one_left, unfinished-last, closing-is-lines, text-is-lines, lines-feedless, feedless-take}
use Rattle.promises_texts.proofs.Start.{from-opening, open-starts}
use Rattle.promises_texts.proofs.Accepted.{Came, on, halts, line-came, Ended, all_read, halted, stops-shut, text-ended, pieces-out, pieces-after}

-- ---- what no step reads

record SameButKept (s t : State) : Type 0 where
  pub but-kept : unkept s ≡ unkept t

alike : (s t : State) → unkept s ≡ unkept t → SameButKept s t
alike s t e = record { but-kept = e }

alike-trans : (s t m : State) → SameButKept s t → SameButKept t m → SameButKept s m
alike-trans s t m e f = record { but-kept = e.but-kept ∙ f.but-kept }

-- a step that reads none of the kept bytes
abbrev Blind : (State → State) → Type 0
Blind f = (s : State) → SameButKept (f s) (f (unkept s))

blind-alike : (f : State → State) → Blind f → (s t : State) → SameButKept s t → SameButKept (f s) (f t)
blind-alike f b s t e = alike (f s) (f t) ((b s).but-kept ∙ ap (λ (m : State). unkept (f m)) e.but-kept ∙ sym (b t).but-kept)

cond-alike : (t : Bool) (x y z w : State) → SameButKept x z → SameButKept y w → SameButKept (cond t x y) (cond t z w)
cond-alike true x y z w e f = e
cond-alike false x y z w e f = f

settled-alike : (p : Placed) (a b : List ℕ) (s : State) → SameButKept (settled p (kept_line a s)) (settled p (kept_line b (unkept s)))
unfolding settled passed stuck_at kept_line unkept
settled-alike p a b s = cond-alike (eqb p.number 0) _ _ _ _ (alike _ _ refl) (alike _ _ refl)

-- what a row comes to, whatever the bytes are that are kept of its line
ended-alike : (w : Row) (a b : List ℕ) (s : State) → SameButKept (ended w (kept_line a s)) (ended w (kept_line b (unkept s)))
unfolding ended settled passed stuck_at kept_line unkept
ended-alike Row.Blank a b s = alike _ _ refl
ended-alike Row.Title a b s = alike _ _ refl
ended-alike Row.PassedOver a b s = alike _ _ refl
ended-alike (Row.Refused number) a b s = alike _ _ refl
ended-alike (Row.Used e) a b s = settled-alike (placed s.reader.choices.kind e (table_at s)) a b s

limited-blind : (line : List ℕ) (s x y : State) → SameButKept x y → SameButKept (limited line s x) (limited line (unkept s) y)
unfolding limited stuck_at kept_line unkept
limited-blind line s x y e =
    cond-alike (eqb s.reader.marks.lines 1_000_000) _ _ _ _ (alike _ _ refl) (cond-alike (ltb 160 (length line)) _ x _ y (alike _ _ refl) e)

line-blind : (line : List ℕ) → Blind (line_read line)
unfolding line_read unkept
line-blind line s = limited-blind line s _ _ (ended-alike _ line line s)

part-blind : (line : List ℕ) → Blind (part_read line)
unfolding part_read kept_line unkept
part-blind line s = limited-blind line s _ _ (alike _ _ refl)

-- ---- a line

-- two lines, with n lines before them, that are short enough and come to the same
pub record Heard (c : Choices) (n : ℕ) (a b : List ℕ) : Type 0 where
  pub short : length a ≤ 160
  pub other-short : length b ≤ 160
  pub same_row : (s : State) → ended (row_of c (eqb n 0) a) s ≡ ended (row_of c (eqb n 0) b) s

module _ (s : State) (a b : List ℕ) (p : length a ≤ 160) (q : length b ≤ 160) where
  -- two lines that are short enough have room, or neither has
  limited-alike : (x y : State) → SameButKept x y → SameButKept (limited a s x) (limited b s y)
  limited-alike x y e =
      elim (ℕ_discrete s.reader.marks.lines 1_000_000) [
        | yes full ↦ alike _ _ (ap unkept (limit-full a s x full ∙ sym (limit-full b s y full)))
        | no more ↦
            let l = ap unkept (limit-within a s x more p) in
            let r = ap unkept (limit-within b s y more q) in
            alike _ _ (l ∙ e.but-kept ∙ sym r)
      ]

  held-alike : SameButKept (kept_line a s) (kept_line b s)
  unfolding kept_line unkept
  held-alike = alike _ _ refl

  -- parts of them, whatever they will be
  parts-alike : SameButKept (part_read a s) (part_read b s)
  unfolding part_read
  parts-alike = limited-alike _ _ held-alike

module _ (s : State) (a b : List ℕ) (h : Heard s.reader.choices s.reader.marks.lines a b) where
  abbrev second-row : Row
  second-row = row_of s.reader.choices (eqb s.reader.marks.lines 0) b

  lines-alike : SameButKept (line_read a s) (line_read b s)
  unfolding line_read
  lines-alike =
      limited-alike s a b h.short h.other-short _ _
      (alike _ _
      (ap unkept (h.same_row (kept_line a s))
      ∙ (ended-alike second-row a b s).but-kept
      ∙ sym (ended-alike second-row b b s).but-kept))

-- ---- lines in turn

stage-alike : (s t : State) → SameButKept s t → s.reader.marks.stage ≡ t.reader.marks.stage
unfolding unkept
stage-alike s t e = ap (λ (m : State). m.reader.marks.stage) e.but-kept

-- an open reader after n lines, whose table holds these rows
abbrev At : Choices → ℕ → List Entry → State → Type 0
At c n rows = StartsAt (record { choices = c; rows = rows; lines = n })

-- the same line, or two that come to the same
abbrev Same : Choices → ℕ → List ℕ → List ℕ → Type 0
Same c n a b = (a ≡ b) ⊎ Heard c n a b

module _ {c : Choices} {n : ℕ} {rows : List Entry} (s : State) (at : At c n rows s) (t : State) (e : SameButKept s t) where
  here : {a b : List ℕ} → Heard c n a b → Heard s.reader.choices s.reader.marks.lines a b
  here {a} {b} h =
      subst (λ (d : Choices). Heard d s.reader.marks.lines a b) (sym at.choices) (subst (λ (k : ℕ). Heard c k a b) (sym at.lines) h)

  next-alike : (a b : List ℕ) → Same c n a b → SameButKept (line_read a s) (line_read b t)
  next-alike a b h =
      alike-trans (line_read a s) (line_read b s) (line_read b t)
      (⊎_elim (λ p. alike _ _ (ap (λ (l : List ℕ). unkept (line_read l s)) p)) (λ u. lines-alike s a b (here u)) h)
      (blind-alike (line_read b) (line-blind b) s t e)

-- what lines come to that agree, from states that are alike
abbrev Turned : Choices → ℕ → List (List ℕ) → List (List ℕ) → Type 0
Turned c n as_read others =
    (rows : List Entry) (s : State) → At c n rows s → (t : State) → SameButKept s t → SameButKept (in_turn line_read as_read s) (in_turn line_read others t)

module _ {c : Choices} {n : ℕ} (a b : List ℕ) (as_read others : List (List ℕ)) (e : clean a ≡ true) (h : Same c n a b) (f : Turned c (suc n) as_read others) where
  went-alike :
      {A : Type 0} (rows : List Entry) (s : State) → At c n rows s → (z : State) → SameButKept (line_read a s) z → Came A c n rows a (line_read a s)
      → SameButKept (in_turn line_read as_read (line_read a s)) (in_turn line_read others z)
  went-alike rows s at z k (on {more = more} b o chosen count h) =
      f (rows ++ more) (line_read a s) (record { ready = line-at-line s at.ready a e o; choices = chosen; lines = count; holds = h.holds }) z k
  went-alike rows s at z k (halts x) =
      let shut = stops-shut x in
      let same = stage-alike (line_read a s) z k in
      alike _ _
      (ap unkept (turn-shut line_read as_read (line_read a s) shut)
      ∙ k.but-kept
      ∙ ap unkept (sym (turn-shut line_read others z (λ o. shut (same ∙ o)))))

  turn-alike : Turned c n (a ∷ as_read) (b ∷ others)
  turn-alike rows s at t k =
      let opened-too = sym (stage-alike s t k) ∙ at.ready.stage in
      alike _ _
      (ap unkept (turn-open line_read a as_read s at.ready.stage)
      ∙ (went-alike rows s at (line_read b t) (next-alike s at t k a b h) (line-came s at (λ o. o) a)).but-kept
      ∙ ap unkept (sym (turn-open line_read b others t opened-too)))

-- a way of differing by which lines come to the same
abbrev pub Hears : Difference → Type 0
Hears Differ = (c : Choices) (n : ℕ) (a b : List ℕ) → Differ c n a b → Heard c n a b

agree-turned :
    {Differ : Difference} → Hears Differ → {c : Choices} {n : ℕ} {as_read others : List (List ℕ)} → AgreeBy Differ c n as_read others → Feedless as_read
    → Turned c n as_read others
unfolding in_turn
agree-turned hears end f = λ rows s at t k. k
agree-turned hears (same {line = a} {lines = ls} {others = ms} g) (then e f) = turn-alike a a ls ms e (inl refl) (agree-turned hears g f)
agree-turned hears (differ {line = a} {other = b} {lines = ls} {others = ms} d g) (then e f) = turn-alike a b ls ms e (inr (hears _ _ a b d)) (agree-turned hears g f)

-- ---- a text

module _ {Differ : Difference} {c : Choices} where
  agree-take : {n : ℕ} (k : ℕ) {as_read others : List (List ℕ)} → AgreeBy Differ c n as_read others → AgreeBy Differ c n (take k as_read) (take k others)
  agree-take zero g = end
  agree-take (suc k) end = end
  agree-take (suc k) (same g) = same (agree-take k g)
  agree-take (suc k) (differ d g) = differ d (agree-take k g)

  agree-drop :
      {n : ℕ} (k : ℕ) {as_read others : List (List ℕ)} → AgreeBy Differ c n as_read others
      → AgreeBy Differ c (n + length (take k as_read)) (drop k as_read) (drop k others)
  agree-drop {n} zero {as_read} {others} g = subst (λ (m : ℕ). AgreeBy Differ c m as_read others) (omega arith) g
  agree-drop (suc k) end = end
  agree-drop {n} (suc k) (same {lines = ls} {others = ms} g) = subst (λ (m : ℕ). AgreeBy Differ c m (drop k ls) (drop k ms)) (omega arith) (agree-drop k g)
  agree-drop {n} (suc k) (differ {lines = ls} {others = ms} d g) = subst (λ (m : ℕ). AgreeBy Differ c m (drop k ls) (drop k ms)) (omega arith) (agree-drop k g)

-- the line that is not ended
module _ (s t : State) (open-first : s.reader.marks.stage ≡ 1) (k : SameButKept s t) where
  part-alike : (a b : List ℕ) → SameButKept (part_read a s) (part_read b s) → SameButKept (in_turn part_read (a ∷ []) s) (in_turn part_read (b ∷ []) t)
  unfolding in_turn
  part-alike a b h =
      let opened-too = sym (stage-alike s t k) ∙ open-first in
      alike _ _
      (ap unkept (turn-open part_read a [] s open-first)
      ∙ (alike-trans (part_read a s) (part_read b s) (part_read b t) h (blind-alike (part_read b) (part-blind b) s t k)).but-kept
      ∙ ap unkept (sym (turn-open part_read b [] t opened-too)))

  unfinished-alike : {as_read others : List (List ℕ)} → BegunAlike as_read others → SameButKept (in_turn part_read as_read s) (in_turn part_read others t)
  unfolding in_turn
  unfinished-alike no_line = k
  unfinished-alike (one_line {line = a}) = part-alike a a (alike _ _ refl)
  unfinished-alike (two-lines {line = a} {other = b} p q) = part-alike a b (parts-alike s a b p q)

begun-of :
    {Differ : Difference} → Hears Differ → {c : Choices} {n : ℕ} {as_read others : List (List ℕ)} → Last as_read → AgreeBy Differ c n as_read others
    → BegunAlike as_read others
begun-of hears none_left end = no_line
begun-of hears (one_left some) (same end) = one_line
begun-of hears (one_left some) (differ d end) = let h = hears _ _ _ _ d in two-lines h.short h.other-short

-- ---- answers

same_cond : (t : Bool) (x y z w : Out) → SameOut x z → SameOut y w → SameOut (cond t x y) (cond t z w)
same_cond true x y z w e f = e
same_cond false x y z w e f = f

-- a call that reads none of the kept bytes
same_out : (f : State → Out) → ((s : State) → SameOut (f s) (f (unkept s))) → (s t : State) → SameButKept s t → SameOut (f s) (f t)
same_out f b s t e =
    record {
      answer = (b s).answer ∙ ap (λ (m : State). (f m).answer) e.but-kept ∙ sym (b t).answer;
      after = (b s).after ∙ ap (λ (m : State). unkept (f m).after) e.but-kept ∙ sym (b t).after;
    }

repeated-same : (s : State) → SameOut (repeated s) (repeated (unkept s))
unfolding repeated refusal refusal_place unkept
repeated-same s = record { answer = refl; after = refl }

going-same : (s : State) → SameOut (going s) (going (unkept s))
unfolding going unkept
going-same s = same_cond (eqb s.reader.marks.stage 1) _ _ _ _ (record { answer = refl; after = refl }) (repeated-same s)

settled_same : (w : Closed) (s : State) → SameOut (settled_by w s) (settled_by w (unkept s))
unfolding settled_by refusal refusal_place unkept
settled_same Closed.Empty s = record { answer = refl; after = refl }
settled_same (Closed.Missing pair) s = record { answer = refl; after = refl }
settled_same (Closed.Complete frequencies headings) s = record { answer = refl; after = refl }

closing_same : (s : State) → SameOut (closing s) (closing (unkept s))
unfolding closing unkept
closing_same s =
    same_cond (eqb s.reader.marks.stage 1) _ _ _ _
    (settled_same (closed_of s.reader.choices.coverage s.reader.slots s.flags) s)
    (repeated-same s)

-- ---- the laws

module _ {Differ : Difference} (hears : Hears Differ) (g : Start) (s : State) (at : StartsAt g s) (text second : List ℕ) where
  self : SameButKept s s
  self = alike s s refl

  -- as far as they have come
  module _ (a : AgreeSoFarBy Differ g text second) where
    abbrev ended-first : State
    ended-first = in_turn line_read (ended_lines text) s

    abbrev ended-second : State
    ended-second = in_turn line_read (ended_lines second) s

    both-ended : SameButKept ended-first ended-second
    both-ended = agree-turned hears a.ended (feedless-take (feeds_in text) (lines-feedless text)) g.rows s at s self

    read_alike : {A : Type 0} → Ended A g (ended_lines text) ended-first → SameButKept (in_turn part_read (unfinished text) ended-first) (in_turn part_read (unfinished second) ended-second)
    read_alike (all_read r at k) = unfinished-alike ended-first ended-second at.ready.stage both-ended a.begun
    read_alike (halted before line after e r x k) =
        let shut = stops-shut x in
        let same-stage = stage-alike ended-first ended-second both-ended in
        alike _ _
        (ap unkept (turn-shut part_read (unfinished text) ended-first shut)
        ∙ both-ended.but-kept
        ∙ ap unkept (sym (turn-shut part_read (unfinished second) ended-second (λ p. shut (same-stage ∙ p)))))

    bytes-alike : SameButKept (bytes_of text s) (bytes_of second s)
    bytes-alike =
        alike _ _
        (ap unkept (text-is-lines text s at.ready)
        ∙ (read_alike (text-ended g s at (feedless-take (feeds_in text) (lines-feedless text)))).but-kept
        ∙ ap unkept (sym (text-is-lines second s at.ready)))

  -- whole texts
  module _ (a : AgreeTextsBy Differ g text second) where
    so_far : AgreeSoFarBy Differ g text second
    so_far =
        let left =
        subst (λ (k : ℕ). AgreeBy Differ g.choices (g.lines + length (ended_lines text)) (unfinished text) (drop k (text_lines second))) a.feeds
        (agree-drop (feeds_in text) a.lines)
        in
        record {
          ended = subst (λ (k : ℕ). AgreeBy Differ g.choices g.lines (ended_lines text) (take k (text_lines second))) a.feeds (agree-take (feeds_in text) a.lines);
          begun = begun-of hears (unfinished-last text) left;
        }

    closed-alike : SameOut (close_of (bytes_of text s)) (close_of (bytes_of second s))
    closed-alike =
        let turned = agree-turned hears a.lines (lines-feedless text) g.rows s at s self in
        let same = same_out closing closing_same (in_turn line_read (text_lines text) s) (in_turn line_read (text_lines second) s) turned in
        subst (λ (z : Out). SameOut z (close_of (bytes_of second s))) (sym (closing-is-lines text s at.ready))
        (subst (SameOut (closing (in_turn line_read (text_lines text) s))) (sym (closing-is-lines second s at.ready)) same)

module _ {Differ : Difference} (hears : Hears Differ) where
  pub same-pieces-from : SamePiecesFrom Differ
  same-pieces-from g s pieces others at a =
      let read = same_out going going-same (bytes_of (joined pieces) s) (bytes_of (joined others) s) (bytes-alike hears g s at (joined pieces) (joined others) a) in
      subst (λ (z : Out). SameOut z (pieces_of others (out s Answer.Going))) (sym (pieces-out s at.ready pieces))
      (subst (SameOut (going (bytes_of (joined pieces) s))) (sym (pieces-out s at.ready others)) read)

  pub same-texts-from : SameTextsFrom Differ
  same-texts-from g s pieces others at a =
      let text = joined pieces in
      let second = joined others in
      let closed = closed-alike hears g s at text second a in (
        same-pieces-from g s pieces others at (so_far hears g s at text second a),
        subst (λ (m : State). SameOut (close_of m) (close_of (pieces_of others (out s Answer.Going)).after)) (sym (pieces-after s at.ready pieces))
            (subst (λ (m : State). SameOut (close_of (bytes_of text s)) (close_of m)) (sym (pieces-after s at.ready others)) closed),
      )

  -- from opening

  pub same-pieces : SamePieces Differ
  same-pieces c cells flags pieces others o a =
      from-opening c cells flags o (λ z. SameOut (pieces_of pieces z) (pieces_of others z))
      (same-pieces-from (from_opening c) (opened c cells flags) pieces others (open-starts c cells flags o) a)

  pub same-texts : SameTexts Differ
  same-texts c cells flags pieces others o a =
      from-opening c cells flags o
      (λ z. SameOut (pieces_of pieces z) (pieces_of others z) × SameOut (close_of (pieces_of pieces z).after) (close_of (pieces_of others z).after))
      (same-texts-from (from_opening c) (opened c cells flags) pieces others (open-starts c cells flags o) a)
