-- Calls from a start whose slots are in order of arrival leave them so, with the rows that the table holds. Assumes nothing.
use mathlib.Core.Bool.{cond, ◌||◌}
use mathlib.Core.List.{List, [], ◌∷◌, ◌++◌}
use mathlib.Core.Path.{◌≡◌, sym, ap, ◌∙◌, subst}
use Prim.Native.Nat.{ℕ, ◌+◌, ◌-◌}
use native.Mathlib.Omega.{arith}
use lib.Dec.{leb, eqb}
use lib.IntN.{ℤ}
use lib.ListN.{take}
use lib.Seq.{take_at}
use borrow.Author.Tests.{le-leb, lt-leb, ne_eqb}
use Rattle.row.specs.declared.reading.Choices.{Choices}
use Rattle.row.specs.declared.reading.Entry.{Entry}
use Rattle.reader.specs.Model.{State}
use Rattle.promises_calls.specs.Lines.{text_lines, ended_lines}
use Rattle.promises_chains.specs.Chain.{calls_of, Opens, opened, chain_text}
use Rattle.promises_texts.specs.Start.{Start, from_opening}
use Rattle.promises_texts.specs.Accepted.{ReadsFrom}
use Rattle.promises_texts.specs.Along.{StandsFrom}
use Rattle.promises_texts.specs.Arrival.{InArrival, CallsArrival, ChainArrival}
use Rattle.promises_chains.proofs.Chain.{start_of, opened-is}
use Rattle.promises_texts.proofs.Start.{open-starts}
use Rattle.promises_texts.proofs.Verdicts.{breaks-number, reads-one}
use Rattle.promises_calls.proofs.LineNumbers.{line-told}
use Rattle.promises_texts.proofs.Arrival.{open-arrival}
use Rattle.promises_texts.proofs.Along.{calls-rows}

-- ---- with the rows that the table holds: the lines that are read bring no others

-- by the stage: open; closed, which is accepted or stuck with 10 or 11; or stuck with the refusal of a line
unfoldable lines_read : Start → List ℕ → State → List (List ℕ)
lines_read g text s =
    let stage = s.reader.marks.stage in
    cond (leb stage 1) (ended_lines text)
    (cond (eqb stage 2 || (eqb stage 10 || eqb stage 11)) (text_lines text) (take (s.reader.marks.line - (g.lines + 1)) (text_lines text)))

module _ (g : Start) (text : List ℕ) (s : State) where
  abbrev stage : ℕ
  stage = s.reader.marks.stage

  lines-brought : {rows : List Entry} → StandsFrom g text s rows → ReadsFrom g (lines_read g text s) rows
  unfolding lines_read
  lines-brought (StandsFrom.reading e r) = rw (le-leb stage 1 (omega arith)) r
  lines-brought (StandsFrom.halted before line after whole r b place) =
      let n = line-told (breaks-number b) in
      let other : stage ≡ 2 → ⊥ = λ e. omega (arith, n.least) in
      let count = s.reader.marks.line - (g.lines + 1) in
      let front : take count (text_lines text) ≡ before = ap (λ (l : List (List ℕ)). take count l) whole ∙ take_at before (line ∷ after) count (omega arith) in
      rw (lt-leb stage 1 (omega arith), ne_eqb stage 2 other, ne_eqb stage 10 n.not-ten, ne_eqb stage 11 n.not-eleven, front) r
  lines-brought (StandsFrom.empty e r none) = rw e r
  lines-brought (StandsFrom.lacking e r m) = rw e r
  lines-brought (StandsFrom.accepted e a) = rw e a.reads

pub calls-arrival : CallsArrival
calls-arrival g s calls rows at a is =
    let text = chain_text calls in
    let m = calls_of calls s in
    let (some, those, k) = calls-rows g s calls at in
    subst (λ (l : List Entry). InArrival (g.rows ++ l) m.reader.slots) (reads-one (lines-brought g text m those) (lines-brought g text m is.stands)) (k.arrival a)

-- ---- a chain

opened-arrival : (c : Choices) (cells : List ℤ) (flags : List ℕ) → Opens c cells flags → InArrival [] (opened c cells flags).reader.slots
unfolding start_of
opened-arrival c cells flags o =
    subst (λ (s : State). InArrival [] s.reader.slots) (sym (opened-is c cells flags o)) open-arrival

pub chain-arrival : ChainArrival
chain-arrival c cells flags calls rows o is =
    calls-arrival (from_opening c) (opened c cells flags) calls rows (open-starts c cells flags o) (opened-arrival c cells flags o) is
