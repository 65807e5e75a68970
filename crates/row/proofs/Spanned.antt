-- What the spans of a line's columns say of the first nine words. Assumes nothing.
use Rattle.std.proofs.Common.{◌≡◌, sym, ap, ◌∙◌, List, [], ℕ, ◌-◌, ◌≤◌, ◌<◌, length, take, drop, get_or, arith}
use Rattle.std.proofs.Math.Seq.{slice, get_or-take, take_all}
use lib.ListN.{length-take, get_or-eq_default}
use Rattle.field.proofs.Runs.{slice-part}
use Rattle.row.specs.Line.{words}
use Rattle.row.specs.Layout.{column_of}
use Rattle.row.specs.own.Found.{Spans, first_nine, empty}
use Rattle.row.specs.declared.columns.Span.{Span}

-- a word of the first nine is one of all, and behind them there is none
pub one_of_nine : (line : List ℕ) (k : ℕ) → k < 9 → column_of (first_nine line) k ≡ column_of (words line) k
one_of_nine line k h = get_or-take 9 (words line) k [] h

pub none-behind : (line : List ℕ) (k : ℕ) → 9 ≤ k → [] ≡ column_of (first_nine line) k
none-behind line k h = sym (get_or-eq_default (first_nine line) [] {n = k} (omega (arith, length-take 9 (words line))))

-- a line of no more has them all
pub no-more : (line : List ℕ) → length (words line) ≤ 9 → first_nine line ≡ words line
no-more line h = take_all 9 (words line) h

module _ (line : List ℕ) (spans : List Span) (s : Spans line spans) (k : ℕ) (few : k < 9) (span : Span) (at : span ≡ get_or spans k empty) where
  pub spanned : slice span.start span.end line ≡ column_of (first_nine line) k
  spanned = (λ i. slice (at i).start (at i).end line) ∙ s.text k few ∙ sym (one_of_nine line k few)

  pub ordered : span.start ≤ span.end
  ordered = omega (arith, s.ordered k few, ap (λ (x : Span). x.start) at, ap (λ (x : Span). x.end) at)

  pub within : span.end ≤ length line
  within = omega (arith, s.within k few, ap (λ (x : Span). x.end) at)

  pub part : take (span.end - span.start) (drop span.start line) ≡ column_of (first_nine line) k
  part = slice-part span.start span.end span.end line (omega (arith, within)) ordered ∙ spanned
