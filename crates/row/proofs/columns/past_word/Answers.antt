-- `columns::past_word` meets its contract: the bytes up to a blank or the line's end are one word. Assumes nothing.
use Rattle.std.proofs.Common.{sym, ◌∙◌, length, arith}
use Rattle.row.proofs.Words.{Solid, ends-end, ends-byte, word}
use Rattle.row.proofs.columns.past_word.Goals as goal

pub returns-then-is_blank : goal.returns-then-is_blank
returns-then-is_blank c =
    let line = c.args.line.now in
    let stop = ends-byte line c.loop-i.i c.loop-i-test.true ∙ sym c.if-is_blank.ensures in
    record { within = (omega arith, omega arith); first = word line c.loop-i.i (omega arith) stop c.args.at (omega arith) c.loop-i.invariant }

pub returns : goal.returns
returns c =
    let line = c.args.line.now in
    let solid : Solid line c.args.at (length line) = λ k h g. c.loop-i.invariant k (omega arith) g in
    record {
      within = (omega arith, omega arith);
      first = word line (length line) (omega arith) (ends-end line (length line) (omega arith)) c.args.at (omega arith) solid;
    }
