-- `words::numbers_in` meets its contract: a word is taken off the line, and its number added. Assumes nothing.
use Rattle.std.proofs.Common.{sym, ap, ◌∙◌}
use Rattle.std.proofs.lemmas.List.{take_rest}
use Rattle.script.specs.Line.{words_of}
use Rattle.script.specs.own.Growing.{with_number}
use Rattle.script.specs.own.Behind.{with_all}
use Rattle.script.proofs.Counting.{counted, word-taken, last-word}
use Rattle.script.proofs.words.numbers_in.Goals as goal

pub loop-end-preserved : goal.loop-end-preserved
loop-end-preserved c =
    rw take_rest
    (word-taken c.loop-end.all c.loop-end.rest.now c.in-Some.end (sym c.space_in.ensures ∙ c.in-Some.is) c.split_at.ensures.front c.split_at.ensures.back c.read.ensures c.add.ensures
    ∙ c.loop-end.invariant)

pub returns : goal.returns
returns c =
    let all = last-word c.loop-end.rest.now (sym c.space_in.ensures ∙ c.in_default.is) in
    c.add-2.ensures
    ∙ ap (with_number c.loop-end.all) c.read-2.ensures
    ∙ ap (with_all c.loop-end.all) (sym all)
    ∙ c.loop-end.invariant
    ∙ counted (words_of c.args.line.now)
