-- `words::numbers_behind` meets its contract. Assumes nothing.
use Rattle.std.proofs.Common.{ap, ◌∙◌, ◌+◌}
use Rattle.script.specs.Line.{words_of}
use Rattle.script.specs.Number.{numbers_of, first_of}
use Rattle.script.proofs.Ending.{tail, behind-here, behind-none}
use Rattle.script.proofs.words.numbers_behind.Goals as goal

pub returns-then-line-end : goal.returns-then-line-end
unfolding numbers_of first_of
returns-then-line-end c = c.none.ensures ∙ ap numbers_of (behind-none c.args.line.now c.args.end c.if-line-end.true)

pub returns : goal.returns
returns c =
    c.numbers_in.ensures
    ∙ ap (λ s. numbers_of (words_of s)) (tail c.args.line.now (c.args.end + 1))
    ∙ ap numbers_of (behind-here c.args.line.now c.args.end c.if-line-end.false)
