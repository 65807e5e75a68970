-- `words::forge_in` meets its contract. Assumes nothing.
use Rattle.std.proofs.Common.{ap, ◌∙◌, sym, take, drop}
use Rattle.script.specs.declared.words.Verb.{Verb}
use Rattle.script.specs.Number.{numbers_of}
use Rattle.script.specs.Command.{part_of, forge_of}
use Rattle.script.specs.own.Behind.{behind}
use Rattle.script.proofs.Ending.{split}
use Rattle.script.proofs.words.forge_in.Goals as goal

pub returns : goal.returns
unfolding forge_of
returns c =
    let line = c.args.line.now in
    let end = c.word_end-end.ensures.value in
    let part = c.part_of.ensures ∙ ap (λ e. part_of (take e line)) end in
    let numbers = c.numbers_behind.ensures ∙ ap (λ e. numbers_of (behind (drop e line))) end in
    (λ i. record { verb = Verb.Forge; part = part i; numbers = numbers i }) ∙ ap forge_of (sym (split line))
