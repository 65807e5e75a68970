-- `words::command_in` meets its contract. Assumes nothing.
use Rattle.std.proofs.Common.{ap, ◌∙◌, ◌≡◌, ◌+◌, ◌<◌, ◌≤◌, sym, take, drop, length, true, false}
use Rattle.std.specs.Str.{bytes_eq}
use Rattle.field.specs.Text.{bytes}
use Rattle.script.specs.declared.words.Command.{Command}
use Rattle.script.specs.declared.words.Part.{Part}
use Rattle.script.specs.Line.{words_of}
use Rattle.script.specs.Number.{numbers_of}
use Rattle.script.specs.Command.{verb_of, forge_of}
use Rattle.script.specs.own.Behind.{word_end, behind}
use Rattle.script.proofs.Ending.{tail, plain-is, one-word, forge-line, other-line}
use Rattle.script.proofs.words.command_in.Goals as goal
use Rattle.script.proofs.words.command_in.Goals.{else-end-line-via-then-end-line+else-eq, else-end-line-via-else-end-line}

pub returns-then-eq : goal.returns-then-eq
unfolding bytes
returns-then-eq c =
    let line = c.args.line.now in
    let end = c.word_end-end.ensures.value in
    let more : word_end line < length line = rw end at c.if-end-line.true in
    let is-forge : bytes_eq (take (word_end line) line) (bytes "forge") ≡ true = rw end at (rw c.as_slice.ensures at (sym c.eq.ensures ∙ c.if-eq.true)) in
    c.forge_in.ensures
    ∙ ap (λ s. forge_of (words_of s)) (tail line (c.word_end-end.result + 1))
    ∙ ap (λ e. forge_of (words_of (drop (e + 1) line))) end
    ∙ forge-line line more is-forge

pub returns : goal.returns
unfolding bytes
returns c =
    let line = c.args.line.now in
    let end = c.word_end-end.ensures.value in
    let verb = c.verb_of.ensures ∙ ap (λ e. verb_of (take e line)) end in
    let numbers = c.numbers_behind.ensures ∙ ap (λ e. numbers_of (behind (drop e line))) end in
    let made : ◌≡◌ {A = Command} record { verb = c.verb_of.result; part = Part.Unknown; numbers = c.numbers_behind.result } record { verb = verb_of (take (word_end line) line); part = Part.Unknown; numbers = numbers_of (behind (drop (word_end line) line)) } = λ i. record { verb = verb i; part = Part.Unknown; numbers = numbers i } in
    made
    ∙ plain-is line
    ∙ elim c.else-end-line.branch [
      | else-end-line-via-then-end-line+else-eq w ↦
          let more : word_end line < length line = rw end at w.if-end-line.true in
          let other : bytes_eq (take (word_end line) line) (bytes "forge") ≡ false = rw end at (rw w.as_slice.ensures at (sym w.eq.ensures ∙ w.if-eq.false)) in
          other-line line more other
      | else-end-line-via-else-end-line w ↦
          let past : length line ≤ word_end line = rw end at w.if-end-line.false in
          one-word line past
    ]
