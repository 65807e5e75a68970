-- `memory::spill` meets its contract (`spilt`). Assumes nothing.
use Rattle.std.proofs.Common.{◌≡◌, refl, rules, ◌∙◌, pos}
use mir.Syntax.{w32}
use mir.Val.{to_z, of_z}
use borrow.Author.Tests.{le-leb}
use Rattle.replies.specs.declared.reply.Reply.TheVariants as Reply
use Rattle.changing.specs.Memory.{leaving, spill_as}
use Rattle.changing.proofs.Spilling.{spilt}
use Rattle.changing.proofs.memory.spill.Goals as goal

pub returns : goal.returns
unfolding spill_as
returns c =
    let v = c.in-Some.v in
    let back : to_z w32 (of_z w32 c.from.result) ≡ c.from.result = search rules in
    let cells = spilt 12_800 (pos v) c.args.cells.now c.min-beyond.ensures (c.fill.ensures.after (λ y e. e)) (back ∙ c.from.ensures) in
    let flags = spilt 6_400 v c.args.flags.now c.min-beyond-2.ensures (c.fill-2.ensures.after (λ y e. e)) refl in
    rw (← c.only_byte.ensures, c.in-Some.is, le-leb _ _ c.if-v-gt100.false) (λ i. leaving (Reply.Spilt v) (cells i) (flags i))
