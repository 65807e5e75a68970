-- `Record::feed` meets its contract: each turn is a law of proofs/TextLoop.antt. Assumes nothing.
use Rattle.std.proofs.Common.{◌≡◌, ◌∙◌, rules, length, arith, refl, ap, List, ℕ, take, drop, ◌-◌, length-drop}
use lib.Seq.{take_all}
use Rattle.reader.specs.declared.record.Marks.{Marks}
use Rattle.reader.specs.Model.{state_of, bytes_of}
use Rattle.reader.proofs.TextLoop.{next-same, next-within, stuck, done}
use Rattle.reader.proofs.record.Record.feed.Goals as goal

pub loop-left-init : goal.loop-left-init
loop-left-init c =
    let long : length c.args.self.now.kept ≡ 160 = search rules in
    record { is_open = c.requires.2; bounds = record { lines = c.requires.0; count = c.requires.1; kept = long }; same = refl }

pub take_in-requires : goal.take_in-requires
take_in-requires c = (c.loop-left.invariant.bounds.lines, c.loop-left.invariant.bounds.count)

pub returns-then-self-ne1 : goal.returns-then-self-ne1
returns-then-self-ne1 c = stuck _ _ _ c.loop-left.invariant c.in-len1-up.len_at_least _ c.take_in.ensures c.if-self-ne1.true

pub keep_on-left-requires : goal.keep_on-left-requires
keep_on-left-requires c =
    let kept = next-within _ _ _ c.loop-left.invariant c.in-len1-up.len_at_least _ c.take_in.ensures in
    (kept.count, c.if-self-ne1.false)

pub loop-left-smaller : goal.loop-left-smaller
loop-left-smaller c = omega (arith, c.keep_on-left.ensures.left, c.in-len1-up.len_at_least)

pub loop-left-preserved : goal.loop-left-preserved
loop-left-preserved c =
    let kept = next-within _ _ _ c.loop-left.invariant c.in-len1-up.len_at_least _ c.take_in.ensures in
    let same = next-same _ _ _ c.loop-left.invariant c.in-len1-up.len_at_least _ c.take_in.ensures in
    let on = c.keep_on-left.ensures in
    let left = c.loop-left.left.now in
    let behind : take (length left - 1) (drop 1 left) ≡ drop 1 left = take_all (length left - 1) (drop 1 left) (omega (arith, length-drop 1 left)) in
    record { is_open = ap (λ (m : Marks). m.stage) on.marks ∙ c.if-self-ne1.false; bounds = record { lines = rw (ap (λ (m : Marks). m.lines) on.marks) kept.lines; count = on.few; kept = on.kept ∙ kept.kept }; same = on.same c.take_in.new.cells c.take_in.new.flags ∙ ap (λ (l : List ℕ). bytes_of l (state_of c.take_in.new.self c.take_in.new.cells c.take_in.new.flags)) behind ∙ same }

pub returns : goal.returns
returns c = done _ _ _ c.loop-left.invariant (omega arith)
