-- `Record::keep_on` meets its contract: std finds the first line feed, and what stands before it is kept. Assumes nothing.
use Rattle.std.proofs.Common.{◌≡◌, ◌∙◌, ◌+◌, ◌-◌, ◌<◌, ℕ, List, sym, rules, tests, arith, length, take, drop, eqb, get_or, length-drop}
use lib.Seq.{length-take-le, get_or-take, take_all}
use Rattle.std.specs.List.{position}
use Rattle.std.specs.Option.{unwrap_or}
use Rattle.std.proofs.lemmas.Iterator.{YieldsList-from_slice}
use Rattle.std.proofs.lemmas.Iterator.Search.{position_from_yields_List}
use borrow.Rule.Slice.PartMut.{put_mid}
use Rattle.grid.specs.Slots.{slot_of}
use Rattle.grid.proofs.Places.{slot-found, slot-within}
use Rattle.reader.specs.Model.{state_of, with_marks, counting, bytes_of}
use Rattle.reader.proofs.TextLoop.{kept-same, before-feed}
use Rattle.reader.proofs.record.Record.keep_on.Goals as goal

pub returns-clause-same : goal.returns-clause-same
returns-clause-same c cells flags =
    let r = c.args.self.now in
    let text = c.args.text.now in
    let most = c.min-most.result in
    let n = c.unwrap_or-n.result in
    let line : List ℕ = take most text in
    let found : c.position.result ≡ position (λ y. eqb y 10) line = position_from_yields_List (λ y. eqb y 10) _ _ _ c.position.ensures.ran (YieldsList-from_slice line cc) (λ x b q k. search (rules, tests)) in
    let short : length line ≡ most = length-take-le most text (omega (arith, c.min-most.ensures)) in
    let first : n ≡ slot_of eqb line 10 = c.unwrap_or-n.ensures ∙ (λ i. unwrap_or (found i) (sym short i)) ∙ slot-found eqb 10 line in
    let within = slot-within eqb 10 line in
    let none : (k : ℕ) → k < n → get_or text k 0 ≡ 10 → ⊥ = λ k h e. let here : k < most = omega arith in before-feed line k (omega arith) (get_or-take most text k 0 here ∙ e) in
    let long : length r.kept ≡ 160 = search rules in
    let all = kept-same text n (state_of r cells flags) c.requires.1 c.if-count-eq0.false (omega (arith, c.min-most.ensures)) long (omega (arith, c.min-most.ensures)) none in
    let left : take (length text - n) (drop n text) ≡ drop n text = take_all (length text - n) (drop n text) (omega (arith, length-drop n text)) in
    let many : r.marks.count + n - r.marks.count ≡ n = omega arith in
    let kept = c.lay.ensures in
    (λ i. bytes_of (left i) (with_marks (counting (r.marks.count + n) r.marks) (put_mid r.marks.count (many i) r.kept (kept i)) (state_of r cells flags))) ∙ all
