-- `refusal::next_place` meets its contract, by cases on the place. Assumes nothing.
use Rattle.std.proofs.Common.{rules, arith, ◌<◌, ◌^◌}
use Rattle.text.specs.Spaced.{spaced}
use Rattle.text.proofs.Pens.{◌then◌}
use Rattle.text.proofs.Widths.{natural-few}
use Rattle.lines.specs.Refusal.{place_words}
use Rattle.lines.proofs.Held.{short-natural, pair-few}
use Rattle.lines.proofs.refusal.next_place.Goals as goal

pub returns-in-Nowhere-clause-result_after : goal.returns-in-Nowhere-clause-result_after
unfolding place_words spaced
returns-in-Nowhere-clause-result_after c = rw c.in-Nowhere.is c.next_natural.ensures

pub returns-in-Nowhere-clause-place_len_bound : goal.returns-in-Nowhere-clause-place_len_bound
unfolding place_words spaced
returns-in-Nowhere-clause-place_len_bound c =
    let small : 0 < 10 ^ 1 = omega arith in
    let few = natural-few 0 0 small in
    rw c.in-Nowhere.is (omega arith)

pub returns-in-Line-clause-result_after : goal.returns-in-Line-clause-result_after
unfolding place_words spaced
returns-in-Line-clause-result_after c = rw c.in-Line.is (rw c.from.ensures at c.next_natural-in-Line.ensures)

pub returns-in-Line-clause-place_len_bound : goal.returns-in-Line-clause-place_len_bound
unfolding place_words spaced
returns-in-Line-clause-place_len_bound c =
    let few = short-natural c.in-Line.n (search rules) in
    rw c.in-Line.is (omega arith)

pub returns-in-Pair-clause-result_after : goal.returns-in-Pair-clause-result_after
unfolding place_words
returns-in-Pair-clause-result_after c = rw c.in-Pair.is (c.byte.ensures then c.put_pair.ensures)

pub returns-in-Pair-clause-place_len_bound : goal.returns-in-Pair-clause-place_len_bound
unfolding place_words
returns-in-Pair-clause-place_len_bound c = rw c.in-Pair.is (pair-few c.in-Pair.p (search rules) (search rules) (search rules) (search rules))
