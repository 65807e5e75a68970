-- A heading as it is read. Document 01, "Numbers", has millidegrees, -180,000 to 180,000, compared as written; document 02, M-102, has the two ends as one direction: "Read -180,000
-- as 180,000 in rows, seas and coefficient calls, after rounding". Every heading of a row, a sea line or a coefficient call passes this one definition before it is compared, a
-- row's after its range.
use Rattle.std.specs.Prelude.{cond, ℤ, pos, neg_ℤ}
use Rattle.whole.specs.Same.{same_ℤ}
use Rattle.row.specs.Ranges.{heading_most}

unfoldable pub heading_of : ℤ → ℤ
heading_of millidegrees = cond (same_ℤ millidegrees (neg_ℤ (pos heading_most))) (pos heading_most) millidegrees
