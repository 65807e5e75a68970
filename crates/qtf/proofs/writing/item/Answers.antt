-- `writing::item` meets its contract: nothing before the first number, and a space before each other. Assumes nothing.
use Rattle.std.proofs.Common.{List, ℕ, ◌++◌, sym, ap}
use mir.Facts.{to_z-of_z}
use Rattle.text.specs.Decimal.{decimal}
use Rattle.text.proofs.Pens.{puts-as}
use Rattle.qtf.proofs.Spacing.{gap-none, gap-some}
use Rattle.qtf.proofs.writing.item.Goals as goal

pub returns-then-i-eq0 : goal.returns-then-i-eq0
returns-then-i-eq0 c =
    puts-as (rw (to_z-of_z c.ranges.z) at c.decimal.ensures) (ap (λ (g : List ℕ). g ++ decimal c.args.places c.args.z) (sym (gap-none c.args.i c.if-i-eq0.true)))

pub returns-else-i-eq0 : goal.returns-else-i-eq0
returns-else-i-eq0 c =
    puts-as (rw (to_z-of_z c.ranges.z) at c.next_decimal.ensures) (ap (λ (g : List ℕ). g ++ decimal c.args.places c.args.z) (sym (gap-some c.args.i c.if-i-eq0.false)))
