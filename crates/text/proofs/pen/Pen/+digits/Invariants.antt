-- `pen::Pen::digits` calls itself for one digit less, so its measure is how many are asked.
use Rattle.text.proofs.pen.Pen.+digits.Given as goal

abbrev pub decreases-digits : goal.decreases-digits
decreases-digits l = l.count
