-- `Columns::starts_with_letter` meets its contract: the first word tells. Assumes nothing.
use Rattle.std.proofs.Common.{List, ℕ, get_or, ◌∙◌, ap, length, arith}
use Rattle.row.specs.Line.{is_letter}
use Rattle.row.proofs.Lines.{title-is, no-title}
use Rattle.row.proofs.columns.Columns.starts_with_letter.Goals as goal

pub returns-in-empty : goal.returns-in-empty
returns-in-empty c = no-title _ (omega (arith, ap length c.word.ensures))

pub returns-in-len1-up : goal.returns-in-len1-up
returns-in-len1-up c =
    let word = c.word.ensures in
    let letter = title-is c.args.self.now.line.now (omega (arith, ap length word)) in
    c.is_ascii_alphabetic.ensures.value ∙ ap (λ (w : List ℕ). is_letter (get_or w 0 0)) word ∙ letter
