-- Tables that are alike are alike over each coverage. Assumes nothing.
use Rattle.promises_rows.specs.ByValue.{AlikeOverEach}

pub alike-over-each : AlikeOverEach
alike-over-each coverage v w A = record { ticks = A.ticks; headings = A.headings; entries = λ a b h k _. A.entries a b h k }
