-- `listing::pair_line` meets its contract: the entry of the pair's two nodes, as text. Assumes nothing.
use Rattle.std.proofs.Common.{◌∙◌, ap}
use Rattle.table.specs.declared.entries.Parts.{Parts}
use Rattle.table.specs.Entries.{complex_of}
use Rattle.lines.specs.Line.{line_of}
use Rattle.lines.specs.Listing.{pair_text}
use Rattle.lines.proofs.listing.pair_line.Goals as goal

pub returns : goal.returns
returns c = c.written.ensures ∙ ap (λ (v : Parts). line_of (pair_text c.args.p (complex_of v))) c.entry_at.ensures
