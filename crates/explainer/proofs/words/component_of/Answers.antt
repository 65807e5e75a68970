-- `words::component_of` meets its contract: the code's table is that of specs/Words. Assumes nothing.
use Rattle.field.specs.Text.{bytes}
use Rattle.script.specs.Line.{named}
use Rattle.script.specs.own.Tabled.{tabled}
use Rattle.explainer.specs.Words.{component_of}
use Rattle.explainer.proofs.words.component_of.Goals as goal

pub returns : goal.returns
unfolding tabled named bytes component_of
returns c = c.named.ensures
