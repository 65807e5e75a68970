-- `Columns::component` meets its contract. Assumes nothing.
use Rattle.std.proofs.Common.{ap, ◌∙◌, arith}
use Rattle.row.specs.own.Values.{component_of}
use Rattle.row.proofs.Digit.{component-is, component-none}
use Rattle.row.proofs.columns.Columns.component.Goals as goal

pub returns-in-len1 : goal.returns-in-len1
returns-in-len1 c = component-is _ (omega arith) c.if-b-ge49.true c.if-b-le54.true ∙ ap component_of c.word.ensures

pub returns-in_default : goal.returns-in_default
returns-in_default c = component-none _ (λ one low high. omega arith) ∙ ap component_of c.word.ensures

pub returns-in_default-2 : goal.returns-in_default-2
returns-in_default-2 c = component-none _ (λ one low high. omega arith) ∙ ap component_of c.word.ensures

pub returns-in_default-3 : goal.returns-in_default-3
returns-in_default-3 c = component-none _ (λ one low high. omega arith) ∙ ap component_of c.word.ensures

pub returns-in_default-4 : goal.returns-in_default-4
returns-in_default-4 c = component-none _ (λ one low high. omega arith) ∙ ap component_of c.word.ensures
