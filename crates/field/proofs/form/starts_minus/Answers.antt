-- `form::starts_minus`: what the pattern says of the first byte. Assumes nothing.
use Rattle.std.proofs.Common.{arith}
use Rattle.field.proofs.Runs.{minus-one, minus_other}
use Rattle.field.proofs.form.starts_minus.Goals as goal

pub returns-in-45 : goal.returns-in-45
returns-in-45 c = minus-one _ c.in-45.len_at_least (omega arith)

pub returns-in_default : goal.returns-in_default
returns-in_default c = minus_other _ (λ h e. omega arith)

pub returns-in_default-2 : goal.returns-in_default-2
returns-in_default-2 c = minus_other _ (λ h e. omega arith)
