-- What explains a refusal as the statements have it, variant by variant.
use Rattle.std.specs.Prelude.{ℕ}
use Rattle.reasons.specs.declared.explanation.Clash.{Clash}
use Rattle.reasons.specs.declared.explanation.Bringers.{Bringers}
use Rattle.reasons.specs.declared.explanation.Explanation.{Explanation as CodeExplanation}
use Rattle.reasons.specs.declared.explanation.Explanation.TheVariants as Code

pub data Explanation : Type 0 where
  Nothing : Explanation
  Field : ℕ → Explanation
  Held : Explanation
  Set : Clash → Explanation
  Brought : Bringers → Explanation
  Refused : ℕ → Explanation

abbrev pub numbered : CodeExplanation → Explanation
numbered Code.Nothing = Explanation.Nothing
numbered (Code.Field field) = Explanation.Field field
numbered Code.Held = Explanation.Held
numbered (Code.Set clash) = Explanation.Set clash
numbered (Code.Brought bringers) = Explanation.Brought bringers
numbered (Code.Refused number) = Explanation.Refused number
