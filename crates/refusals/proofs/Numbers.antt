-- Every reason has a number, and 0 stands for none. Assumes nothing.
use Rattle.std.proofs.Common.{◌≡◌, refl, false, eqb, ℕ}
use borrow.Author.Tests.{eqb-false}
use Rattle.refusals.specs.declared.refusal.Refusal.{Refusal}
use Rattle.refusals.specs.declared.refusal.Refusal.TheVariants.{ShortBuffer, NotValid, LongText, FieldCount, WrongForm, OutOfRange, NotReal, NoSlot, Contradicted, NoRow, MissingPair, Inadmissible, FrequencyOutside, HeadingOutside, CellOutside, Scale, Misfit, NotOneHull, ShortRoom}
use Rattle.refusals.specs.Numbered.{number_of}

pub numbered : (r : Refusal) → eqb (number_of r) 0 ≡ false
numbered ShortBuffer = refl
numbered NotValid = refl
numbered LongText = refl
numbered FieldCount = refl
numbered WrongForm = refl
numbered OutOfRange = refl
numbered NotReal = refl
numbered NoSlot = refl
numbered Contradicted = refl
numbered NoRow = refl
numbered MissingPair = refl
numbered Inadmissible = refl
numbered FrequencyOutside = refl
numbered HeadingOutside = refl
numbered CellOutside = refl
numbered Scale = refl
numbered Misfit = refl
numbered NotOneHull = refl
numbered ShortRoom = refl

pub some-number : (r : Refusal) → number_of r ≡ 0 → ⊥
some-number r = eqb-false _ _ (numbered r)
