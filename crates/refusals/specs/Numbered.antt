-- Document 01, "The sixteen numbers", with 17 to 19 of document 02: which number stands for which reason.
use Rattle.std.specs.Prelude.{◌≡◌, ℕ, ◌<◌, ◌⊎◌, Result, Ok, Err, MatchResult}
use Rattle.refusals.specs.declared.refusal.Refusal.{Refusal}
use Rattle.refusals.specs.declared.refusal.Refusal.TheVariants.{ShortBuffer, NotValid, LongText, FieldCount, WrongForm, OutOfRange, NotReal, NoSlot, Contradicted, NoRow, MissingPair, Inadmissible, FrequencyOutside, HeadingOutside, CellOutside, Scale, Misfit, NotOneHull, ShortRoom}
use Rattle.refusals.specs.declared.refusal.NoRefusal.{NoRefusal}

abbrev pub number_of : Refusal → ℕ
number_of ShortBuffer = 1
number_of NotValid = 2
number_of LongText = 3
number_of FieldCount = 4
number_of WrongForm = 5
number_of OutOfRange = 6
number_of NotReal = 7
number_of NoSlot = 8
number_of Contradicted = 9
number_of NoRow = 10
number_of MissingPair = 11
number_of Inadmissible = 12
number_of FrequencyOutside = 13
number_of HeadingOutside = 14
number_of CellOutside = 15
number_of Scale = 16
number_of Misfit = 17
number_of NotOneHull = 18
number_of ShortRoom = 19

-- the reason that a number stands for, or that it stands for none
abbrev pub Named : ℕ → Result Refusal NoRefusal → Type 0
Named n r = MatchResult r (λ refusal. number_of refusal ≡ n) (λ e. (e.0 ≡ n) × ((n ≡ 0) ⊎ (19 < n)))

-- the number that a call gives, and 0 where it gives none
abbrev pub number_in : {A : Type 0} → Result A Refusal → ℕ
number_in (Ok _) = 0
number_in (Err refusal) = number_of refusal
