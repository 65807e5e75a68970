-- Each answer of the code is an enum, and document 01 asks: "a definition gives this paper's number and values for each of its cases, and the promises use that definition". What such a definition gives.
use Rattle.std.specs.Prelude.{ℕ}
use Rattle.reader.specs.declared.reader.Place.{Place}

pub record Given (A : Type 0) : Type 0 where
  pub number : ℕ
  pub place : Place
  pub value : A

-- number 0 says that it is no refusal, and has no place
abbrev pub given : {A : Type 0} → A → Given A
given value = record { number = 0; place = Place.Nowhere; value = value }
