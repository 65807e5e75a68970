-- The answers of the queries in document 01's numbers: the values, or a refusal's number with its sea line or point, 0 for none; and the code's answers read so.
use Rattle.std.specs.Prelude.{ℕ, ℤ, Result, Ok, Err}
use Rattle.refusals.specs.Numbered.{number_of}
use Rattle.table.specs.declared.entries.Parts.{Parts}
use Rattle.load.specs.declared.refused.Refused.{Refused as AtLine}
use Rattle.load.specs.declared.force.Load.{Load as BothForces}

-- both parts of a coefficient
pub data Coefficient : Type 0 where
  Value : ℤ → ℤ → Coefficient
  Refused : ℕ → ℕ → Coefficient

abbrev pub coefficient_in : Result Parts AtLine → Coefficient
coefficient_in (Ok p) = Coefficient.Value p.re p.im
coefficient_in (Err e) = Coefficient.Refused (number_of e.refusal) e.line

-- the mean and the whole force
pub data Load : Type 0 where
  Both : ℤ → ℤ → Load
  Refused : ℕ → ℕ → Load

abbrev pub load_in : Result BothForces AtLine → Load
load_in (Ok x) = Load.Both x.mean x.whole
load_in (Err e) = Load.Refused (number_of e.refusal) e.line

-- the whole force alone
pub data Force : Type 0 where
  Value : ℤ → Force
  Refused : ℕ → ℕ → Force

abbrev pub force_in : Result ℤ AtLine → Force
force_in (Ok force) = Force.Value force
force_in (Err e) = Force.Refused (number_of e.refusal) e.line
