-- The three choices of an opening (document 01, "Rows"), in the paper's words. The test of the model, `valid_choices`, is exactly this.
use Rattle.std.specs.Prelude.{true, ◌⊎◌, ◌↔◌, ◌≡◌, ◌≤◌}
use Rattle.row.specs.declared.reading.Choices.{Choices}
use Rattle.reader.specs.Valid.{valid_choices}

-- "kind (difference, sum), component (1 to 6) and coverage (single, full)": the first of two is 0, and the second 1
pub record ChoicesAsked (c : Choices) : Type 0 where
  pub kind : (c.kind ≡ 0) ⊎ (c.kind ≡ 1)
  pub component : (1 ≤ c.component) × (c.component ≤ 6)
  pub coverage : (c.coverage ≡ 0) ⊎ (c.coverage ≡ 1)

abbrev pub ChoicesExactly : Type 0
ChoicesExactly = (c : Choices) → (valid_choices c ≡ true) ↔ ChoicesAsked c
