-- Whether one of a list is so, as a test.
use Rattle.std.specs.Prelude.{Bool, false, ◌||◌, List, [], ◌∷◌}

unfoldable pub any_of : {A : Type 0} → (A → Bool) → List A → Bool
any_of so [] = false
any_of so (x ∷ xs) = so x || any_of so xs
