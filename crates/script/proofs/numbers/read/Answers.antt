-- `numbers::read` meets its contract. Assumes nothing.
use Rattle.std.proofs.Common.{◌≡◌, ◌∙◌, refl, ap, List, [], ◌∷◌, ℕ, Bool, true, false, cond, ◌&&◌, take, drop, eqb}
use Rattle.std.specs.Str.{bytes_eq}
use Rattle.script.specs.Number.{size_of, number_in, number_of}
use Rattle.script.proofs.numbers.read.Goals as goal

minus : (w : List ℕ) → bytes_eq (take 1 w) (45 ∷ []) ≡ true → number_in true (size_of (drop 1 w)) ≡ number_of w
unfolding number_of
minus [] e = cc
minus (b ∷ w) e = go (eqb b 45) e
  where
    go : (t : Bool) → t && true ≡ true → number_in true (size_of w) ≡ cond t (number_in true (size_of w)) (number_in false (size_of (b ∷ w)))
    go true e = refl
    go false e = cc

plain : (w : List ℕ) → bytes_eq (take 1 w) (45 ∷ []) ≡ false → number_in false (size_of w) ≡ number_of w
unfolding number_of number_in size_of
plain [] e = refl
plain (b ∷ w) e = go (eqb b 45) e
  where
    go : (t : Bool) → t && true ≡ false → number_in false (size_of (b ∷ w)) ≡ cond t (number_in true (size_of w)) (number_in false (size_of (b ∷ w)))
    go true e = cc
    go false e = refl

pub returns-in-Some : goal.returns-in-Some
returns-in-Some c =
    let told = c.in-Some.ensures.cases in
    c.digits.ensures ∙ ap (λ s. number_in true (size_of s)) told.1 ∙ minus c.args.word.now told.0

pub returns-in-None : goal.returns-in-None
returns-in-None c = c.digits-in-None.ensures ∙ plain c.args.word.now c.in-None.ensures.cases
