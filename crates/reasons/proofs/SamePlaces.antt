-- What the derived `==` of answers tells is what `is_stated` asks: the number, and the place by its values. Assumes nothing.
use Rattle.std.proofs.Common.{◌≡◌, refl, sym, ap, ℤ}
use mathlib.Core.Bool.{and-true, and-false, and_assoc, ◌&&◌}
use lib.Dec.{eqb}
use Rattle.std.proofs.lemmas.Bool.Decides.{Decides-int_eq, same_from_decides}
use Rattle.whole.proofs.Same.{same_ℤ-true, same_ℤ-yes}
use Rattle.whole.specs.Same.{same_ℤ, same_list}
use Rattle.std.specs.Ordering.{int_eq}
use Rattle.reader.specs.declared.reader.Place.{Place}
use Rattle.reader.specs.declared.reader.Answer.{Answer}
use Rattle.reader.specs.contracts.reader.AnswerPartialEq.TheImpl as answers
use Rattle.reader.specs.contracts.reader.PlacePartialEq.TheImpl as places
use Rattle.reasons.specs.declared.explanation.Stated.{Stated}
use Rattle.reasons.specs.Reasons.{values_of, same_place, is_stated}

same_int : (x y : ℤ) → int_eq x y ≡ same_ℤ x y
same_int x y = same_from_decides _ _ (Decides-int_eq x y) (same_ℤ-true x y, same_ℤ-yes x y)

pub places-same : (a b : Place) → places.ghosts.eq a b ≡ same_place a b
unfolding values_of same_list
places-same Place.Nowhere Place.Nowhere = refl
places-same Place.Nowhere (Place.Line n) = refl
places-same Place.Nowhere (Place.Pair q) = refl
places-same (Place.Line m) Place.Nowhere = refl
places-same (Place.Line m) (Place.Line n) = sym (and-true (eqb m n))
places-same (Place.Line m) (Place.Pair q) = sym (and-false (eqb m q.first.tick))
places-same (Place.Pair p) Place.Nowhere = refl
places-same (Place.Pair p) (Place.Line n) = sym (and-false (eqb p.first.tick n))
places-same (Place.Pair p) (Place.Pair q) = simp (same_int, and-true, and_assoc)

pub answers-same : (w : Stated) (given : Answer) → answers.ghosts.eq (Answer.Refused w.number w.place) given ≡ is_stated w given
unfolding is_stated
answers-same w Answer.Going = refl
answers-same w (Answer.Accepted frequencies headings) = refl
answers-same w (Answer.Refused number place) = ap (λ t. eqb w.number number && t) (places-same w.place place)
