-- All of a list from a place on set to one value. Assumes nothing.
use Rattle.std.proofs.Common.{◌≡◌, ap, ◌∙◌, List, [], ◌++◌, ℕ, ◌-◌, min, length, take, drop, arith, length-drop}
use Rattle.std.proofs.lemmas.List.{length-take}
use Rattle.std.proofs.lemmas.List.{take_min, append-nil}
use Rattle.std.proofs.Math.ListN.{drop_of_length-le, replicate}
use borrow.Rule.Slice.PartMut.{put_mid}
use Rattle.changing.specs.Memory.{filled_from}

pub spilt :
    {A : Type 0}
    (at : ℕ) (v : A) (l : List A) {new : List A} {m : ℕ} {w : A}
    → m ≡ min at (length l)
    → new ≡ replicate (length (take (length l - m) (drop m l))) w
    → w ≡ v
    → put_mid m (length l - m) l new ≡ filled_from at v l
unfolding filled_from
spilt at v l {new} {m} {w} e f g =
    let rest : drop (length l - m) (drop m l) ≡ [] = drop_of_length-le (drop m l) (omega (arith, length-drop m l)) in
    let many : length (take (length l - m) (drop m l)) ≡ length l - at = omega (arith, e, length-take (length l - m) (drop m l), length-drop m l) in
    let front = ap (λ (n : ℕ). take n l) e ∙ take_min at l in
    (λ i. front i ++ ((f ∙ (λ j. replicate (many j) (g j))) i ++ rest i))
    ∙ ap (λ s. take at l ++ s) (append-nil (replicate (length l - at) v))
