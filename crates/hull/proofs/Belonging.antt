-- Components from the first on, each asked whether it belongs at its place: what holds at the loop's head, and what it says where one does not and at the end.
-- Assumes nothing.
use mathlib.Core.Path.{◌≡◌, sym, ap, ◌∙◌}
use mathlib.Core.Bool.{Bool, true, false, ◌&&◌}
use mathlib.Core.List.{List, ◌∷◌}
use Prim.Native.Nat.{ℕ, ◌+◌, ◌≤◌, ◌<◌}
use native.Mathlib.Numerals.{add-one}
use lib.ListN.{length, drop, get_or, drop_of_length-le}
use lib.Seq.{drop-cons}
use Rattle.table.specs.declared.pairs.Order.{Order}
use Rattle.hull.specs.declared.six.Component.{Component}
use Rattle.hull.specs.own.Barred.{belongs_by, all_belong_by}

-- the first i belong, so that what is left decides
pub record Belonging (coverage : ℕ) (order : Order) (cs : List Component) (i : ℕ) : Type 0 where
  pub rest : all_belong_by coverage order 1 cs ≡ all_belong_by coverage order (i + 1) (drop i cs)

module _ {coverage : ℕ} {order : Order} {cs : List Component} {i : ℕ} (k : Belonging coverage order cs i) where
  module _ (d : Component) (h : i < length cs) {t : Bool} (e : belongs_by coverage order (i + 1) (get_or cs i d).table.now ≡ t) where
    here : all_belong_by coverage order 1 cs ≡ (t && all_belong_by coverage order (i + 1 + 1) (drop (i + 1) cs))
    unfolding all_belong_by
    here =
        k.rest
        ∙ ap (all_belong_by coverage order (i + 1)) (drop-cons cs i d h ∙ ap (λ (n : ℕ). get_or cs i d ∷ drop n cs) (sym (add-one i)))
        ∙ ap (λ (b : Bool). b && all_belong_by coverage order (i + 1 + 1) (drop (i + 1) cs)) e

  pub belongs-here : (d : Component) → i < length cs → belongs_by coverage order (i + 1) (get_or cs i d).table.now ≡ true → Belonging coverage order cs (i + 1)
  belongs-here d h e = record { rest = here d h e }

  pub stray-here : (d : Component) → i < length cs → belongs_by coverage order (i + 1) (get_or cs i d).table.now ≡ false → false ≡ all_belong_by coverage order 1 cs
  stray-here d h e = sym (here d h e)

  pub all_here : length cs ≤ i → true ≡ all_belong_by coverage order 1 cs
  unfolding all_belong_by
  all_here h = sym (k.rest ∙ ap (all_belong_by coverage order (i + 1)) (drop_of_length-le cs {i = i} h))
