-- What bars six components is what the code asks of them. Assumes nothing.
use mathlib.Core.Path.{◌≡◌, refl, sym, ap, ◌∙◌}
use mathlib.Core.Bool.{Bool, true, false, cond, ◌&&◌, ◌||◌, and_assoc, and_comm, false≢true}
use mathlib.Core.List.{List, [], ◌∷◌, map}
use Prim.Native.Nat.{ℕ, ◌+◌, ◌<◌}
use native.Mathlib.Omega.{arith}
use lib.Dec.{eqb}
use lib.IntN.{ℤ, pos}
use lib.ListN.{length, get_or}
use lib.Pointwise.{pointwise}
use Rattle.std.specs.List.{list_any}
use Rattle.std.specs.Bool.{Decides}
use Rattle.std.specs.Ordering.{int_eq}
use Rattle.std.proofs.lemmas.Bool.Decides.{Decides-int_eq}
use Rattle.whole.specs.Any.{any_of}
use Rattle.whole.specs.Same.{same_ℤ, same_list}
use Rattle.whole.proofs.Same.{eqb_tells, same_ℤ-tells, same-filled, same_ℤ-yes, same_ℤ-no}
use Rattle.table.specs.Pairs.{order_of}
use Rattle.reader.specs.declared.record.Record.{Record}
use Rattle.hull.specs.declared.six.Component as code
use Rattle.hull.specs.Six.{component_of, is_short, is_unaccepted, frequencies, headings, belongs, all_belong, are_six, six_barred}
use Rattle.hull.specs.own.Barred.{not_accepted, same_order, belongs_by, all_belong_by}

-- ---- one of them is so

any-is : {A B : Type 0} (so : B → Bool) (f : A → B) (xs : List A) → any_of so (map f xs) ≡ list_any (λ x. so (f x)) xs
unfolding any_of
any-is so f [] = refl
any-is so f (x ∷ xs) = ap (λ (t : Bool). so (f x) || t) (any-is so f xs)

-- ---- 18

listed-same : {A : Type 0} (same also : A → A → Bool) → ((x y : A) → same x y ≡ also x y) → (xs ys : List A) → pointwise same xs ys ≡ same_list also xs ys
unfolding same_list
listed-same same also e [] [] = refl
listed-same same also e [] (y ∷ ys) = refl
listed-same same also e (x ∷ xs) [] = refl
listed-same same also e (x ∷ xs) (y ∷ ys) = λ i. e x y i && listed-same same also e xs ys i

-- how the code compares two numbers with a sign
int-same : (x y : ℤ) → int_eq x y ≡ same_ℤ x y
int-same x y = go (int_eq x y) (Decides-int_eq x y)
  where
    go : (t : Bool) → Decides t (x ≡ y) → t ≡ same_ℤ x y
    go true e = sym (same_ℤ-yes x y (e.0 refl))
    go false f = sym (same_ℤ-no x y (λ e. false≢true (f.1 e)))

and-swap : (a b c d : Bool) → (a && (b && (c && d))) ≡ ((b && a) && (d && c))
and-swap a b c d = sym (and_assoc a b (c && d)) ∙ (λ i. and_comm a b i && and_comm c d i)

-- two tables hold the same exactly when their frequencies are the same and their headings are
same-order : (a b : Record) → same_order (order_of a.slots) (order_of b.slots) ≡ (same_list eqb (frequencies a) (frequencies b) && same_list same_ℤ (headings a) (headings b))
unfolding order_of frequencies headings
same-order a b =
    let x = order_of a.slots in
    let y = order_of b.slots in
    (λ i. listed-same eqb eqb (λ m n. refl) x.ticks y.ticks i
    && (eqb x.frequencies y.frequencies && (listed-same int_eq same_ℤ int-same x.headings y.headings i && eqb x.held y.held)))
    ∙ and-swap (same_list eqb x.ticks y.ticks) (eqb x.frequencies y.frequencies) (same_list same_ℤ x.headings y.headings) (eqb x.held y.held)
    ∙ (λ i. same-filled eqb_tells 0 20 (frequencies a) (frequencies b) i && same-filled same_ℤ-tells (pos 0) 4 (headings a) (headings b) i)

belongs-is : (first : Record) (place : ℕ) (r : Record) → belongs_by first.choices.coverage (order_of first.slots) place r ≡ belongs first place r
unfolding belongs_by belongs
belongs-is first place r =
    ap
    (λ (t : Bool). eqb r.choices.kind 0 && (eqb r.choices.component place && (eqb r.choices.coverage first.choices.coverage && t)))
    (same-order r first)

all-belong-is :
    (first : Record) (place : ℕ) (cs : List code.Component)
    → all_belong first place (map component_of cs) ≡ all_belong_by first.choices.coverage (order_of first.slots) place cs
unfolding all_belong_by all_belong
all-belong-is first place [] = refl
all-belong-is first place (c ∷ cs) = λ i. sym (belongs-is first place c.table.now) i && all-belong-is first (place + 1) cs i

are-six-is :
    (cs : List code.Component) (d : code.Component)
    → 0 < length cs
    → let first = (get_or cs 0 d).table.now in are_six (map component_of cs) ≡ all_belong_by first.choices.coverage (order_of first.slots) 1 cs
unfolding are_six
are-six-is [] d h = let clash : ⊥ = omega arith in absurd clash
are-six-is (c ∷ cs) d h = all-belong-is c.table.now 1 (c ∷ cs)

-- ---- all of it

module _ (cs : List code.Component) where
  abbrev short : Bool
  short = list_any (λ c. is_short (component_of c)) cs

  abbrev unaccepted : Bool
  unaccepted = list_any (λ c. not_accepted c.table.now) cs

  unaccepted-is : any_of is_unaccepted (map component_of cs) ≡ unaccepted
  unfolding is_unaccepted not_accepted
  unaccepted-is = any-is is_unaccepted component_of cs

  pub short-bars : true ≡ short → 1 ≡ six_barred (map component_of cs)
  unfolding six_barred
  short-bars e = rw (any-is is_short component_of cs, ← e)

  pub unaccepted-bars : false ≡ short → true ≡ unaccepted → 2 ≡ six_barred (map component_of cs)
  unfolding six_barred
  unaccepted-bars e f = rw (any-is is_short component_of cs, ← e, unaccepted-is, ← f)

  -- and by whether all belong, where neither bars
  pub then-barred :
      (d : code.Component) {belong : Bool}
      → 0 < length cs
      → false ≡ short
      → false ≡ unaccepted
      → (let first = (get_or cs 0 d).table.now in belong ≡ all_belong_by first.choices.coverage (order_of first.slots) 1 cs)
      → cond belong 0 18 ≡ six_barred (map component_of cs)
  unfolding six_barred
  then-barred d h e f belong = rw (any-is is_short component_of cs, ← e, unaccepted-is, ← f, are-six-is cs d h) (ap (λ (t : Bool). cond t 0 18) belong)
