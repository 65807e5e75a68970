-- The walk over the slots that finds both neighbours of a frequency: what lies least and most above it, counted round. Assumes nothing.
use Rattle.std.proofs.Common.{◌≡◌, ℕ, suc, ◌+◌, ◌%◌, ◌^◌, ◌<◌, ◌≤◌, min, max, Bool, true, false, cond, eqb, ltb, leb, ◌⊎◌, List, [], ◌∷◌, length, get_or, drop, refl, sym, ap, ◌∙◌, subst, inl, inr, le_trans, le_refl, le_antisymm, arith, add-one, below_more, drop_of_length-le, drop-cons, le-ltb, lt-ltb, Option, Some, None}
use Rattle.std.specs.Option.{option_map}
use Rattle.std.proofs.lemmas.Option.{none-some, same_Some}
use native.Mathlib.Decide.{dec_le, dec_lt}
use native.Mathlib.Numerals.{unary_clauses}
use lib.ListN.{get_or-eq_default}
use Rattle.grid.specs.Slots.{held_ticks}
use Rattle.neighbours.specs.Standing.{low_of, high_of}
use Rattle.neighbours.specs.Neighbours.{FoundAt, rise_of, tick_at, least_rise, most_rise, neighbour_at, neighbours_of}
use Rattle.neighbours.specs.declared.standing.Neighbour.{Neighbour}
use Rattle.neighbours.specs.declared.standing.Neighbours.{Neighbours}
use Rattle.neighbours.proofs.Neighbours.{low-is, high_is, held_by, slot-nearest}

-- ---- the best of what stands below i and at 20, by any order

module _ (Le : ℕ → ℕ → Type 0) (at : ℕ → ℕ) where
  pub record Best (x i : ℕ) : Type 0 where
    pub place : ℕ
    pub near : place ≤ 20
    pub is : x ≡ at place
    pub last : Le (at place) (at 20)
    pub all : (j : ℕ) → j < i → Le (at place) (at j)

  module _ (self : (a : ℕ) → Le a a) (trans : (a b c : ℕ) → Le a b → Le b c → Le a c) where
    best-start : (x : ℕ) → x ≡ at 20 → Best x 0
    best-start x e = record { place = 20; near = omega arith; is = e; last = self (at 20); all = λ j h. absurd (omega arith) }

    -- one more: the better of it and the best so far
    module _ {x i : ℕ} (b : Best x i) (within : i < 20) where
      best-next : (y : ℕ) → ((y ≡ x) × Le x (at i)) ⊎ ((y ≡ at i) × Le (at i) x) → Best y (i + 1)
      best-next y (inl (e, h)) =
          record {
            place = b.place;
            near = b.near;
            is = e ∙ b.is;
            last = b.last;
            all = below_more (λ j. Le (at b.place) (at j)) i b.all (subst (λ (n : ℕ). Le n (at i)) b.is h);
          }
      best-next y (inr (e, h)) =
          let up : (n : ℕ) → Le (at b.place) n → Le (at i) n = λ n k. trans _ x _ h (subst (λ (m : ℕ). Le m n) (sym b.is) k) in
          record {
            place = i;
            near = omega arith;
            is = e;
            last = up _ b.last;
            all = below_more (λ j. Le (at i) (at j)) i (λ j k. up _ (b.all j k)) (self (at i));
          }

-- ---- how far slots lie above f

module _ (f : ℕ) (f-small : f < 2 ^ 32) (t s : ℕ) (t-small : t < 2 ^ 32) (near : s ≤ 20) where
  -- a slot is found again
  tick-back : tick_at f (rise_of f t s) ≡ t
  tick-back = omega arith

  slot-back : rise_of f t s % 32 ≡ s
  slot-back = omega arith

-- ---- what is none where a test holds

map-some : (b : Bool) (n : Neighbour) → option_map (λ (m : Neighbour). m.tick) (cond b None (Some n)) ≡ cond b None (Some n.tick)
map-some true n = refl
map-some false n = refl

some-is : (b : Bool) (n m : Neighbour) → cond b None (Some n) ≡ Some m → n ≡ m
some-is true n m e = absurd (none-some m e)
some-is false n m e = same_Some n m e

-- ---- the walk

module _ (ticks : List ℕ) (f : ℕ) where
  abbrev rise : ℕ → ℕ
  rise j = rise_of f (get_or ticks j 0) j

  -- at the loop's head: what lies least and most above f of the slots before the i-th, and of a free one behind all
  pub record Walked (least most i : ℕ) : Type 0 where
    pub within : i ≤ 20
    pub small : (j : ℕ) → j < i → get_or ticks j 0 < 2 ^ 32
    pub nearest : Best ◌≤◌ rise least i
    pub farthest : Best (λ a b. b ≤ a) rise most i
    pub least-is : min least (least_rise f (drop i ticks) i) ≡ least_rise f ticks 0
    pub most-is : max most (most_rise f (drop i ticks) i) ≡ most_rise f ticks 0

  -- the free slot is among those from i on
  least-free : (l : List ℕ) (i : ℕ) → least_rise f l i ≤ rise_of f 0 (i + length l)
  unfolding least_rise
  least-free [] i = simp unary_clauses (le_refl _)
  least-free (t ∷ ts) i = let h = least-free ts (suc i) in let e : i + suc (length ts) ≡ suc i + length ts = omega arith in omega (arith, ap (rise_of f 0) e)

  most-free : (l : List ℕ) (i : ℕ) → rise_of f 0 (i + length l) ≤ most_rise f l i
  unfolding most_rise
  most-free [] i = simp unary_clauses (le_refl _)
  most-free (t ∷ ts) i = let h = most-free ts (suc i) in let e : i + suc (length ts) ≡ suc i + length ts = omega arith in omega (arith, ap (rise_of f 0) e)

  module _ (long : length ticks ≡ 20) where
    free : get_or ticks 20 0 ≡ 0
    free = get_or-eq_default ticks 0 (omega (arith, long))

    none_left : drop 20 ticks ≡ []
    none_left = drop_of_length-le ticks {i = 20} (omega (arith, long))

    pub walk_start : (x : ℕ) → x ≡ rise_of f 0 20 → Walked x x 0
    walk_start x e =
        let is = e ∙ ap (λ (t : ℕ). rise_of f t 20) (sym free) in
        let all : 0 + length ticks ≡ 20 = omega (arith, long) in
        let end = ap (rise_of f 0) all in
        let low = least-free ticks 0 in
        let high = most-free ticks 0 in
        record {
          within = omega arith;
          small = λ j h. absurd (omega arith);
          nearest = best-start ◌≤◌ rise le_refl (λ a b c h k. le_trans h k) x is;
          farthest = best-start (λ a b. b ≤ a) rise le_refl (λ a b c h k. le_trans k h) x is;
          least-is = omega arith;
          most-is = omega arith;
        }

    -- one slot more, behind those that were walked
    module _ (i : ℕ) (within : i < 20) where
      one-more : drop i ticks ≡ get_or ticks i 0 ∷ drop (suc i) ticks
      one-more = drop-cons ticks i 0 (omega (arith, long))

      least_more : least_rise f (drop i ticks) i ≡ min (least_rise f (drop (suc i) ticks) (suc i)) (rise i)
      unfolding least_rise
      least_more = ap (λ (l : List ℕ). least_rise f l i) one-more

      most-more : most_rise f (drop i ticks) i ≡ max (most_rise f (drop (suc i) ticks) (suc i)) (rise i)
      unfolding most_rise
      most-more = ap (λ (l : List ℕ). most_rise f l i) one-more

    pub walk-next :
        {least most i : ℕ} → Walked least most i → i < 20 → get_or ticks i 0 < 2 ^ 32 → (r : ℕ) → r ≡ rise i
        → (x y : ℕ) → x ≡ min least r → y ≡ max most r → Walked x y (i + 1)
    walk-next {least} {most} {i} w within fits r e x y e₁ e₂ =
        record {
          within = omega arith;
          small = below_more (λ j. get_or ticks j 0 < 2 ^ 32) i w.small fits;
          nearest =
              best-next ◌≤◌ rise le_refl (λ a b c h k. le_trans h k) w.nearest within x
              (elim (dec_le least r) [ yes h ↦ inl (omega arith, omega arith) | no h ↦ inr (omega (arith, h), omega (arith, h)) ]);
          farthest =
              best-next (λ a b. b ≤ a) rise le_refl (λ a b c h k. le_trans k h) w.farthest within y
              (elim (dec_le r most) [ yes h ↦ inl (omega arith, omega arith) | no h ↦ inr (omega (arith, h), omega (arith, h)) ]);
          least-is = rw add-one (omega (arith, w.least-is, least_more i within));
          most-is = rw add-one (omega (arith, w.most-is, most-more i within));
        }

  -- ---- what was found

  module _ (long : length ticks ≡ 20) (f-small : f < 2 ^ 32) {least most i : ℕ} (w : Walked least most i) (end : 20 ≤ i) where
    small : (j : ℕ) → get_or ticks j 0 < 2 ^ 32
    small j =
        elim (dec_lt j 20) [ yes h ↦ w.small j (omega arith) | no h ↦ let none : get_or ticks j 0 ≡ 0 = get_or-eq_default ticks 0 (omega (arith, long, h)) in omega arith ]

    -- what a slot holds that lies as far above f as was found
    at_slot : {Le : ℕ → ℕ → Type 0} {x : ℕ} (b : Best Le rise x i) {o : Option ℕ} → held_by (get_or ticks b.place 0) ≡ o → FoundAt ticks o (neighbour_at f x)
    at_slot {x = x} b e =
        let t = get_or ticks b.place 0 in
        let is = ap (tick_at f) b.is ∙ tick-back f f-small t b.place (small _) b.near in
        let place = ap (λ (y : ℕ). y % 32) b.is ∙ slot-back f f-small t b.place (small _) b.near in
        record {
          tick = map-some (eqb (tick_at f x) 0) _ ∙ ap held_by is ∙ e;
          slot = λ m h. let same = some-is (eqb (tick_at f x) 0) _ m h in ap (λ (n : Neighbour). get_or ticks n.slot 0) (sym same) ∙ ap (λ (j : ℕ). get_or ticks j 0) place ∙ sym is ∙ ap (λ (n : Neighbour). n.tick) same;
        }

    pub high-found : (n : Option Neighbour) → n ≡ neighbour_at f least → 0 < f → FoundAt ticks (high_of leb (held_ticks ticks) f) n
    high-found n is some =
        let b = w.nearest in
        let p = b.place in
        rw is
        (at_slot b
        (slot-nearest ticks (λ a b h k. le_antisymm k h) p
        (λ h. omega (arith, b.near, b.last, small p, free long))
        (λ j h k up. let all = b.all j (omega (arith, long)) in (omega (arith, b.near, small p, small j), omega (arith, b.near, small p, small j)))
        (high_is (held_ticks ticks) f)))

    pub low-found : (x : ℕ) → ((least < 32) × (x ≡ least)) ⊎ ((32 ≤ least) × (x ≡ most)) → (n : Option Neighbour) → n ≡ neighbour_at f x → FoundAt ticks (low_of leb (held_ticks ticks) f) n
    low-found x (inl (h, e)) n is =
        let b = w.nearest in
        let p = b.place in
        let same : get_or ticks p 0 ≡ f = omega (arith, b.is, b.near, small p) in
        rw (is, e)
        (at_slot b
        (slot-nearest ticks (λ a b h k. le_antisymm h k) p (λ k. omega arith) (λ j h k up. (omega arith, omega arith)) (low-is (held_ticks ticks) f)))
    low-found x (inr (h, e)) n is =
        let a = w.nearest in
        let b = w.farthest in
        let p = b.place in
        rw (is, e)
        (at_slot b
        (slot-nearest ticks (λ a b h k. le_antisymm h k) p
        (λ k. omega (arith, a.is, a.last, b.near, b.last, small p, free long))
        (λ j k l up.
        let above = a.all j (omega (arith, long)) in
        let below = b.all j (omega (arith, long)) in
        (omega (arith, a.is, b.near, small p, small j), omega (arith, a.is, b.near, small p, small j)))
        (low-is (held_ticks ticks) f)))

    -- both, by the slots that were found
    done : i ≡ 20
    done = omega (arith, w.within)

    least-all : least ≡ least_rise f ticks 0
    unfolding least_rise
    least-all =
        let rest : least_rise f (drop i ticks) i ≡ rise_of f 0 20 = ap (λ (k : ℕ). least_rise f (drop k ticks) k) done ∙ ap (λ (l : List ℕ). least_rise f l 20) (none_left long) in
        let last : rise 20 ≡ rise_of f 0 20 = ap (λ (t : ℕ). rise_of f t 20) (free long) in
        omega (arith, w.least-is, w.nearest.is, w.nearest.last)

    most-all : most ≡ most_rise f ticks 0
    unfolding most_rise
    most-all =
        let rest : most_rise f (drop i ticks) i ≡ rise_of f 0 20 = ap (λ (k : ℕ). most_rise f (drop k ticks) k) done ∙ ap (λ (l : List ℕ). most_rise f l 20) (none_left long) in
        let last : rise 20 ≡ rise_of f 0 20 = ap (λ (t : ℕ). rise_of f t 20) (free long) in
        omega (arith, w.most-is, w.farthest.is, w.farthest.last)

    pub both-are :
        (x : ℕ) → ((least < 32) × (x ≡ least)) ⊎ ((32 ≤ least) × (x ≡ most))
        → (n : Neighbours) → n.low ≡ neighbour_at f x → n.high ≡ neighbour_at f least
        → n ≡ neighbours_of ticks f
    unfolding neighbours_of
    both-are x which n low high =
        (λ j. record { low = low j; high = high j }) ∙ (λ j. record { low = neighbour_at f (lowest which j); high = neighbour_at f (least-all j) })
      where
        lowest : ((least < 32) × (x ≡ least)) ⊎ ((32 ≤ least) × (x ≡ most))
            → x ≡ cond (ltb (least_rise f ticks 0) 32) (least_rise f ticks 0) (most_rise f ticks 0)
        lowest (inl (h, e)) = e ∙ least-all ∙ rw (← least-all, lt-ltb least 32 h)
        lowest (inr (h, e)) = e ∙ most-all ∙ rw (← least-all, le-ltb least 32 h)
