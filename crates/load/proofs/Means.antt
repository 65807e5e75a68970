-- The mean, wave by wave: what the loop goes by. Assumes nothing.
use mathlib.Core.Path.{◌≡◌, refl, sym, ap, ◌∙◌}
use mathlib.Core.Bool.{Bool, true, false}
use mathlib.Core.List.{List}
use Prim.Native.Nat.{ℕ, suc, ◌+◌, ◌*◌, ◌≤◌, ◌<◌}
use native.Mathlib.Numerals.{add-one}
use native.Mathlib.Omega.{arith}
use lib.IntN.{ℤ, pos, nat_abs, ◌+ℤ◌, +ℤ_assoc, +ℤ_idl, +ℤ_idr}
use lib.ListN.{length, get_or, drop}
use Rattle.std.proofs.Common.{drop-cons, drop_of_length-le}
use Rattle.whole.specs.Complex.{sizes}
use Rattle.whole.specs.Sum.{sum_by}
use Rattle.whole.specs.Any.{any_of}
use Rattle.whole.proofs.Magnitude.{triangle}
use Rattle.load.specs.own.Waves.{amplitude_of, wave_bad}
use Rattle.load.specs.own.Means.{wave_mean, waves_mean, waves_size}
use Rattle.load.specs.declared.waves.Wave.{Wave}
use Rattle.load.proofs.Unordered.{nowhere}

module _ (cells : List ℤ) (ws : List Wave) where
  abbrev each : ℕ
  each = 40_000_000_000_000

  abbrev pub self_bad : Wave → Bool
  self_bad w = wave_bad cells w w

  -- at the loop's head: what is left is bad where the whole is, the means of the waves before i are in the sum, and there is room for those that are left
  pub record Averaging (sum : ℤ) (i : ℕ) : Type 0 where
    pub left : any_of self_bad ws ≡ any_of self_bad (drop i ws)
    pub same : sum +ℤ waves_mean cells (drop i ws) ≡ waves_mean cells ws
    pub small : nat_abs sum + each * waves_size (drop i ws) ≤ each * waves_size ws

  pub averaging-start : Averaging (pos 0) 0
  averaging-start = record { left = refl; same = +ℤ_idl _; small = omega arith }

  module _ (sum : ℤ) (i : ℕ) (a : Averaging sum i) where
    module _ (h : i < length ws) where
      abbrev wave : Wave
      wave = get_or ws i nowhere

      -- the wave is bad
      pub averaging-stops : self_bad wave ≡ true → any_of self_bad ws ≡ true
      unfolding any_of
      averaging-stops e = a.left ∙ ap (any_of self_bad) (drop-cons ws i nowhere h) ∙ rw e refl

      -- it is not, and its mean goes into the sum
      pub averaging-on : (next : ℤ) → self_bad wave ≡ false → next ≡ wave_mean cells wave → nat_abs next ≤ each * sizes (amplitude_of wave) → Averaging (sum +ℤ next) (i + 1)
      unfolding any_of sum_by
      averaging-on next good e few =
          let split = drop-cons ws i nowhere h in
          let left : waves_size (drop i ws) ≡ sizes (amplitude_of wave) + waves_size (drop (suc i) ws) = ap waves_size split in
          rw (add-one i)
          (record {
            left = a.left ∙ ap (any_of self_bad) split ∙ rw good refl;
            same = rw e (+ℤ_assoc sum (wave_mean cells wave) _ ∙ ap (λ (l : List Wave). sum +ℤ waves_mean cells l) (sym split) ∙ a.same);
            small = omega (arith, a.small, triangle sum next);
          })

    -- there is room for the next
    pub averaging-small : waves_size ws ≤ 40_000 → nat_abs sum ≤ 1_600_000_000_000_000_000
    averaging-small few = omega (arith, a.small)

    pub averaging-end : length ws ≤ i → (any_of self_bad ws ≡ false) × (sum ≡ waves_mean cells ws)
    unfolding any_of sum_by
    averaging-end h =
        let last = drop_of_length-le ws h in
        (a.left ∙ ap (any_of self_bad) last, sym (+ℤ_idr sum) ∙ ap (λ (l : List Wave). sum +ℤ waves_mean cells l) (sym last) ∙ a.same)
