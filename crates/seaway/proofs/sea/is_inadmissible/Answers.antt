-- `sea::is_inadmissible` meets its contract: the three tests in their order. Assumes nothing.
use Rattle.std.proofs.Common.{◌≡◌, true, false, not, refl, sym, ap, ◌∙◌, lt-ltb, le-ltb}
use Rattle.std.proofs.lemmas.Bool.{false≢true}
use Rattle.seaway.specs.Sea.{lines_of, rises, is_inadmissible}
use Rattle.seaway.proofs.sea.is_inadmissible.Goals as goal
use Rattle.seaway.proofs.sea.is_inadmissible.Goals.{then-s-gt64, else-s-gt64}

pub returns-then-not-is_rising : goal.returns-then-not-is_rising
unfolding is_inadmissible
returns-then-not-is_rising c =
    elim c.if-s-gt64.branch [
      | then-s-gt64 w ↦ w.value-is ∙ rw (lt-ltb 64 _ w.if-s-gt64.true) refl
      | else-s-gt64 w ↦
          let e : not (rises (lines_of c.args.s)) ≡ true = ap not (sym w.is_rising.ensures) ∙ sym w.value-is ∙ c.if-not-is_rising.true in
          rw (le-ltb 64 _ w.if-s-gt64.false, e) c.if-not-is_rising.true
    ]

pub returns-else-not-is_rising : goal.returns-else-not-is_rising
unfolding is_inadmissible
returns-else-not-is_rising c =
    elim c.if-s-gt64.branch [
      | then-s-gt64 w ↦ let e : false ≡ true = sym c.if-not-is_rising.false ∙ w.value-is ∙ lt-ltb 64 _ w.if-s-gt64.true in absurd (false≢true e)
      | else-s-gt64 w ↦
          let e : not (rises (lines_of c.args.s)) ≡ false = ap not (sym w.is_rising.ensures) ∙ sym w.value-is ∙ c.if-not-is_rising.false in
          rw (le-ltb 64 _ w.if-s-gt64.false, e, ← c.sea_size.ensures) refl
    ]
