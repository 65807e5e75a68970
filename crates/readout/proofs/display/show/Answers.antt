-- `display::show` meets its contract: each return is one answer, by the laws of Shown. Assumes nothing.
use Rattle.std.proofs.Common.{◌≡◌, sym, ap, ◌∙◌, arith, ℤ, w64, to_z, of_z, to_z-of_z}
use Rattle.std.proofs.lemmas.Grind.{common_steps}
use Rattle.readout.specs.declared.display.Display.TheVariants as Code
use Rattle.readout.specs.Told.{Display, told}
use Rattle.readout.specs.Display.{reading_of}
use Rattle.load.specs.Force.{SmallLoad}
use Rattle.load.specs.Answers.{Load, load_in}
use Rattle.load.proofs.Terms.{word_of}
use Rattle.load.proofs.Loads.{small-mean, small-whole}
use Rattle.readout.proofs.Shown.{load-refused, unusable, a-force, a-moment}
use Rattle.readout.proofs.display.show.Goals as goal

-- both forces of a load are small, so they come back from their bits
module _ {mean whole : ℤ} (small : SmallLoad (Load.Both mean whole)) where
  mean-back : to_z w64 (of_z w64 mean) ≡ mean
  mean-back = to_z-of_z (word_of mean (omega (arith, small-mean small)))

  whole_back : to_z w64 (of_z w64 whole) ≡ whole
  whole_back = to_z-of_z (word_of whole (omega (arith, small-whole small)))

pub returns-then-not-is_usable : goal.returns-then-not-is_usable
returns-then-not-is_usable c =
    let given : told (Code.Refused c.from.result) ≡ Display.Refused 16 0 = grind (arith, common_steps) in
    given ∙ unusable _ _ _ _ _ _ _ c.with_mean.ensures.value _ _ (ap load_in c.in-Ok.is) (sym c.is_usable.ensures ∙ c.if-not-is_usable.true)

pub read_off-shown-requires : goal.read_off-shown-requires
read_off-shown-requires c =
    let small = c.in-Ok.ensures.small in
    (rw (mean-back small) (small-mean small), rw (whole_back small) (small-whole small))

pub returns-in-Err : goal.returns-in-Err
returns-in-Err c = load-refused _ _ _ _ _ _ _ c.with_mean.ensures.value _ _ (ap load_in c.in-Err.is)

pub returns-then-r-le3 : goal.returns-then-r-le3
returns-then-r-le3 c =
    let small = c.in-Ok.ensures.small in
    a-force _ _ _ _ _ _ _ c.with_mean.ensures.value _ _ (ap load_in c.in-Ok.is) (sym c.is_usable.ensures ∙ c.if-not-is_usable.false) _
    (c.read_off-shown.ensures ∙ (λ i. reading_of c.args.r.choices.kind c.args.scale (mean-back small i) (whole_back small i)))
    c.if-r-le3.true

pub returns-else-r-le3 : goal.returns-else-r-le3
returns-else-r-le3 c =
    let small = c.in-Ok.ensures.small in
    a-moment _ _ _ _ _ _ _ c.with_mean.ensures.value _ _ (ap load_in c.in-Ok.is) (sym c.is_usable.ensures ∙ c.if-not-is_usable.false) _
    (c.read_off-shown.ensures ∙ (λ i. reading_of c.args.r.choices.kind c.args.scale (mean-back small i) (whole_back small i)))
    c.if-r-le3.false
