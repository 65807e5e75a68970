-- `waves::locate_lines` meets its contract: the lines from the last to the first, by the laws of LocatedSea. Assumes nothing.
use Rattle.std.proofs.Common.{◌≡◌, ℕ, ◌+◌, ◌-◌, ◌<◌, refl, sym, ap, ◌∙◌, subst, arith, rules, ℤ, pos, get_or, set, Result, w32, to_z, of_z}
use Rattle.reader.specs.declared.record.Record.{Record}
use Rattle.seaway.specs.Sea.{line_at, lines_of}
use Rattle.seaway.specs.declared.sea.Sea.{Sea}
use Rattle.refusals.specs.Numbered.{number_of}
use Rattle.load.specs.declared.refused.Refused.{Refused}
use Rattle.load.specs.declared.locating.Bracket.{Bracket}
use Rattle.load.specs.Locating.{located}
use Rattle.load.specs.Force.{first_heading}
use Rattle.load.specs.own.Brackets.{bracketed_in, bracketed}
use Rattle.load.specs.own.Waves.{LocatedWaves, located_by}
use Rattle.load.specs.own.Brackets.{Bracketed}
use Rattle.load.proofs.LocatedSea.{LocatingLines, waves_with, first-is, locating-start, locating-on, locating-end}
use Rattle.load.proofs.waves.locate_lines.Goals as goal

abbrev back : ℤ → ℤ
back z = to_z w32 (of_z w32 z)

module _ (r : Record) (sea : Sea) where
  -- what comes of line i
  located-is :
      (i : ℕ) → 0 < sea.count → back (get_or sea.headings 0 (pos 0)) ≡ get_or sea.headings 0 (pos 0) → back (get_or sea.headings i (pos 0)) ≡ get_or sea.headings i (pos 0)
      → (x : Bracketed) → x ≡ bracketed r.slots (located r (back (get_or sea.headings 0 (pos 0))) (get_or sea.ticks i 0) (back (get_or sea.headings i (pos 0))))
      → x ≡ bracketed r.slots (located r (first_heading (lines_of sea)) (get_or sea.ticks i 0) (get_or sea.headings i (pos 0)))
  located-is i h one own x e = e ∙ (λ k. bracketed r.slots (located r ((one ∙ first-is sea h) k) (get_or sea.ticks i 0) (own k)))

  -- the lines behind it
  behind : (outcome : LocatedWaves) (i : ℕ) → 0 < i → LocatingLines r sea outcome i → LocatingLines r sea outcome (i - 1 + 1)
  behind outcome i h v = let e : i ≡ i - 1 + 1 = omega arith in subst (LocatingLines r sea outcome) e v

pub loop-i-init : goal.loop-i-init
loop-i-init c = locating-start _ _ _ (search rules) refl

pub loop-i-preserved-in-Err : goal.loop-i-preserved-in-Err
unfolding line_at waves_with
loop-i-preserved-in-Err c =
    let s = c.args.sea in
    let i = c.loop-i.i - 1 in
    let old : LocatedWaves = located_by c.loop-i.outcome c.loop-i.waves in
    let some : 0 < s.count = omega (arith, c.loop-i.invariant.within) in
    let one : back (get_or s.headings 0 (pos 0)) ≡ get_or s.headings 0 (pos 0) = search rules in
    let own : back (get_or s.headings i (pos 0)) ≡ get_or s.headings i (pos 0) = search rules in
    locating-on c.args.r s c.requires.1 old i (behind _ _ old _ c.loop-i-test.true c.loop-i.invariant) (bracketed_in c.locate.result) _ (located-is c.args.r s i some one own _ c.locate.ensures.place)
    ((λ k. record { number = number_of c.in-Err.refused.refusal; line = c.in-Err.ensures.line k; waves = old.waves })
    ∙ sym (ap (λ (x : Result Bracket Refused). waves_with old i (bracketed_in x) (get_or s.ticks i 0) (record { re = get_or s.re i (pos 0); im = get_or s.im i (pos 0) })) c.in-Err.is))

pub loop-i-preserved : goal.loop-i-preserved
unfolding line_at waves_with
loop-i-preserved c =
    let s = c.args.sea in
    let i = c.loop-i.i - 1 in
    let old : LocatedWaves = located_by c.loop-i.outcome c.loop-i.waves in
    let bracket = c.in-Ok.bracket in
    let some : 0 < s.count = omega (arith, c.loop-i.invariant.within) in
    let one : back (get_or s.headings 0 (pos 0)) ≡ get_or s.headings 0 (pos 0) = search rules in
    let own : back (get_or s.headings i (pos 0)) ≡ get_or s.headings i (pos 0) = search rules in
    let re : back (get_or s.re i (pos 0)) ≡ get_or s.re i (pos 0) = search rules in
    let im : back (get_or s.im i (pos 0)) ≡ get_or s.im i (pos 0) = search rules in
    locating-on c.args.r s c.requires.1 old i (behind _ _ old _ c.loop-i-test.true c.loop-i.invariant) (bracketed_in c.locate.result) _ (located-is c.args.r s i some one own _ c.locate.ensures.place)
    ((λ k. record {
      number = old.number;
      line = old.line;
      waves = set old.waves i (record { bracket = bracket; tick = get_or s.ticks i 0; amplitude = record { re = re k; im = im k } });
    })
    ∙ sym (ap (λ (x : Result Bracket Refused). waves_with old i (bracketed_in x) (get_or s.ticks i 0) (record { re = get_or s.re i (pos 0); im = get_or s.im i (pos 0) })) c.in-Ok.is))

pub returns : goal.returns
returns c =
    let e : c.loop-i.i ≡ 0 = omega arith in
    locating-end _ _ c.requires.1 _ (subst (LocatingLines c.args.r c.args.sea (located_by c.loop-i.outcome c.loop-i.waves)) e c.loop-i.invariant)
