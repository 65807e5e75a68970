-- `force::with_mean` meets its contract: each return is one answer, by the laws of Loads, from what was found on the way. Assumes nothing.
use Rattle.std.proofs.Common.{◌≡◌, refl, sym, ap, ◌∙◌, length, rules, arith, Err}
use Rattle.std.proofs.lemmas.Grind.{common_steps}
use Rattle.refusals.specs.Numbered.{number_of, number_in}
use Rattle.refusals.proofs.Numbers.{some-number}
use lib.Seq.{length-take-le}
use Rattle.phase.proofs.Seconds.{rule}
use Rattle.load.specs.Answers.{Load, load_in}
use Rattle.load.specs.Force.{refused}
use Rattle.load.specs.own.Waves.{number_given}
use Rattle.load.proofs.Queries.{unbarred}
use Rattle.load.proofs.Loads.{barred, inadmissible, admissible-load, admissible, located-found, located-stopped, found-load, found-has-room}
use Rattle.load.proofs.force.with_mean.Goals as goal

pub returns-in_err-query_barred : goal.returns-in_err-query_barred
returns-in_err-query_barred c =
    let e = c.in_err-query_barred.field-0.0 in
    let number : number_in c.query_barred.result ≡ number_of e = ap number_in c.in_err-query_barred.was in
    let given : load_in c.from_residual.result ≡ Load.Refused (number_of e) 0 = grind (arith, common_steps) in
    record { value = given ∙ barred _ _ _ _ _ _ (sym number ∙ c.query_barred.ensures) (some-number e); small = rw given refused }

pub returns-then-is_inadmissible : goal.returns-then-is_inadmissible
returns-then-is_inadmissible c =
    let free = sym c.query_barred.ensures ∙ ap number_in c.in_ok-query_barred.was in
    let given : load_in (Err c.from.result) ≡ Load.Refused 12 0 = grind (arith, common_steps) in
    record { value = given ∙ inadmissible _ _ _ _ _ _ refl free (sym c.is_inadmissible.ensures ∙ c.if-is_inadmissible.true); small = rw given refused }

pub locate_lines-requires : goal.locate_lines-requires
locate_lines-requires c =
    let free = sym c.query_barred.ensures ∙ ap number_in c.in_ok-query_barred.was in
    ((unbarred _ _ free).1, (admissible _ (sym c.is_inadmissible.ensures ∙ c.if-is_inadmissible.false)).0)

pub returns-in_err-locate_lines : goal.returns-in_err-locate_lines
returns-in_err-locate_lines c =
    let e = c.in_err-locate_lines.field-0.0 in
    let free = sym c.query_barred.ensures ∙ ap number_in c.in_ok-query_barred.was in
    let in-range = sym c.is_inadmissible.ensures ∙ c.if-is_inadmissible.false in
    let number : number_given c.locate_lines.result ≡ number_of e.refusal = ap number_given c.in_err-locate_lines.was in
    let given : load_in c.from_residual-in_err-locate_lines.result ≡ Load.Refused (number_of e.refusal) e.line = grind (arith, common_steps) in
    record {
      value =
          given
          ∙ located-stopped c.args.r _ _ _ _ (rw c.in_err-locate_lines.was at c.locate_lines.ensures) (some-number e.refusal)
          ∙ admissible-load _ _ _ _ _ _ refl free in-range;
      small = rw given refused;
    }

pub slice_bounds-summed-end : goal.slice_bounds-summed-end
slice_bounds-summed-end c =
    let long : length c.locate_lines.new.waves ≡ 64 = search rules in
    let few = (admissible _ (sym c.is_inadmissible.ensures ∙ c.if-is_inadmissible.false)).0 in
    sym (length-take-le c.args.sea.count c.locate_lines.new.waves (omega (arith, few, long)))

pub slice_bounds-waves-end : goal.slice_bounds-waves-end
slice_bounds-waves-end c =
    let long : length c.locate_lines.new.waves ≡ 64 = search rules in
    omega (arith, long, (admissible _ (sym c.is_inadmissible.ensures ∙ c.if-is_inadmissible.false)).0)

pub summed-requires-clause-room : goal.summed-requires-clause-room
summed-requires-clause-room c =
    let free = unbarred _ _ (sym c.query_barred.ensures ∙ ap number_in c.in_ok-query_barred.was) in
    let sea = admissible _ (sym c.is_inadmissible.ensures ∙ c.if-is_inadmissible.false) in
    let twenty : length c.args.r.slots.ticks ≡ 20 = search rules in
    let four : length c.args.r.slots.headings ≡ 4 = search rules in
    found-has-room c.args.r _ free.1 twenty four free.0 _ sea.1 rule _ _ (located-found c.args.r _ _ (rw c.in_ok-locate_lines.was at c.locate_lines.ensures) refl)

pub returns-clause-value : goal.returns-clause-value
returns-clause-value c =
    let free = sym c.query_barred.ensures ∙ ap number_in c.in_ok-query_barred.was in
    let in-range = sym c.is_inadmissible.ensures ∙ c.if-is_inadmissible.false in
    c.summed.ensures.value
    ∙ found-load c.args.r _ _ _ _ _ (located-found c.args.r _ _ (rw c.in_ok-locate_lines.was at c.locate_lines.ensures) refl)
    ∙ admissible-load _ _ _ _ _ _ refl free in-range
