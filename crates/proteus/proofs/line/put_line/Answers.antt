-- `line::put_line` meets its contract: each way out is a step of proofs/Stepping.antt. Assumes nothing.
use Rattle.std.proofs.Common.{◌≡◌, map, sym, ap, ◌∙◌, arith}
use mathlib.Core.List.{map-map, map-id}
use Rattle.text.proofs.Pens.{puts-none, puts-as}
use Rattle.table.specs.Entries.{complex_of, parts_of}
use Rattle.hull.specs.declared.six.Component as code
use Rattle.hull.specs.declared.six.Six.{Six}
use Rattle.hull.specs.Six.{components_of, frequencies, headings, values_at}
use Rattle.hull.proofs.Gathered.{spoilt-is}
use Rattle.proteus.proofs.Stepping.{Leads, leads, six-led, head_put, head_step, past-put, past-step, spoilt-put, spoilt-step, row-put, row-step}
use Rattle.proteus.proofs.line.put_line.Goals as goal

led : (six : Six) (d : code.Component) → Leads (components_of six) (lib.ListN.get_or six.components 0 d).table.now
led six d = let long = six.six in leads six.components d (omega arith)

pub returns-then-k-lt5-clause-put : goal.returns-then-k-lt5-clause-put
unfolding frequencies headings
returns-then-k-lt5-clause-put c =
    puts-as (rw c.slots_of-slots.ensures.same at c.put_head.ensures) (head_put _ c.args.k 0 (led c.args.six.now _) c.if-k-lt5.true)

pub returns-then-k-lt5-clause-step : goal.returns-then-k-lt5-clause-step
returns-then-k-lt5-clause-step c =
    let (first, l) = six-led c.args.six.now in
    rw c.end.ensures (head_step _ c.args.k _ l c.if-k-lt5.true)

pub returns-in_default-clause-put : goal.returns-in_default-clause-put
returns-in_default-clause-put c =
    let asked = sym (rw c.slots_of-slots.ensures.same at c.kth.ensures) ∙ c.in_default.is in
    puts-none _ (sym (past-put _ c.args.k 0 (led c.args.six.now _) c.if-k-lt5.false asked))

pub returns-in_default-clause-step : goal.returns-in_default-clause-step
returns-in_default-clause-step c =
    let asked = sym (rw c.slots_of-slots.ensures.same at c.kth.ensures) ∙ c.in_default.is in
    past-step _ c.args.k _ (led c.args.six.now _) c.if-k-lt5.false asked

pub returns-then-any_out-clause-put : goal.returns-then-any_out-clause-put
returns-then-any_out-clause-put c =
    let asked = sym (rw c.slots_of-slots.ensures.same at c.kth.ensures) ∙ c.in-Some.is in
    let spoilt = rw c.gather-values.ensures at c.if-any_out.ensures ∙ spoilt-is _ _ in
    puts-none _ (sym (spoilt-put _ c.args.k 0 (led c.args.six.now _) c.in-Some.p c.if-k-lt5.false asked spoilt))

pub returns-then-any_out-clause-step : goal.returns-then-any_out-clause-step
returns-then-any_out-clause-step c =
    let asked = sym (rw c.slots_of-slots.ensures.same at c.kth.ensures) ∙ c.in-Some.is in
    let spoilt = rw c.gather-values.ensures at c.if-any_out.ensures ∙ spoilt-is _ _ in
    spoilt-step _ c.args.k _ (led c.args.six.now _) c.in-Some.p c.if-k-lt5.false asked spoilt

-- what was gathered, as the line's text has it
said : (six : Six) (p : _) {values : _} → values ≡ map parts_of (values_at (components_of six) p) → map complex_of values ≡ values_at (components_of six) p
said six p e = ap (map complex_of) e ∙ map-map complex_of parts_of (values_at (components_of six) p) ∙ map-id (values_at (components_of six) p)

pub returns-clause-put : goal.returns-clause-put
unfolding frequencies headings
returns-clause-put c =
    let asked = sym (rw c.slots_of-slots.ensures.same at c.kth.ensures) ∙ c.in-Some.is in
    let whole = rw c.gather-values.ensures at c.if-any_out.ensures ∙ spoilt-is _ _ in
    puts-as (rw (said c.args.six.now c.in-Some.p c.gather-values.ensures) at (rw c.slots_of-slots.ensures.same at c.put_row.ensures))
    (row-put _ c.args.k 0 (led c.args.six.now _) c.in-Some.p c.if-k-lt5.false asked whole)

pub returns-clause-step : goal.returns-clause-step
returns-clause-step c =
    let asked = sym (rw c.slots_of-slots.ensures.same at c.kth.ensures) ∙ c.in-Some.is in
    let whole = rw c.gather-values.ensures at c.if-any_out.ensures ∙ spoilt-is _ _ in
    rw c.end-2.ensures (row-step _ c.args.k _ (led c.args.six.now _) c.in-Some.p c.if-k-lt5.false asked whole)
