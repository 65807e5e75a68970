-- `coefficient::between` meets its contract: each return is one answer, by the laws of Answers. Assumes nothing.
use Rattle.std.proofs.Common.{◌≡◌, ℕ, ℤ, refl, sym, ap, ◌∙◌, rules, arith, Ok, w32, to_z, of_z}
use Rattle.std.proofs.lemmas.Grind.{common_steps}
use Rattle.refusals.specs.Numbered.{number_of, number_in}
use Rattle.refusals.proofs.Numbers.{some-number}
use Rattle.reader.specs.declared.record.Record.{Record}
use Rattle.load.specs.Answers.{Coefficient, coefficient_in}
use Rattle.load.specs.Locating.{located}
use Rattle.load.specs.own.Brackets.{Bracketed, bracketed_in, bracketed}
use Rattle.load.proofs.Queries.{unbarred}
use Rattle.load.proofs.Answers.{barred, first-refused, second-refused, both_found}
use Rattle.load.proofs.coefficient.between.Goals as goal

-- what comes of a point
abbrev back : ℤ → ℤ
back z = to_z w32 (of_z w32 z)

point : (r : Record) (h : ℤ) (tick : ℕ) (k : ℤ) → back h ≡ h → back k ≡ k
    → (x : Bracketed) → x ≡ bracketed r.slots (located r (back h) tick (back k)) → x ≡ bracketed r.slots (located r h tick k)
point r h tick k one two x e = e ∙ (λ i. bracketed r.slots (located r (one i) tick (two i)))

pub returns-in_err-query_barred : goal.returns-in_err-query_barred
returns-in_err-query_barred c =
    let e = c.in_err-query_barred.field-0.0 in
    let number : number_in c.query_barred.result ≡ number_of e = ap number_in c.in_err-query_barred.was in
    let given : coefficient_in c.from_residual.result ≡ Coefficient.Refused (number_of e) 0 = grind (arith, common_steps) in
    given ∙ barred _ _ _ _ _ (sym number ∙ c.query_barred.ensures) (some-number e)

pub locate-requires : goal.locate-requires
locate-requires c = (unbarred _ _ (sym c.query_barred.ensures ∙ ap number_in c.in_ok-query_barred.was)).1

pub locate-requires-2 : goal.locate-requires-2
locate-requires-2 c = (unbarred _ _ (sym c.query_barred.ensures ∙ ap number_in c.in_ok-query_barred.was)).1

pub valued-requires-clause-lent : goal.valued-requires-clause-lent
valued-requires-clause-lent c = (unbarred _ _ (sym c.query_barred.ensures ∙ ap number_in c.in_ok-query_barred.was)).0

pub valued-requires-clause-first : goal.valued-requires-clause-first
valued-requires-clause-first c =
    let found : c.locate.result ≡ Ok c.in_ok-p.p = grind (arith, common_steps) in
    c.locate.ensures.proper _ found

pub valued-requires-clause-second : goal.valued-requires-clause-second
valued-requires-clause-second c =
    let found : c.locate-2.result ≡ Ok c.in_ok-q.q = grind (arith, common_steps) in
    c.locate-2.ensures.proper _ found

pub returns-in_err-p : goal.returns-in_err-p
returns-in_err-p c =
    let a = c.args in
    let e = c.in_err-p.field-0.0 in
    let one : back a.a.heading ≡ a.a.heading = search rules in
    let free = sym c.query_barred.ensures ∙ ap number_in c.in_ok-query_barred.was in
    let refused : coefficient_in c.from_residual-in_err-p.result ≡ Coefficient.Refused (number_of e.refusal) 1 = grind (arith, common_steps) in
    refused ∙ first-refused _ _ _ _ _ refl free _ (point a.r a.a.heading a.a.tick a.a.heading one one _ c.locate.ensures.place) _ (ap bracketed_in c.in_err-p.was)

pub returns-in_err-q : goal.returns-in_err-q
returns-in_err-q c =
    let a = c.args in
    let e = c.in_err-q.field-0.0 in
    let one : back a.a.heading ≡ a.a.heading = search rules in
    let two : back a.b.heading ≡ a.b.heading = search rules in
    let free = sym c.query_barred.ensures ∙ ap number_in c.in_ok-query_barred.was in
    let refused : coefficient_in c.from_residual-in_err-q.result ≡ Coefficient.Refused (number_of e.refusal) 2 = grind (arith, common_steps) in
    refused
    ∙ second-refused _ _ _ _ _ refl free
    _ (point a.r a.a.heading a.a.tick a.a.heading one one _ c.locate.ensures.place)
    _ (point a.r a.a.heading a.b.tick a.b.heading one two _ c.locate-2.ensures.place)
    _ (ap bracketed_in c.in_ok-p.was) _ (ap bracketed_in c.in_err-q.was)

pub returns : goal.returns
returns c =
    let a = c.args in
    let one : back a.a.heading ≡ a.a.heading = search rules in
    let two : back a.b.heading ≡ a.b.heading = search rules in
    let free = sym c.query_barred.ensures ∙ ap number_in c.in_ok-query_barred.was in
    c.valued.ensures
    ∙ both_found _ _ _ _ _ refl free
    _ (point a.r a.a.heading a.a.tick a.a.heading one one _ c.locate.ensures.place)
    _ (point a.r a.a.heading a.b.tick a.b.heading one two _ c.locate-2.ensures.place)
    _ (ap bracketed_in c.in_ok-p.was) _ (ap bracketed_in c.in_ok-q.was)
