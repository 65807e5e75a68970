-- `placing::place` meets its contract, by the laws of Outcomes. Assumes nothing.
use Rattle.std.proofs.Common.{◌≡◌, ◌∙◌, sym, ap, rules, true, w32, to_z, of_z}
use Rattle.whole.specs.Complex.{Complex}
use Rattle.table.specs.Cells.{mirror, with_cell, with_flag}
use Rattle.table.specs.Placing.{fits, here, there, value_of, table_of, clashes, written}
use Rattle.table.proofs.Outcomes.{placed-no-room, placed-clash-here, placed-clash-there, placed-written, fits-is, here-is, there-is}
use Rattle.table.proofs.placing.place.Goals as goal
use Rattle.table.proofs.placing.place.Goals.{then-clash-via-then-clash, then-clash-via-else-clash+then-clash-2}

pub returns-in_default : goal.returns-in_default
returns-in_default c =
    let t = c.take-t.ensures in
    sym (placed-no-room c.args.kind c.args.e (table_of c.args.s c.args.cells.now c.args.flags.now)
    (fits-is c.args.s c.args.e t.ticks.0 t.ticks.1 t.headings.0 t.headings.1 ∙ c.in_default.ensures.room))

pub returns-then-clash : goal.returns-then-clash
unfolding clashes
returns-then-clash c =
    let s = c.args.s in
    let e = c.args.e in
    let table = table_of s c.args.cells.now c.args.flags.now in
    let t = c.take-t.ensures in
    let room : fits s e ≡ true = fits-is s e t.ticks.0 t.ticks.1 t.headings.0 t.headings.1 ∙ c.in-Some.ensures.room in
    let here-too : c.in-Some.here ≡ here s e = c.in-Some.ensures.places.0 ∙ here-is s e t.ticks.0 t.ticks.1 t.headings.0 t.headings.1 in
    let there-too : c.in-Some.there ≡ there s e = c.in-Some.ensures.places.1 ∙ there-is s e t.ticks.0 t.ticks.1 t.headings.0 t.headings.1 in
    let re : to_z w32 (of_z w32 e.re) ≡ e.re = search rules in
    let im : to_z w32 (of_z w32 e.im) ≡ e.im = search rules in
    let value : ◌≡◌ {A = Complex} (record { re = to_z w32 (of_z w32 e.re); im = to_z w32 (of_z w32 e.im) }) (value_of e) = λ i. record { re = re i; im = im i } in
    let mirrored = c.mirrored-mirror.ensures ∙ ap (mirror c.args.kind) value in
    let first : c.clash.result ≡ clashes table (here s e) (value_of e) = c.clash.ensures ∙ λ i. clashes table (here-too i) (value i) in
    elim c.then-clash.branch [ then-clash-via-then-clash w ↦ sym (placed-clash-here c.args.kind e table room (sym first ∙ w.if-clash.true)) | then-clash-via-else-clash+then-clash-2 w ↦ sym (placed-clash-there c.args.kind e table room (sym first ∙ w.if-clash.false) (sym (w.clash-else-clash.ensures ∙ λ i. clashes table (there-too i) (mirrored i)) ∙ w.if-clash-2.true)) ]

pub returns : goal.returns
unfolding clashes written
returns c =
    let s = c.args.s in
    let e = c.args.e in
    let kind = c.args.kind in
    let table = table_of s c.args.cells.now c.args.flags.now in
    let t = c.take-t.ensures in
    let room : fits s e ≡ true = fits-is s e t.ticks.0 t.ticks.1 t.headings.0 t.headings.1 ∙ c.in-Some.ensures.room in
    let here-too : c.in-Some.here ≡ here s e = c.in-Some.ensures.places.0 ∙ here-is s e t.ticks.0 t.ticks.1 t.headings.0 t.headings.1 in
    let there-too : c.in-Some.there ≡ there s e = c.in-Some.ensures.places.1 ∙ there-is s e t.ticks.0 t.ticks.1 t.headings.0 t.headings.1 in
    let re : to_z w32 (of_z w32 e.re) ≡ e.re = search rules in
    let im : to_z w32 (of_z w32 e.im) ≡ e.im = search rules in
    let value : ◌≡◌ {A = Complex} (record { re = to_z w32 (of_z w32 e.re); im = to_z w32 (of_z w32 e.im) }) (value_of e) = λ i. record { re = re i; im = im i } in
    let mirrored = c.mirrored-mirror.ensures ∙ ap (mirror kind) value in
    let first : c.clash.result ≡ clashes table (here s e) (value_of e) = c.clash.ensures ∙ λ i. clashes table (here-too i) (value i) in
    let second : c.clash-else-clash.result ≡ clashes table (there s e) (mirror kind (value_of e)) = c.clash-else-clash.ensures ∙ λ i. clashes table (there-too i) (mirrored i) in
    let cells = c.write_cell-2.ensures ∙ λ i. with_cell ((c.write_cell.ensures ∙ λ j. with_cell table.cells (here-too j) (value j)) i) (there-too i) (mirrored i) in
    let flags = c.raise_flag-2.ensures ∙ λ i. with_flag ((c.raise_flag.ensures ∙ ap (with_flag table.flags) here-too) i) (there-too i) in
    (λ i. record { number = 0; table = table_of (t.slots i) (cells i) (flags i) })
    ∙ sym (placed-written kind e table room (sym first ∙ c.if-clash.false) (sym second ∙ c.if-clash-2.false))
