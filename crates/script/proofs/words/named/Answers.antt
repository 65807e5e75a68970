-- `words::named` meets its contract. Assumes nothing.
use Rattle.std.proofs.Common.{◌≡◌, ◌<◌, ◌+◌, ℕ, List, cond, sym, ◌∙◌, length, drop, get_or, ap, Bor}
use Rattle.std.specs.Str.{bytes_eq}
use Rattle.std.proofs.lemmas.List.{at_drop_more, at_drop_all}
use Rattle.script.specs.own.Tabled.{tabled}
use Rattle.script.proofs.words.named.Goals as goal

-- the table from an entry on
here :
    {A : Type 0}
    (w : List ℕ) (table : List (Bor (List ℕ) × A)) (other : A) (i : ℕ) (e : Bor (List ℕ) × A)
    → i < length table
    → e ≡ get_or table i e
    → tabled w (drop i table) other ≡ cond (bytes_eq w e.0.now) e.1 (tabled w (drop (i + 1) table) other)
unfolding tabled
here w table other i e h is =
    at_drop_more (λ t. tabled w t other) table i e h
    ∙ ap (λ x. cond (bytes_eq w x.0.now) x.1 (tabled w (drop (i + 1) table) other)) (sym is)

pub returns-then-eq : goal.returns-then-eq
returns-then-eq g c =
    let e = here c.args.word.now c.args.table.now c.args.other c.loop-name.name-index c.loop-name-item.result c.loop-name-test.true c.loop-name-item.is in
    rw (sym c.eq.ensures ∙ c.if-eq.true) at (sym e ∙ c.loop-name.invariant)

pub loop-name-preserved : goal.loop-name-preserved
loop-name-preserved g c =
    let e = here c.args.word.now c.args.table.now c.args.other c.loop-name.name-index c.loop-name-item.result c.loop-name-test.true c.loop-name-item.is in
    rw (sym c.eq.ensures ∙ c.if-eq.false) at (sym e ∙ c.loop-name.invariant)

pub returns : goal.returns
unfolding tabled
returns g c =
    sym (at_drop_all (λ t. tabled c.args.word.now t c.args.other) c.args.table.now c.loop-name.name-index c.loop-name-test.false)
    ∙ c.loop-name.invariant
