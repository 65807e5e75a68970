-- A call that is lent the first cells and flags, as the code cuts them: what it leaves of all of them. Assumes nothing.
use Rattle.std.proofs.Common.{◌≡◌, ap, ◌∙◌, List, ◌++◌, ℕ, min, ℤ, length, take, drop}
use Rattle.std.proofs.lemmas.List.{take_min, drop_min}
use Rattle.reader.specs.declared.record.Record.{Record}
use Rattle.reader.specs.declared.reader.Answer.{Answer}
use Rattle.reader.specs.Model.{Out, out, state_of}
use Rattle.asking.specs.declared.lent.Lent.{Lent}
use Rattle.changing.specs.declared.calls.Called.{Called}
use Rattle.changing.specs.Calls.{Calling, calling}

-- what a call comes to, with the cells and flags behind those that are lent
abbrev pub behind : (Record → Answer → Called) → Lent → List ℤ → List ℕ → Out → Calling
behind told lent cells flags o =
    calling (told o.after.reader o.answer) (o.after.cells ++ drop lent.cells cells) (o.after.flags ++ drop lent.flags flags)

pub call-told :
    (cells : List ℤ) (flags : List ℕ) (lent : Lent) (model : List ℤ → List ℕ → Out) (told : Record → Answer → Called) {c f : ℕ} {r : Record} {a : Answer} {ys : List ℤ} {zs : List ℕ} {called : Called}
    → c ≡ min lent.cells (length cells)
    → f ≡ min lent.flags (length flags)
    → out (state_of r ys zs) a ≡ model (take c cells) (take f flags)
    → called ≡ told r a
    → calling called (ys ++ drop c cells) (zs ++ drop f flags)
    ≡ behind told lent cells flags (model (take lent.cells cells) (take lent.flags flags))
call-told cells flags lent model told {c} {f} {r} {a} {ys} {zs} few less left e =
    let front = ap (λ (n : ℕ). take n cells) few ∙ take_min lent.cells cells in
    let first = ap (λ (n : ℕ). take n flags) less ∙ take_min lent.flags flags in
    let rest = ap (λ (n : ℕ). drop n cells) few ∙ drop_min lent.cells cells in
    let others = ap (λ (n : ℕ). drop n flags) less ∙ drop_min lent.flags flags in
    (λ i. calling (e i) (ys ++ rest i) (zs ++ others i))
    ∙ ap (behind told lent cells flags) (left ∙ (λ i. model (front i) (first i)))
