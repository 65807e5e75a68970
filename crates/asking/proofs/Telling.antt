-- What `proteus` leaves, from what the writer left: the six places are the parts that it was lent, and the bytes are the first that there are. Assumes nothing.
use mathlib.Core.Path.{◌≡◌, ap, ◌∙◌}
use mathlib.Core.List.{List, ◌++◌}
use Prim.Native.Nat.{ℕ, min, ◌≤◌}
use borrow.Author.Tests.{le-leb}
use lib.IntN.{ℤ}
use lib.ListN.{length, take, drop}
use Rattle.std.specs.Prelude.{Some}
use Rattle.reader.specs.declared.record.Record.{Record}
use Rattle.replies.specs.declared.reply.Reply.{Reply}
use Rattle.proteus.specs.Answer.{Wrote}
use Rattle.hull.specs.Six.{Component, components_with}
use Rattle.proteus.specs.Answer.{outcome, written}
use Rattle.asking.specs.Places.{places_of, Telling, telling, wrote_as, written_as, proteus_as}
use Rattle.std.proofs.lemmas.List.{take_min, drop_min}

pub writer-told :
    (records : List Record) (c : ℕ) (kept : List ℤ) (out : List ℕ) {six : List Component} {r : Reply} {w : Wrote} {ys : List ℕ}
    → six ≡ components_with records (places_of c kept)
    → outcome w ys ≡ written six out
    → r ≡ wrote_as w
    → telling r ys ≡ written_as (written (components_with records (places_of c kept)) out)
unfolding written_as
writer-told records c kept out {ys = ys} e w r = (λ i. telling (r i) ys) ∙ ap written_as (w ∙ ap (λ (s : List Component). written s out) e)

pub room-told :
    (records : List Record) (room c : ℕ) (kept : List ℤ) (out : List ℕ) {cells end : ℕ} {r : Reply} {ys : List ℕ}
    → cells ≡ min c 12_900
    → end ≡ min room (length out)
    → room ≤ 1_100_000
    → telling r ys ≡ written_as (written (components_with records (places_of cells kept)) (take end out))
    → telling r (ys ++ drop end out) ≡ proteus_as records (Some room) c kept out
unfolding proteus_as
room-told records room c kept out {cells} {end} {r} {ys} few short h w =
    let front = ap (λ (n : ℕ). take n out) short ∙ take_min room out in
    let rest = ap (λ (n : ℕ). drop n out) short ∙ drop_min room out in
    rw (le-leb room 1_100_000 h)
    ((λ i. telling r (ys ++ rest i))
    ∙ ap (λ (t : Telling). telling t.reply (t.out ++ drop room out)) (w ∙ (λ i. written_as (written (components_with records (places_of (few i) kept)) (front i)))))
