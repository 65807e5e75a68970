-- Opening leads to a start. Assumes nothing.
use mathlib.Core.List.{List}
use mathlib.Core.Path.{refl, sym, ap, subst, ◌∙◌}
use Prim.Native.Nat.{ℕ}
use lib.IntN.{ℤ}
use lib.ListN.{drop}
use Rattle.row.specs.declared.reading.Choices.{Choices}
use Rattle.reader.specs.declared.reader.Answer.TheVariants as Answer
use Rattle.reader.specs.Model.{State, Out, out, open_of}
use Rattle.promises_chains.specs.Chain.{Opens, opened}
use Rattle.promises_texts.specs.Start.{StartsAt, from_opening, OpenStarts}
use Rattle.promises_tables.proofs.Placed.{open-holds}
use Rattle.promises_chains.proofs.Chain.{start_of, opened-whole, opened-is, start-at-line}

-- what holds of the state that opening leaves, with the answer that it goes on, holds of opening
pub from-opening :
    (c : Choices) (cells : List ℤ) (flags : List ℕ) → Opens c cells flags → (P : Out → Type 0) → P (out (opened c cells flags) Answer.Going) → P (open_of c cells flags)
from-opening c cells flags o P p =
    subst P (ap (λ (s : State). out s Answer.Going) (opened-is c cells flags o) ∙ sym (opened-whole c cells flags o)) p

pub start-starts : (c : Choices) (cells : List ℤ) (flags : List ℕ) → Opens c cells flags → StartsAt (from_opening c) (start_of c cells flags)
unfolding start_of
start-starts c cells flags o =
    record {
      ready = start-at-line c cells flags o;
      choices = refl;
      lines = refl;
      holds = open-holds c.kind (drop 12_800 cells) (drop 6_400 flags);
    }

pub open-starts : OpenStarts
open-starts c cells flags o = subst (StartsAt (from_opening c)) (sym (opened-is c cells flags o)) (start-starts c cells flags o)
