-- A pen (src/pen.rt): a lent slice, and the place in it where the next byte goes.
use Rattle.std.specs.Prelude.{◌≡◌, List, ℕ}
use Rattle.text.specs.declared.pen.Pen.{Pen}
use Rattle.text.specs.Put.{Placed, placed, put}

-- what its slice holds, and where the next byte goes
abbrev pub placed_by : Pen → Placed
placed_by p = placed p.out.now p.at

-- a call that puts a text, from the pen before it to the pen behind it: the text is put from the pen's place on, and the slice is still the one that was lent
pub record Puts (text : List ℕ) (old new : Pen) : Type 0 where
  pub put : placed_by new ≡ put old.out.now old.at text
  pub same : new.out.ghost_name ≡ old.out.ghost_name
