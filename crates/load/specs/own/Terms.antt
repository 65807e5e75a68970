-- What the crate's own functions say of one pair of waves.
use Rattle.std.specs.Prelude.{cond, ℕ, eqb}
use Rattle.whole.specs.Complex.{Complex, conj}
use Rattle.load.specs.declared.pairs.Wide.{Wide}

abbrev pub complex : Wide → Complex
complex w = record { re = w.re; im = w.im }

-- the amplitude that stands second in a pair
unfoldable pub second_of : ℕ → Complex → Complex
second_of kind a = cond (eqb kind 0) (conj a) a
