-- Every clock keeps the promises of forces: each proof is over the clock. Assumes nothing.
use Rattle.promises_clocks.specs.Clocks.{EveryClock}
use Rattle.promises_queries.proofs.Queries.{load-exactly-by, load-given-by, force-exactly-by, force-given-by, force-zero-by, empty-sea-by, display-exactly-by}
use Rattle.promises_numbers.proofs.Numbers.{load-number-by, force-number-by, display-number-by, load-value-by, force-value-by, display-value-by}
use Rattle.promises_accepted.proofs.Bounded.{sea-answered-by}
use Rattle.promises_forces.proofs.Demand.{demand3-by, demand3-load-by, demand3-equal-by, demand3-exact-by, widths-above-by, all-in-place-by, real-part-by}
use Rattle.promises_forces.proofs.Rounding.{force-nearest-by}
use Rattle.promises_forces.proofs.Exact.{exact-linear-by}
use Rattle.promises_forces.proofs.Shown.{load-in-range-by, mean-of-load-by, display-shows-by, display-given-by}
use Rattle.promises_accepted.proofs.ChainQueries.{chain-force-by, chain-load-by, chain-display-by}
use Rattle.promises_accepted.proofs.Afterwards.{force-afterwards-by}

pub every-clock : EveryClock
every-clock clock keeps =
    record {
      load-exactly = load-exactly-by clock;
      load_given = load-given-by clock;
      load-number = load-number-by clock;
      load_value = load-value-by clock;
      force-exactly = force-exactly-by clock;
      force-given = force-given-by clock;
      force-number = force-number-by clock;
      force-value = force-value-by clock;
      force-zero = force-zero-by clock;
      empty-sea = empty-sea-by clock;
      sea-answered = sea-answered-by clock;
      display-exactly = display-exactly-by clock;
      display-given = display-given-by clock;
      display-number = display-number-by clock;
      display-value = display-value-by clock;
      display-shows = display-shows-by clock;
      load-in-range = load-in-range-by keeps;
      mean-of-load = mean-of-load-by keeps;
      bound = demand3-by keeps;
      bound-of-load = demand3-load-by keeps;
      bound-of-equal = demand3-equal-by keeps;
      bound-unrounded = demand3-exact-by keeps;
      force-nearest = force-nearest-by clock;
      widths-above = widths-above-by clock;
      all-in-place = all-in-place-by clock;
      real-part = real-part-by clock;
      exact-linear = exact-linear-by clock;
      chain-force = chain-force-by keeps;
      chain-load = chain-load-by keeps;
      chain-display = chain-display-by keeps;
      force-afterwards = force-afterwards-by keeps;
    }
