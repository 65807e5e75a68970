-- `force::add_pairs` meets its contract: a row of pairs within the loop over rows, each by the laws of Adding. Assumes nothing.
use Rattle.std.proofs.Common.{eqb, length, get_or}
use Rattle.phase.specs.Seconds.{seconds}
use Rattle.load.specs.own.Loads.{first_partner}
use Rattle.load.specs.own.Pairs.{pair_bad, pair_term}
use Rattle.load.proofs.Adding.{Adding}
use Rattle.load.proofs.AllPairs.{row_bad, row_terms}
use Rattle.load.proofs.Unordered.{nowhere}
use Rattle.load.proofs.force.add_pairs.Given as goal

abbrev pub invariant-loop-j : goal.invariant-loop-j
invariant-loop-j l =
    let m = get_or l.waves l.i nowhere in
    Adding (λ j. pair_bad l.swing.cells.now (eqb l.i j) m.bracket (get_or l.waves j nowhere).bracket) (λ j. pair_term seconds l.swing.kind l.swing.cells.now l.swing.t (eqb l.i j) m (get_or l.waves j nowhere)) 1 (first_partner l.swing.kind l.i) (length l.waves) l.initial.sum l.sum l.j

abbrev pub invariant-loop-i : goal.invariant-loop-i
invariant-loop-i l =
    Adding (row_bad l.swing.cells.now l.waves l.swing.kind) (row_terms l.swing.cells.now l.waves seconds l.swing.kind l.swing.t) (length l.waves) 0 (length l.waves) l.initial.sum l.sum l.i
