use Prim.Native.Nat.{◌-◌, ◌≤◌}
use mathlib.Core.Path.{◌≡◌}
use lib.ListN.{length}
use Rattle.measures.specs.Bar.{overlay}
use Rattle.bar_box.specs.Sheet.{rows_of}
use Rattle.bar_box.specs.Box.{kept, taken_in}
use Rattle.terms.specs.Layer.{layer_with}
use Rattle.terms.proofs.PartLaws.{ended_to, carried_to}
use Rattle.terms.proofs.calls.take_bars.Given as goal

abbrev pub invariant-loop-done : goal.invariant-loop-done
invariant-loop-done l =
    let was = l.initial.l in
    let ended = ended_to was.hours was.minutes was.carried l.prices l.stamps l.done in
    record {
      within : l.done ≤ length l.stamps;
      same_sheet : length l.sheet ≡ length l.initial.sheet;
      same_run : length l.run ≡ 128;
      layer : l.l ≡ layer_with was.hours was.minutes (carried_to was.hours was.minutes was.carried l.prices l.stamps l.done) (taken_in was.inner ended);
      rows : l.rows ≡ length ended;
      written : l.sheet ≡ overlay l.initial.sheet 0 (rows_of was.inner.thresholds was.inner.count (kept was.inner) ended);
    }

abbrev pub decreases-loop-done : goal.decreases-loop-done
decreases-loop-done l = length l.stamps - l.done
