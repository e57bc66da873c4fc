use Rattle.std.proofs.Common.{◌≡◌, ◌-◌, ◌≤◌, length}
use Rattle.test_cuts.proofs.cuts.feed_all.Given as goal

abbrev pub invariant-loop-done : goal.invariant-loop-done
invariant-loop-done l = (l.done ≤ l.bars) × (length l.sheet ≡ length l.initial.sheet)

abbrev pub decreases-loop-done : goal.decreases-loop-done
decreases-loop-done l = l.bars - l.done
