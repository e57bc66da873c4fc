-- From the end of the run on there is no window, so that its end serves for any place past it. Assumes nothing.
use Rattle.sliding_extremes.specs.WindowExtreme.{window_extremes}
use Rattle.sliding_extremes.proofs.SlideLaws.{windows-end}
use Rattle.sliding_extremes.proofs.window_extremes.Goals as goal

pub returns : goal.returns
unfolding window_extremes
returns c = rw (c.newer.ensures, c.min-from.ensures, c.count.ensures) (simp windows-end)
