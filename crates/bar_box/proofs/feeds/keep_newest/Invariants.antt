use mathlib.Core.Path.{◌≡◌}
use lib.ListN.{length, take, drop}
use Rattle.recognisers.specs.Number.{places}
use Rattle.measures.specs.Bar.{bars_of, overlay}
use Rattle.bar_box.specs.Box.{numbered}
use Rattle.bar_box.proofs.feeds.keep_newest.Given as goal

abbrev pub invariant-loop-k : goal.invariant-loop-k
invariant-loop-k l = (length l.bars ≡ places) × (l.bars ≡ overlay l.initial.bars l.stay (take l.k (drop l.first (numbered l.count (bars_of l.prices)))))
