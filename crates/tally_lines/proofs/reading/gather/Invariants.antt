use Prim.Native.Nat.{◌-◌, ◌≤◌, ◌<◌}
use Rattle.std.specs.Prelude.{None}
use mathlib.Core.List.{[]}
use mathlib.Core.Path.{◌≡◌}
use lib.ListN.{length, take}
use Rattle.measures.specs.Bar.{overlay, prices_of}
use Rattle.input_lines.specs.Lines.{content, partial_of}
use Rattle.tally_lines.specs.Session.{read_from}
use Rattle.tally_lines.proofs.reading.gather.Given as goal

abbrev pub invariant-loop-got : goal.invariant-loop-got
invariant-loop-got l =
    let read = read_from [] (content l.initial.got.line) (take l.got.used l.chunk) in
    (l.got.used ≤ length l.chunk)
    × (l.got.bars ≤ l.most)
    × (length l.prices ≡ length l.initial.prices)
    × (l.got.line ≡ partial_of read.line)
    × (l.got.bars ≡ length read.bars)
    × (l.got.stop ≡ read.stop)
    × (l.prices ≡ overlay l.initial.prices 0 (prices_of read.bars))
    × (l.got.used ≡ 0 → (l.got.bars < l.most) × (l.got.stop ≡ None))

abbrev pub decreases-loop-got : goal.decreases-loop-got
decreases-loop-got l = length l.chunk - l.got.used
