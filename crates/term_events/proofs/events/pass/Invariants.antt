use mathlib.Core.Path.{◌≡◌}
use Prim.Native.Nat.{◌≤◌, max}
use lib.ListN.{length, drop}
use Rattle.measures.specs.Bar.{bars_of}
use Rattle.term_events.specs.EventSteps.{end_after, pass_of}
use Rattle.term_events.proofs.events.pass.Given as goal

abbrev pub invariant-loop-k : goal.invariant-loop-k
invariant-loop-k l = (l.count ≤ l.k) × (l.k ≤ max l.from (length l.stamps)) × (length l.run ≡ length l.initial.run) × (pass_of l.h l.m (bars_of l.prices) l.initial.carried (end_after l.h l.m l.initial.carried.last) l.from 0 l.initial.run (drop l.from l.stamps) ≡ pass_of l.h l.m (bars_of l.prices) l.carried l.end l.k l.count l.run (drop l.k l.stamps))
