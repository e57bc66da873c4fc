use Prim.Native.Nat.{◌-◌, ◌≤◌}
use mathlib.Core.Path.{◌≡◌}
use lib.ListN.{length, take}
use Rattle.recognisers.specs.Number.{places}
use Rattle.tally_lines.specs.Session.{state_of, session_of, state_after}
use Rattle.tally_lines.proofs.session.absorb.Given as goal

abbrev pub invariant-loop-used : goal.invariant-loop-used
invariant-loop-used l =
    (l.used ≤ length l.chunk) × (l.session ≡ session_of (state_after (state_of l.initial.session) (take l.used l.chunk))) × (length l.session.held.bars ≡ places)

abbrev pub decreases-loop-used : goal.decreases-loop-used
decreases-loop-used l = length l.chunk - l.used
