use Prim.Native.Nat.{◌-◌, ◌≤◌}
use mathlib.Core.Path.{◌≡◌}
use lib.ListN.{length, take}
use Rattle.output_lines.specs.Output.{Written}
use Rattle.label_lines.specs.Session.{state_of, session_of, state_after, prints, used_of}
use Rattle.label_lines.proofs.session.absorb.Given as goal

abbrev pub invariant-loop-used : goal.invariant-loop-used
invariant-loop-used l =
    (l.used ≤ length l.chunk)
    × (l.written ≤ length l.initial.out)
    × (length l.out ≡ length l.initial.out)
    × (l.session ≡ session_of (state_after (state_of l.initial.session) (take l.used l.chunk)))
    × Written l.initial.out 0 (prints (state_of l.initial.session) (take l.used l.chunk)) l.out l.written
    × (used_of (length l.initial.out) (state_of l.initial.session) (take l.used l.chunk) ≡ l.used)

abbrev pub decreases-loop-used : goal.decreases-loop-used
decreases-loop-used l = length l.chunk - l.used
