-- Where there is room: nothing, or the refusal. Assumes nothing.
use mathlib.Core.Path.{sym}
use native.Mathlib.Omega.{arith}
use Rattle.measures.proofs.Overlay.{overlay-none}
use Rattle.output_lines.specs.Output.{longest_refusal, refusal_line}
use Rattle.output_lines.proofs.OutputLaws.{printed, unprinted}
use Rattle.output_lines.proofs.output.print_refusal.Goals as goal

pub returns-then-left-lt-LONGEST_REFUSAL : goal.returns-then-left-lt-LONGEST_REFUSAL
returns-then-left-lt-LONGEST_REFUSAL c =
    let args = c.args in
    record { printed = unprinted longest_refusal (refusal_line args.ordinal args.stop) args.out.now args.at (omega arith); within = omega arith }

pub returns-in-None : goal.returns-in-None
unfolding refusal_line
returns-in-None c =
    let args = c.args in
    let s = args.out.now in
    record { printed = rw c.in-None.is (printed longest_refusal _ s args.at s args.at (omega arith) (omega arith, sym (overlay-none s args.at))); within = omega arith }

pub returns-in-Some : goal.returns-in-Some
returns-in-Some c =
    let line = c.write_stop.ensures in
    record { printed = rw c.in-Some.is (printed longest_refusal _ c.args.out.now _ _ _ (omega arith) line.1); within = omega (arith, line.0) }
