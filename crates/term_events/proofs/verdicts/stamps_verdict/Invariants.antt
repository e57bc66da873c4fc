use mathlib.Core.Path.{◌≡◌}
use lib.ListN.{drop}
use Rattle.recognisers.specs.Refusal.{first_true}
use Rattle.term_events.specs.Verdicts.{stamps_tried}
use Rattle.term_events.specs.EventSteps.{EndKnown}
use Rattle.term_events.proofs.verdicts.stamps_verdict.Given as goal

abbrev pub invariant-loop-stamp : goal.invariant-loop-stamp
invariant-loop-stamp l = (first_true (stamps_tried l.h l.initial.last l.stamps) ≡ first_true (stamps_tried l.h l.last (drop l.stamp-index l.stamps))) × EndKnown l.h l.m l.last l.end
