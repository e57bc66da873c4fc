-- By the last stamp and the open bar. Assumes nothing.
use mathlib.Core.Path.{◌≡◌, refl}
use Rattle.std.specs.Prelude.{Bool, true, false, not, Option, None, Some, is_some}
use Rattle.measures.specs.Bar.{Bar}
use Rattle.trading_hours.specs.declared.hours.Hours.{Hours}
use Rattle.term_events.specs.Verdicts.{sound_carried}
use Rattle.term_events.proofs.verdicts.sound.Goals as goal

pub returns-in-Some : goal.returns-in-Some
unfolding sound_carried
returns-in-Some c = simp (c.in-Some.is, c.in_hours.ensures)

none-open : (h : Hours) (pending : Option Bar) (none : Bool) → is_some pending ≡ not none → none ≡ sound_carried h None pending
unfolding sound_carried
none-open h None true e = refl
none-open h None false e = cc
none-open h (Some b) true e = e
none-open h (Some b) false e = refl

pub returns-in-None : goal.returns-in-None
returns-in-None c = rw c.in-None.is (none-open c.args.h c.args.pending _ c.is_none.ensures)
