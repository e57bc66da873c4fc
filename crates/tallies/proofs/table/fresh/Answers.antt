-- Assumes nothing.
use mathlib.Core.Path.{refl}
use Rattle.tallies.specs.Tally.{fresh_tally}
use Rattle.tallies.proofs.table.fresh.Goals as goal

pub returns : goal.returns
unfolding fresh_tally
returns c = refl
