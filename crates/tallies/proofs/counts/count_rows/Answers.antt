-- The loop's invariant: the rows passed are counted. Assumes nothing.
use Rattle.tallies.proofs.CountLaws.{none-counted}
use Rattle.tallies.proofs.counts.count_rows.Goals as goal

pub loop-i-init : goal.loop-i-init
loop-i-init c = none-counted c.args.sheet.now
