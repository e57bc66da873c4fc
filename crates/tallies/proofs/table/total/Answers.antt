-- A row's total fits 64 bits, since each count fits 32. Assumes nothing.
use Rattle.std.proofs.Common.{rules}
use Rattle.std.proofs.iter.runs.Sources.{sums}
use Rattle.std.proofs.iter.runs.Made.{chains}
use Rattle.tallies.specs.Tally.{total_of}
use Rattle.tallies.proofs.table.total.Goals as goal

pub sum-requires-clause-fits : goal.sum-requires-clause-fits
sum-requires-clause-fits c = search (rules, sums)

pub returns : goal.returns
unfolding total_of
returns c = (search (rules, chains), c.told-counts)
