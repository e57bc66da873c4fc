-- A run has a bar for each four prices.
use mathlib.Core.Path.{sym}
use Rattle.windows.proofs.RunLaws.{length-bars}
use Rattle.windows.proofs.count.Goals as goal

pub returns : goal.returns
returns c = sym (length-bars c.args.prices.now)
