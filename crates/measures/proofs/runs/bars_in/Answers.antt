-- A chunk of four prices is a bar.
use Rattle.std.proofs.Common.{ap, ◌∙◌, map}
use Rattle.measures.specs.Bar.{bar_of_four}
use Rattle.measures.proofs.PriceLaws.{bars-chunks}
use Rattle.measures.proofs.runs.bars_in.Goals as goal

pub returns : goal.returns
returns c = ap (map bar_of_four) c.as_chunks.ensures.front ∙ bars-chunks c.args.prices.now
