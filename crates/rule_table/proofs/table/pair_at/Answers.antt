-- The windows are those of the history. Assumes nothing.
use Rattle.rule_table.proofs.Reach.{pair-near}
use Rattle.rule_table.proofs.table.pair_at.Goals as goal

pub returns : goal.returns
returns c = simp (pair-near, c.judge.ensures, c.last_bars-gate.ensures.bars, c.last_bars-w.ensures.bars, c.up_to-p.ensures)
