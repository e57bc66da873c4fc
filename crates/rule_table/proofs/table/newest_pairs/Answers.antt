-- The code is the definition.
use Rattle.rule_table.specs.Table.{pairs_at}
use Rattle.rule_table.specs.TableSteps.{pairs_of}
use Rattle.rule_table.proofs.Reach.{pair-near}
use Rattle.rule_table.proofs.table.newest_pairs.Goals as goal

pub returns : goal.returns
unfolding pairs_at pairs_of
returns c =
    simp (
      pair-near,
      c.pairs.ensures,
      c.last_bars-gate.ensures.bars,
      c.last_bars-w.ensures.bars,
      c.up_to-p.ensures,
    )
