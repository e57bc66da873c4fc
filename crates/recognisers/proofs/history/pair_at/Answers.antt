-- The windows are those of the history; a recogniser without a gate is handed an empty one. Assumes nothing.
use Rattle.std.proofs.Common.{map}
use Rattle.measures.specs.Window.{window_of}
use Rattle.rule_types.specs.Number.{reach_bars}
use Rattle.rule_table.proofs.Reach.{pair-near}
use Rattle.rule_table.proofs.TableLaws.{gate-enough}
use Rattle.recognisers.proofs.HistoryLaws.{window-map}
use Rattle.recognisers.proofs.history.pair_at.Goals as goal

pub returns : goal.returns
returns g c =
    let args = c.args in
    let history = map g.B.ToBar.bar args.bars.now in
    simp (pair-near, c.judge.ensures, c.prices_of-w.ensures, c.prices_of-gate.ensures, c.window_of.ensures.bars, c.window_of-2.ensures.bars, c.gate_bars.ensures.0, c.up_to.ensures, window-map) (gate-enough args.k args.t _ _ (window_of history args.di reach_bars) history)
