-- Below its p the short pair of its row, else its rule; past the table there is no such p. Assumes nothing.
use mathlib.Core.Path.{◌∙◌, sym}
use Rattle.measures.specs.Bar.{bars_of}
use Rattle.rule_table.specs.Table.{judge_of}
use Rattle.rule_table.proofs.TableLaws.{judge-past}
use Rattle.rule_table.proofs.table.judge.Goals as goal

pub returns-then-i-lt-RECOGNISERS : goal.returns-then-i-lt-RECOGNISERS
unfolding judge_of
returns-then-i-lt-RECOGNISERS c = simp (c.row.ensures, c.rule-full.ensures)

pub returns-else-i-lt-RECOGNISERS : goal.returns-else-i-lt-RECOGNISERS
returns-else-i-lt-RECOGNISERS c =
    let args = c.args in
    c.rule-full.ensures ∙ sym (judge-past args.k args.t args.len args.p (bars_of args.w.now) (bars_of args.gate.now) c.if-i-lt-RECOGNISERS.false)
