-- Both columns of the code's table are those of the rows. Assumes nothing.
use Rattle.rule_table.proofs.TableLaws.{row_at}
use Rattle.rule_table.proofs.table.row.Goals as goal

pub returns : goal.returns
returns c =
    rw (c.pick.ensures, c.pick-short.ensures, c.pair_a.ensures, c.pair_b.ensures) (row_at _ c.args.k c.requires c.args.p c.args.full)
