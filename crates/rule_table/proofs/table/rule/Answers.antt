-- Each arm of the match is a row of the table, here those whose rule reads a part of the window; what no arm has is past it. Assumes nothing.
use Prim.Native.Nat.{◌≤◌}
use native.Mathlib.Omega.{arith}
use mathlib.Core.Path.{◌∙◌, sym}
use Rattle.measures.specs.Bar.{bars_of}
use Rattle.growing_rules.proofs.GrowingLaws.{san-fa-near, ta-xing-near}
use Rattle.rule_types.specs.Number.{recognisers}
use Rattle.rule_table.specs.Table.{table_row, rows, seen_of}
use Rattle.rule_table.proofs.TableLaws.{rule-past}
use Rattle.rule_table.proofs.table.rule.Goals as goal

pub returns-in-2 : goal.returns-in-2
unfolding table_row rows seen_of
returns-in-2 c = simp (c.wu_yun_gai_ding.ensures, c.in-2.is, c.back-b2.ensures, c.back-b1.ensures)

pub returns-in-4 : goal.returns-in-4
unfolding table_row rows seen_of
returns-in-4 c = simp (c.san_fa_v20221118.ensures, c.in-4.is, san-fa-near)

pub returns-in-17 : goal.returns-in-17
unfolding table_row rows seen_of
returns-in-17 c = simp (c.ta_xing.ensures, c.in-17.is, ta-xing-near)

pub returns-in_default : goal.returns-in_default
returns-in_default c =
    let args = c.args in
    let past : recognisers ≤ args.k = omega arith in
    c.pair_a.ensures ∙ sym (rule-past args.k args.t args.len args.deep (bars_of args.w.now) (bars_of args.gate.now) past)
