-- Each element is the rule of the row that has its number. Assumes nothing.
use Rattle.growing_rules.proofs.GrowingLaws.{san-fa-near, ta-xing-near}
use Rattle.rule_table.specs.Table.{table_row, rows, seen_of, numbers}
use Rattle.rule_table.specs.TableSteps.{rules_of}
use Rattle.rule_table.proofs.table.rules.Goals as goal

pub returns : goal.returns
unfolding rules_of numbers table_row rows seen_of
returns c =
    simp (
      c.san_xing_xian.ensures,
      c.ten_mo.ensures,
      c.wu_yun_gai_ding.ensures,
      c.ci_tou.ensures,
      c.san_fa_v20221115.ensures,
      c.xing_xian.ensures,
      c.fen_shou_xian.ensures,
      c.zhu_huo_xian.ensures,
      c.yun_xian.ensures,
      c.ping_tou.ensures,
      c.two_crow.ensures,
      c.three_crow.ensures,
      c.szx.ensures,
      c.san_szx.ensures,
      c.fan_ji_xian.ensures,
      c.gap_yin_yang.ensures,
      c.growing_pairs-g.ensures,
      san-fa-near,
      ta-xing-near,
      c.quarter_in-q.ensures,
      c.quarter_extremes-e.ensures,
      c.back-b1.ensures,
      c.back-b2.ensures,
      c.back-b3.ensures,
      c.back-b4.ensures,
      c.back-b5.ensures,
      c.back-b6.ensures,
    )
