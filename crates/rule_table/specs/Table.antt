-- "The eighteen": the table, and the pair at an offset of a history.
use Rattle.std.specs.Prelude.{ℕ, Bool, cond, ◌&&◌, List, [], ◌∷◌, map, ltb, leb, eqb, length, get_or, take}
use Rattle.measures.specs.Bar.{Bar, doji_above}
use Rattle.measures.specs.declared.folds.Column.TheVariants.{Close}
use Rattle.measures.specs.declared.folds.Extremes.{Extremes}
use Rattle.measures.specs.Window.{up_to, newest, window_of, back_of}
use Rattle.measures.specs.Fold.{column_of, highest_of}
use Rattle.rule_types.specs.declared.label.Pair.{Pair}
use Rattle.thresholds.specs.declared.Thresholds.{Thresholds}
use Rattle.rule_types.specs.Label.{pair_a, pair_b}
use Rattle.rule_types.specs.Number.{recognisers, gated, reach_bars, quarter_bars, gate_end, whole_of}
unfoldable pub use Rattle.rule_types.specs.Number.{numbers}
use Rattle.quarter_rules.specs.declared.Quarter.{Quarter}
use Rattle.quarter_rules.specs.QuarterRule.{quarter_in, quarter_extremes, san_xing_xian, ten_mo, fen_shou_xian, zhu_huo_xian, fan_ji_xian}
use Rattle.two_bar_rules.specs.TwoBarRule.{ten_closes, wu_yun_gai_ding, ci_tou, yun_xian, ping_tou}
use Rattle.bar_rules.specs.BarRule.{san_fa_v20221115, two_crow, gate_shut, three_crow, gap_yin_yang}
use Rattle.star_rules.specs.StarRule.{xing_xian, szx_by, szx, san_szx_by, san_szx}
use Rattle.growing_rules.specs.GrowingRule.{san_fa_v20221118, ta_xing}

-- all that the rules see of a window that ends with the judged bar: b1, the judged bar, to b6; Lmax and Lmin of the window of 20 bars; the ten
-- bars of which 2 reads the closes; and the newest nine, which are the most that 4 or 17 tries
pub record Seen : Type 0 where
  pub b1 : Bar
  pub b2 : Bar
  pub b3 : Bar
  pub b4 : Bar
  pub b5 : Bar
  pub b6 : Bar
  pub extremes : Extremes
  pub ten : List Bar
  pub nine : List Bar

unfoldable pub seen_of : List Bar → Seen
seen_of w =
    record {
      b1 = back_of w 1;
      b2 = back_of w 2;
      b3 = back_of w 3;
      b4 = back_of w 4;
      b5 = back_of w 5;
      b6 = back_of w 6;
      extremes = quarter_extremes w;
      ten = ten_closes w;
      nine = newest 9 w;
    }

-- the quarter of the judged bar
abbrev pub quarter_seen : Bool → Seen → Quarter
quarter_seen deep s = quarter_in deep s.extremes s.b1

-- a recogniser: the p from which its rule holds, the short pair below that p, and the rule, over the thresholds, whether p is 22 or
-- more, and what it sees of the window
pub record Row : Type 0 where
  pub from : ℕ
  pub short : Pair
  pub rule : Thresholds → Bool → Seen → Pair

abbrev pub row : ℕ → Pair → (Thresholds → Bool → Seen → Pair) → Row
row p s r = record { from = p; short = s; rule = r }

-- the rows in the order of the numbers
unfoldable pub rows : List Row
rows =
    row 1 pair_a (λ t deep s. san_xing_xian t.th0 (quarter_seen deep s) s.b1) ∷
    row 2 pair_a (λ t deep s. ten_mo (quarter_seen deep s) s.b1 s.b2) ∷
    row 12 pair_b (λ t deep s. wu_yun_gai_ding t.z2 t.th2 (highest_of (column_of Close s.ten)) s.b1 s.b2) ∷
    row 16 pair_b (λ t deep s. ci_tou t.z3 t.th3 s.b1 s.b2) ∷
    row 5 pair_a (λ t deep s. san_fa_v20221118 s.nine) ∷
    row 6 pair_a (λ t deep s. san_fa_v20221115 t.zdf5 s.b1 s.b2 s.b3 s.b4 s.b5 s.b6) ∷
    row 3 pair_b (λ t deep s. xing_xian t.th6 s.b1 s.b2 s.b3) ∷
    row 2 pair_a (λ t deep s. fen_shou_xian t.zdf7 (quarter_seen deep s) s.b1 s.b2) ∷
    row 1 pair_a (λ t deep s. zhu_huo_xian t.th8 t.zf8 (quarter_seen deep s) s.b1) ∷
    row 2 pair_b (λ t deep s. yun_xian s.b1 s.b2) ∷
    row 2 pair_b (λ t deep s. ping_tou t.th10 s.b1 s.b2) ∷
    row 3 pair_b (λ t deep s. two_crow s.b1 s.b2 s.b3) ∷
    row 3 pair_a (λ t deep s. three_crow s.b1 s.b2 s.b3) ∷
    row 11 pair_a (λ t deep s. szx t.th13 s.b1 s.b2) ∷
    row 8 pair_b (λ t deep s. san_szx t.th14 s.b1 s.b2 s.b3 s.b4 s.b5) ∷
    row 21 pair_b (λ t deep s. fan_ji_xian s.extremes s.b3 s.b2 s.b1) ∷
    row 7 pair_b (λ t deep s. gap_yin_yang s.b1 s.b2 s.b3) ∷
    row 5 pair_a (λ t deep s. ta_xing s.nine) ∷
    []

-- past the table the pair is A
abbrev pub no_row : Row
no_row = row 0 pair_a (λ t deep s. pair_a)

unfoldable pub table_row : ℕ → Row
table_row k = get_or rows k no_row

-- the rule of recogniser k; of 12, A where its gate is shut, which reads len and a window of its own
abbrev pub rule_of : ℕ → Thresholds → ℕ → Bool → List Bar → List Bar → Pair
rule_of k t len deep w gate = cond (eqb k gated && gate_shut len gate (seen_of w).b3) pair_a ((table_row k).rule t deep (seen_of w))

-- recogniser k over the window w that ends with the judged bar, of which p bars lie up to it: below the p given, the short pair, else the rule
unfoldable pub judge_of : ℕ → Thresholds → ℕ → ℕ → List Bar → List Bar → Pair
judge_of k t len p w gate = cond (ltb p (table_row k).from) (table_row k).short (rule_of k t len (leb reach_bars p) w gate)

-- all bars of a history up to the judged one
abbrev pub all_up_to : List Bar → ℕ → List Bar
all_up_to history di = take (up_to (length history) di) history

-- the pair at offset di of a history of len bars, of which at least the newest are given: the rules over all bars up to the judged one
unfoldable pub pair_at : ℕ → Thresholds → ℕ → List Bar → ℕ → Pair
pair_at k t len history di = judge_of k t len (up_to len di) (all_up_to history di) (window_of history gate_end quarter_bars)

-- 13 and 14 there as 01 has them, whose th counts units; p and short pair are the table's
abbrev pub szx_in01 : ℕ → ℕ → List Bar → ℕ → Pair
szx_in01 th len history di =
    let w = all_up_to history di in cond (ltb (up_to len di) (table_row 13).from) (table_row 13).short (szx_by (doji_above (whole_of th)) (back_of w 1) (back_of w 2))

abbrev pub san_szx_in01 : ℕ → ℕ → List Bar → ℕ → Pair
san_szx_in01 th len history di =
    let w = all_up_to history di in
    cond (ltb (up_to len di) (table_row 14).from) (table_row 14).short (san_szx_by (doji_above (whole_of th)) (back_of w 1) (back_of w 2) (back_of w 3) (back_of w 4) (back_of w 5))

-- ---- all eighteen at once

-- the pairs of the recognisers in the order of their numbers, at an offset of a history
unfoldable pub pairs_at : Thresholds → ℕ → List Bar → ℕ → List Pair
pairs_at t len history di = map (λ k. pair_at k t len history di) (numbers recognisers 0)
