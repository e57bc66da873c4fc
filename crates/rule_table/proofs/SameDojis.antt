-- The pairs of 13 and 14 at ten times a threshold of 01's are 01's at that threshold. Assumes nothing.
use Prim.Native.Nat.{ℕ, ◌*◌, ◌≤◌}
use mathlib.Core.Path.{◌≡◌}
use mathlib.Core.List.{List}
use Rattle.measures.specs.Bar.{Bar, doji_of}
use Rattle.rule_types.specs.Number.{most_whole}
use Rattle.star_rules.specs.StarRule.{szx, san_szx}
pub use Rattle.star_rules.proofs.Tenth.{tenth}
use Rattle.thresholds.specs.declared.Thresholds.{Thresholds}
use Rattle.rule_table.specs.Table.{seen_of, rows, table_row, judge_of, pair_at, szx_in01, san_szx_in01}

module _ (k : ℕ) (h : k ≤ most_whole) (t : Thresholds) (len : ℕ) (history : List Bar) (di : ℕ) where
  pub same-13 : t.th13 ≡ 10 * k → pair_at 13 t len history di ≡ szx_in01 k len history di
  unfolding pair_at judge_of table_row rows seen_of szx doji_of
  same-13 e = simp (e, tenth k h)

  pub same-14 : t.th14 ≡ 10 * k → pair_at 14 t len history di ≡ san_szx_in01 k len history di
  unfolding pair_at judge_of table_row rows seen_of san_szx doji_of
  same-14 e = simp (e, tenth k h)
