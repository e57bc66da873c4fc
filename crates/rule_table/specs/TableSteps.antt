-- The pairs of all recognisers over the windows of a judged bar, as the code's helpers have them.
use Rattle.std.specs.Prelude.{ℕ, Bool, List, map}
use Rattle.measures.specs.Bar.{Bar}
use Rattle.rule_types.specs.declared.label.Pair.{Pair}
use Rattle.rule_types.specs.Number.{recognisers}
use Rattle.thresholds.specs.declared.Thresholds.{Thresholds}
use Rattle.rule_table.specs.Table.{rule_of, judge_of, numbers}

unfoldable pub rules_of : Thresholds → ℕ → Bool → List Bar → List Bar → List Pair
rules_of t len deep w gate = map (λ k. rule_of k t len deep w gate) (numbers recognisers 0)

unfoldable pub pairs_of : Thresholds → ℕ → ℕ → List Bar → List Bar → List Pair
pairs_of t len p w gate = map (λ k. judge_of k t len p w gate) (numbers recognisers 0)
