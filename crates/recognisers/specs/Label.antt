-- The labels, passed on to those who see only the recognisers.
pub use Rattle.rule_types.specs.declared.label.Label.{Label}
pub use Rattle.rule_types.specs.declared.label.Pair.{Pair}
pub use Rattle.rule_types.specs.Label.{code_of, pair_of, pair_a, pair_b}
