-- The reach, passed on to those who see only the recognisers.
pub use Rattle.rule_table.proofs.Reach.{judge-near, pair-near, reach, reach-gated, kept}
