-- Laws of the table, passed on to those who see only the recognisers.
pub use Rattle.rule_table.proofs.TableLaws.{judge-gateless, gate-enough, no-bar}
