-- Codes of the labels, passed on to those who see only the recognisers.
pub use Rattle.rule_types.proofs.CodeLaws.{code-known}
