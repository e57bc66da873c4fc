-- The table, passed on to those who see only the recognisers.
unfoldable pub use Rattle.rule_table.specs.Table.{table_row, judge_of, pair_at, numbers, pairs_at}
unfoldable pub use Rattle.rule_types.specs.Label.{codes_of}
