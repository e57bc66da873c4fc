-- The numbers of the rules, passed on to those who see only the recognisers.
pub use Rattle.rule_types.specs.Number.{recognisers, labels, row_bytes, gated, reach_bars, quarter_bars, gate_end, gate_above, most_bars, most_whole, most_tenths, places, farthest_look, longest_line}
