-- Bars, passed on to those who see only the measures; and a bar of four prices in a list.
use Rattle.std.specs.Prelude.{List, Float}
pub use Rattle.prices.specs.declared.bars.Bar.{Bar}
pub use Rattle.prices.specs.Bar.{bar_of, no_bar, bar_from, overlay}
unfoldable pub use Rattle.prices.specs.Bar.{bars_of, prices_of, put_bar, body_of, upper_of, lower_of, long_shadow, doji_above, doji_of}

-- the bar that begins a run
abbrev pub bar_of_four : List Float → Bar
bar_of_four ps = bar_from ps 0
