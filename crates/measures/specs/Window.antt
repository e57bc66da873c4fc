-- The window, passed on to those who see only the measures.
unfoldable pub use Rattle.windows.specs.Window.{up_to, newest, window_of, back_of, part_of}
pub use Rattle.windows.specs.Window.{prices_from, window_prices}
