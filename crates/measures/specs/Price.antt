-- The definitions of prices, passed on to those who see only the measures.
pub use Rattle.prices.specs.Price.{zero, a_quarter, ten}
unfoldable pub use Rattle.prices.specs.Price.{max_of, min_of, abs_of, square_of}
