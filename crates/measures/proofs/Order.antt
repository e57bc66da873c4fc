-- The order laws of prices, passed on to those who see only the measures.
pub use Rattle.prices.proofs.Order.{lt-nan, lt-asym, lt-split, known-left, known-right, is-nan, max_assoc, min_assoc, max-second, min-second, max-both, min-both, max-known, min-known, max-stays-known, min-stays-known, both_ways, max-by-choice, min-by-choice, reaches-up, reaches-down, max-reached, min-reached}
