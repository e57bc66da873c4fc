-- The layer of terms over the box as definitions; term bars and refusals are those of term_events, opening hours and the term rule those of
-- trading_hours.
pub mod Layer
pub mod History
