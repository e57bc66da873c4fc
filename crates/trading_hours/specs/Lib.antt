-- Opening hours and terms of the trading day as definitions.
pub mod Hours
pub mod TermRule
