-- Term bars from minute bars, and why a call to the layer of terms is refused, as definitions; opening hours and the term rule are those of
-- trading_hours. EventSteps is for the code's loops: no promise rests on it.
pub mod Events
pub mod Verdicts
pub mod EventSteps
