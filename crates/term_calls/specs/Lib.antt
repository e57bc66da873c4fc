-- Calls to a layer of terms as an export is lent them, as definitions.
pub mod Numbers
pub mod TermCalls
