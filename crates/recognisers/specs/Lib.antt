-- The recognisers as definitions, from document 01: the plain call, and the export of "The other ways in"; labels, numbers, thresholds,
-- the table of "The eighteen" and "Why a call is refused" are passed on.
pub mod Number
pub mod Label
pub mod Threshold
pub mod Table
pub mod Refusal
pub mod Call
pub mod Export
pub mod SameDojis
