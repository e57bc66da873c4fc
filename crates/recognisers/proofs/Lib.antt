-- Laws that the proofs of several functions cite, and those of the table, passed on.
pub mod Reach
pub mod TableLaws
pub mod AnswerLaws
pub mod ByteLaws
pub mod HistoryLaws
pub mod CodeLaws
pub mod SameDojis
