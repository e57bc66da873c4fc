-- Why calls are refused, and what they answer.
pub mod Refusal
pub mod Answer
