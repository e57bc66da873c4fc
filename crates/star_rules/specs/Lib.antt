pub mod StarRule
