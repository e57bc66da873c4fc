-- The words of the rules: the labels with their codes, and the numbers.
pub mod Number
pub mod Label
