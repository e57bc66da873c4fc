-- What the exports answer, as definitions. None speaks of the sizes of the feeds: whatever they are, sheet, numbers and answer are those of
-- one feed of all the prices, as demand 3 says.
pub mod Feeds
pub mod Tally
pub mod TermLists
