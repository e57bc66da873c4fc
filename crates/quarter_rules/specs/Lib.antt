pub mod QuarterRule
