pub mod ListLaws
pub mod CodeLaws
