-- Document 01's section "The window".
pub mod Window
