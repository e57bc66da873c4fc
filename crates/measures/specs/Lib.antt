-- The measures as definitions: document 01's sections "The window" and "The measures", and its sentence on what a bar is.
pub mod Price
pub mod Bar
pub mod Window
pub mod Fold
