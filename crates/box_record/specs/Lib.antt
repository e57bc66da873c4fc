-- The box, its making and a look.
pub mod Box
