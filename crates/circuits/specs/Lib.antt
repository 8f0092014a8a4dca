-- The jobs over circuits, tied to the jobs over problem files.
pub mod Refused
pub mod Limits
pub mod Reading
pub mod Asked
pub mod Handed
