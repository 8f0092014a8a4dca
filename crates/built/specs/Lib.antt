-- What is said of a built problem as the code writes it, and the laws that tie it to the definition.
pub mod Cuts
pub mod Edges
pub mod Turns
pub mod Clause
pub mod Walk
pub mod Sections
pub mod Problem
