-- The circuit text as the code reads it.
pub mod Header
pub mod Stages
pub mod Sums
pub mod Properties
pub mod Read
pub mod Uses
