-- Where variables come from, and which gates can be worked out.
pub mod Sources
pub mod Passing
pub mod Solve
pub mod Works
pub mod Fill
pub mod Stuck
