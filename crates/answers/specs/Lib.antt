-- Which job the program does for an order, and which lines it tells of its outcome.
pub mod Doing
pub mod Lines
pub mod LineLaws
pub mod Cases
