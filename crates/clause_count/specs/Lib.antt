-- What the contracts say of a circuit's lines one after another, of its start values and its bad literal, and of how many clauses come of them.
pub mod Rows
pub mod Start
pub mod Bad
pub mod Lengths
pub mod Tally
