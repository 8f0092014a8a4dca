-- What the code's types stand for in `meaning`, and passes over clauses as the engine makes them.
pub mod Sweep
pub mod Seen
pub mod Forms
pub mod Places
