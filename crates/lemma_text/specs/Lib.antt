-- What is said of a lemma text as the code reads and writes it, and the laws that tie it to the definition.
pub mod Words
pub mod Line
pub mod Rest
pub mod Written
pub mod Recorded
