-- What the reader promises, and the laws that its proof leans on.
pub mod Offences
pub mod Refusals
pub mod Records
pub mod Steps
pub mod Held
pub mod Places
pub mod Reading
pub mod Answers
pub mod Checks
