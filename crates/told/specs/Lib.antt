-- Which texts the program tells, and the laws by which they are written.
pub mod Answers
pub mod AnswerLaws
pub mod Refusals
pub mod Cases
pub mod RefusalCases
