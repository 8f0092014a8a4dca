-- What is told of a circuit text or a lemma text that is refused.
pub mod Causes
pub mod Limits
pub mod Liveness
pub mod Refusals
pub mod Cases
