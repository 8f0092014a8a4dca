-- What is wrong with a line of a circuit text or of a lemma text.
pub mod Places
pub mod Sizes
pub mod Kinds
pub mod Definers
pub mod Causes
pub mod Latches
pub mod Circuits
pub mod Lemmas
pub mod Limits
pub mod Liveness
pub mod CauseLaws
pub mod LemmaLaws
pub mod LimitLaws
pub mod So
pub mod LimitsSo
