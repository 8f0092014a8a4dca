-- Which text the program tells of a candidate lemma, and the laws by which it is written.
pub mod Lemmas
pub mod LemmaLaws
pub mod Cases
