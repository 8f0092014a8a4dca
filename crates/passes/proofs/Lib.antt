-- What the proofs of several functions use, here and in `search`.
pub mod EntryLaws
pub mod StatusLaws
pub mod PlaceLaws
pub mod PassLaws
pub mod TallyLaws
mod TurnLaws
