-- What is wrong with a problem file, as definitions, and the laws of places.
pub mod Places
pub mod PlaceLaws
pub mod Faults
pub mod RefusedAt
pub mod UnnamedSo
