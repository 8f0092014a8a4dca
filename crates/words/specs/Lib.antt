-- Which order a command line gives.
pub mod Orders
pub mod OrderLaws
pub mod Cases
