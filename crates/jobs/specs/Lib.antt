-- What the jobs' values stand for in `meaning`, and the laws that their loops go by.
pub mod Outcome
pub mod Leaving
pub mod Calling
pub mod ListingCall
