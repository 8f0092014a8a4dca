-- What the values that pick sets stand for in `meaning`, and the laws that their loops go by.
pub mod Asks
pub mod Upto
pub mod SetLaws
pub mod Forms
pub mod Sifting
pub mod Told
pub mod Keeping
pub mod Judging
pub mod Shrinking
pub mod Single
pub mod ListingFound
pub mod ListingFirst
pub mod ListingForms
