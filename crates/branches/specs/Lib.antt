-- What the nodes of a listing stand for in `meaning`, and the laws that they go by.
pub mod ListingSets
pub mod ListingSide
pub mod ListingNode
