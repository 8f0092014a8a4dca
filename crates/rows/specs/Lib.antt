-- What the rows of a listing stand for in `meaning`, and the laws that they go by.
pub mod RowLaws
pub mod ListingProgress
pub mod ListingRow
