-- Which bytes the texts are, and the laws by which they are written.
pub mod Ascii
pub mod Page
pub mod Numbers
pub mod Listing
pub mod PageLaws
pub mod Pages
pub mod NumberLaws
pub mod Filled
pub mod LineLaws
pub mod ListingLaws
pub mod Cases
