-- A problem within the limits, written as a file, reads back.
pub mod Fits
pub mod Bytes
pub mod Length
pub mod Passing
pub mod Sections
pub mod Ends
pub mod ReadBack
