-- Lines of a circuit text as the code finds them, and the laws that tie them to the definition of a section.
pub mod Lists
pub mod Seek
pub mod Rows
pub mod Split
pub mod LineOf
pub mod Reading
pub mod SectionLines
pub mod Far
pub mod Whole
pub mod Nth
