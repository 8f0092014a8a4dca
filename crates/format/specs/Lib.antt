-- What the code's types stand for in `meaning`, and where clauses stand in a file.
pub mod Forms
pub mod Section
