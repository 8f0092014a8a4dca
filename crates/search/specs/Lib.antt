-- What the code's types stand for in `meaning`; what passes say of the search; where a question's clauses stand in a file.
pub mod Forms
pub mod Engine
pub mod Places
pub mod Standing
