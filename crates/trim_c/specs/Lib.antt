-- What the C interface's words stand for.
pub mod Words
