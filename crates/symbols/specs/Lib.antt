-- What is said of symbol lines as the code finds them, and the laws that tie it to the definitions of the circuit text.
pub mod Symbols
pub mod Walk
pub mod Form
pub mod Before
pub mod Read
