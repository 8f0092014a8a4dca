-- What is said of lines and numbers as the code finds them, and the laws that tie it to the definitions of the texts.
pub mod Digits
pub mod Faults
pub mod Numbers
pub mod Past
pub mod PastLaws
pub mod Tails
pub mod Order
pub mod Sums
pub mod Literals
