-- What one word is by itself.
pub mod Words
pub mod Numbers
pub mod WordLaws
