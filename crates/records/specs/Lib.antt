-- What writing into lent bytes leaves there.
pub mod Put
pub mod Puts
