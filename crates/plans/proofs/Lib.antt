pub mod Adding
pub mod Mailing
pub mod Hashing
