pub mod Owners
pub mod Words
pub mod Pacing
