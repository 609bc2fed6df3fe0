pub mod Yielding
pub mod Turns
pub mod Running
