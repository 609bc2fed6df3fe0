pub mod Sight
pub mod Yielding
pub mod Standing
pub mod Turns
pub mod Work
pub mod Run
