pub mod Ahead
pub mod Judging
pub mod Slots
pub mod Sharing
