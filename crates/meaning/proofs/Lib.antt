pub mod Pairs
pub mod Grouping
pub mod Finding
pub mod Agreeing
pub mod Senders
pub mod Ending
