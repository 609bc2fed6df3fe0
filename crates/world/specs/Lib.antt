pub mod Calls
pub mod Events
pub mod Machines
pub mod Seated
pub mod Paced
pub mod Staged
pub mod Looks
