pub mod Calling
pub mod Seating
pub mod Staging
pub mod Looking
pub mod Reaching
