pub mod Stretches
pub mod Propriety
