pub mod Splitting
pub mod Lining
pub mod Once
pub mod Propriety
