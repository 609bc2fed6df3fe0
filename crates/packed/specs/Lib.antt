pub mod Cut
pub mod Strings
pub mod Left
