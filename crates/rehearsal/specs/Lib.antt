pub mod Blocks
pub mod Printed
pub mod Chosen
