pub mod Caps
pub mod Meaning
pub mod Packets
pub mod Mail
pub mod Groups
pub mod Given
pub mod Left
pub mod Laws
