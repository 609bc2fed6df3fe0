pub mod Reading
pub mod Judging
pub mod Looking
pub mod Merging
pub mod Sharing
pub mod There
