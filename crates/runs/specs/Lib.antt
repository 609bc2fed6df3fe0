pub mod World
pub mod Promise
pub mod Played
pub mod Tour
pub mod Crew
