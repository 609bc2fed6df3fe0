pub mod Mine
pub mod Holding
pub mod Saying
pub mod Seen
pub mod Phases
pub mod Crewed
