pub mod Examples
pub mod Worked
pub mod Events
pub mod Timing
pub mod Whole
