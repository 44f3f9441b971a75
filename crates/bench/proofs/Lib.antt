pub mod Searches
pub mod Finding
pub mod Lists
pub mod Listed
mod Fires
mod Ordered
mod AtRest
mod Rounds
mod Walking
pub mod Complete
mod Settling
mod Judging
pub mod Settled
mod Sending
pub mod Emitting
mod Celling
pub mod Soundness
pub mod Overlays
pub mod Outcomes
mod Moving
mod Moved
pub mod Ended
mod Writing
mod Reading
mod Listings
pub mod Tabled
