pub mod Wrapping
mod Choosing
mod Presence
