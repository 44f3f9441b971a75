pub mod Made
pub mod Ranges
pub mod Encodings
pub mod Wholes
pub mod Sources
mod Kinded
mod Putting
mod FormatAsking
mod FormatStopping
mod FormatRefusing
mod Standing
mod Drafting
mod Drafted
mod Taking
mod Takes
mod Walking
mod Telling
mod Stopping
mod Refusing
pub mod ProgramWholes
mod ProgramStanding
pub mod ProgramEncodings
pub mod ProgramWalking
pub mod ProgramTelling
pub mod ProgramRanges
mod ProgramMissing
mod ProgramDrafting
mod ProgramDrafted
mod ProgramTaking
mod ProgramTakes
mod ProgramRefusing
