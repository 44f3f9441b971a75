mod Taps
mod Gathering
pub mod Histories
mod Filling
mod Planning
mod Simulating
pub mod Channels
pub mod Cycles
pub mod Stepping
pub mod Alike
pub mod ProgramArrays
mod Checking
mod Naming
mod Layouts
mod Wires
mod Resting
pub mod Started
mod ProgramWords
mod Reaching
pub mod Loaded
mod Along
mod Decoded
mod Lined
mod Greatest
pub mod Emitted
pub mod EmittedLoads
mod Shifting
mod Parts
mod LinesMoving
mod CellsFiring
mod CellWires
mod Machined
mod SteppedOnce
