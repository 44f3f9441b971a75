pub mod Meaning
pub mod Arithmetic
pub mod Sums
pub mod Choices
pub mod Bubbles
