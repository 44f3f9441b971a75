pub mod Libraries
