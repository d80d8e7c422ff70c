pub mod Binds
pub mod Keeping
pub mod Naming
pub mod Writing
