pub mod Counts
pub mod HeldPages
pub mod Lines
pub mod CacheLists
pub mod Caches
