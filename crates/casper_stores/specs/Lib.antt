pub mod Faults
pub mod Places
pub mod Stores
pub mod Lines
