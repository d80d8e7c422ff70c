pub mod Holding
pub mod Rights
