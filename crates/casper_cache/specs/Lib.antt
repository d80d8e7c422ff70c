pub mod Bounded
pub mod Changes
pub mod History
pub mod Holding
pub mod Leaves
pub mod Own
