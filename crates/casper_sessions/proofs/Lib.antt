pub mod Stops
pub mod ClosedParts
pub mod Chains
pub mod ChainRows
pub mod Runs
