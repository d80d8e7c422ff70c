mod Asking
pub mod Shown
pub mod Awaited
pub mod Outcomes
pub mod Sealed
