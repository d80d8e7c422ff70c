pub mod Laws
pub mod Line
pub mod Name
pub mod Number
pub mod Reference
pub mod Span
pub mod Split
