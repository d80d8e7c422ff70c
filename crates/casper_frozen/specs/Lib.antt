pub mod Bridge
pub mod Counting
pub mod Finding
pub mod Jobs
pub mod Laws
pub mod Refused
