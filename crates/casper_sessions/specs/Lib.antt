pub mod Moments
pub mod Found
pub mod Chain
pub mod StopLaws
pub mod ChainRows
pub mod Within
