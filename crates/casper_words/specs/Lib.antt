pub mod BlockWords
pub mod Count
pub mod Crew
pub mod CrewBits
pub mod Name
pub mod Padded
pub mod Roomed
pub mod Wants
