pub mod HeldPages
pub mod CacheLaws
pub mod LineLaws
