pub mod Binding
pub mod Table
