pub mod Among
pub mod Counted
pub mod Pages
pub mod Refusing
pub mod Rises
