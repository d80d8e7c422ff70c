pub mod Lines
pub mod Memory
pub mod Piece
pub mod Reading
pub mod Told
