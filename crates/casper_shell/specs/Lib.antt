pub mod Answers
pub mod Effects
pub mod Grammar
pub mod Holding
pub mod Lines
pub mod Making
pub mod OverPlain
pub mod Writing
