pub mod Answers
pub mod HeapCalls
pub mod Objects
pub mod Walk
