pub mod Frames
pub mod GrammarLemmas
pub mod Staying
pub mod Wanting
