pub mod DigitLemmas
pub mod LineLemmas
pub mod NameLemmas
pub mod NumberLemmas
pub mod ReferenceLemmas
pub mod SplitLemmas
