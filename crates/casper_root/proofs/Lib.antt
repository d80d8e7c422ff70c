pub mod BlockLemmas
pub mod RefusalLemmas
pub mod OpeningLemmas
pub mod FormatLemmas
pub mod ChoiceLemmas
pub mod RootLemmas
pub mod WrittenLemmas
pub mod PartLemmas
