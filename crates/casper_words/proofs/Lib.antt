pub mod BlockWordsLemmas
pub mod CrewLemmas
pub mod CrewMembers
pub mod PaddedLemmas
pub mod WantsLemmas
