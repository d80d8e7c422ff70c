pub mod ChangeLaws
pub mod Entries
pub mod FirstPage
pub mod HistoryLemmas
pub mod LastPages
pub mod LeafLemmas
pub mod SoundSteps
