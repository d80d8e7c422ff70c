pub mod RootLemmas
pub mod StateLemmas
pub mod AddedLemmas
pub mod OpenedLemmas
pub mod ResultLemmas
pub mod PieceLemmas
