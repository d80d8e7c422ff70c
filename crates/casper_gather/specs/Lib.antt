pub mod AskerLaws
pub mod Bookkeeping
pub mod FinishLaws
pub mod GatherLaws
pub mod Unended
pub mod UnendedLaws
