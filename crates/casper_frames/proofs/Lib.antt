mod ChangeLaws
mod KeepingLemmas
mod Steps
mod StoredLemmas
