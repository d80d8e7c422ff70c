pub mod EqualRights
pub mod HoldersLemmas
pub mod RightsLemmas
pub mod WritersLemmas
