pub mod Changes
pub mod Plain
pub mod Rising
pub mod WordCalls
