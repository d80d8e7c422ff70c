pub mod Begin
pub mod Words
