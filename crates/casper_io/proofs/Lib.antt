pub mod Cut
pub mod Known
pub mod LinesRead
pub mod PieceLemmas
pub mod Reading
