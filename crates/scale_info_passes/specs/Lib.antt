pub mod Pieces
pub mod PieceLaws
pub mod Visits
pub mod VisitLaws
pub mod Entries
