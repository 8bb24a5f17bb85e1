pub mod Differences
pub mod Explained
pub mod Known
pub mod Runs
pub mod Selections
pub mod Tables
pub mod Told
