pub mod PathTests
pub mod Searched
pub mod Unfolded
