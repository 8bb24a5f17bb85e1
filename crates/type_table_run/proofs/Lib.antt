pub mod Reports
mod Rests
